-- `document`: colon, letters and idstring, one after the other.
-- Assumes nothing.
use mathlib.Core.Path.{◌≡◌, sym, ap, ◌∙◌}
use mathlib.Core.Bool.{true}
use mathlib.Core.List.{List}
use Prim.Native.Nat.{ℕ, ◌+◌, ◌≤◌}
use native.Mathlib.Omega.{arith}
use lib.ListN.{length, drop}
use lib.Seq.{drop-drop}
use borrow.Author.Tests.{eq-eqb, ne_eqb}
use Rattle.expression.specs.Reading.{license_ref}
use Rattle.expression_bytes.specs.Front.{head_is}
use Rattle.expression_bytes.proofs.FrontLaws.{head-within, letters_in, ids_in, spelt-most, drop-one}
use Rattle.expression_parts.specs.Simple.{after_document, after_colon, idstring}
use borrow.Author.Rules.{rules}
use Rattle.expression_parts.proofs.names.document.Goals as goal
use Rattle.expression_parts.proofs.names.document.Goals.{After-ids-m, After-letters-k, Else-k-lt11, Else-not-stands}

-- the colon stands
module _ (i : Else-not-stands) where
  abbrev text : List ℕ
  text = i.args.text.now

  abbrev end : ℕ
  end = i.args.at + i.args.len

  colon : head_is 58 (drop end text) ≡ true
  colon = sym i.stands.ensures ∙ i.if-not-stands.false

  inside : end + 1 ≤ length text
  inside = let h = head-within text end 58 colon in omega arith

pub returns-then-not-stands : goal.returns-then-not-stands
unfolding after_document
returns-then-not-stands c = rw (sym c.stands.ensures ∙ c.if-not-stands.true)

-- the letters of LicenseRef- that stand there
module _ (f : After-letters-k) where
  abbrev else_not_stands_of_f : Else-not-stands
  else_not_stands_of_f = (goal.at.After-letters-k f).Else-not-stands

  abbrev k : ℕ
  k = f.letters-k.result

  within : (end else_not_stands_of_f) + 1 + k ≤ length (text else_not_stands_of_f)
  within = letters_in (text else_not_stands_of_f) ((end else_not_stands_of_f) + 1) k license_ref (inside else_not_stands_of_f) f.letters-k.ensures

-- all of them: an idstring is due
module _ (e : Else-k-lt11) where
  abbrev letters_of_e : After-letters-k
  letters_of_e = (goal.at.Else-k-lt11 e).After-letters-k

  abbrev else_not_stands_of_e : Else-not-stands
  else_not_stands_of_e = (goal.at.Else-k-lt11 e).Else-not-stands

  all : (k letters_of_e) ≡ 11
  all = omega (arith, e.if-k-lt11.false, e.letters-k.ensures, spelt-most license_ref (drop ((end else_not_stands_of_e) + 1) (text else_not_stands_of_e)))

  there : drop 11 (drop ((end else_not_stands_of_e) + 1) (text else_not_stands_of_e)) ≡ drop ((end else_not_stands_of_e) + 12) (text else_not_stands_of_e)
  there =
      let q : (end else_not_stands_of_e) + 1 + 11 ≡ (end else_not_stands_of_e) + 12 = omega arith in
      drop-drop 11 ((end else_not_stands_of_e) + 1) (text else_not_stands_of_e) ∙ ap (λ (m : ℕ). drop m (text else_not_stands_of_e)) q

  twelve : (end else_not_stands_of_e) + 12 ≤ length (text else_not_stands_of_e)
  twelve = omega (arith, (within letters_of_e), all)

pub letters-k-requires : goal.letters-k-requires
letters-k-requires c = inside (goal.at.letters-k-requires c).Else-not-stands

pub returns-then-k-lt11 : goal.returns-then-k-lt11
unfolding after_document after_colon
returns-then-k-lt11 c = let else_not_stands = (goal.at.returns-then-k-lt11 c).Else-not-stands in
    rw (colon else_not_stands, drop-one (end else_not_stands) (text else_not_stands), ← c.letters-k.ensures, ne_eqb (k (goal.at.returns-then-k-lt11 c).After-letters-k) 11 (λ e. omega (arith, e, c.if-k-lt11.true)))

-- what stands behind the letters
module _ (j : After-ids-m) where
  abbrev else_not_stands_of_j : Else-not-stands
  else_not_stands_of_j = (goal.at.After-ids-m j).Else-not-stands

  abbrev letters_of_j : After-letters-k
  letters_of_j = (goal.at.After-ids-m j).After-letters-k

  abbrev else_k_lt11_of_j : Else-k-lt11
  else_k_lt11_of_j = (goal.at.After-ids-m j).Else-k-lt11

  behind : after_document j.args.len (drop (end else_not_stands_of_j) (text else_not_stands_of_j)) ≡ idstring j.args.len j.ids-m.result
  unfolding after_document after_colon
  behind =
      rw ((colon else_not_stands_of_j), drop-one (end else_not_stands_of_j) (text else_not_stands_of_j), ← j.letters-k.ensures, eq-eqb (k letters_of_j) 11 (all else_k_lt11_of_j), (there else_k_lt11_of_j), ← j.ids-m.ensures)

pub returns-then-m-eq0 : goal.returns-then-m-eq0
unfolding idstring
returns-then-m-eq0 c = sym (behind (goal.at.returns-then-m-eq0 c).After-ids-m ∙ rw (eq-eqb c.ids-m.result 0 c.if-m-eq0.true))

pub overflow_add-len-2 : goal.overflow_add-len-2
overflow_add-len-2 c = let else_not_stands = (goal.at.overflow_add-len-2 c).Else-not-stands in
    let h = ids_in (text else_not_stands) (end else_not_stands + 12) c.ids-m.result (twelve (goal.at.overflow_add-len-2 c).Else-k-lt11) c.ids-m.ensures in
    search rules

pub returns : goal.returns
unfolding idstring
returns c = sym (behind (goal.at.returns c).After-ids-m ∙ rw (ne_eqb c.ids-m.result 0 c.if-m-eq0.false))
