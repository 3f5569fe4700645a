-- What a caller concludes from `WriteDone`, the contract of `write_expression`, alone.
--     write_answered     where 0 is answered, the text is an expression, and the front of the output is what is written of it
--     written-neat       that is neat: as it would be written
--     written_again      so written again it is answered by 0 and stays, in any output that has room for it
--     written_same       and the same lists satisfy it
--     written-most       it has at most n + n/5 bytes
--     room-enough        so an output of n + n/5 bytes is never too short
-- Assumes nothing.
use mathlib.Core.Path.{◌≡◌, refl, sym, ap, ◌∙◌}
use Prim.Native.Nat.{ℕ, ◌+◌, ◌/◌, ◌≤◌}
use mathlib.Core.Bool.{Bool, true, false}
use mathlib.Core.List.{List, ◌++◌}
use mathlib.Core.Logic.{◌⊎◌, inl, inr}
use native.Mathlib.Omega.{arith}
use borrow.Author.Tests.{le-ltb}
use lib.Dec.{ltb}
use lib.ListN.{length, take, drop}
use lib.Seq.{take-append_seam}
use Rattle.rules.specs.Bytes.{same}
use Rattle.rules.specs.Jobs.{over}
use Rattle.expression.specs.declared.Satisfied.{Satisfied}
use Rattle.expression.specs.declared.Spelled.{Spelled}
use Rattle.expression.specs.Reading.{Tree, Verdict, accepted, refused, verdict}
use Rattle.expression.specs.Writing.{spell, neat, neat_as}
use Rattle.expression.specs.Jobs.{satisfy_as, satisfy, spelled_as, written_as, WriteDone}
use Rattle.expression.proofs.WordLaws.{same_self}
use Rattle.expression_place.proofs.PlaceLaws.{refused-number}
use Rattle.expression_spelling.specs.Flat.{flat}
use Rattle.expression_spelling.proofs.SpellingLaws.{spell-reads, spell_twice, same-satisfied, spelled_fits}

-- ---- an answer of 0
pub record Written (s out : List ℕ) (r : Spelled) : Type 0 where
  pub tree : Tree
  pub read : verdict s ≡ accepted tree
  pub size : r.len ≡ length (spell tree)
  pub front : take r.len out ≡ spell tree

abbrev refusal_of : Spelled → ℕ
refusal_of r = r.refusal

abbrev len_of : Spelled → ℕ
len_of r = r.len

module _ {s out₀ out : List ℕ} {r : Spelled} (w : WriteDone s out₀ out r) where
  by_verdict : (v : Verdict) → verdict s ≡ v → r ≡ spelled_as v (length out₀)
  by_verdict v e = w.answer ∙ ap (λ (u : Verdict). spelled_as u (length out₀)) e

  -- a text that is refused is answered by 13 or 14
  at_least : (k p : ℕ) → verdict s ≡ refused k p → 13 ≤ r.refusal
  unfolding spelled_as
  at_least k p e = either (refused-number s k p e) where
    is : r.refusal ≡ k
    is = ap refusal_of (by_verdict (refused k p) e)

    either : (k ≡ 13) ⊎ (k ≡ 14) → 13 ≤ r.refusal
    either (inl h) = omega (arith, is, h)
    either (inr h) = omega (arith, is, h)

  pub write_answered : r.refusal ≡ 0 → Written s out r
  unfolding spelled_as written_as over
  write_answered z = on (verdict s) refl where
    fits : (t : Tree) → verdict s ≡ accepted t → (b : Bool) → ltb (length out₀) (length (spell t)) ≡ b → Written s out r
    fits t e true f = let q : r.refusal ≡ 11 = ap refusal_of (by_verdict (accepted t) e) ∙ rw f in absurd (omega (arith, q, z))
    fits t e false f =
        let n : r.len ≡ length (spell t) = ap len_of (by_verdict (accepted t) e) ∙ rw f in
        let o : out ≡ spell t ++ drop (length (spell t)) out₀ = w.output ∙ rw (e, f) in
        record { tree = t; read = e; size = n; front = rw (n, o) (take-append_seam (spell t) (drop (length (spell t)) out₀)) }

    on : (v : Verdict) → verdict s ≡ v → Written s out r
    on (accepted t) e = fits t e (ltb (length out₀) (length (spell t))) refl
    on (refused k p) e = absurd (omega (arith, at_least k p e, z))

  -- ---- what stands there is read as the flat tree
  again_read : (a : Written s out r) → verdict (take r.len out) ≡ accepted (flat a.tree)
  again_read a = ap verdict a.front ∙ spell-reads s a.tree a.read

  again_spelt : (a : Written s out r) → spell (flat a.tree) ≡ take r.len out
  again_spelt a = spell_twice s a.tree a.read (flat a.tree) (spell-reads s a.tree a.read) ∙ sym a.front

  pub written-neat : r.refusal ≡ 0 → neat (take r.len out) ≡ true
  unfolding neat neat_as
  written-neat z =
      let a = write_answered z in
      ap (neat_as (take r.len out)) (again_read a) ∙ ap (λ (u : List ℕ). same u (take r.len out)) (again_spelt a) ∙ same_self (take r.len out)

  pub written_same : r.refusal ≡ 0 → (list : List ℕ) → satisfy (take r.len out) list ≡ satisfy s list
  unfolding satisfy satisfy_as
  written_same z list =
      let a = write_answered z in
      let told : Bool → Satisfied = λ b. record { refusal = 0; satisfied = b; place = 0 } in
      ap (satisfy_as list) (again_read a) ∙ ap told (same-satisfied list s a.tree a.read (flat a.tree) (spell-reads s a.tree a.read)) ∙ sym (ap (satisfy_as list) a.read)

-- ---- and written again
pub record Stays (s out : List ℕ) (r : Spelled) : Type 0 where
  pub answered : r.refusal ≡ 0
  pub front : take r.len out ≡ s

module _ {s out₀ out : List ℕ} {r : Spelled} (w : WriteDone s out₀ out r) (z : r.refusal ≡ 0) where
  pub written_again : {new₀ new : List ℕ} {q : Spelled} → WriteDone (take r.len out) new₀ new q → r.len ≤ length new₀ → Stays (take r.len out) new q
  unfolding spelled_as
  written_again {new₀} {new} {q} v room =
      let a = write_answered w z in
      let size = ap length (again_spelt w a) ∙ ap length a.front in
      let fits : ltb (length new₀) (length (spell (flat a.tree))) ≡ false =
      le-ltb (length new₀) (length (spell (flat a.tree))) (omega (arith, room, size, a.size)) in
      let zero : q.refusal ≡ 0 = ap refusal_of (by_verdict v (accepted (flat a.tree)) (again_read w a)) ∙ rw fits in
      let b = write_answered v zero in
      record {
        answered = zero;
        front = b.front ∙ spell_twice s a.tree a.read b.tree (sym (ap verdict a.front) ∙ b.read) ∙ sym a.front;
      }

-- ---- the length
pub written-most : {s out₀ out : List ℕ} {r : Spelled} → WriteDone s out₀ out r → r.refusal ≡ 0 → r.len ≤ length s + length s / 5
written-most {s} w z = let a = write_answered w z in rw a.size (spelled_fits s a.tree a.read)

pub room-enough : {s out₀ out : List ℕ} {r : Spelled} → WriteDone s out₀ out r → length s + length s / 5 ≤ length out₀ → r.refusal ≡ 11 → ⊥
unfolding spelled_as
room-enough {s} {out₀} {out} {r} w h z = on (verdict s) refl where
  on : (v : Verdict) → verdict s ≡ v → ⊥
  on (accepted t) e =
      let m = spelled_fits s t e in
      let f : ltb (length out₀) (length (spell t)) ≡ false = le-ltb (length out₀) (length (spell t)) (omega (arith, m, h)) in
      let q : r.refusal ≡ 0 = ap refusal_of (by_verdict w (accepted t) e) ∙ rw f in
      absurd (omega (arith, q, z))
  on (refused k p) e = absurd (omega (arith, at_least w k p e, z))
