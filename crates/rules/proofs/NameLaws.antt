-- The name in a scan's answer, as a part of a lent book.
--     read_two, read_one                lent books that have the texts of `a` and then of `b`, and their names where these stand
--     text-named                        of every stored text, and of none, the part's bytes are the name
--     answer-named, answer-length       so they are of the text that a scan names: the bytes of its answer's copy, and as many
-- Assumes nothing.
use mathlib.Core.Path.{◌≡◌, refl, sym, ap, ◌∙◌, subst}
use Prim.Native.Nat.{ℕ, suc, ◌+◌, ◌≤◌, ◌<◌}
use native.Mathlib.Nat.{zero-add}
use native.Mathlib.Omega.{arith}
use mathlib.Core.Bool.{Bool, true, false, cond}
use mathlib.Core.List.{List, [], ◌∷◌}
use mathlib.Core.Option.{Option, none, some}
use lib.ListN.{length, get_or, take, drop, replicate, length-drop}
use lib.Seq.{length-take-le, take-append_seam}
use lib.Dec.{eqb}
use borrow.Author.Tests.{ne_eqb}
use Rattle.rules.specs.declared.Areas.{Areas}
use Rattle.rules.specs.declared.Limits.{Limits}
use Rattle.rules.specs.declared.Mode.{Mode}
use Rattle.rules.specs.declared.Named.{Named}
use Rattle.rules.specs.declared.Scanned.{Scanned}
use Rattle.rules.specs.Sizes.{name_most}
use Rattle.rules.specs.Search.{Stored, no_text, recurse, turns}
use Rattle.rules.specs.Scan.{verdict}
use Rattle.rules.specs.Book.{Record, records_of, pieces, go_on, front, entries_of, stored_kind, table_in, stored_in, stored_of, stored_from, shelved, names_in, names_of, name_parts, no_part, part_in, Lies, ReadAs, edition_of}
use Rattle.rules.specs.Jobs.{over, happened, named, name_part, answered, scan}
use Rattle.rules.proofs.DownLaws.{Each, each_append, each_at, each_of}
use Rattle.rules.proofs.SoundLaws.{within-from}
use Rattle.rules.proofs.ShelfLaws.{shelved-one, shelved_empty, shelved-number, part-is-name, part_lies}
use Rattle.rules.proofs.VerdictLaws.{named-one}

-- ---- lent books that are read as `a` and then `b`
pub read_two : (a b : List ℕ) → ReadAs a b (a ∷ b ∷ [])
unfolding edition_of
read_two a b = record { texts = refl; names = refl; said = refl }

-- one book: `b` has no text. What is refused is another matter
pub read_one : (a : List ℕ) → ReadAs a [] (a ∷ [])
unfolding name_parts names_of names_in records_of pieces recurse turns go_on front edition_of
read_one a = record { texts = shelved-one a ∙ sym (shelved_empty a); names = refl; said = refl }

-- ---- of every stored text the part's bytes are the name
kinds_in : (n : ℕ) (name : List ℕ) (rs : List Record) → Each (λ s. 2 ≤ s.kind) (stored_in n name rs)
unfolding stored_in stored_kind
kinds_in n name [] = tt
kinds_in n name (r ∷ rs) =
    each_append (λ s. 2 ≤ s.kind) (cond (stored_kind r.kind) (this ∷ []) []) _ (at (stored_kind r.kind) refl)
    (kinds_in (cond (stored_kind r.kind) (suc n) n) (cond (eqb r.kind 1) r.body name) rs)
  where
    this : Stored
    this = record { number = n; name = name; kind = r.kind; table = table_in r.body (entries_of r.body) }

    at : (t : Bool) → stored_kind r.kind ≡ t → Each (λ s. 2 ≤ s.kind) (cond t (this ∷ []) [])
    at true q = (within-from 2 4 r.kind q, tt)
    at false q = tt

kinds-from : (n : ℕ) (bs : List (List ℕ)) → Each (λ s. 2 ≤ s.kind) (shelved n bs)
unfolding shelved stored_from stored_of
kinds-from n [] = tt
kinds-from n (b ∷ bs) = each_append (λ s. 2 ≤ s.kind) (stored_from n b) _ (at (records_of b)) (kinds-from (n + length (stored_from n b)) bs)
  where
    at : (o : Option (List Record)) → Each (λ s. 2 ≤ s.kind) (stored_of n o)
    at none = tt
    at (some rs) = kinds_in n [] rs

module _ (a b : List ℕ) where
  abbrev both : List (List ℕ)
  both = a ∷ b ∷ []

  -- the part of s has the bytes of its name
  abbrev Spelled : Stored → Type 0
  Spelled s = part_in a b (name_part (name_parts false both) s) ≡ s.name

  spelled_none : Spelled no_text
  unfolding name_part no_text
  spelled_none = refl

  spelled_at : (k : ℕ) → k < length (shelved 0 both) → Spelled (get_or (shelved 0 both) k no_text)
  unfolding name_part
  spelled_at k h =
      let s = get_or (shelved 0 both) k no_text in
      let kind : eqb s.kind 0 ≡ false = ne_eqb s.kind 0 (λ e. omega (arith, e, each_at (λ x. 2 ≤ x.kind) (shelved 0 both) k no_text h (kinds-from 0 both))) in
      ap (λ (q : Bool). part_in a b (cond q no_part (get_or (name_parts false both) s.number no_part))) kind ∙
      ap (λ (n : ℕ). part_in a b (get_or (name_parts false both) n no_part)) (shelved-number 0 both k h ∙ zero-add k) ∙ part-is-name a b k

  pub text-named : Each Spelled (shelved 0 both)
  text-named = each_of Spelled (shelved 0 both) no_text spelled_at

-- ---- the name that a scan answers
module _ (a b t : List ℕ) (bs : List (List ℕ)) (read : ReadAs a b bs) (lim : Limits) (mode : Mode) (budget : ℕ) (room : Areas) (results : ℕ) where
  abbrev said : Scanned
  said = scan t bs lim mode budget room results

  abbrev text : Stored
  text = named lim (verdict (happened t bs lim mode budget room results))

  bytes_are : part_in a b said.part ≡ text.name
  unfolding scan answered
  bytes_are =
      ap (λ (ps : List Named). part_in a b (name_part ps text)) read.names ∙
      named-one (Spelled a b) (spelled_none a b) t bs lim mode budget room results (subst (Each (Spelled a b)) (sym read.texts) (text-named a b))

  pub answer-lies : Lies a b said.part
  unfolding scan answered
  answer-lies = subst (λ (ps : List Named). Lies a b (name_part ps text)) (sym read.names) (part_lies a b text)

  pub answer-named : part_in a b said.part ≡ take said.len said.name
  unfolding scan answered over
  answer-named = bytes_are ∙ sym (take-append_seam text.name (drop (length text.name) (replicate name_most 0)))

  pub answer-length : said.part.len ≡ said.len
  unfolding scan answered
  answer-length =
      let p = said.part in
      let held = cond p.second b a in
      sym (length-take-le p.len (drop p.at held) (omega (arith, length-drop p.at held, answer-lies))) ∙ ap length bytes_are
