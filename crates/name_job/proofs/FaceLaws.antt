-- What a caller concludes from `NameDone`, the contract of the job `name`, alone.
--     only_named                  0 comes only where every lent book is sound and the number is below N,
--     all_named                   and comes there always
--     kind-named                  the kind is that of the stored text of this number
--     named-lies                  the part lies in the book that it names, also where nothing is named,
--     named_spelled               and its bytes are the name that this stored text stands under
--     named-most                  it has at most 64 of them
--     scan-named                  where a scan names a text, the job answers to that text's number the kind and the part of the scan
--     records-named               to the number in each record of a scan it answers 0, and the kind and the part of the text recorded
-- Assumes nothing.
use mathlib.Core.Path.{◌≡◌, refl, sym, ap, ◌∙◌, subst}
use mathlib.Core.Bool.{Bool, true, false, not, ◌||◌, cond}
use mathlib.Core.List.{List, [], ◌∷◌}
use Prim.Native.Nat.{ℕ, ◌≤◌, ◌<◌}
use native.Mathlib.Nat.{zero-add}
use native.Mathlib.Omega.{arith}
use lib.Dec.{leb, eqb}
use lib.ListN.{length, get_or, drop, length-drop}
use lib.Seq.{length-take-le}
use borrow.Author.Tests.{ne_eqb, eqb-true, eqb-false, leb-false, lt-leb, not-false}
use Rattle.rules.specs.declared.Areas.{Areas}
use Rattle.rules.specs.declared.Limits.{Limits}
use Rattle.rules.specs.declared.Mode.{Mode}
use Rattle.rules.specs.declared.Named.{Named}
use Rattle.rules.specs.declared.Scanned.{Scanned}
use Rattle.rules.specs.declared.NamedText.{NamedText}
use Rattle.rules.specs.Sizes.{name_most}
use Rattle.rules.specs.Search.{Stored, no_text, no_best}
use Rattle.rules.specs.Scan.{names, records, verdict}
use Rattle.rules.specs.Book.{all_sound, shelved, differ, no_part, name_parts, part_in, Lies, ReadAs}
use Rattle.rules.specs.Refusal.{refusal, of_books, of_name, of_scan}
use Rattle.rules.specs.Jobs.{lent, happened, named, name_part, answered, scan, numbered, name_job, ScanDone, NameDone}
use Rattle.rules.proofs.DownLaws.{Each, each_at, each_of}
use Rattle.rules.proofs.SoundLaws.{StoredSound}
use Rattle.rules.proofs.ShelfLaws.{shelved-sound, shelved-number, part_lies}
use Rattle.rules.proofs.NameLaws.{text-named}
use Rattle.rules.proofs.VerdictLaws.{named-one}
use Rattle.rules.proofs.RecordLaws.{happened-recorded}
use Rattle.refusals.proofs.AdmitLaws.{row-passes}
use Rattle.refusals.proofs.PassedLaws.{scan_begun}

-- ---- 0 exactly where the books are sound, of one edition, and have so many texts
module _ (bs : List (List ℕ)) (k : ℕ) where
  abbrev stored : Stored
  stored = get_or (shelved 0 bs) k no_text

  zero_only : refusal (of_name bs k) ≡ 0 → (all_sound bs ≡ true) × (differ bs ≡ false) × (k < length (shelved 0 bs))
  unfolding of_name of_books
  zero_only z =
      let four = row-passes 3 (not (all_sound bs)) _ z in
      let five = row-passes 4 (eqb (length (shelved 0 bs)) 0) _ four.1 in
      let fifteen = row-passes 14 (differ bs) _ five.1 in
      let nine = row-passes 8 (leb (length (shelved 0 bs)) k) [] fifteen.1 in
      (not-false _ four.0, fifteen.0, leb-false _ _ nine.0)

  zero_there : all_sound bs ≡ true → differ bs ≡ false → k < length (shelved 0 bs) → refusal (of_name bs k) ≡ 0
  unfolding of_name of_books refusal
  zero_there s o l = rw (s, ne_eqb (length (shelved 0 bs)) 0 (λ e. omega (arith, e, l)), o, lt-leb (length (shelved 0 bs)) k l)

  numbered-there : refusal (of_name bs k) ≡ 0 → numbered (refusal (of_name bs k)) bs k ≡ stored
  unfolding numbered
  numbered-there z = rw z

module _ {bs : List (List ℕ)} {k : ℕ} {a : NamedText} (d : NameDone bs k a) where
  number : a.refusal ≡ refusal (of_name bs k)
  unfolding name_job
  number = ap (λ (x : NamedText). x.refusal) d.answer

  pub only_named : a.refusal ≡ 0 → (all_sound bs ≡ true) × (differ bs ≡ false) × (k < length (shelved 0 bs))
  only_named e = zero_only bs k (sym number ∙ e)

  pub all_named : all_sound bs ≡ true → differ bs ≡ false → k < length (shelved 0 bs) → a.refusal ≡ 0
  all_named s o l = number ∙ zero_there bs k s o l

  pub kind-named : a.refusal ≡ 0 → a.kind ≡ (stored bs k).kind
  unfolding name_job
  kind-named e = ap (λ (x : NamedText). x.kind) d.answer ∙ ap (λ (w : Stored). w.kind) (numbered-there bs k (sym number ∙ e))

  part-there : a.refusal ≡ 0 → a.part ≡ name_part (name_parts false bs) (stored bs k)
  unfolding name_job
  part-there e = ap (λ (x : NamedText). x.part) d.answer ∙ ap (λ (w : Stored). name_part (name_parts false bs) w) (numbered-there bs k (sym number ∙ e))

  -- a refusal names nothing
  part_none : (a.refusal ≡ 0 → ⊥) → a.part ≡ no_part
  unfolding name_job numbered name_part no_text
  part_none q = ap (λ (x : NamedText). x.part) d.answer ∙ rw (ne_eqb (refusal (of_name bs k)) 0 (λ z. q (number ∙ z)))

  -- ---- the part, of `first`, or of `second`, which has no bytes where one book is lent (`read_one`, `read_two`)
  module _ {first second : List ℕ} (read : ReadAs first second bs) where
    pub named-lies : Lies first second a.part
    unfolding name_job
    named-lies =
        subst (λ (x : NamedText). Lies first second x.part) (sym d.answer)
        (subst (λ (ps : List Named). Lies first second (name_part ps (numbered (refusal (of_name bs k)) bs k))) (sym read.names) (part_lies first second _))

    pub named_spelled : a.refusal ≡ 0 → part_in first second a.part ≡ (stored bs k).name
    named_spelled e =
        let both = first ∷ second ∷ [] in
        let l : k < length (shelved 0 both) = omega (arith, (only_named e).2, ap length read.texts) in
        ap (part_in first second) (part-there e) ∙
        rw (read.names, read.texts) (each_at (λ s. part_in first second (name_part (name_parts false both) s) ≡ s.name) (shelved 0 both) k no_text l (text-named first second))

    -- as long as the name: a part that lies in its book has as many bytes as it says
    spelled_length : part_in first second a.part ≡ (stored bs k).name → a.part.len ≡ length (stored bs k).name
    spelled_length e =
        let p = a.part in
        let held = cond p.second second first in
        sym (length-take-le p.len (drop p.at held) (omega (arith, length-drop p.at held, named-lies))) ∙ ap length e

    pub named-most : a.part.len ≤ name_most
    named-most = at (eqb a.refusal 0) refl
      where
        at : (t : Bool) → eqb a.refusal 0 ≡ t → a.part.len ≤ name_most
        at true q =
            let z = eqb-true a.refusal 0 q in
            let o = only_named z in
            let s = each_at StoredSound (shelved 0 bs) k no_text o.2 (shelved-sound 0 bs o.0) in
            omega (arith, spelled_length (named_spelled z), s.name-to)
        at false q = let none = ap (λ (p : Named). p.len) (part_none (eqb-false a.refusal 0 q)) in omega (arith, none)

-- ---- the texts that a scan names and records
module _ (bs : List (List ℕ)) where
  -- asked for its number, the job answers its kind and its part
  abbrev pub Answered : Stored → Type 0
  Answered s = name_job bs s.number ≡ record { refusal = 0; kind = s.kind; part = name_part (name_parts false bs) s }

  answered-at : all_sound bs ≡ true → differ bs ≡ false → (k : ℕ) → k < length (shelved 0 bs) → Answered (get_or (shelved 0 bs) k no_text)
  unfolding name_job
  answered-at sound one k l =
      let n = shelved-number 0 bs k l ∙ zero-add k in
      let z = zero_there bs k sound one l in
      rw n (λ i. record { refusal = z i; kind = (numbered-there bs k z i).kind; part = name_part (name_parts false bs) (numbered-there bs k z i) })

  answered-each : all_sound bs ≡ true → differ bs ≡ false → Each Answered (shelved 0 bs)
  answered-each sound one = each_of Answered (shelved 0 bs) no_text (answered-at sound one)

module _ (t : List ℕ) (bs : List (List ℕ)) (lim : Limits) (mode : Mode) (budget : ℕ) (room : Areas) (results : ℕ) where
  abbrev result : ℕ
  result = refusal (of_scan t bs lim mode budget room results)

  -- the text that it names: no text where nothing happens
  abbrev pub winner : Stored
  winner = named lim (verdict (happened t bs lim mode budget room results))

  no_kind : (e : Bool) → (cond e no_text no_text).kind ≡ 0
  unfolding no_text
  no_kind true = refl
  no_kind false = refl

  still : eqb result 0 || eqb result 12 ≡ false → winner.kind ≡ 0
  unfolding happened verdict named no_best
  still e = rw e (no_kind (names lim no_best))

  winner-answered : (winner.kind ≡ 0 → ⊥) → Answered bs winner
  winner-answered q = at (eqb result 0 || eqb result 12) refl
    where
      at : (e : Bool) → eqb result 0 || eqb result 12 ≡ e → Answered bs winner
      at true e =
          let p = (scan_begun t bs lim mode room results budget e).0 in
          named-one (λ s. (s.kind ≡ 0 → ⊥) → Answered bs s) (λ k. absurd (k (no_kind true))) t bs lim mode budget room results
          (each_of (λ s. (s.kind ≡ 0 → ⊥) → Answered bs s) (shelved 0 bs) no_text (λ k l _. answered-at bs p.sound p.alike k l)) q
      at false e = absurd (q (still e))

module _ {t : List ℕ} {bs : List (List ℕ)} {lim : Limits} {mode : Mode} {budget : ℕ} {b₀ b w₀ w r₀ r : List ℕ} {a : Scanned}
    (d : ScanDone t bs lim mode budget b₀ b w₀ w r₀ r a) where
  pub scan-named : (a.kind ≡ 0 → ⊥) → {x : NamedText} → NameDone bs (winner t bs lim mode budget (lent b₀ w₀) (length r₀)).number x →
      x ≡ record { refusal = 0; kind = a.kind; part = a.part }
  unfolding scan answered
  scan-named q e =
      let k = ap (λ (y : Scanned). y.kind) d.answer in
      let p = ap (λ (y : Scanned). y.part) d.answer in
      e.answer ∙ winner-answered t bs lim mode budget (lent b₀ w₀) (length r₀) (λ z. q (k ∙ z)) ∙ (λ i. record { refusal = 0; kind = sym k i; part = sym p i })

  -- the numbers of these records are those in the results (`ScanDone`)
  pub records-named : Each (λ x. Answered bs x.text) (records (happened t bs lim mode budget (lent b₀ w₀) (length r₀)))
  records-named =
      happened-recorded t bs lim mode budget (lent b₀ w₀) (length r₀) (Answered bs) (λ x. Answered bs x.text) (λ ls v s e i k. k)
      (λ e. let o = scan_begun t bs lim mode (lent b₀ w₀) (length r₀) budget e in (o.0.some, answered-each bs o.0.sound o.0.alike, o.1))
