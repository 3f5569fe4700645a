-- The three ends of the job `name`: refused by the books' rows (`name-refused`), by the number (`name-past`), and the answer (`name_done`).
-- Assumes nothing.
use Rattle.std.proofs.Common.{Err, ◌-◌}
use mathlib.Core.Path.{◌≡◌, refl, sym, ap, ◌∙◌}
use mathlib.Core.Bool.{Bool, cond}
use mathlib.Core.List.{List, [], ◌∷◌}
use Prim.Native.Nat.{ℕ, ◌≤◌, ◌<◌}
use native.Mathlib.Omega.{arith}
use lib.Dec.{leb}
use lib.ListN.{length, get_or, drop, length-drop}
use lib.Seq.{length-take-le}
use borrow.Author.Tests.{ne_eqb, le-leb, lt-leb}
use Rattle.rules.specs.declared.Refusal.{Refusal}
use Rattle.rules.specs.declared.Refusal.TheVariants as refused
use Rattle.rules.specs.Sizes.{name_most}
use Rattle.rules.specs.Told.{refusal_number, kind_number, named_told}
use Rattle.rules.specs.Search.{no_text}
use Rattle.rules.specs.Book.{shelved, ReadAs}
use Rattle.rules.specs.Refusal.{refusal, of_books, of_number, of_name}
use Rattle.rules.specs.Jobs.{name_part, numbered, name_job, NameDone}
use Rattle.rules.proofs.ToldLaws.{numbered as above_nought}
use Rattle.rules.proofs.DownLaws.{each_at}
use Rattle.rules.proofs.SoundLaws.{StoredSound}
use Rattle.rules.proofs.RefusalLaws.{early, all_early, Numbered, refusal-first, refusal_then}
use Rattle.detection_shelf.specs.declared.Counts.{Counts}
use Rattle.detection_shelf.specs.declared.Shelved.{Shelved}
use Rattle.detection_shelf.specs.Shelves.{Shelf, texts, book_in, CountsOf, Stands, text_in, part_held, parts_of}
use Rattle.detection_shelf.proofs.ShelfLaws.{stands-text, stands-part, stands-inside, counted-sound}

module _ (bs : List (List ℕ)) (k : ℕ) where
  numbered_rows : Numbered (of_books bs)
  unfolding of_books all_early early
  numbered_rows = refl

  refused-is : (e : Refusal) → refusal_number e ≡ refusal (of_name bs k) → NameDone bs k (named_told (Err e))
  unfolding name_job numbered name_part no_text
  refused-is e q = record { answer = rw (← q, ne_eqb (refusal_number e) 0 (above_nought e)) }

  -- 4, 5 or 15
  pub name-refused : (e : Refusal) → refusal_number e ≡ refusal (of_books bs) → NameDone bs k (named_told (Err e))
  unfolding of_name
  name-refused e q = refused-is e (q ∙ sym (refusal-first (of_books bs) (of_number bs k ∷ []) (λ z. above_nought e (q ∙ z))))

  -- the books are let through: the number decides
  number_decides : refusal (of_books bs) ≡ 0 → refusal (of_name bs k) ≡ cond (leb (length (shelved 0 bs)) k) 9 0
  unfolding of_name refusal
  number_decides z = refusal_then (of_books bs) (of_number bs k ∷ []) numbered_rows z

  pub name-past : refusal (of_books bs) ≡ 0 → length (shelved 0 bs) ≤ k → NameDone bs k (named_told (Err refused.Number))
  name-past z l = refused-is refused.Number (sym (number_decides z ∙ ap (λ (b : Bool). cond b 9 0) (le-leb (length (shelved 0 bs)) k l)))

  pub name-inside : refusal (of_books bs) ≡ 0 → k < length (shelved 0 bs) → refusal (of_name bs k) ≡ 0
  name-inside z l = number_decides z ∙ ap (λ (b : Bool). cond b 9 0) (lt-leb (length (shelved 0 bs)) k l)

-- ---- the text found is the definition's, and so is its name's part
module _ (books : Shelf) (c : Counts) (counted : CountsOf books c) (t : Shelved) (h : Stands books t) where
  -- its number, and its name, which has at most 64 bytes
  text-sound : StoredSound (text_in books t)
  text-sound = rw (← stands-text books t h) (each_at StoredSound (texts books) t.number no_text (stands-inside books t h) (counted-sound books c counted))

  pub name-short : t.text.past - t.text.name ≤ name_most
  unfolding text_in
  name-short =
      let i = h.found.is in
      omega (arith, text-sound.name-to, length-take-le (t.text.past - t.text.name) (drop t.text.name (book_in books t.second)) (omega (arith, i.name-to, length-drop t.text.name (book_in books t.second))))

  part-stands : name_part (parts_of books) (text_in books t) ≡ part_held t
  unfolding name_part text_in
  part-stands = rw (ne_eqb (kind_number t.text.kind) 0 (λ e. omega (arith, e, text-sound.kind-from))) (stands-part books t h)

  pub name_done : (bs : List (List ℕ)) → ReadAs books.first books.second bs → (k : ℕ) → t.number ≡ k → refusal (of_name bs k) ≡ 0 →
      NameDone bs k (record { refusal = 0; kind = kind_number t.text.kind; part = part_held t })
  unfolding name_job numbered text_in
  name_done bs read k e z =
      let text : get_or (shelved 0 bs) k no_text ≡ text_in books t = rw (read.texts, ← e) (stands-text books t h) in
      record { answer = rw (z, text, read.names, part-stands) }
