-- What compile writes for a text that is let through is a sound table body, which a book of that edition can hold (`compiled-sound`), and
-- reading it back gives the text's table (`compiled_again`).
-- Assumes nothing.
use mathlib.Core.Path.{◌≡◌, sym, ap, ◌∙◌}
use mathlib.Core.Bool.{Bool, true, false}
use mathlib.Core.List.{List}
use Prim.Native.Nat.{ℕ, ◌^◌, ◌≤◌, ◌<◌}
use native.Mathlib.Omega.{arith}
use lib.ListN.{length}
use Rattle.rules.specs.Sizes.{total_most}
use Rattle.rules.specs.Points.{wide, taken, encoded}
use Rattle.rules.specs.Lines.{lines}
use Rattle.rules.specs.Passes.{aggressive}
use Rattle.rules.specs.Table.{bigrams, view_table}
use Rattle.rules.specs.Book.{table_in, entries_of, shaped, sound_table, compiled}
use Rattle.rules.specs.Refusal.{refusal, of_text}
use Rattle.rules.proofs.GrowthLaws.{aggressive-length, bigrams-length, lines-size}
use Rattle.rules.proofs.EveryLaws.{AsciiLines, ascii-lines}
use Rattle.rules.proofs.TermLaws.{table-words}
use Rattle.preproc_test.proofs.CountLaws.{passed_taken, passed_text}
use Rattle.ngram_body.proofs.SoundBody.{body-shaped, body-sound, body_again}

module _ (e : ℕ) (t : List ℕ) (z : refusal (of_text e t) ≡ 0) where
  abbrev processed : List ℕ
  processed = encoded (aggressive (lines e t))

  short : length processed ≤ total_most
  short = let p = passed_text e t z in omega (arith, aggressive-length (lines e t), lines-size e t p.bytes, p.short)

  fits : length processed < 256 ^ 4
  fits = let s = short in omega arith

  few : length (bigrams processed) ≤ total_most
  few = omega (arith, short, bigrams-length processed)

  -- an edition that takes ASCII alone has lines of ASCII
  ascii-there : wide e ≡ false → AsciiLines (lines e t)
  unfolding taken
  ascii-there q = ascii-lines e t (ap (λ (w : Bool). taken w t) (sym q) ∙ passed_taken e t z)

  pub compiled-shaped : shaped (compiled e t) (entries_of (compiled e t)) ≡ true
  unfolding compiled view_table
  compiled-shaped = body-shaped processed fits few

  pub compiled-sound : sound_table (wide e) (compiled e t) (entries_of (compiled e t)) ≡ true
  unfolding compiled view_table
  compiled-sound = body-sound processed fits few (wide e) (table-words (wide e) (lines e t) ascii-there)

  pub compiled_again : table_in (compiled e t) (entries_of (compiled e t)) ≡ view_table (lines e t)
  unfolding compiled view_table
  compiled_again = body_again processed fits few
