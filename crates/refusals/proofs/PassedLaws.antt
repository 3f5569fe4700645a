-- What holds where no row of a text and its lent books applies, whatever rows follow (`both_passed`), no row of a view (`view_passed`), no row of a scan
-- before any work (`scan_passed`), and where anything happens in a scan (`scan_begun`); so every
-- scoring that a job then makes has the facts of m and t (`passed_pair`), and the best stored text of every view is the first (`passed_first`).
-- Assumes nothing.
use mathlib.Core.Path.{◌≡◌, refl}
use mathlib.Core.Bool.{Bool, true, false, not, ◌&&◌, ◌||◌}
use mathlib.Core.List.{List, ◌++◌}
use Prim.Native.Nat.{ℕ, ◌≤◌, ◌<◌}
use native.Mathlib.Omega.{arith}
use lib.Dec.{ltb, leb, eqb}
use lib.ListN.{length, get_or}
use borrow.Author.Tests.{ltb-false, leb-true, leb-false, eqb-true, eqb-false, not-false}
use Rattle.rules.specs.declared.Areas.{Areas}
use Rattle.rules.specs.declared.Limits.{Limits}
use Rattle.rules.specs.declared.Mode.{Mode}
use Rattle.rules.specs.declared.View.{View}
use Rattle.rules.specs.Sizes.{text_most, lines_most}
use Rattle.rules.specs.Points.{utf8, wide, taken}
use Rattle.rules.specs.Lines.{lines, line_count, size}
use Rattle.rules.specs.Table.{view_table}
use Rattle.rules.specs.Search.{viewed, no_text, score_view, best}
use Rattle.rules.specs.Book.{all_sound, shelved, edition_of, differ}
use Rattle.rules.specs.Refusal.{Row, refusal, of_text, of_books, of_view, unit, step_zero, before_scan, of_scan}
use Rattle.rules.proofs.BoolLaws.{and_left}
use Rattle.rules.proofs.DownLaws.{each_at}
use Rattle.rules.proofs.PointLaws.{taken-utf8}
use Rattle.rules.proofs.SoundLaws.{StoredSound}
use Rattle.rules.proofs.ShelfLaws.{shelved-sound}
use Rattle.rules.proofs.RankLaws.{First, books_first}
use Rattle.rules.proofs.PairLaws.{PairFacts, scoring_pair}
use Rattle.rules.proofs.RefusalLaws.{scan_zero, scan_only}
use Rattle.refusals.proofs.AdmitLaws.{row-passes}

pub record BothPassed (t : List ℕ) (bs : List (List ℕ)) : Type 0 where
  pub short : length t ≤ text_most
  pub bytes : utf8 false t ≡ true
  pub few : line_count t ≤ lines_most
  pub sound : all_sound bs ≡ true
  pub some : 0 < length (shelved 0 bs)
  pub alike : differ bs ≡ false

pub both_passed : (t : List ℕ) (bs : List (List ℕ)) (rest : List Row) → refusal (of_text (edition_of bs) t ++ of_books bs ++ rest) ≡ 0 → BothPassed t bs × (refusal rest ≡ 0)
unfolding of_text of_books
both_passed t bs rest z =
    let one = row-passes 0 (ltb text_most (length t)) _ z in
    let two = row-passes 1 (not (taken (wide (edition_of bs)) t)) _ one.1 in
    let three = row-passes 2 (ltb lines_most (line_count t)) _ two.1 in
    let four = row-passes 3 (not (all_sound bs)) _ three.1 in
    let five = row-passes 4 (eqb (length (shelved 0 bs)) 0) _ four.1 in
    let fifteen = row-passes 14 (differ bs) rest five.1 in
    let k = eqb-false (length (shelved 0 bs)) 0 five.0 in (
      record {
        short = ltb-false _ _ one.0;
        bytes = taken-utf8 (wide (edition_of bs)) t (not-false _ two.0);
        few = ltb-false _ _ three.0;
        sound = not-false _ four.0;
        some = omega (arith, k);
        alike = fifteen.0;
      },
      fifteen.1,
    )

pub record ViewPassed (t : List ℕ) (bs : List (List ℕ)) (v : View) (k : ℕ) : Type 0 where
  pub both : BothPassed t bs
  pub start : v.start ≤ v.end
  pub number : k < length (shelved 0 bs)

pub view_passed : (t : List ℕ) (bs : List (List ℕ)) (v : View) (k : ℕ) (a : Areas) → refusal (of_view t bs v k a) ≡ 0 → ViewPassed t bs v k
unfolding of_view
view_passed t bs v k a z =
    let both = both_passed t bs _ z in
    let eight = row-passes 7 (not (leb v.start v.end && leb v.end (line_count t))) _ both.1 in
    let nine = row-passes 8 (leb (length (shelved 0 bs)) k) _ eight.1 in
    record {
      both = both.0;
      start = leb-true _ _ (and_left _ (leb v.end (line_count t)) (not-false _ eight.0));
      number = leb-false _ _ nine.0;
    }

-- ---- a scan: before any work, and where anything happens
module _ (t : List ℕ) (bs : List (List ℕ)) (lim : Limits) (mode : Mode) (a : Areas) (results : ℕ) where
  pub scan_passed : refusal (before_scan t bs lim mode a results) ≡ 0 → BothPassed t bs × (step_zero mode ≡ false)
  unfolding before_scan
  scan_passed z =
      let both = both_passed t bs _ z in
      let six = row-passes 5 (not (unit lim.threshold && unit lim.shallow)) _ both.1 in
      (both.0, (row-passes 6 (step_zero mode) _ six.1).0)

  pub scan_begun : (budget : ℕ) → let n = refusal (of_scan t bs lim mode budget a results) in eqb n 0 || eqb n 12 ≡ true → BothPassed t bs × (step_zero mode ≡ false)
  scan_begun budget h = scan_passed (at (eqb n 0) refl h)
    where
      n : ℕ
      n = refusal (of_scan t bs lim mode budget a results)

      at : (q : Bool) → eqb n 0 ≡ q → q || eqb n 12 ≡ true → refusal (before_scan t bs lim mode a results) ≡ 0
      at true e k = (scan_zero t bs lim mode a results budget (eqb-true n 0 e)).0
      at false e k = (scan_only t bs lim mode a results budget (eqb-true n 12 k)).0

-- ---- of any view, over the note's lines or what blanking leaves of them, against any stored text
pub passed_pair : (t : List ℕ) (bs : List (List ℕ)) → BothPassed t bs → (ls : List (List ℕ)) → size ls ≤ size (lines (edition_of bs) t) → (v : View) (k : ℕ) → k < length (shelved 0 bs) →
    PairFacts (score_view ls (get_or (shelved 0 bs) k no_text) v).value
passed_pair t bs p ls l v k h =
    scoring_pair (edition_of bs) t ls v (get_or (shelved 0 bs) k no_text) p.bytes p.short l (each_at StoredSound (shelved 0 bs) k no_text h (shelved-sound 0 bs p.sound))

pub passed_first : (t : List ℕ) (bs : List (List ℕ)) → BothPassed t bs → (ls : List (List ℕ)) → size ls ≤ size (lines (edition_of bs) t) → (v : View) →
    First (view_table (viewed ls v)) (shelved 0 bs) (best (shelved 0 bs) ls v).value
passed_first t bs p ls l v = books_first (edition_of bs) t bs ls v p.bytes p.short l p.sound p.some
