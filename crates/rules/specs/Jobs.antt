-- The public jobs: for every input the answer, and what each lent area holds after it. A refusal's answer is its number, all else zero.
-- Assumes nothing.
use Rattle.std.specs.Prelude.{◌≡◌, ℕ, false, ◌||◌, cond, List, [], ◌++◌, eqb, length, get_or, drop, replicate}
use Rattle.rules.specs.declared.Areas.{Areas}
use Rattle.rules.specs.declared.Limits.{Limits}
use Rattle.rules.specs.declared.Mode.{Mode}
use Rattle.rules.specs.declared.Named.{Named}
use Rattle.rules.specs.declared.Checked.{Checked}
use Rattle.rules.specs.declared.Compiled.{Compiled}
use Rattle.rules.specs.declared.Scored.{Scored}
use Rattle.rules.specs.declared.Bounded.{Bounded}
use Rattle.rules.specs.declared.Scanned.{Scanned}
use Rattle.rules.specs.declared.NamedText.{NamedText}
use Rattle.rules.specs.Sizes.{name_most}
use Rattle.rules.specs.Lines.{lines}
use Rattle.rules.specs.Table.{Value, no_value}
use Rattle.rules.specs.Search.{View, Stored, no_text, Best, Bounds, score_view, bounds}
use Rattle.rules.specs.Scan.{Event, events, afford, scorings, records, verdict, names, numbers}
use Rattle.rules.specs.Book.{stored, shelved, edition_of, name_parts, no_part, compiled}
use Rattle.rules.specs.Refusal.{refusal, of_check, of_compile, of_view, of_name, of_scan}

-- ---- lent memory
-- a work area after an answer: every element zero after 0, 11 and 12; as it was after any other
unfoldable pub area_after : ℕ → List ℕ → List ℕ
area_after n area = cond (eqb n 0 || eqb n 11 || eqb n 12) (replicate (length area) 0) area

-- new over the front of old, which changes only there
unfoldable pub over : List ℕ → List ℕ → List ℕ
over new old = new ++ drop (length new) old

-- ---- check a book (gives N)
unfoldable pub check : List ℕ → Checked
check book =
    let n = refusal (of_check book) in
    record { refusal = n; texts = cond (eqb n 0) (length (stored book)) 0 }

-- ---- compile a text to a table body, under edition e (gives its length)
unfoldable pub compile : ℕ → List ℕ → Areas → ℕ → Compiled
compile e t a out =
    let n = refusal (of_compile e t a out) in
    record { refusal = n; len = cond (eqb n 0) (length (compiled e t)) 0 }

unfoldable pub output_after : ℕ → List ℕ → Areas → List ℕ → List ℕ
output_after e t a out =
    let n = refusal (of_compile e t a (length out)) in
    let new = over (compiled e t) out in
    cond (eqb n 0) new out

-- ---- score a view against a stored text (gives the score with its m and t)
abbrev pub scored_as : ℕ → Value → Scored
scored_as n x = record { refusal = n; score = x.score; m = x.m; t = x.t }

unfoldable pub score_job : List ℕ → List (List ℕ) → View → ℕ → Areas → Scored
score_job t bs v k a =
    let n = refusal (of_view t bs v k a) in
    let value = (score_view (lines (edition_of bs) t) (get_or (shelved 0 bs) k no_text) v).value in
    scored_as n (cond (eqb n 0) value no_value)

-- ---- find bounds (gives first line, line after last, the score of these lines with its m and t, count of scorings)
abbrev pub bounded_as : ℕ → Bounds → ℕ → Bounded
bounded_as n b count = record { refusal = n; first = b.first; after = b.after; score = b.value.score; m = b.value.m; t = b.value.t; count = count }

abbrev pub no_bounds : Bounds
no_bounds = record { first = 0; after = 0; value = no_value }

-- where nothing is refused, over the lines and the stored texts
unfoldable pub bounds_found : List (List ℕ) → List Stored → View → ℕ → Bounded
bounds_found ls ss v k =
    let made = bounds ls v (get_or ss k no_text) in
    bounded_as 0 made.value (length made.list)

unfoldable pub bounds_job : List ℕ → List (List ℕ) → View → ℕ → Areas → Bounded
bounds_job t bs v k a =
    let n = refusal (of_view t bs v k a) in
    cond (eqb n 0) (bounds_found (lines (edition_of bs) t) (shelved 0 bs) v k) (bounded_as n no_bounds 0)

-- ---- scan
-- what the budget leaves of the scan; nothing where it is refused for another reason
unfoldable pub happened : List ℕ → List (List ℕ) → Limits → Mode → ℕ → Areas → ℕ → List Event
happened t bs lim mode b a results =
    let n = refusal (of_scan t bs lim mode b a results) in
    let es = afford b (events lim mode (shelved 0 bs) (lines (edition_of bs) t)) in
    cond (eqb n 0 || eqb n 12) es []

-- the text that is named: no text where none is
unfoldable pub named : Limits → Best → Stored
named lim b = cond (names lim b) b.text no_text

-- where its name stands, as a part of the book that holds it: where none is, the empty part at the first book's start (no text has kind 0)
unfoldable pub name_part : List Named → Stored → Named
name_part parts w = cond (eqb w.kind 0) no_part (get_or parts w.number no_part)

-- what is answered under the number n where `es` happened, over where the names of all stored texts stand
unfoldable pub answered : ℕ → Limits → List Named → List Event → Scanned
answered n lim parts es =
    let w = named lim (verdict es) in
    record {
      refusal = n;
      name = over w.name (replicate name_most 0);
      len = length w.name;
      kind = w.kind;
      score = (verdict es).value.score;
      m = (verdict es).value.m;
      t = (verdict es).value.t;
      count = length (scorings es);
      records = length (records es);
      part = name_part parts w;
    }

unfoldable pub scan : List ℕ → List (List ℕ) → Limits → Mode → ℕ → Areas → ℕ → Scanned
scan t bs lim mode b a results =
    answered (refusal (of_scan t bs lim mode b a results)) lim (name_parts false bs) (happened t bs lim mode b a results)

unfoldable pub results_after : List ℕ → List (List ℕ) → Limits → Mode → ℕ → Areas → List ℕ → List ℕ
results_after t bs lim mode b a old = over (numbers t (records (happened t bs lim mode b a (length old)))) old

-- ---- name a stored text (gives its kind, and where its licence's name stands)
-- the stored text k under the refusal n: no text where n is one
unfoldable pub numbered : ℕ → List (List ℕ) → ℕ → Stored
numbered n bs k = cond (eqb n 0) (get_or (shelved 0 bs) k no_text) no_text

unfoldable pub name_job : List (List ℕ) → ℕ → NamedText
name_job bs k =
    let n = refusal (of_name bs k) in
    let w = numbered n bs k in
    record { refusal = n; kind = w.kind; part = name_part (name_parts false bs) w }

-- ---- what each public call promises: its answer, and every lent area at exit; `bs` are the lent books, one or two
abbrev pub lent : List ℕ → List ℕ → Areas
lent bytes words = record { bytes = length bytes; words = length words }

pub record CheckDone (book : List ℕ) (a : Checked) : Type 0 where
  pub answer : a ≡ check book

pub record CompileDone (e : ℕ) (t b₀ b w₀ w out₀ out : List ℕ) (a : Compiled) : Type 0 where
  pub answer : a ≡ compile e t (lent b₀ w₀) (length out₀)
  pub output : out ≡ output_after e t (lent b₀ w₀) out₀
  pub bytes : b ≡ area_after a.refusal b₀
  pub words : w ≡ area_after a.refusal w₀

pub record ScoreDone (t : List ℕ) (bs : List (List ℕ)) (v : View) (k : ℕ) (b₀ b w₀ w : List ℕ) (a : Scored) : Type 0 where
  pub answer : a ≡ score_job t bs v k (lent b₀ w₀)
  pub bytes : b ≡ area_after a.refusal b₀
  pub words : w ≡ area_after a.refusal w₀

pub record BoundsDone (t : List ℕ) (bs : List (List ℕ)) (v : View) (k : ℕ) (b₀ b w₀ w : List ℕ) (a : Bounded) : Type 0 where
  pub answer : a ≡ bounds_job t bs v k (lent b₀ w₀)
  pub bytes : b ≡ area_after a.refusal b₀
  pub words : w ≡ area_after a.refusal w₀

pub record NameDone (bs : List (List ℕ)) (k : ℕ) (a : NamedText) : Type 0 where
  pub answer : a ≡ name_job bs k

pub record ScanDone (t : List ℕ) (bs : List (List ℕ)) (lim : Limits) (mode : Mode) (budget : ℕ) (b₀ b w₀ w r₀ r : List ℕ) (a : Scanned) : Type 0 where
  pub answer : a ≡ scan t bs lim mode budget (lent b₀ w₀) (length r₀)
  pub results : r ≡ results_after t bs lim mode budget (lent b₀ w₀) r₀
  pub bytes : b ≡ area_after a.refusal b₀
  pub words : w ≡ area_after a.refusal w₀
