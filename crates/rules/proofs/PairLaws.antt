-- m and t, the numbers behind a score.
--     equal_floats                      two fractions that are one float are a tie:
--     earlier_wins, original_wins       the earlier text stays, unless the later one's kind goes before; each with its own m and t
--     best-scored, bounds-scored        what the best text and bounds yield is one scoring's value: of that text, of that range
--     by_totals                         its score is `score m a b`, and its t is a + b
--     score-ratio                       a score is 2m/t, by m and t alone
--     scoring_pair                      so it is of every scoring that a job makes, whose m is at most half of t, and t below 2^24
-- Assumes nothing.
use mathlib.Core.Path.{◌≡◌, refl, sym, subst, ◌∙◌}
use Prim.Native.Nat.{ℕ, ◌+◌, ◌*◌, ◌^◌, ◌≤◌, ◌<◌}
use native.Mathlib.Nat.{not-suc-le-zero}
use native.Mathlib.Omega.{arith}
use mathlib.Core.Bool.{Bool, true, false, cond}
use mathlib.Core.List.{List, [], ◌∷◌}
use lib.Dec.{eqb}
use lib.ListN.{length}
use lib.IntN.{negsuc}
use lib.Ieee.{Float, fin, lt, binary32, div, of_int}
use borrow.Author.Tests.{eqb-true, eqb-false, eq-eqb}
use Rattle.rules.specs.declared.Scored.{Scored}
use Rattle.rules.specs.declared.Bounded.{Bounded}
use Rattle.rules.specs.declared.Scanned.{Scanned}
use Rattle.rules.specs.Sizes.{text_most, total_most}
use Rattle.rules.specs.Points.{utf8}
use Rattle.rules.specs.Lines.{lines, size}
use Rattle.rules.specs.Table.{Value, view_table, table_of, nought, float, score, value_of, no_value, meet}
use Rattle.rules.specs.Book.{Proper}
use Rattle.rules.specs.Search.{View, view, viewed, search, Stored, Made, scored, score_view, bounds, Best, no_best, better, best_from, best, no_text}
use Rattle.rules.proofs.DownLaws.{each_of}
use Rattle.rules.proofs.RankLaws.{better-ahead, better-behind, behind, ahead_tied, best-one}
use Rattle.rules.proofs.Steps.{search_in, search-scored}
use Rattle.rules.proofs.SoundLaws.{StoredSound}
use Rattle.rules.proofs.TableLaws.{table_proper, stored_proper, meet_le}
use Rattle.rules.proofs.ScoreRound.{quotient}
use Rattle.rules.proofs.ScoreLaws.{score_by_t}
use Rattle.rules.proofs.GrowthLaws.{view-total, scoring_t}

-- ---- ranking is by the float: 2 * 4,096 / 8,193 is larger than 2 * 4,095 / 8,191, and no higher a score
-- 8,191 / 2 ^ 13
abbrev shared : Float
shared = fin false 8_191 (negsuc 12)

smaller-is : score 4_095 4_096 4_095 ≡ shared
unfolding score float div of_int
smaller-is = refl

larger-is : score 4_096 4_096 4_097 ≡ shared
unfolding score float div of_int
larger-is = refl

pub equal_floats : (4_095 * 8_193 < 4_096 * 8_191) × (score 4_095 4_096 4_095 ≡ score 4_096 4_096 4_097)
equal_floats = (omega arith, smaller-is ∙ sym larger-is)

abbrev smaller : Stored → Best
smaller s = record { text = s; value = record { score = score 4_095 4_096 4_095; m = 4_095; t = 8_191 } }

abbrev larger : Stored → Best
larger s = record { text = s; value = record { score = score 4_096 4_096 4_097; m = 4_096; t = 8_193 } }

same_float : (lt (score 4_095 4_096 4_095) (score 4_096 4_096 4_097) ≡ false) × (lt (score 4_096 4_096 4_097) (score 4_095 4_096 4_095) ≡ false)
unfolding lt
same_float = (rw (smaller-is, larger-is), rw (smaller-is, larger-is))

pub earlier_wins : (a b : Stored) → eqb a.kind 0 ≡ false → a.kind ≤ b.kind →
    (better (smaller a) (larger b) ≡ smaller a) × (better (larger a) (smaller b) ≡ larger a)
earlier_wins a b k l = (
  better-behind (smaller a) (larger b) k (behind (smaller a) (larger b) (same_float.0, λ z. l)),
  better-behind (larger a) (smaller b) k (behind (larger a) (smaller b) (same_float.1, λ z. l)),
)

pub original_wins : (a b : Stored) → b.kind < a.kind → (better (smaller a) (larger b) ≡ larger b) × (better (larger a) (smaller b) ≡ smaller b)
original_wins a b l = (
  better-ahead (smaller a) (larger b) (ahead_tied (smaller a) (larger b) same_float.1 l),
  better-ahead (larger a) (smaller b) (ahead_tied (larger a) (smaller b) same_float.0 l),
)

-- ---- the best text's value is that of its scoring
pub best-scored : (ss : List Stored) (ls : List (List ℕ)) (v : View) → 0 < length ss → (best ss ls v).value.value ≡ (score_view ls (best ss ls v).value.text v).value
unfolding best best_from score_view scored better no_best no_text
best-scored [] ls v h = absurd (not-suc-le-zero h)
best-scored (s ∷ ss) ls v h =
    let t = view_table (viewed ls v) in
    best-one (λ b. b.value ≡ value_of t b.text.table) t v ss (record { text = s; value = value_of t s.table }) (each_of _ ss no_text (λ k h. refl)) refl

-- ---- bounds' value is that of the range's scoring
pub bounds-scored : (ls : List (List ℕ)) (v : View) (s : Stored) → v.start ≤ v.end →
    (bounds ls v s).value.value ≡ (score_view ls s (view (bounds ls v s).value.first (bounds ls v s).value.after)).value
unfolding bounds
bounds-scored ls v s h =
    let score_at : ℕ → Made Value = λ e. score_view ls s (view v.start e) in
    let e = (search score_at v.start v.end).value.at in
    search-scored (λ a. score_view ls s (view a e)) v.start e (search_in score_at v.start v.end h).0

-- ---- a scoring's score is `score m a b` of the totals of both tables, and its t is a + b
pub by_totals : (ls : List (List ℕ)) (s : Stored) (v : View) (x : Value) → x ≡ (score_view ls s v).value →
    let a = (view_table (viewed ls v)).total in
    let b = s.table.total in
    (x.score ≡ score x.m a b) × (x.t ≡ a + b)
unfolding score_view scored value_of
by_totals ls s v x e = rw e (refl, refl)

-- ---- by m and t alone: 2m/t, one division in binary32, and 0.0 where t is 0
abbrev pub ratio : ℕ → ℕ → Float
ratio m t = cond (eqb t 0) nought (div binary32 (float (2 * m)) (float t))

pub score-ratio : (m a b : ℕ) → m ≤ a → m ≤ b → a ≤ total_most → b ≤ total_most → score m a b ≡ ratio m (a + b)
unfolding score
score-ratio m a b h k A B = at (eqb (a + b) 0) refl
  where
    at : (z : Bool) → eqb (a + b) 0 ≡ z → score m a b ≡ cond z nought (div binary32 (float (2 * m)) (float (a + b)))
    at true q = let e = eqb-true (a + b) 0 q in rw (eq-eqb a 0 (omega arith))
    at false q =
        let p = eqb-false (a + b) 0 q in
        score_by_t m a b h k A B (omega (arith, p)) ∙ sym (quotient (2 * m) (a + b) (omega arith) (omega (arith, p)) (omega arith))

-- ---- what a reader of m and t may rely on
pub record PairFacts (x : Value) : Type 0 where
  pub by_both : x.score ≡ ratio x.m x.t
  pub shared : 2 * x.m ≤ x.t
  pub below : x.t < 2 ^ 24

pub no-pair : PairFacts no_value
no-pair = record { by_both = refl; shared = omega arith; below = omega arith }

-- of an answer under the number n, which has none where it is refused
pub pair-either : (n : ℕ) (x : Value) → (n ≡ 0 → PairFacts x) → ((n ≡ 0 → ⊥) → x ≡ no_value) → PairFacts x
pair-either n x told none = at (eqb n 0) refl
  where
    at : (q : Bool) → eqb n 0 ≡ q → PairFacts x
    at true q = told (eqb-true n 0 q)
    at false q = subst PairFacts (sym (none (eqb-false n 0 q))) no-pair

-- of any view of a text that is not refused, also with lines blanked, against a stored text of a sound book
pub scoring_pair : (e : ℕ) (t : List ℕ) (ls : List (List ℕ)) (v : View) (s : Stored) → utf8 false t ≡ true → length t ≤ text_most → size ls ≤ size (lines e t) → StoredSound s →
    PairFacts (score_view ls s v).value
unfolding score_view scored value_of view_table table_of
scoring_pair e t ls v s u h k q =
    let a = view_table (viewed ls v) in
    let few = view-total e t ls v u h k in
    let p : Proper a = table_proper _ few in
    let r = stored_proper s q in
    let l = meet_le a.entries s.table.entries p.rising r.rising in
    let m = meet a.entries s.table.entries in
    let in-view : m ≤ a.total = omega (arith, l.0, p.summed) in
    let in_text : m ≤ s.table.total = omega (arith, l.1, r.summed) in
    record {
      by_both = score-ratio m a.total s.table.total in-view in_text few r.limited;
      shared = omega arith;
      below = scoring_t e t ls v s u h k q;
    }

-- ---- the score, m and t of an answer
abbrev pub scored_value : Scored → Value
scored_value a = record { score = a.score; m = a.m; t = a.t }

abbrev pub bounded_value : Bounded → Value
bounded_value a = record { score = a.score; m = a.m; t = a.t }

abbrev pub scanned_value : Scanned → Value
scanned_value a = record { score = a.score; m = a.m; t = a.t }
