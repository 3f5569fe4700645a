-- Whether a line meets a part, by identifier, + and exception apart (`line-apart`), with no more read than its front where that is another
-- (`line_not`); and the lines from a place on, one after the other (`from-line`).
-- Assumes nothing.
use mathlib.Core.Path.{◌≡◌, refl, sym, ap, ◌∙◌}
use Prim.Native.Nat.{ℕ, zero, suc, ◌+◌, ◌≤◌, ◌<◌}
use mathlib.Core.Bool.{Bool, true, false, not, cond, ◌&&◌, ◌||◌, and-false}
use mathlib.Core.List.{List, [], ◌∷◌}
use mathlib.Core.Option.{none, some}
use native.Mathlib.Omega.{arith}
use borrow.Author.Tests.{lt-ltb, le-ltb, le-leb, lt-leb, leb-true, leb-false}
use lib.Dec.{eqb, ltb, leb}
use lib.ListN.{length, take, drop, length-drop}
use lib.Seq.{drop-drop}
use Rattle.rules.specs.Bytes.{lead, starts, line_len, split, same, order}
use Rattle.expression.specs.Reading.{id_byte, is_word, Part, part}
use Rattle.expression.specs.Writing.{alike, agree, meets, met_in}
use Rattle.expression_bytes.specs.Front.{spelt}
use Rattle.expression_bytes.proofs.FrontLaws.{false_true}
use Rattle.expression_bytes.proofs.KindLaws.{starts-spelt}
use Rattle.std.specs.Prelude.{Result, Ok, Err}
use Rattle.expression_parts.specs.declared.names.Simple.{Simple}
use Rattle.expression_parts.specs.declared.names.Stuck.{Stuck}
use Rattle.expression_parts.specs.Simple.{simple_of, simple_at}
use Rattle.expression_place.specs.Line.{ends, with_text, exc_here, exc_at, rest_at, line_at, met_by}
use Rattle.expression_place.proofs.ListLaws.{met-lines}
use Rattle.expression_list.specs.Rest.{behind, exc_met, rest_met}
use Rattle.expression_list.proofs.AlikeLaws.{alike-length, alike-none}
use Rattle.expression_list.proofs.SimpleLaws.{by_line, line-simple}

-- ---- identifier, + and exception apart
rest-apart : (v w : List ℕ) (plus more : Bool) (x t : List ℕ)
    → met_by (part v plus x) (rest_at w more t) ≡ (alike v w && agree plus more && rest_met x t)
unfolding met_by rest_at exc_at exc_here rest_met meets alike agree same order
rest-apart v w plus more x t = on (ends t) (starts with_text t) (ltb 0 k && not (is_word y) && ends (drop k (drop 6 t))) where
  k : ℕ
  k = lead id_byte (drop 6 t)

  y : List ℕ
  y = take k (drop 6 t)

  on : (a b c : Bool) → met_by (part v plus x) (cond a (some (part w more [])) (cond b (cond c (some (part w more y)) none) none))
      ≡ (alike v w && agree plus more
      && met_by (part [] false x) (cond a (some (part [] false [])) (cond b (cond c (some (part [] false y)) none) none)))
  on true b c = refl
  on false true true = refl
  on false true false = sym (and-false (alike v w && agree plus more))
  on false false c = sym (and-false (alike v w && agree plus more))

module _ (v x : List ℕ) (plus : Bool) (s : List ℕ) where
  pub line-apart : (m : ℕ) (more : Bool) → simple_at s ≡ simple_of m more
      → met_by (part v plus x) (line_at s) ≡ (alike v (take m s) && agree plus more && rest_met x (drop (behind m more) s))
  unfolding by_line
  line-apart m more e = rw (line-simple s, e) (rest-apart v (take m s) plus more x (drop (behind m more) s))

  pub line-stuck : (k : Stuck) → simple_at s ≡ Err k → met_by (part v plus x) (line_at s) ≡ false
  unfolding by_line met_by
  line-stuck k e = rw (line-simple s, e)

take-front : (m : ℕ) (s : List ℕ) → take (length (take m s)) s ≡ take m s
take-front zero s = refl
take-front (suc m) [] = refl
take-front (suc m) (x ∷ s) = ap (λ (t : List ℕ). x ∷ t) (take-front m s)

-- a line that does not begin as the identifier v does not meet it
pub line_not : (v x : List ℕ) (plus : Bool) (s : List ℕ) → alike v (take (length v) s) ≡ false → met_by (part v plus x) (line_at s) ≡ false
unfolding by_line met_by
line_not v x plus s h = rw (line-simple s) (on (simple_at s)) where
  other : (m : ℕ) (t : Bool) → alike v (take m s) ≡ t → t ≡ false
  other m true e =
      let q : take (length v) s ≡ take m s = ap (λ (n : ℕ). take n s) (alike-length v (take m s) e) ∙ take-front m s in
      false_true (sym h ∙ ap (alike v) q ∙ e)
  other m false e = refl

  on : (o : Result Simple Stuck) → met_by (part v plus x) (by_line s o) ≡ false
  on (Ok r) = rest-apart v (take r.len s) plus r.plus x (drop (behind r.len r.plus) s) ∙ rw (other r.len (alike v (take r.len s)) refl)
  on (Err k) = refl

-- ---- an exception by the tests of its bytes
pub exc_by : (x s : List ℕ) (k : ℕ) → k ≡ lead id_byte s
    → exc_met x s ≡ (ltb 0 k && not (is_word (take k s)) && ends (drop k s) && alike x (take k s))
unfolding exc_met exc_at exc_here met_by meets alike agree same order
exc_by x s k e = rw (← e) (on (ltb 0 k && not (is_word (take k s)) && ends (drop k s))) where
  on : (c : Bool) → met_by (part [] false x) (cond c (some (part [] false (take k s))) none) ≡ (c && alike x (take k s))
  on true = refl
  on false = refl

pub rest_by : (x s : List ℕ) → rest_met x s ≡ cond (ends s) (eqb (length x) 0) (cond (eqb (spelt with_text s) 6) (exc_met x (drop 6 s)) false)
unfolding rest_met exc_met rest_at met_by meets alike agree same order
rest_by x s = rw (← starts-spelt with_text s, ← alike-none x) (on (ends s) (starts with_text s)) where
  on : (a b : Bool) → met_by (part [] false x) (cond a (some (part [] false [])) (cond b (exc_at [] false (drop 6 s)) none))
      ≡ cond a (alike x []) (cond b (met_by (part [] false x) (exc_at [] false (drop 6 s))) false)
  on true b = refl
  on false true = refl
  on false false = refl

-- ---- the lines from a place on, of which past the end there is none
unfoldable pub met_from : Part → List ℕ → ℕ → Bool
met_from p l i = cond (leb i (length l)) (met_in p (split 10 (drop i l))) false

module _ (p : Part) (l : List ℕ) where
  pub from_start : met_in p (split 10 l) ≡ met_from p l 0
  unfolding met_from
  from_start = rw (le-leb 0 (length l) (omega arith))

  pub from-line : (i : ℕ) → i ≤ length l → met_from p l i ≡ (met_by p (line_at (drop i l)) || met_from p l (i + (line_len (drop i l) + 1)))
  unfolding met_from
  from-line i h = rw (le-leb i (length l) h, met-lines p (drop i l), drop-drop (m + 1) i l, test) where
    m : ℕ
    m = line_len (drop i l)

    test : ltb m (length (drop i l)) ≡ leb (i + (m + 1)) (length l)
    test = on (leb (i + (m + 1)) (length l)) refl where
      on : (t : Bool) → leb (i + (m + 1)) (length l) ≡ t → ltb m (length (drop i l)) ≡ t
      on true e = let k = leb-true (i + (m + 1)) (length l) e in lt-ltb m (length (drop i l)) (omega (arith, length-drop i l))
      on false e = let k = leb-false (i + (m + 1)) (length l) e in le-ltb m (length (drop i l)) (omega (arith, length-drop i l))

  pub from_end : (i : ℕ) → length l < i → met_from p l i ≡ false
  unfolding met_from
  from_end i h = rw (lt-leb i (length l) h)
