-- A title, case by case: what follows `license`, and the line from a place on.
-- Assumes nothing.
use mathlib.Core.Path.{◌≡◌, refl, sym, ap, ◌∙◌}
use mathlib.Core.Bool.{Bool, true, false, not, cond}
use mathlib.Core.List.{List, [], ◌∷◌}
use Prim.Native.Nat.{ℕ, suc, ◌+◌, ◌≤◌, ◌<◌}
use native.Mathlib.Omega.{arith}
use lib.ListN.{length, take, drop, get_or}
use Rattle.lists.proofs.SliceLaws.{drop-next, drop-done}
use Rattle.rules.specs.Bytes.{text, space, lead, line_len, solid, starts}
use Rattle.rules.specs.Passes.{title_end, title_rest, title_line, without_title}
use Rattle.rules.proofs.BoolLaws.{and_not}
use Rattle.preproc_title.specs.Matches.{title_here}
use Rattle.slices.proofs.LeafLaws.{dark}

module _ (s : List ℕ) (at : ℕ) where
  pub end-done : length s ≤ at → title_end (drop at s) ≡ true
  unfolding title_end
  end-done h = rw (drop-done s at h)

  pub end_more : at < length s → title_end (drop at s) ≡ starts (text " copyright") (drop at s)
  unfolding title_end
  end_more h = rw (drop-next s at h)

-- a byte that is no space stands at the front where the run of such bytes is not empty
unnamed : (v : List ℕ) → lead dark v ≡ 0 → solid v ≡ false
unfolding lead solid
unnamed [] h = refl
unnamed (x ∷ xs) h = at (not (space x)) h
  where
    at : (b : Bool) → cond b (suc (lead dark xs)) 0 ≡ 0 → b ≡ false
    at true e = let z : suc (lead dark xs) ≡ 0 = e in absurd (omega arith)
    at false e = refl

named : (v : List ℕ) → (lead dark v ≡ 0 → ⊥) → solid v ≡ true
unfolding lead solid
named [] h = absurd (h refl)
named (x ∷ xs) h = at (not (space x)) h
  where
    at : (b : Bool) → (cond b (suc (lead dark xs)) 0 ≡ 0 → ⊥) → b ≡ true
    at true e = refl
    at false e = absurd (e refl)

-- what follows `license`
module _ (s : List ℕ) where
  pub rest_end : title_end s ≡ true → title_rest s ≡ true
  unfolding title_rest
  rest_end h = rw h

  pub rest-other : title_end s ≡ false → starts (text " version ") s ≡ false → title_rest s ≡ false
  unfolding title_rest
  rest-other h v = rw (h, v)

  pub rest_unnamed : title_end s ≡ false → starts (text " version ") s ≡ true → lead dark (drop 9 s) ≡ 0 → title_rest s ≡ false
  unfolding title_rest
  rest_unnamed h v n = rw (h, v, unnamed (drop 9 s) n)

  pub rest-named : title_end s ≡ false → starts (text " version ") s ≡ true → (lead dark (drop 9 s) ≡ 0 → ⊥) →
      title_rest s ≡ title_end (drop (lead dark (drop 9 s)) (drop 9 s))
  unfolding title_rest
  rest-named h v n = rw (h, v, named (drop 9 s) n)

-- the line from i on
module _ (s : List ℕ) (i : ℕ) where
  pub line-here : i < length s → title_here (drop i s) ≡ true → title_line (drop i s) ≡ true
  unfolding title_line title_here
  line-here h e =
      let d = drop-next s i h in
      let f : title_here (get_or s i 0 ∷ drop (i + 1) s) ≡ true = ap title_here (sym d) ∙ e in
      rw (d, f)

  pub line-later : i < length s → title_here (drop i s) ≡ false → title_line (drop i s) ≡ title_line (drop (i + 1) s)
  unfolding title_line title_here
  line-later h e =
      let d = drop-next s i h in
      let f : title_here (get_or s i 0 ∷ drop (i + 1) s) ≡ false = ap title_here (sym d) ∙ e in
      rw (d, f)

  pub line-done : length s ≤ i → title_line (drop i s) ≡ false
  unfolding title_line
  line-done h = rw (drop-done s i h)

-- the whole, with the first line's length
module _ (s : List ℕ) (n : ℕ) (e : n ≡ line_len s) where
  pub title_there : title_line (take n s) ≡ true → starts (text "\n\n") (drop n s) ≡ true → without_title s ≡ drop (n + 2) s
  unfolding without_title
  title_there h k = rw (← e, h, k)

  pub title_other : title_line (take n s) ≡ false → without_title s ≡ s
  unfolding without_title
  title_other h = rw (← e, h)

  pub title_apart : starts (text "\n\n") (drop n s) ≡ false → without_title s ≡ s
  unfolding without_title
  title_apart h = rw (← e, and_not (title_line (take n s)) (starts (text "\n\n") (drop n s)) h)
