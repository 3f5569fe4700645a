-- How many of the first e are left without those of a kind at the end, by the byte before e; and what `trim` of the rules is in numbers.
-- Assumes nothing.
use mathlib.Core.Path.{◌≡◌, refl, sym, ap, subst, ◌∙◌}
use mathlib.Core.Bool.{Bool, true, false, not, ◌&&◌, cond}
use mathlib.Core.List.{List, [], ◌∷◌, ◌++◌}
use Rattle.std.proofs.Common.{Option, Some, None, Iter, Bor}
use Rattle.std.specs.Fn.{Called}
use Rattle.std.specs.Iterator.{Yields}
use Rattle.std.specs.List.{FoldsTo, push}
use Rattle.std.specs.Option.{MatchOption, IsSomeAnd}
use Rattle.std.specs.Slice.Iter.{iter_rest, iter_steps_back}
use denote.Param.Members.{Mut}
use Prim.Native.Nat.{ℕ, zero, suc, ◌+◌, ◌≤◌}
use native.Mathlib.Nat.{not-suc-le-zero}
use native.Mathlib.Omega.{arith}
use lib.Dec.{eqb, eqb-suc-zero}
use lib.ListN.{length, take, drop, length-drop, length-append}
use lib.Seq.{slice}
use Rattle.lists.proofs.SliceLaws.{part_at}
use Rattle.rules.specs.Bytes.{space, lead, trim_start, add_front, trim_end, trim}
use Rattle.rules.proofs.PlaceLaws.{lead-most}
use Rattle.slices.specs.declared.ends.ByteSpan.{ByteSpan}
use Rattle.slices.specs.Ends.{kept_len, Bare}

module _ (p : ℕ → Bool) (x : ℕ) where
  snoc_yes : (l : List ℕ) → p x ≡ true → kept_len p (l ++ (x ∷ [])) ≡ kept_len p l
  unfolding kept_len
  snoc_yes [] e = rw e
  snoc_yes (y ∷ l) e = rw (snoc_yes l e)

  snoc_no : (l : List ℕ) → p x ≡ false → kept_len p (l ++ (x ∷ [])) ≡ suc (length l)
  unfolding kept_len
  snoc_no [] e = rw e
  snoc_no (y ∷ l) e = rw (snoc_no l e, eqb-suc-zero (length l))

pub kept-most : (p : ℕ → Bool) (s : List ℕ) → kept_len p s ≤ length s
unfolding kept_len
kept-most p [] = omega arith
kept-most p (x ∷ s) = at (eqb (kept_len p s) 0 && p x) (kept-most p s)
  where
    at : (b : Bool) → kept_len p s ≤ length s → cond b 0 (suc (kept_len p s)) ≤ suc (length s)
    at true h = omega arith
    at false h = omega arith

not_true : (b : Bool) → true ≡ not b → b ≡ false
not_true true e = e
not_true false e = refl

not_false : (b : Bool) → false ≡ not b → b ≡ true
not_false true e = refl
not_false false e = e

-- ---- `rposition`, whose closure answers whether a byte is of another kind: one more than the place that it finds, or none
module _ {F : Type 0} (g : Mut F (Bor ℕ × Unit {0}) Bool) (p : ℕ → Bool) (f : F)
    (k : (x : Bor ℕ) (b : Bool) (q : F) → Called g f (x, tt) b q → (q ≡ f) × (b ≡ not (p x.now))) where
  told : (x : Bor ℕ) (b : Bool) {j : F} (h : F) → f ≡ j → Called g j (x, tt) b h → b ≡ not (p x.now)
  told x b h e c = (k x b h (subst (λ (q : F). Called g q (x, tt) b h) (sym e) c)).1

  -- what is found from s on, after the bytes xs
  abbrev pub Found : (r : Option ℕ) (xs : List (Bor ℕ)) (j : F) (s : Iter ℕ) → Option (Bor ℕ) → Type 0
  Found r xs j s o = MatchOption o (r ≡ None) (λ x. IsSomeAnd r (λ i. i + 1 + length xs ≡ length (iter_rest s)) × ((h : F) × Called g j (x, tt) true h))

  pub kept_back : (xs : List (Bor ℕ)) (o : Option (Bor ℕ)) (j : F) (s t u : Iter ℕ) (r : Option ℕ) → Yields iter_steps_back s xs t → iter_steps_back t o u →
      FoldsTo (λ h x q. Called g h (x, tt) false q) f xs j → Found r xs j s o → MatchOption r (kept_len p (iter_rest s) ≡ 0) (λ i. kept_len p (iter_rest s) ≡ i + 1)
  kept_back [] None j s t u r y b c m = rw m (omega (arith, kept-most p (iter_rest s), b.0, ap (λ (i : Iter ℕ). length (iter_rest i)) y))
  kept_back [] (Some x) j s t u None y b c m = absurd m.0
  kept_back [] (Some x) j s t u (Some i) y b c m =
      let e : iter_rest s ≡ push (iter_rest u) x.now = ap iter_rest y ∙ b in
      let n : length (iter_rest s) ≡ length (iter_rest u) + 1 = ap length e ∙ length-append (iter_rest u) (x.now ∷ []) in
      let q : p x.now ≡ false = not_true (p x.now) (told x true m.1.0 c m.1.1) in
      rw e (snoc_no p x.now (iter_rest u) q ∙ omega (arith, m.0, n))
  kept_back (x ∷ xs) o j s t u r y b c m =
      let e : iter_rest s ≡ push (iter_rest y.0) x.now = y.1 in
      let n : length (iter_rest s) ≡ length (iter_rest y.0) + 1 = ap length e ∙ length-append (iter_rest y.0) (x.now ∷ []) in
      let w = k x false c.0 c.1 in
      let d = subst (λ (h : F). FoldsTo (λ h x q. Called g h (x, tt) false q) h xs j) w.0 c.2 in
      rw (e, snoc_yes p x.now (iter_rest y.0) (not_false (p x.now) w.1)) (kept_back xs o j y.0 t u r y.2 b d (less o r n m))
    where
      less : (o : Option (Bor ℕ)) (r : Option ℕ) → length (iter_rest s) ≡ length (iter_rest y.0) + 1 → Found r (x ∷ xs) j s o → Found r xs j y.0 o
      less None r n m = m
      less (Some z) None n m = m
      less (Some z) (Some i) n m = (omega (arith, m.0), m.1)

-- one more than the place, or 0
pub one_more : (r : Option ℕ) (n k : ℕ) {Q : ℕ → Type 0} → MatchOption r (n ≡ 0) Q → ((i : ℕ) → Q i → n ≡ i + 1) → MatchOption r (k ≡ 0) (λ i. k ≡ i + 1) → n ≡ k
one_more None n k a q b = a ∙ sym b
one_more (Some i) n k a q b = q i a ∙ sym b

-- ---- trim, as two numbers
pub trim_start-drop : (s : List ℕ) → trim_start s ≡ drop (lead space s) s
unfolding trim_start lead
trim_start-drop [] = refl
trim_start-drop (x ∷ s) = at (space x) (trim_start-drop s)
  where
    at : (b : Bool) → trim_start s ≡ drop (lead space s) s → cond b (trim_start s) (x ∷ s) ≡ drop (cond b (suc (lead space s)) 0) (x ∷ s)
    at true e = e
    at false e = refl

add_front_lem : (x n : ℕ) (l : List ℕ) → n ≤ length l → add_front x (take n l) ≡ take (cond (eqb n 0 && space x) 0 (suc n)) (x ∷ l)
unfolding add_front
add_front_lem x zero l h = at (space x)
  where
    at : (b : Bool) → cond b [] (x ∷ []) ≡ take (cond b 0 1) (x ∷ l)
    at true = refl
    at false = refl
add_front_lem x (suc n) [] h = absurd (not-suc-le-zero h)
add_front_lem x (suc n) (y ∷ l) h = rw (eqb-suc-zero n)

pub trim_end-take : (s : List ℕ) → trim_end s ≡ take (kept_len space s) s
unfolding trim_end kept_len
trim_end-take [] = refl
trim_end-take (x ∷ s) = ap (add_front x) (trim_end-take s) ∙ add_front_lem x (kept_len space s) s (kept-most space s)

pub trim-part : (s : List ℕ) → trim s ≡ take (kept_len space (drop (lead space s) s)) (drop (lead space s) s)
unfolding trim
trim-part s = rw (trim_start-drop s) (trim_end-take (drop (lead space s) s))

-- ---- what is bare lies within, and is trimmed where the kind is the space
module _ {p : ℕ → Bool} {s : List ℕ} {r : ByteSpan} (b : Bare p s r) where
  pub bare-within : (r.start ≤ r.end) × (r.end ≤ length s)
  bare-within =
      omega (arith, b.start, b.end, lead-most p s, kept-most p (drop (lead p s) s), length-drop (lead p s) s)

  pub bare-trim : p ≡ space → slice r.start r.end s ≡ trim s
  bare-trim e = rw (b.start, b.end, ← part_at (lead p s) (kept_len p (drop (lead p s) s)) s, e) (sym (trim-part s))
