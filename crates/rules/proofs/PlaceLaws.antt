-- Where lines stand in a text, in bytes.
--     start_none, start_empty                  no line further, and no byte
--     start-newline, start-other               past one byte
--     start-most, end-most, range-most         no place lies behind the text
--     start-on, end_on                         k lines further, counted from where line c starts
--     start-past                               the lines behind a line, from its end on
--     start-rises, start-next, start-last      places rise; a line starts behind the newline of the one before; from L on it is the text's end
--     range-order                              a range ends where it starts, or behind
--     ranges_apart                             with a line between two ranges at least two bytes stand between them
--     places-cut                               of a range that is not empty the bytes between its places, split at newlines, are the text's lines in it,
--     places-lines                             and so what the passes make of them is what they make of these lines
--     lead-most                                what leads a list is no longer than it
-- Assumes nothing.
use mathlib.Core.Path.{◌≡◌, refl, sym, ap, ◌∙◌}
use Prim.Native.Nat.{ℕ, zero, suc, ◌+◌, ◌-◌, ◌≤◌, ◌<◌, zero-le}
use native.Mathlib.Nat.{not-suc-le-zero, zero-add, suc-add}
use native.Mathlib.Omega.{arith}
use mathlib.Core.Bool.{Bool, true, false, not, cond}
use mathlib.Core.List.{List, [], ◌∷◌, map}
use lib.ListN.{length, take, drop, length-drop}
use lib.Seq.{drop-drop}
use lib.Dec.{eqb}
use borrow.Author.Tests.{ne_eqb, eqb-false}
use Rattle.rules.specs.Bytes.{newline, lead, line_len, on_first, split}
use Rattle.rules.specs.Lines.{line_by, lines_by, line_count, line_start, line_end, range_end}

-- ---- one byte more
pub start_none : (t : List ℕ) → line_start 0 t ≡ 0
unfolding line_start
start_none [] = refl
start_none (x ∷ xs) = refl

start-one : (k x : ℕ) (xs : List ℕ) → line_start (suc k) (x ∷ xs) ≡ suc (line_start (cond (newline x) k (suc k)) xs)
unfolding line_start
start-one k x xs =
    let some : eqb (suc k) 0 ≡ false = ne_eqb (suc k) 0 (λ e. omega (arith, e)) in
    let less : suc k - 1 ≡ k = omega arith in
    rw (some, less)

pub start-newline : (k x : ℕ) (xs : List ℕ) → newline x ≡ true → line_start (suc k) (x ∷ xs) ≡ suc (line_start k xs)
start-newline k x xs q = start-one k x xs ∙ ap (λ (b : Bool). suc (line_start (cond b k (suc k)) xs)) q

pub start-other : (k x : ℕ) (xs : List ℕ) → newline x ≡ false → line_start (suc k) (x ∷ xs) ≡ suc (line_start (suc k) xs)
start-other k x xs q = start-one k x xs ∙ ap (λ (b : Bool). suc (line_start (cond b k (suc k)) xs)) q

pub start-most : (k : ℕ) (t : List ℕ) → line_start k t ≤ length t
unfolding line_start
start-most k [] = zero-le
start-most zero (x ∷ xs) = zero-le
start-most (suc k) (x ∷ xs) = omega (arith, start-one k x xs, start-most (cond (newline x) k (suc k)) xs)

-- ---- further on
-- from where line c starts
abbrev On : ℕ → ℕ → List ℕ → Type 0
On c k t = line_start (c + k) t ≡ line_start c t + line_start k (drop (line_start c t) t)

pub start-on : (c k : ℕ) (t : List ℕ) → On c k t
unfolding line_start
start-on zero k t = rw (start_none t, zero-add k, zero-add (line_start k t)) refl
start-on (suc c) k [] = refl
start-on (suc c) k (x ∷ xs) = at (newline x) refl (start-on c k xs) (start-on (suc c) k xs)
  where
    at : (q : Bool) → newline x ≡ q → On c k xs → On (suc c) k xs → On (suc c) k (x ∷ xs)
    at true q g h = rw (suc-add c k, start-newline (c + k) x xs q, start-newline c x xs q) (omega (arith, g))
    at false q g h = rw (suc-add c k, start-other (c + k) x xs q, start-other c x xs q) (omega (arith, h, ap (λ (n : ℕ). line_start n xs) (suc-add c k)))

-- from its end: what stands up to the newline starts no line
abbrev Past : ℕ → List ℕ → Type 0
Past k t = line_start (suc k) t ≡ line_len t + line_start (suc k) (drop (line_len t) t)

pub start_empty : (k : ℕ) → line_start k [] ≡ 0
unfolding line_start
start_empty k = refl

line_empty : line_len [] ≡ 0
unfolding line_len lead
line_empty = refl

line-newline : (x : ℕ) (xs : List ℕ) → newline x ≡ true → line_len (x ∷ xs) ≡ 0
unfolding line_len lead
line-newline x xs q = rw q

line_other : (x : ℕ) (xs : List ℕ) → newline x ≡ false → line_len (x ∷ xs) ≡ suc (line_len xs)
unfolding line_len lead
line_other x xs q = rw q

pub start-past : (k : ℕ) (t : List ℕ) → Past k t
start-past k [] = rw (line_empty, start_empty (suc k)) refl
start-past k (x ∷ xs) = at (newline x) refl (start-past k xs)
  where
    at : (q : Bool) → newline x ≡ q → Past k xs → Past k (x ∷ xs)
    at true q g = rw (line-newline x xs q) (sym (zero-add (line_start (suc k) (x ∷ xs))))
    at false q g = rw (line_other x xs q) (start-other k x xs q ∙ omega (arith, g))

pub start-rises : (j k : ℕ) (t : List ℕ) → j ≤ k → line_start j t ≤ line_start k t
start-rises j k t h =
    let e : j + (k - j) ≡ k = omega arith in
    omega (arith, start-on j (k - j) t, ap (λ (n : ℕ). line_start n t) e)

-- ---- where a line ends
pub lead-most : (p : ℕ → Bool) (s : List ℕ) → lead p s ≤ length s
unfolding lead
lead-most p [] = omega arith
lead-most p (x ∷ s) = at (p x) (lead-most p s)
  where
    at : (b : Bool) → lead p s ≤ length s → cond b (suc (lead p s)) 0 ≤ suc (length s)
    at true h = omega arith
    at false h = omega arith

pub end-most : (k : ℕ) (t : List ℕ) → line_end k t ≤ length t
unfolding line_end line_len
end-most k t =
    let rest = drop (line_start k t) t in
    omega (arith, lead-most (λ x. not (newline x)) rest, length-drop (line_start k t) t, start-most k t)

pub end_on : (c k : ℕ) (t : List ℕ) → line_end (c + k) t ≡ line_start c t + line_end k (drop (line_start c t) t)
unfolding line_end
end_on c k t =
    let from = line_start c t in
    let further = line_start k (drop from t) in
    let rest = ap (λ (n : ℕ). line_len (drop n t)) (start-on c k t) ∙ ap line_len (sym (drop-drop further from t)) in
    omega (arith, start-on c k t, rest)

-- a range ends where it starts, or behind, and in the text
module _ (first after : ℕ) (t : List ℕ) (h : first ≤ after) where
  range-places : (line_start first t ≤ range_end first after t) × (range_end first after t ≤ length t)
  unfolding range_end line_end
  range-places = at (eqb first after) refl
    where
      at : (q : Bool) → eqb first after ≡ q →
          (line_start first t ≤ cond q (line_start first t) (line_end (after - 1) t)) × (cond q (line_start first t) (line_end (after - 1) t) ≤ length t)
      at true q = (omega arith, start-most first t)
      at false q =
          let differ = eqb-false first after q in
          (omega (arith, start-rises first (after - 1) t (omega (arith, differ))), end-most (after - 1) t)

  pub range-order : line_start first t ≤ range_end first after t
  range-order = range-places.0

  pub range-most : range_end first after t ≤ length t
  range-most = range-places.1

-- ---- the places of a text with one byte more
end_none : (x : ℕ) (xs : List ℕ) → newline x ≡ true → line_end 0 (x ∷ xs) ≡ 0
unfolding line_end
end_none x xs q = rw (start_none (x ∷ xs), line-newline x xs q) refl

end-newline : (k x : ℕ) (xs : List ℕ) → newline x ≡ true → line_end (suc k) (x ∷ xs) ≡ suc (line_end k xs)
unfolding line_end
end-newline k x xs q = rw (start-newline k x xs q) (omega arith)

end-other : (k x : ℕ) (xs : List ℕ) → newline x ≡ false → line_end k (x ∷ xs) ≡ suc (line_end k xs)
unfolding line_end
end-other zero x xs q = rw (start_none (x ∷ xs), start_none xs, line_other x xs q) (omega arith)
end-other (suc k) x xs q = rw (start-other k x xs q) (omega arith)

-- ---- its lines
split-newline : (x : ℕ) (xs : List ℕ) → newline x ≡ true → split 10 (x ∷ xs) ≡ [] ∷ split 10 xs
unfolding split newline
split-newline x xs q = rw q

split-other : (x : ℕ) (xs : List ℕ) → newline x ≡ false → split 10 (x ∷ xs) ≡ on_first x (split 10 xs)
unfolding split newline
split-other x xs q = rw q

first-take : (k x : ℕ) (ls : List (List ℕ)) → on_first x (take (suc k) ls) ≡ take (suc k) (on_first x ls)
unfolding on_first
first-take zero x [] = refl
first-take (suc k) x [] = refl
first-take k x (l ∷ ls) = refl

first-drop : (k x : ℕ) (ls : List (List ℕ)) → drop (suc k) ls ≡ drop (suc k) (on_first x ls)
unfolding on_first
first-drop zero x [] = refl
first-drop (suc k) x [] = refl
first-drop k x (l ∷ ls) = refl

first_some : (x : ℕ) (ls : List (List ℕ)) → 0 < length (on_first x ls)
unfolding on_first
first_some x [] = omega arith
first_some x (l ∷ ls) = omega arith

first-length : (x : ℕ) (ls : List (List ℕ)) → 0 < length ls → length (on_first x ls) ≡ length ls
unfolding on_first
first-length x [] h = absurd (not-suc-le-zero h)
first-length x (l ∷ ls) h = refl

split-some : (t : List ℕ) → 0 < length (split 10 t)
unfolding split
split-some [] = omega arith
split-some (x ∷ xs) = at (eqb x 10)
  where
    at : (q : Bool) → 0 < length (cond q ([] ∷ split 10 xs) (on_first x (split 10 xs)))
    at true = omega arith
    at false = first_some x (split 10 xs)

split_empty : split 10 [] ≡ [] ∷ []
unfolding split
split_empty = refl

-- how many
count_empty : line_count [] ≡ 1
unfolding line_count
count_empty = ap length split_empty

count-newline : (x : ℕ) (xs : List ℕ) → newline x ≡ true → line_count (x ∷ xs) ≡ suc (line_count xs)
unfolding line_count
count-newline x xs q = ap length (split-newline x xs q)

count-other : (x : ℕ) (xs : List ℕ) → newline x ≡ false → line_count (x ∷ xs) ≡ line_count xs
unfolding line_count
count-other x xs q = ap length (split-other x xs q) ∙ first-length x (split 10 xs) (split-some xs)

-- ---- places and lines
-- from line k on
abbrev From : ℕ → List ℕ → Type 0
From k t = split 10 (drop (line_start k t) t) ≡ drop k (split 10 t)

split_from : (k : ℕ) (t : List ℕ) → k < line_count t → From k t
split_from zero t h = rw (start_none t) refl
split_from (suc k) [] h = absurd (omega (arith, count_empty))
split_from (suc k) (x ∷ xs) h = at (newline x) refl (split_from k xs) (split_from (suc k) xs)
  where
    at : (q : Bool) → newline x ≡ q → (k < line_count xs → From k xs) → (suc k < line_count xs → From (suc k) xs) → From (suc k) (x ∷ xs)
    at true q g f = rw (start-newline k x xs q, split-newline x xs q) (g (omega (arith, count-newline x xs q)))
    at false q g f = rw (start-other k x xs q, split-other x xs q) (f (omega (arith, count-other x xs q)) ∙ first-drop k x (split 10 xs))

-- up to line k and with it
abbrev To : ℕ → List ℕ → Type 0
To k t = split 10 (take (line_end k t) t) ≡ take (suc k) (split 10 t)

none-to : (k : ℕ) → To k []
unfolding line_end line_start line_len lead split
none-to zero = refl
none-to (suc k) = refl

split-to : (k : ℕ) (t : List ℕ) → To k t
split-to k [] = none-to k
split-to zero (x ∷ xs) = at (newline x) refl (split-to zero xs)
  where
    at : (q : Bool) → newline x ≡ q → To zero xs → To zero (x ∷ xs)
    at true q g = rw (end_none x xs q, split-newline x xs q) split_empty
    at false q g =
        rw (end-other zero x xs q, split-other x xs q)
        (split-other x (take (line_end zero xs) xs) q ∙ ap (on_first x) g ∙ first-take zero x (split 10 xs))
split-to (suc k) (x ∷ xs) = at (newline x) refl (split-to k xs) (split-to (suc k) xs)
  where
    at : (q : Bool) → newline x ≡ q → To k xs → To (suc k) xs → To (suc k) (x ∷ xs)
    at true q g f =
        rw (end-newline k x xs q, split-newline x xs q)
        (split-newline x (take (line_end k xs) xs) q ∙ ap (λ (ls : List (List ℕ)). [] ∷ ls) g)
    at false q g f =
        rw (end-other (suc k) x xs q, split-other x xs q)
        (split-other x (take (line_end (suc k) xs) xs) q ∙ ap (on_first x) f ∙ first-take (suc k) x (split 10 xs))

-- the bytes from one place up to another, and the lines from one up to another
abbrev pub between : {A : Type 0} → ℕ → ℕ → List A → List A
between from to l = take (to - from) (drop from l)

module _ (first after : ℕ) (t : List ℕ) (order : first < after) (within : after ≤ line_count t) where
  pub places-cut : split 10 (between (line_start first t) (range_end first after t) t) ≡ between first after (split 10 t)
  unfolding range_end
  places-cut =
      let k = after - 1 - first in
      let from = line_start first t in
      let rest = drop from t in
      let last : after - 1 ≡ first + k = omega arith in
      let end : line_end (after - 1) t ≡ from + line_end k rest = ap (λ (n : ℕ). line_end n t) last ∙ end_on first k t in
      let long : from + line_end k rest - from ≡ line_end k rest = omega arith in
      let many : after - first ≡ suc k = omega arith in
      rw (ne_eqb first after (λ e. omega (arith, e)), end, long, many)
      (split-to k rest ∙ ap (take (suc k)) (split_from first t (omega arith)))

-- ---- what the passes make of them
map-take : {A B : Type 0} (f : A → B) (n : ℕ) (l : List A) → map f (take n l) ≡ take n (map f l)
map-take f zero l = refl
map-take f (suc n) [] = refl
map-take {A} {B} f (suc n) (x ∷ xs) = ap (λ (m : List B). f x ∷ m) (map-take f n xs)

map-drop : {A B : Type 0} (f : A → B) (n : ℕ) (l : List A) → map f (drop n l) ≡ drop n (map f l)
map-drop f zero l = refl
map-drop f (suc n) [] = refl
map-drop f (suc n) (x ∷ xs) = map-drop f n xs

pub places-lines : (set : ℕ → Bool) (first after : ℕ) (t : List ℕ) → first < after → after ≤ line_count t →
    lines_by set (between (line_start first t) (range_end first after t) t) ≡ between first after (lines_by set t)
unfolding lines_by
places-lines set first after t order within =
    ap (map (line_by set)) (places-cut first after t order within) ∙ map-take (line_by set) (after - first) (drop first (split 10 t)) ∙
    ap (take (after - first)) (map-drop (line_by set) first (split 10 t))

-- ---- the start of the line after another, and from L on
abbrev Next : ℕ → List ℕ → Type 0
Next k t = line_start (suc k) t ≡ suc (line_end k t)

next-other : (k x : ℕ) (xs : List ℕ) → newline x ≡ false → Next k xs → Next k (x ∷ xs)
next-other k x xs q g = rw (start-other k x xs q, end-other k x xs q) (ap suc g)

pub start-next : (k : ℕ) (t : List ℕ) → suc k < line_count t → Next k t
start-next k [] h = absurd (omega (arith, count_empty))
start-next zero (x ∷ xs) h = at (newline x) refl (start-next zero xs)
  where
    at : (q : Bool) → newline x ≡ q → (1 < line_count xs → Next zero xs) → Next zero (x ∷ xs)
    at true q f = rw (start-newline zero x xs q, end_none x xs q, start_none xs) refl
    at false q f = next-other zero x xs q (f (omega (arith, count-other x xs q)))
start-next (suc k) (x ∷ xs) h = at (newline x) refl (start-next k xs) (start-next (suc k) xs)
  where
    at : (q : Bool) → newline x ≡ q → (suc k < line_count xs → Next k xs) → (suc (suc k) < line_count xs → Next (suc k) xs) → Next (suc k) (x ∷ xs)
    at true q g f = rw (start-newline (suc k) x xs q, end-newline k x xs q) (ap suc (g (omega (arith, count-newline x xs q))))
    at false q g f = next-other (suc k) x xs q (f (omega (arith, count-other x xs q)))

pub start-last : (k : ℕ) (t : List ℕ) → line_count t ≤ k → line_start k t ≡ length t
unfolding line_count
start-last zero t h = absurd (omega (arith, split-some t))
start-last (suc k) [] h = start_empty (suc k)
start-last (suc k) (x ∷ xs) h = at (newline x) refl (start-last k xs) (start-last (suc k) xs)
  where
    at : (q : Bool) → newline x ≡ q → (line_count xs ≤ k → line_start k xs ≡ length xs) → (line_count xs ≤ suc k → line_start (suc k) xs ≡ length xs) →
        line_start (suc k) (x ∷ xs) ≡ suc (length xs)
    at true q g f = start-newline k x xs q ∙ ap suc (g (omega (arith, count-newline x xs q)))
    at false q g f = start-other k x xs q ∙ ap suc (f (omega (arith, count-other x xs q)))

-- ---- two ranges with a line between them: its newline and the one before it stand between their bytes
pub ranges_apart : (first after next : ℕ) (t : List ℕ) → first < after → after < next → next < line_count t → range_end first after t + 2 ≤ line_start next t
unfolding range_end line_end
ranges_apart first after next t order apart there =
    let last = after - 1 in
    let more : suc last ≡ after = omega (arith, order) in
    let ends = ap (λ (q : Bool). cond q (line_start first t) (line_end last t)) (ne_eqb first after (λ e. omega (arith, order, e))) in
    let one = start-next last t (omega (arith, more, apart, there)) in
    let two = start-next after t (omega (arith, apart, there)) in
    omega (arith, ends, one, ap (λ (n : ℕ). line_start n t) more, two, start-rises (suc after) next t apart)
