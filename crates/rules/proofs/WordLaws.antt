-- The words of a processed text, in code points: non-empty runs of letters that lower case leaves, 0-9 and `_`, one space between each two
-- (`aggressive-words`). TermLaws has them as UTF-8.
-- Assumes nothing.
use mathlib.Core.Path.{◌≡◌, refl, sym, ap, ◌∙◌}
use mathlib.Core.Bool.{Bool, true, false, not, ◌&&◌, ◌||◌, cond, false≢true, true≢false}
use mathlib.Core.List.{List, [], ◌∷◌, ◌++◌, map}
use mathlib.Core.Logic.{◌⊎◌, inl, inr}
use Prim.Native.Nat.{ℕ, zero, suc, ◌+◌, ◌-◌, ◌≤◌}
use native.Mathlib.Omega.{arith}
use lib.Dec.{ltb, leb, eqb}
use lib.ListN.{length, take, drop}
use borrow.Author.Tests.{eqb-true, eqb-false, eq-eqb, ne_eqb, le-leb, leb-true, leb-false, lt-ltb, not-true}
use Rattle.rules.specs.Bytes.{text, within, among, newline, space, upper, lower, digit, word, every, keep, runs, trim_start, add_front, trim_end, trim, on_first, split, starts, line_len, join}
use Rattle.rules.specs.Passes.{vertical, lowered, title_line, without_title, hit, without_copyright, passes, aggressive}
use Rattle.rules.specs.Prefix.{without_prefix}
use Rattle.rules.proofs.BoolLaws.{and_left, and_right, and_both, cond_of}
use Rattle.rules.proofs.DownLaws.{Each}

abbrev pub term_byte : ℕ → Bool
term_byte x = lower x || digit x || eqb x 95

-- a word in code points
unfoldable pub point_term : List ℕ → Bool
point_term w = ltb 0 (length w) && every term_byte w

abbrev plain : ℕ → Bool
plain x = term_byte x || space x

-- ---- every byte is one of these, or a space, from pass 4 on
every_append : (p : ℕ → Bool) (xs ys : List ℕ) → every p xs ≡ true → every p ys ≡ true → every p (xs ++ ys) ≡ true
unfolding every
every_append p [] ys h k = k
every_append p (x ∷ xs) ys h k = and_both (p x) (every p (xs ++ ys)) (and_left (p x) (every p xs) h) (every_append p xs ys (and_right (p x) (every p xs) h) k)

every_drop : (p : ℕ → Bool) (n : ℕ) (xs : List ℕ) → every p xs ≡ true → every p (drop n xs) ≡ true
unfolding every
every_drop p zero xs h = h
every_drop p (suc n) [] h = h
every_drop p (suc n) (x ∷ xs) h = every_drop p n xs (and_right (p x) (every p xs) h)

-- a word or a space, in lower case
low_letter : (x : ℕ) → leb 65 x && leb x 90 ≡ true → leb 97 (x + 32) && leb (x + 32) 122 ≡ true
low_letter x h =
    let a = leb-true 65 x (and_left (leb 65 x) (leb x 90) h) in
    let b = leb-true x 90 (and_right (leb 65 x) (leb x 90) h) in
    and_both (leb 97 (x + 32)) (leb (x + 32) 122) (le-leb 97 (x + 32) (omega arith)) (le-leb (x + 32) 122 (omega arith))

high_letter : (x : ℕ) → leb 192 x && leb x 222 && not (eqb x 215) ≡ true → leb 223 (x + 32) && leb (x + 32) 255 && not (eqb (x + 32) 247) ≡ true
high_letter x h =
    let w = and_left (leb 192 x && leb x 222) (not (eqb x 215)) h in
    let a = leb-true 192 x (and_left (leb 192 x) (leb x 222) w) in
    let b = leb-true x 222 (and_right (leb 192 x) (leb x 222) w) in
    let n : eqb x 215 ≡ false = not-true (eqb x 215) (and_right (leb 192 x && leb x 222) (not (eqb x 215)) h) in
    let m : eqb (x + 32) 247 ≡ false = ne_eqb (x + 32) 247 (λ e. eqb-false x 215 n (omega arith)) in
    rw (le-leb 223 (x + 32) (omega arith), le-leb (x + 32) 255 (omega arith), m)

or_right : (a b : Bool) → b ≡ true → a || b ≡ true
or_right true b h = refl
or_right false b h = h

or_left : (a b : Bool) → a ≡ true → a || b ≡ true
or_left true b h = refl
or_left false b h = absurd (false≢true h)

upper-lower : (x : ℕ) → upper x ≡ true → lower (x + 32) ≡ true
unfolding upper lower within
upper-lower x h = at (leb 65 x && leb x 90) refl h
  where
    at : (t : Bool) → leb 65 x && leb x 90 ≡ t → t || (leb 192 x && leb x 222 && not (eqb x 215)) ≡ true → lower (x + 32) ≡ true
    at true q k = or_left ((leb 97 (x + 32) && leb (x + 32) 122) || among (170 ∷ 181 ∷ 186 ∷ []) (x + 32)) (leb 223 (x + 32) && leb (x + 32) 255 && not (eqb (x + 32) 247)) (or_left (leb 97 (x + 32) && leb (x + 32) 122) (among (170 ∷ 181 ∷ 186 ∷ []) (x + 32)) (low_letter x q))
    at false q k = or_right ((leb 97 (x + 32) && leb (x + 32) 122) || among (170 ∷ 181 ∷ 186 ∷ []) (x + 32)) (leb 223 (x + 32) && leb (x + 32) 255 && not (eqb (x + 32) 247)) (high_letter x k)

lowered-plain : (x : ℕ) → word x || space x ≡ true → plain (lowered x) ≡ true
unfolding word lowered
lowered-plain x h = at (upper x) refl h
  where
    at : (t : Bool) → upper x ≡ t → t || lower x || digit x || eqb x 95 || space x ≡ true → plain (cond t (x + 32) x) ≡ true
    at true q k = simp (upper-lower x q)
    at false q k = k

kept-plain : (s : List ℕ) → every plain (map lowered (keep (λ x. word x || space x) s)) ≡ true
unfolding keep every
kept-plain [] = refl
kept-plain (x ∷ xs) = at (word x || space x) refl (kept-plain xs)
  where
    at : (t : Bool) → word x || space x ≡ t → every plain (map lowered (keep (λ y. word y || space y) xs)) ≡ true →
        every plain (map lowered (cond t (x ∷ []) [] ++ keep (λ y. word y || space y) xs)) ≡ true
    at true q h = and_both (plain (lowered x)) (every plain (map lowered (keep (λ y. word y || space y) xs))) (lowered-plain x q) h
    at false q h = h

title_plain : (s : List ℕ) → every plain s ≡ true → every plain (without_title s) ≡ true
unfolding without_title
title_plain s h =
    let n = line_len s in
    cond_of (λ (l : List ℕ). every plain l ≡ true) (title_line (take n s) && starts (text "\n\n") (drop n s)) (drop (n + 2) s) s (every_drop plain (n + 2) s h) h

newlines : every plain (text "\n\n") ≡ true
unfolding every text lower digit space within among
newlines = refl

copyright_plain : (start fresh : Bool) (k : ℕ) (s : List ℕ) → every plain s ≡ true → every plain (without_copyright start fresh k s) ≡ true
unfolding without_copyright every
copyright_plain start fresh k [] h = refl
copyright_plain start fresh zero (x ∷ xs) h =
    let n = hit start fresh (x ∷ xs) in
    let more = without_copyright false (newline x) (n - 1) xs in
    every_append plain (cond (ltb 0 n) (text "\n\n") (x ∷ [])) more
    (cond_of (λ (l : List ℕ). every plain l ≡ true) (ltb 0 n) (text "\n\n") (x ∷ []) newlines (and_both (plain x) true (and_left (plain x) (every plain xs) h) refl))
    (copyright_plain false (newline x) (n - 1) xs (and_right (plain x) (every plain xs) h))
copyright_plain start fresh (suc k) (x ∷ xs) h = copyright_plain false (newline x) k xs (and_right (plain x) (every plain xs) h)

-- ---- pass 7: terms and single spaces. `after`: a space stands right before
singles : Bool → List ℕ → Bool
singles after [] = true
singles after (x ∷ xs) = cond (eqb x 32) (not after && singles true xs) (term_byte x && singles false xs)

-- no space is a code point of a word
term_not : (x y : ℕ) → term_byte y ≡ false → term_byte x ≡ true → x ≡ y → ⊥
term_not x y n h e = true≢false (sym h ∙ ap term_byte e ∙ n)

not_terms : (term_byte 9 ≡ false) × (term_byte 10 ≡ false) × (term_byte 11 ≡ false) × (term_byte 12 ≡ false) × (term_byte 13 ≡ false) × (term_byte 32 ≡ false) × (term_byte 133 ≡ false) × (term_byte 160 ≡ false)
unfolding lower digit within among
not_terms = (refl, refl, refl, refl, refl, refl, refl, refl)

term_above : (x : ℕ) → term_byte x ≡ true → leb 9 x && leb x 13 ≡ false
term_above x h = at (leb 9 x) refl (leb x 13) refl
  where
    no : (y : ℕ) → term_byte y ≡ false → x ≡ y → ⊥
    no y n e = term_not x y n h e

    at : (t : Bool) → leb 9 x ≡ t → (u : Bool) → leb x 13 ≡ u → leb 9 x && leb x 13 ≡ false
    at true q true r =
        let a = leb-true 9 x q in
        let b = leb-true x 13 r in
        absurd (pick (leb x 9) refl (leb x 10) refl (leb x 11) refl (leb x 12) refl a b)
      where
        pick : (s : Bool) → leb x 9 ≡ s → (t : Bool) → leb x 10 ≡ t → (u : Bool) → leb x 11 ≡ u → (v : Bool) → leb x 12 ≡ v → 9 ≤ x → x ≤ 13 → ⊥
        pick true s t t' u u' v v' a b = no 9 not_terms.0 (omega (arith, leb-true x 9 s))
        pick false s true t u u' v v' a b = no 10 not_terms.1 (omega (arith, leb-true x 10 t, leb-false x 9 s))
        pick false s false t true u v v' a b = no 11 not_terms.2 (omega (arith, leb-true x 11 u, leb-false x 10 t))
        pick false s false t false u true v a b = no 12 not_terms.3 (omega (arith, leb-true x 12 v, leb-false x 11 u))
        pick false s false t false u false v a b = no 13 not_terms.4 (omega (arith, leb-false x 12 v))
    at true q false r = rw (q, r)
    at false q u r = rw q

term-dark : (x : ℕ) → term_byte x ≡ true → space x ≡ false
unfolding space within
term-dark x h =
    rw (
      term_above x h,
      ne_eqb x 32 (term_not x 32 not_terms.5 h),
      ne_eqb x 133 (term_not x 133 not_terms.6 h),
      ne_eqb x 160 (term_not x 160 not_terms.7 h),
    )

-- a plain byte that is no space
plain-term : (x : ℕ) → plain x ≡ true → space x ≡ false → term_byte x ≡ true
plain-term x h k = at (term_byte x) h
  where
    at : (t : Bool) → t || space x ≡ true → t ≡ true
    at true h = refl
    at false h = absurd (true≢false (sym h ∙ k))

no_32 : (x : ℕ) → term_byte x ≡ true → eqb x 32 ≡ false
no_32 x h = ne_eqb x 32 (term_not x 32 not_terms.5 h)

runs_singles : (after : Bool) (s : List ℕ) → every plain s ≡ true → singles after (runs space 32 after s) ≡ true
unfolding runs every singles
runs_singles after [] h = refl
runs_singles after (x ∷ xs) h = at (space x) refl after (runs_singles (space x) xs (and_right (plain x) (every plain xs) h))
  where
    at : (t : Bool) → space x ≡ t → (after : Bool) → singles (space x) (runs space 32 (space x) xs) ≡ true →
        singles after (cond t (cond after [] (32 ∷ [])) (x ∷ []) ++ runs space 32 (space x) xs) ≡ true
    at true q true k = ap (λ (u : Bool). singles u (runs space 32 (space x) xs)) (sym q) ∙ k
    at true q false k = ap (λ (u : Bool). singles u (runs space 32 (space x) xs)) (sym q) ∙ k
    at false q after k =
        let t = plain-term x (and_left (plain x) (every plain xs) h) q in
        simp (no_32 x t) (and_both (term_byte x) (singles false (runs space 32 (space x) xs)) t (ap (λ (u : Bool). singles u (runs space 32 (space x) xs)) (sym q) ∙ k))

-- ---- pass 8: no space at either end
space_32 : space 32 ≡ true
unfolding space within
space_32 = refl

trim_start_singles : (after : Bool) (s : List ℕ) → singles after s ≡ true → singles true (trim_start s) ≡ true
unfolding trim_start singles
trim_start_singles after [] h = refl
trim_start_singles after (x ∷ xs) h = at (eqb x 32) refl h
  where
    -- behind a space stands none
    stays : (ys : List ℕ) → singles true ys ≡ true → trim_start ys ≡ ys
    stays [] k = refl
    stays (y ∷ ys) k = here (eqb y 32) refl k
      where
        here : (t : Bool) → eqb y 32 ≡ t → cond t (not true && singles true ys) (term_byte y && singles false ys) ≡ true → cond (space y) (trim_start ys) (y ∷ ys) ≡ y ∷ ys
        here true q k = absurd (false≢true k)
        here false q k = simp (term-dark y ((and_left (term_byte y) (singles false ys) k)))

    at : (t : Bool) → eqb x 32 ≡ t → cond t (not after && singles true xs) (term_byte x && singles false xs) ≡ true →
        singles true (cond (space x) (trim_start xs) (x ∷ xs)) ≡ true
    at true q k =
        let e = eqb-true x 32 q in
        let m = and_right (not after) (singles true xs) k in
        simp (e, space_32) (ap (singles true) (stays xs m) ∙ m)
    at false q k = simp (term-dark x ((and_left (term_byte x) (singles false xs) k)), q) k

cons≢nil : (x : ℕ) (l : List ℕ) → ◌≡◌ {A = List ℕ} (x ∷ l) [] → ⊥
cons≢nil x l e = let z : ◌≡◌ {A = ℕ} 0 1 = cc in omega arith

-- terms with single spaces between, up to a term. `inside`: a term's byte stands right before
worded : Bool → List ℕ → Bool
worded inside [] = inside
worded inside (x ∷ xs) = cond (eqb x 32) (inside && worded false xs) (term_byte x && worded true xs)

trim_end_worded : (after : Bool) (s : List ℕ) → singles after s ≡ true → (trim_end s ≡ []) ⊎ (worded (not after) (trim_end s) ≡ true)
unfolding trim_end add_front singles worded
trim_end_worded after [] h = inl refl
trim_end_worded after (x ∷ xs) h = at (eqb x 32) refl after h (trim_end_worded true xs) (trim_end_worded false xs)
  where
    -- a term's byte x before the rest
    before : (l : List ℕ) → term_byte x ≡ true → (inside : Bool) → (l ≡ []) ⊎ (worded true l ≡ true) → worded inside (add_front x l) ≡ true
    before [] t inside w = simp (term-dark x (t), no_32 x t) (and_both (term_byte x) true t refl)
    before (y ∷ l) t inside (inl e) = absurd (cons≢nil y l e)
    before (y ∷ l) t inside (inr w) = simp (no_32 x t) (and_both (term_byte x) (worded true (y ∷ l)) t w)

    -- a space before the rest
    gap : (l : List ℕ) → x ≡ 32 → (l ≡ []) ⊎ (worded false l ≡ true) → (add_front x l ≡ []) ⊎ (worded true (add_front x l) ≡ true)
    gap [] e w = inl (simp (e, space_32))
    gap (y ∷ l) e (inl z) = absurd (cons≢nil y l z)
    gap (y ∷ l) e (inr w) = inr (simp (eq-eqb x 32 e) w)

    at : (t : Bool) → eqb x 32 ≡ t → (after : Bool) → cond t (not after && singles true xs) (term_byte x && singles false xs) ≡ true →
        (singles true xs ≡ true → (trim_end xs ≡ []) ⊎ (worded false (trim_end xs) ≡ true)) →
        (singles false xs ≡ true → (trim_end xs ≡ []) ⊎ (worded true (trim_end xs) ≡ true)) →
        (add_front x (trim_end xs) ≡ []) ⊎ (worded (not after) (add_front x (trim_end xs)) ≡ true)
    at true q true k f g = absurd (false≢true k)
    at true q false k f g = gap (trim_end xs) (eqb-true x 32 q) (f k)
    at false q after k f g =
        inr (before (trim_end xs) (and_left (term_byte x) (singles false xs) k) (not after) (g (and_right (term_byte x) (singles false xs) k)))

-- ---- the words
-- a piece that goes on with a term's byte before it, and the terms behind it
abbrev Pieces : Bool → List (List ℕ) → Type 0
Pieces inside [] = ⊥
Pieces inside (w ∷ ws) = (every term_byte w ≡ true) × (inside ≡ false → point_term w ≡ true) × Each (λ (v : List ℕ). point_term v ≡ true) ws

split-pieces : (inside : Bool) (s : List ℕ) → worded inside s ≡ true → Pieces inside (split 32 s)
unfolding worded split on_first every point_term
split-pieces true [] h = (refl, λ e. absurd (true≢false e), tt)
split-pieces false [] h = absurd (false≢true h)
split-pieces inside (x ∷ xs) h = at (eqb x 32) refl h (split-pieces false xs) (split-pieces true xs)
  where
    -- a byte before the first piece
    on : (ps : List (List ℕ)) → term_byte x ≡ true → Pieces true ps → Pieces inside (on_first x ps)
    on [] t p = absurd p
    on (w ∷ ws) t p = (and_both (term_byte x) (every term_byte w) t p.0, λ e. one w (and_both (term_byte x) (every term_byte w) t p.0), p.2)
      where
        one : (w : List ℕ) → every term_byte (x ∷ w) ≡ true → point_term (x ∷ w) ≡ true
        one w k = and_both (ltb 0 (suc (length w))) (every term_byte (x ∷ w)) (lt-ltb 0 (suc (length w)) (omega arith)) k

    whole : (ps : List (List ℕ)) → Pieces false ps → Each (λ (v : List ℕ). point_term v ≡ true) ps
    whole [] p = tt
    whole (w ∷ ws) p = (p.1 refl, p.2)

    at : (t : Bool) → eqb x 32 ≡ t → cond t (inside && worded false xs) (term_byte x && worded true xs) ≡ true →
        (worded false xs ≡ true → Pieces false (split 32 xs)) → (worded true xs ≡ true → Pieces true (split 32 xs)) →
        Pieces inside (cond t ([] ∷ split 32 xs) (on_first x (split 32 xs)))
    at true q k f g =
        (refl, λ e. absurd (true≢false (sym (and_left inside (worded false xs) k) ∙ e)), whole (split 32 xs) (f (and_right inside (worded false xs) k)))
    at false q k f g = on (split 32 xs) (and_left (term_byte x) (worded true xs) k) (g (and_right (term_byte x) (worded true xs) k))

-- the words of a text that has any
abbrev pub Words : List ℕ → Type 0
Words [] = Unit {0}
Words (x ∷ s) = Each (λ (w : List ℕ). point_term w ≡ true) (split 32 (x ∷ s))

words_of : (s : List ℕ) → (s ≡ []) ⊎ (worded false s ≡ true) → Words s
words_of [] w = tt
words_of (x ∷ s) (inl e) = absurd (cons≢nil x s e)
words_of (x ∷ s) (inr w) = at (split 32 (x ∷ s)) (split-pieces false (x ∷ s) w)
  where
    at : (ps : List (List ℕ)) → Pieces false ps → Each (λ (v : List ℕ). point_term v ≡ true) ps
    at [] p = tt
    at (w ∷ ws) p = (p.1 refl, p.2)

passes-words : (s : List ℕ) → Words (passes s)
unfolding passes trim
passes-words s =
    let four = map lowered (keep (λ x. word x || space x) (vertical 0 s)) in
    let six = without_copyright true true 0 (without_title four) in
    let p = copyright_plain true true 0 (without_title four) (title_plain four (kept-plain (vertical 0 s))) in
    let r = runs space 32 false six in
    words_of (trim_end (trim_start r)) (trim_end_worded true (trim_start r) (trim_start_singles false r (runs_singles false six p)))

pub aggressive-words : (ls : List (List ℕ)) → Words (aggressive ls)
unfolding aggressive
aggressive-words ls = passes-words (join (without_prefix ls))
