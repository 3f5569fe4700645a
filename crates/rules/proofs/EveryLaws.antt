-- ASCII stays ASCII through every pass: what holds of every code point below 128, and of a letter's lower case where it holds of the letter, holds
-- of every code point of a line where it holds of its text's (`ascii-lines`), and of a view where it holds of its lines' (`ascii-view`).
-- Assumes nothing.
use mathlib.Core.Path.{◌≡◌, refl, ap, ◌∙◌}
use mathlib.Core.Bool.{Bool, true, false, not, ◌&&◌, ◌||◌, cond}
use mathlib.Core.List.{List, [], ◌∷◌, ◌++◌, map}
use Prim.Native.Nat.{ℕ, zero, suc, ◌+◌, ◌-◌, ◌<◌}
use native.Mathlib.Omega.{arith}
use lib.Dec.{ltb, eqb}
use lib.ListN.{length, take, drop}
use borrow.Author.Tests.{lt-ltb, ltb-true}
use Rattle.rules.specs.Bytes.{text, within, space, dropped, every, word, newline, line_len, starts, keep, runs, trim_start, add_front, trim_end, trim, on_first, split, join}
use Rattle.rules.specs.Points.{ascii, points}
use Rattle.rules.specs.Lines.{url, urls, gap, signs, line_by, lines_by, lines}
use Rattle.rules.specs.Prefix.{Counted, winner, reach, four_fifths, prefixes, see_all, strip, strip_winner, without_prefix}
use Rattle.rules.specs.Passes.{vertical, lowered, title_line, without_title, hit, without_copyright, passes, aggressive}
use Rattle.rules.proofs.BoolLaws.{and_left, and_right, and_both, cond_of}
use Rattle.rules.proofs.DownLaws.{Each}
use Rattle.rules.proofs.GrowthLaws.{low-lowered}
use Rattle.rules.proofs.PointLaws.{ascii-points}

-- ---- of any test
module _ (p : ℕ → Bool) where
  every_append : (xs ys : List ℕ) → every p xs ≡ true → every p ys ≡ true → every p (xs ++ ys) ≡ true
  unfolding every
  every_append [] ys h k = k
  every_append (x ∷ xs) ys h k = and_both (p x) (every p (xs ++ ys)) (and_left (p x) (every p xs) h) (every_append xs ys (and_right (p x) (every p xs) h) k)

  every_drop : (n : ℕ) (xs : List ℕ) → every p xs ≡ true → every p (drop n xs) ≡ true
  unfolding every
  every_drop zero xs h = h
  every_drop (suc n) [] h = h
  every_drop (suc n) (x ∷ xs) h = every_drop n xs (and_right (p x) (every p xs) h)

  every_one : (x : ℕ) → p x ≡ true → every p (x ∷ []) ≡ true
  unfolding every
  every_one x h = and_both (p x) true h refl

  keep-every : (t : ℕ → Bool) (s : List ℕ) → every p s ≡ true → every p (keep t s) ≡ true
  unfolding keep every
  keep-every t [] h = refl
  keep-every t (x ∷ xs) h =
      every_append (cond (t x) (x ∷ []) []) (keep t xs)
      (cond_of (λ (l : List ℕ). every p l ≡ true) (t x) (x ∷ []) [] (every_one x (and_left (p x) (every p xs) h)) refl)
      (keep-every t xs (and_right (p x) (every p xs) h))

  trim_start-every : (s : List ℕ) → every p s ≡ true → every p (trim_start s) ≡ true
  unfolding trim_start every
  trim_start-every [] h = refl
  trim_start-every (x ∷ xs) h = cond_of (λ (l : List ℕ). every p l ≡ true) (space x) (trim_start xs) (x ∷ xs) (trim_start-every xs (and_right (p x) (every p xs) h)) h

  add_front-every : (x : ℕ) (s : List ℕ) → p x ≡ true → every p s ≡ true → every p (add_front x s) ≡ true
  unfolding add_front every
  add_front-every x [] q h = cond_of (λ (l : List ℕ). every p l ≡ true) (space x) [] (x ∷ []) refl (every_one x q)
  add_front-every x (y ∷ ys) q h = and_both (p x) (every p (y ∷ ys)) q h

  trim_end-every : (s : List ℕ) → every p s ≡ true → every p (trim_end s) ≡ true
  unfolding trim_end every
  trim_end-every [] h = refl
  trim_end-every (x ∷ xs) h = add_front-every x (trim_end xs) (and_left (p x) (every p xs) h) (trim_end-every xs (and_right (p x) (every p xs) h))

  trim-every : (s : List ℕ) → every p s ≡ true → every p (trim s) ≡ true
  unfolding trim
  trim-every s h = trim_end-every (trim_start s) (trim_start-every s h)

  first-every : (x : ℕ) (ls : List (List ℕ)) → p x ≡ true → Each (λ (l : List ℕ). every p l ≡ true) ls → Each (λ (l : List ℕ). every p l ≡ true) (on_first x ls)
  unfolding on_first every
  first-every x [] q h = (every_one x q, tt)
  first-every x (l ∷ ls) q h = (and_both (p x) (every p l) q h.0, h.1)

  pub split-every : (c : ℕ) (s : List ℕ) → every p s ≡ true → Each (λ (l : List ℕ). every p l ≡ true) (split c s)
  unfolding split every
  split-every c [] h = (refl, tt)
  split-every c (x ∷ xs) h =
      let more = split-every c xs (and_right (p x) (every p xs) h) in
      cond_of (λ (ls : List (List ℕ)). Each (λ (l : List ℕ). every p l ≡ true) ls) (eqb x c) ([] ∷ split c xs) (on_first x (split c xs)) (refl, more)
      (first-every x (split c xs) (and_left (p x) (every p xs) h) more)

  -- ---- of one that holds below 128, and of lower case
  module _ (low : (x : ℕ) → x < 128 → p x ≡ true) where
    low-every : (s : List ℕ) → every (λ x. ltb x 128) s ≡ true → every p s ≡ true
    unfolding every
    low-every [] h = refl
    low-every (x ∷ xs) h =
        and_both (p x) (every p xs) (low x (ltb-true x 128 (and_left (ltb x 128) (every (λ y. ltb y 128) xs) h))) (low-every xs (and_right (ltb x 128) (every (λ y. ltb y 128) xs) h))

    runs-every : (t : ℕ → Bool) (r : ℕ) → r < 128 → (inside : Bool) (s : List ℕ) → every p s ≡ true → every p (runs t r inside s) ≡ true
    unfolding runs every
    runs-every t r l inside [] h = refl
    runs-every t r l inside (x ∷ xs) h =
        every_append (cond (t x) (cond inside [] (r ∷ [])) (x ∷ [])) (runs t r (t x) xs)
        (cond_of (λ (m : List ℕ). every p m ≡ true) (t x) (cond inside [] (r ∷ [])) (x ∷ [])
        (cond_of (λ (m : List ℕ). every p m ≡ true) inside [] (r ∷ []) refl (every_one r (low r l))) (every_one x (and_left (p x) (every p xs) h)))
        (runs-every t r l (t x) xs (and_right (p x) (every p xs) h))

    signs-every : (s : List ℕ) → every p s ≡ true → every p (signs s) ≡ true
    unfolding signs
    signs-every s h =
        runs-every _ 95 (omega arith) false _ (runs-every _ 41 (omega arith) false _ (runs-every _ 40 (omega arith) false _ (runs-every _ 45 (omega arith) false _ (runs-every _ 39 (omega arith) false s h))))

    urls-every : (boxed : every (λ x. ltb x 128) (text "http://blackboxed/url") ≡ true) (inside : Bool) (s : List ℕ) → every p s ≡ true → every p (urls inside s) ≡ true
    unfolding urls every
    urls-every boxed inside [] h = refl
    urls-every boxed inside (x ∷ xs) h =
        let gone = inside && not (space x) in
        let u = url (x ∷ xs) in
        every_append (cond gone [] (cond u (text "http://blackboxed/url") (x ∷ []))) (urls (gone || u) xs)
        (cond_of (λ (m : List ℕ). every p m ≡ true) gone [] (cond u (text "http://blackboxed/url") (x ∷ [])) refl
        (cond_of (λ (m : List ℕ). every p m ≡ true) u (text "http://blackboxed/url") (x ∷ []) (low-every (text "http://blackboxed/url") boxed) (every_one x (and_left (p x) (every p xs) h))))
        (urls-every boxed (gone || u) xs (and_right (p x) (every p xs) h))

    boxed_ascii : every (λ x. ltb x 128) (text "http://blackboxed/url") ≡ true
    unfolding every text
    boxed_ascii = refl

    line-every : (set : ℕ → Bool) (s : List ℕ) → every p (points s) ≡ true → every p (line_by set s) ≡ true
    unfolding line_by
    line-every set s h =
        trim-every (signs (runs set 32 false (urls false (keep (λ x. not (dropped x)) (points s)))))
        (signs-every _ (runs-every set 32 (omega arith) false _ (urls-every boxed_ascii false _ (keep-every (λ x. not (dropped x)) (points s) h))))

    map-every : (set : ℕ → Bool) (ls : List (List ℕ)) → Each (λ (l : List ℕ). every p (points l) ≡ true) ls → Each (λ (l : List ℕ). every p l ≡ true) (map (line_by set) ls)
    map-every set [] h = tt
    map-every set (l ∷ ls) h = (line-every set l h.0, map-every set ls h.1)

    -- ---- the aggressive passes
    vertical-every : (k : ℕ) (s : List ℕ) → every p s ≡ true → every p (vertical k s) ≡ true
    unfolding vertical every
    vertical-every k [] h = refl
    vertical-every k (x ∷ xs) h =
        let t = within 10 13 x in
        every_append (cond t (cond (ltb k 2) (10 ∷ []) []) (x ∷ [])) (vertical (cond t (k + 1) 0) xs)
        (cond_of (λ (m : List ℕ). every p m ≡ true) t (cond (ltb k 2) (10 ∷ []) []) (x ∷ [])
        (cond_of (λ (m : List ℕ). every p m ≡ true) (ltb k 2) (10 ∷ []) [] (every_one 10 (low 10 (omega arith))) refl) (every_one x (and_left (p x) (every p xs) h)))
        (vertical-every (cond t (k + 1) 0) xs (and_right (p x) (every p xs) h))

    title_every : (s : List ℕ) → every p s ≡ true → every p (without_title s) ≡ true
    unfolding without_title
    title_every s h =
        let n = line_len s in
        cond_of (λ (l : List ℕ). every p l ≡ true) (title_line (take n s) && starts (text "\n\n") (drop n s)) (drop (n + 2) s) s (every_drop (n + 2) s h) h

    copyright_every : (start fresh : Bool) (k : ℕ) (s : List ℕ) → every p s ≡ true → every p (without_copyright start fresh k s) ≡ true
    unfolding without_copyright every text
    copyright_every start fresh k [] h = refl
    copyright_every start fresh zero (x ∷ xs) h =
        let n = hit start fresh (x ∷ xs) in
        every_append (cond (ltb 0 n) (text "\n\n") (x ∷ [])) (without_copyright false (newline x) (n - 1) xs)
        (cond_of (λ (l : List ℕ). every p l ≡ true) (ltb 0 n) (text "\n\n") (x ∷ []) (low-every (text "\n\n") refl) (every_one x (and_left (p x) (every p xs) h)))
        (copyright_every false (newline x) (n - 1) xs (and_right (p x) (every p xs) h))
    copyright_every start fresh (suc k) (x ∷ xs) h = copyright_every false (newline x) k xs (and_right (p x) (every p xs) h)

    module _ (lowers : (x : ℕ) → p x ≡ true → p (lowered x) ≡ true) where
      lowered-every : (s : List ℕ) → every p s ≡ true → every p (map lowered s) ≡ true
      unfolding every
      lowered-every [] h = refl
      lowered-every (x ∷ xs) h = and_both (p (lowered x)) (every p (map lowered xs)) (lowers x (and_left (p x) (every p xs) h)) (lowered-every xs (and_right (p x) (every p xs) h))

      passes-every : (s : List ℕ) → every p s ≡ true → every p (passes s) ≡ true
      unfolding passes
      passes-every s h =
          trim-every _ (runs-every space 32 (omega arith) false _ (copyright_every true true 0 _ (title_every _ (lowered-every _ (keep-every (λ x. word x || space x) _ (vertical-every 0 s h))))))

      join-every : (ls : List (List ℕ)) → Each (λ (l : List ℕ). every p l ≡ true) ls → every p (join ls) ≡ true
      unfolding join every
      join-every [] h = refl
      join-every (l ∷ []) h = h.0
      join-every (l ∷ m ∷ ms) h = every_append l (10 ∷ join (m ∷ ms)) h.0 (and_both (p 10) (every p (join (m ∷ ms))) (low 10 (omega arith)) (join-every (m ∷ ms) h.1))

      strip-every : (q : List ℕ) (ls : List (List ℕ)) → Each (λ (l : List ℕ). every p l ≡ true) ls → Each (λ (l : List ℕ). every p l ≡ true) (map (strip q) ls)
      unfolding strip
      strip-every q [] h = tt
      strip-every q (l ∷ ls) h =
          (trim-every (cond (starts q l) (drop (length q) l) l) (cond_of (λ (m : List ℕ). every p m ≡ true) (starts q l) (drop (length q) l) l (every_drop (length q) l h.0) h.0), strip-every q ls h.1)

      prefix-every : (ls : List (List ℕ)) → Each (λ (l : List ℕ). every p l ≡ true) ls → Each (λ (l : List ℕ). every p l ≡ true) (without_prefix ls)
      unfolding without_prefix strip_winner
      prefix-every ls h = at (see_all [] (prefixes ls))
        where
          at : (es : List Counted) → Each (λ (l : List ℕ). every p l ≡ true) (strip_winner es ls)
          at [] = h
          at (e ∷ es) =
              let q = (winner e es).bytes in
              cond_of (λ (ms : List (List ℕ)). Each (λ (l : List ℕ). every p l ≡ true) ms) (ltb (reach q (e ∷ es)) (four_fifths (length ls))) ls (map (strip q) ls) h (strip-every q ls h)

      pub view-every : (ls : List (List ℕ)) → Each (λ (l : List ℕ). every p l ≡ true) ls → every p (aggressive ls) ≡ true
      unfolding aggressive
      view-every ls h = passes-every (join (without_prefix ls)) (join-every (without_prefix ls) (prefix-every ls h))

-- the code points of a line of ASCII
points-each : (ls : List (List ℕ)) → Each (λ (l : List ℕ). every (λ x. ltb x 128) l ≡ true) ls → Each (λ (l : List ℕ). every (λ x. ltb x 128) (points l) ≡ true) ls
unfolding ascii
points-each [] h = tt
points-each (l ∷ ls) h = (ap (every (λ x. ltb x 128)) (ascii-points l h.0) ∙ h.0, points-each ls h.1)

-- ---- ASCII
abbrev pub AsciiLines : List (List ℕ) → Type 0
AsciiLines ls = Each (λ (l : List ℕ). ascii l ≡ true) ls

pub ascii-view : (ls : List (List ℕ)) → AsciiLines ls → ascii (aggressive ls) ≡ true
unfolding ascii
ascii-view ls h = view-every (λ x. ltb x 128) (λ x k. lt-ltb x 128 k) (λ x k. lt-ltb (lowered x) 128 (low-lowered x (ltb-true x 128 k))) ls h

pub ascii-lines : (e : ℕ) (t : List ℕ) → ascii t ≡ true → AsciiLines (lines e t)
unfolding lines lines_by ascii
ascii-lines e t h = map-every (λ x. ltb x 128) (λ x k. lt-ltb x 128 k) (gap e) (split 10 t) (points-each (split 10 t) (split-every (λ x. ltb x 128) 10 t h))

pub ascii-words : (t : List ℕ) → ascii t ≡ true → AsciiLines (split 32 t)
unfolding ascii
ascii-words t h = split-every (λ x. ltb x 128) 32 t h
