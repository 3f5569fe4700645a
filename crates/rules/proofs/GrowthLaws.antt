-- How much what the passes make weighs, over a weight of code points that is 1 or more, 1 below 128, and not more in lower case. A line grows
-- only by its URLs, to 21 for each 8 (`line-weight`), every other pass shrinks. By weight 1 this is the length; by the width in UTF-8 it is the
-- length of what is written of a view. So both work areas stay what they are by the text's bytes, the bigrams of any view of a text that is not
-- refused number at most `total_most` (`view-few`, `view-total`), and t of a scoring is below 2^24 (`scoring_t`), so exact.
-- Assumes nothing.
use mathlib.Core.Path.{◌≡◌, refl, sym, ap, ◌∙◌}
use mathlib.Core.Bool.{Bool, true, false, cond, not, ◌&&◌, ◌||◌, false≢true}
use mathlib.Core.List.{List, [], ◌∷◌, ◌++◌, map}
use mathlib.Core.Logic.{inl, inr}
use Prim.Native.Nat.{ℕ, zero, suc, ◌+◌, ◌-◌, ◌*◌, ◌/◌, ◌%◌, ◌^◌, ◌≤◌, ◌<◌, zero-le, min}
use native.Mathlib.Omega.{arith}
use lib.Dec.{leb, ltb, eqb}
use lib.ListN.{length, take, drop}
use borrow.Author.Tests.{eqb-true, not-true, ltb-true, lt-ltb, le-ltb, leb-true}
use Rattle.rules.specs.Bytes.{text, within, newline, space, upper, dropped, every, word, lead, line_len, solid, starts, keep, runs, trim_start, add_front, trim_end, trim, on_first, split, join}
use Rattle.rules.specs.Points.{utf8, ascii, points, encoded}
use Rattle.rules.specs.Lines.{url, urls, gap, signs, line_by, lines_by, lines, size}
use Rattle.rules.specs.Sizes.{text_most, total_most}
use Rattle.rules.specs.Prefix.{Counted, winner, reach, four_fifths, prefixes, see_all, strip, strip_winner, without_prefix}
use Rattle.rules.specs.Passes.{vertical, lowered, title_line, without_title, hit, without_copyright, passes, aggressive}
use Rattle.rules.specs.Table.{pairs, bigrams, table_of, view_table, value_of}
use Rattle.rules.specs.Search.{View, viewed, blank, Stored, scored, score_view}
use Rattle.rules.proofs.BoolLaws.{and_left, and_right, cond_of}
use Rattle.rules.proofs.HitLaws.{Taken, hit-size}
use Rattle.rules.proofs.SoundLaws.{StoredSound}
use Rattle.rules.proofs.PointLaws.{ascii_cons, encoded-points, split-points}

-- ---- a weight
pub record Weight (w : ℕ → ℕ) : Type 0 where
  pub some : (x : ℕ) → 1 ≤ w x
  pub ascii : (x : ℕ) → x < 128 → w x ≡ 1
  pub lowers : (x : ℕ) → w (lowered x) ≤ w x

unfoldable pub weight : (ℕ → ℕ) → List ℕ → ℕ
weight w [] = 0
weight w (x ∷ xs) = w x + weight w xs

-- lines, with a newline each
unfoldable pub size_by : (ℕ → ℕ) → List (List ℕ) → ℕ
size_by w [] = 0
size_by w (l ∷ ls) = suc (weight w l) + size_by w ls

abbrev dark : ℕ → Bool
dark x = not (space x)

-- ---- URLs: a text that starts with w, whose bytes are no spaces
starts-lead : (w s : List ℕ) → every dark w ≡ true → starts w s ≡ true → length w + lead dark (drop (length w) s) ≤ lead dark s
unfolding every starts lead
starts-lead [] s d h = omega arith
starts-lead (w ∷ ws) [] d h = absurd (false≢true h)
starts-lead (w ∷ ws) (x ∷ xs) d h =
    let e : w ≡ x = eqb-true w x (and_left (eqb w x) (starts ws xs) h) in
    let c = and_left (dark w) (every dark ws) d in
    let n : space x ≡ false = ap space (sym e) ∙ not-true (space w) c in
    let more = starts-lead ws xs (and_right (dark w) (every dark ws) d) (and_right (eqb w x) (starts ws xs) h) in
    simp n (omega arith)

solid-lead : (s : List ℕ) → solid s ≡ true → 1 ≤ lead dark s
unfolding solid lead
solid-lead [] h = absurd (false≢true h)
solid-lead (x ∷ xs) h = simp (not-true (space x) h) (omega arith)

scheme_lead : (w s : List ℕ) → every dark w ≡ true → starts w s && solid (drop (length w) s) ≡ true → length w < lead dark s
scheme_lead w s d h =
    omega (arith, starts-lead w s d (and_left (starts w s) (solid (drop (length w) s)) h), solid-lead (drop (length w) s) (and_right (starts w s) (solid (drop (length w) s)) h))

-- a URL begins with eight code points or more that are no spaces
url-lead : (s : List ℕ) → url s ≡ true → 8 ≤ lead dark s
unfolding url text every space within
url-lead s h = at (starts (text "http://") s && solid (drop 7 s)) refl h
  where
    at : (t : Bool) → starts (text "http://") s && solid (drop 7 s) ≡ t → t || (starts (text "https://") s && solid (drop 8 s)) ≡ true → 8 ≤ lead dark s
    at true q k = omega (arith, scheme_lead (text "http://") s refl q)
    at false q k = omega (arith, scheme_lead (text "https://") s refl k)

boxed_ascii : ascii (text "http://blackboxed/url") ≡ true
unfolding ascii every text
boxed_ascii = refl

boxed_long : length (text "http://blackboxed/url") ≡ 21
unfolding text
boxed_long = refl

module _ {w : ℕ → ℕ} (m : Weight w) where
  -- ---- lists
  pub weight-append : (a b : List ℕ) → weight w (a ++ b) ≡ weight w a + weight w b
  unfolding weight
  weight-append [] b = omega arith
  weight-append (x ∷ a) b = omega (arith, weight-append a b)

  pub weight-drop : (n : ℕ) (s : List ℕ) → weight w (drop n s) ≤ weight w s
  unfolding weight
  weight-drop zero s = omega arith
  weight-drop (suc n) [] = omega arith
  weight-drop (suc n) (x ∷ s) = omega (arith, weight-drop n s)

  -- what stands before a place weighs as much as it is long, or more
  pub weight-front : (n : ℕ) (s : List ℕ) → n ≤ length s → n + weight w (drop n s) ≤ weight w s
  unfolding weight
  weight-front zero s h = omega arith
  weight-front (suc n) [] h = omega arith
  weight-front (suc n) (x ∷ s) h = omega (arith, weight-front n s (omega arith), m.some x)

  weight-ascii : (s : List ℕ) → ascii s ≡ true → weight w s ≡ length s
  unfolding weight
  weight-ascii [] h = refl
  weight-ascii (x ∷ s) h = let c = ascii_cons x s h in omega (arith, m.ascii x (ltb-true x 128 c.0), weight-ascii s c.1)

  -- ---- passes that shrink
  pub keep-weight : (p : ℕ → Bool) (s : List ℕ) → weight w (keep p s) ≤ weight w s
  unfolding keep weight
  keep-weight p [] = zero-le
  keep-weight p (x ∷ xs) = at (p x) (keep-weight p xs)
    where
      at : (t : Bool) → weight w (keep p xs) ≤ weight w xs → weight w (cond t (x ∷ []) [] ++ keep p xs) ≤ w x + weight w xs
      at true h = omega arith
      at false h = omega arith

  pub runs-weight : (p : ℕ → Bool) (r : ℕ) → r < 128 → (inside : Bool) (s : List ℕ) → weight w (runs p r inside s) ≤ weight w s
  unfolding runs weight
  runs-weight p r l inside [] = zero-le
  runs-weight p r l inside (x ∷ xs) = at (p x) inside (runs-weight p r l (p x) xs)
    where
      at : (t u : Bool) → weight w (runs p r (p x) xs) ≤ weight w xs → weight w (cond t (cond u [] (r ∷ [])) (x ∷ []) ++ runs p r (p x) xs) ≤ w x + weight w xs
      at true true h = omega arith
      at true false h = omega (arith, m.some x, m.ascii r l)
      at false u h = omega arith

  trim_start-weight : (s : List ℕ) → weight w (trim_start s) ≤ weight w s
  unfolding trim_start weight
  trim_start-weight [] = zero-le
  trim_start-weight (x ∷ xs) = cond_of (λ (l : List ℕ). weight w l ≤ w x + weight w xs) (space x) (trim_start xs) (x ∷ xs) (omega (arith, trim_start-weight xs)) (omega arith)

  add_front-weight : (x : ℕ) (s : List ℕ) → weight w (add_front x s) ≤ w x + weight w s
  unfolding add_front weight
  add_front-weight x [] = cond_of (λ (l : List ℕ). weight w l ≤ w x + 0) (space x) [] (x ∷ []) (omega arith) (omega arith)
  add_front-weight x (y ∷ ys) = omega arith

  trim_end-weight : (s : List ℕ) → weight w (trim_end s) ≤ weight w s
  unfolding trim_end weight
  trim_end-weight [] = zero-le
  trim_end-weight (x ∷ xs) = omega (arith, add_front-weight x (trim_end xs), trim_end-weight xs)

  pub trim-weight : (s : List ℕ) → weight w (trim s) ≤ weight w s
  unfolding trim
  trim-weight s = omega (arith, trim_end-weight (trim_start s), trim_start-weight s)

  -- what is trimmed in front counts: where a trimmed text starts, and what it weighs
  trim_start-lead : (s : List ℕ) → lead space s + weight w (trim_start s) ≤ weight w s
  unfolding trim_start lead weight
  trim_start-lead [] = zero-le
  trim_start-lead (x ∷ xs) = at (space x) (trim_start-lead xs)
    where
      at : (t : Bool) → lead space xs + weight w (trim_start xs) ≤ weight w xs → cond t (suc (lead space xs)) 0 + weight w (cond t (trim_start xs) (x ∷ xs)) ≤ w x + weight w xs
      at true h = omega (arith, m.some x)
      at false h = omega arith

  pub trim-lead : (s : List ℕ) → lead space s + weight w (trim s) ≤ weight w s
  unfolding trim
  trim-lead s = omega (arith, trim_start-lead s, trim_end-weight (trim_start s))

  runs-within : (p : ℕ → Bool) (r : ℕ) → r < 128 → (n : ℕ) (s : List ℕ) → weight w s ≤ n → weight w (runs p r false s) ≤ n
  runs-within p r l n s h = omega (arith, runs-weight p r l false s)

  signs-weight : (n : ℕ) (s : List ℕ) → weight w s ≤ n → weight w (signs s) ≤ n
  unfolding signs
  signs-weight n s h =
      runs-within _ 95 (omega arith) n _ (runs-within _ 41 (omega arith) n _ (runs-within _ 40 (omega arith) n _ (runs-within _ 45 (omega arith) n _ (runs-within _ 39 (omega arith) n s h))))

  -- ---- 21 for each 8
  urls-both : (s : List ℕ) → (8 * weight w (urls false s) ≤ 21 * weight w s) × (8 * weight w (urls true s) + 21 * lead dark s ≤ 21 * weight w s)
  unfolding urls lead weight
  urls-both [] = (omega arith, omega arith)
  urls-both (x ∷ xs) = at (space x) refl (url (x ∷ xs)) refl (urls-both xs)
    where
      at : (t : Bool) → space x ≡ t → (u : Bool) → url (x ∷ xs) ≡ u →
          (8 * weight w (urls false xs) ≤ 21 * weight w xs) × (8 * weight w (urls true xs) + 21 * lead dark xs ≤ 21 * weight w xs) →
          (8 * weight w (urls false (x ∷ xs)) ≤ 21 * weight w (x ∷ xs)) × (8 * weight w (urls true (x ∷ xs)) + 21 * lead dark (x ∷ xs) ≤ 21 * weight w (x ∷ xs))
      at true q true r h = let z : 8 ≤ 0 = simp q at (url-lead (x ∷ xs) r) in omega arith
      at true q false r h = let o = m.some x in simp (q, r) (omega arith, omega arith)
      at false q true r h =
          let o = m.some x in
          let z : 8 ≤ suc (lead dark xs) = simp q at (url-lead (x ∷ xs) r) in
          let b : weight w (text "http://blackboxed/url") ≡ 21 = weight-ascii (text "http://blackboxed/url") boxed_ascii ∙ boxed_long in
          let a = weight-append (text "http://blackboxed/url") (urls true xs) in
          simp (q, r) (omega arith, omega arith)
      at false q false r h = let o = m.some x in simp (q, r) (omega arith, omega arith)

  pub urls-weight : (s : List ℕ) → 8 * weight w (urls false s) ≤ 21 * weight w s
  urls-weight s = (urls-both s).0

  -- over any set of pass 4
  pub line-weight : (set : ℕ → Bool) (s : List ℕ) → 8 * weight w (line_by set s) ≤ 21 * weight w (points s)
  unfolding line_by
  line-weight set s =
      let two = keep (λ x. not (dropped x)) (points s) in
      let three = urls false two in
      let four = runs set 32 false three in
      let k = keep-weight (λ x. not (dropped x)) (points s) in
      let r = runs-weight set 32 (omega arith) false three in
      omega (arith, trim-weight (signs four), signs-weight (weight w four) four (omega arith), urls-weight two)

  -- ---- the aggressive passes shrink
  vertical-weight : (k : ℕ) (s : List ℕ) → weight w (vertical k s) ≤ weight w s
  unfolding vertical weight
  vertical-weight k [] = zero-le
  vertical-weight k (x ∷ xs) = at (within 10 13 x) (ltb k 2) (vertical-weight (cond (within 10 13 x) (k + 1) 0) xs)
    where
      more : List ℕ
      more = vertical (cond (within 10 13 x) (k + 1) 0) xs

      at : (t u : Bool) → weight w more ≤ weight w xs → weight w (cond t (cond u (10 ∷ []) []) (x ∷ []) ++ more) ≤ w x + weight w xs
      at true true h = omega (arith, m.some x, m.ascii 10 (omega arith))
      at true false h = omega arith
      at false u h = omega arith

  lowered-weight : (s : List ℕ) → weight w (map lowered s) ≤ weight w s
  unfolding weight
  lowered-weight [] = zero-le
  lowered-weight (x ∷ xs) = omega (arith, m.lowers x, lowered-weight xs)

  without_title-weight : (s : List ℕ) → weight w (without_title s) ≤ weight w s
  unfolding without_title
  without_title-weight s =
      let n = line_len s in
      let t = title_line (take n s) && starts (text "\n\n") (drop n s) in
      cond_of (λ (l : List ℕ). weight w l ≤ weight w s) t (drop (n + 2) s) s (weight-drop (n + 2) s) (omega arith)

  -- passes 2 to 4
  pub first-weight : (s : List ℕ) → weight w (map lowered (keep (λ x. word x || space x) (vertical 0 s))) ≤ weight w s
  first-weight s =
      let two = vertical 0 s in
      let three = keep (λ x. word x || space x) two in
      omega (arith, vertical-weight 0 s, keep-weight (λ x. word x || space x) two, lowered-weight three)

  -- k code points of s belong to a hit already
  pub without-within : (start fresh : Bool) (k : ℕ) (s : List ℕ) → weight w (without_copyright start fresh k s) + min k (length s) ≤ weight w s
  unfolding without_copyright text weight
  without-within start fresh k [] = omega arith
  without-within start fresh zero (x ∷ xs) = at (hit start fresh (x ∷ xs)) (hit-size start fresh (x ∷ xs)) (without-within false (newline x) (hit start fresh (x ∷ xs) - 1) xs)
    where
      at : (n : ℕ) → Taken (x ∷ xs) n → weight w (without_copyright false (newline x) (n - 1) xs) + min (n - 1) (length xs) ≤ weight w xs →
          weight w (cond (ltb 0 n) (text "\n\n") (x ∷ []) ++ without_copyright false (newline x) (n - 1) xs) + min 0 (suc (length xs)) ≤ w x + weight w xs
      at n (inl e) h = simp (le-ltb 0 n (omega arith)) (omega arith)
      at n (inr p) h = let a = m.some x in let b = m.ascii 10 (omega arith) in simp (lt-ltb 0 n (omega arith)) (omega arith)
  without-within start fresh (suc k) (x ∷ xs) = omega (arith, m.some x, without-within false (newline x) k xs)

  pub passes-weight : (s : List ℕ) → weight w (passes s) ≤ weight w s
  unfolding passes
  passes-weight s =
      let four = map lowered (keep (λ x. word x || space x) (vertical 0 s)) in
      let five = without_title four in
      let six = without_copyright true true 0 five in
      let seven = runs space 32 false six in
      omega (
        arith,
        first-weight s,
        without_title-weight four,
        without-within true true 0 five,
        runs-weight space 32 (omega arith) false six,
        trim-weight seven,
      )

  -- ---- lines
  pub join-weight : (ls : List (List ℕ)) → weight w (join ls) ≤ size_by w ls
  unfolding join size_by weight
  join-weight [] = zero-le
  join-weight (l ∷ []) = omega arith
  join-weight (l ∷ n ∷ ns) = omega (arith, join-weight (n ∷ ns), weight-append l (10 ∷ join (n ∷ ns)), m.ascii 10 (omega arith))

  size_by-take : (n : ℕ) (ls : List (List ℕ)) → size_by w (take n ls) ≤ size_by w ls
  unfolding size_by
  size_by-take zero ls = zero-le
  size_by-take (suc n) [] = zero-le
  size_by-take (suc n) (l ∷ ls) = omega (arith, size_by-take n ls)

  size_by-drop : (n : ℕ) (ls : List (List ℕ)) → size_by w (drop n ls) ≤ size_by w ls
  unfolding size_by
  size_by-drop zero ls = omega arith
  size_by-drop (suc n) [] = zero-le
  size_by-drop (suc n) (l ∷ ls) = omega (arith, size_by-drop n ls)

  pub viewed-size_by : (ls : List (List ℕ)) (v : View) → size_by w (viewed ls v) ≤ size_by w ls
  unfolding viewed
  viewed-size_by ls v = omega (arith, size_by-take (v.end - v.start) (drop v.start ls), size_by-drop v.start ls)

  pub blank-size_by : (a e : ℕ) (ls : List (List ℕ)) → size_by w (blank a e ls) ≤ size_by w ls
  unfolding blank size_by weight
  blank-size_by a e [] = zero-le
  blank-size_by a zero (l ∷ ls) = omega arith
  blank-size_by zero (suc e) (l ∷ ls) = omega (arith, blank-size_by zero e ls)
  blank-size_by (suc a) (suc e) (l ∷ ls) = omega (arith, blank-size_by a e ls)

  strip-size : (p : List ℕ) (ls : List (List ℕ)) → size_by w (map (strip p) ls) ≤ size_by w ls
  unfolding size_by strip
  strip-size p [] = zero-le
  strip-size p (l ∷ ls) =
      let c = cond_of (λ (n : List ℕ). weight w n ≤ weight w l) (starts p l) (drop (length p) l) l (weight-drop (length p) l) (omega arith) in
      omega (arith, trim-weight (cond (starts p l) (drop (length p) l) l), strip-size p ls)

  without_prefix-size_by : (ls : List (List ℕ)) → size_by w (without_prefix ls) ≤ size_by w ls
  unfolding without_prefix strip_winner
  without_prefix-size_by ls = at (see_all [] (prefixes ls))
    where
      at : (es : List Counted) → size_by w (strip_winner es ls) ≤ size_by w ls
      at [] = omega arith
      at (e ∷ es) =
          let p = (winner e es).bytes in
          let t = ltb (reach p (e ∷ es)) (four_fifths (length ls)) in
          cond_of (λ (ms : List (List ℕ)). size_by w ms ≤ size_by w ls) t ls (map (strip p) ls) (omega arith) (strip-size p ls)

  pub aggressive-weight : (ls : List (List ℕ)) → weight w (aggressive ls) ≤ size_by w ls
  unfolding aggressive
  aggressive-weight ls = omega (arith, passes-weight (join (without_prefix ls)), join-weight (without_prefix ls), without_prefix-size_by ls)

  -- ---- the lines of a text: a newline weighs 1
  on_first-size : (x : ℕ) (ls : List (List ℕ)) → 1 ≤ length ls → size_by w (on_first x ls) ≡ w x + size_by w ls
  unfolding on_first size_by weight
  on_first-size x [] h = omega arith
  on_first-size x (l ∷ ls) h = omega arith

  split-some : (c : ℕ) (s : List ℕ) → 1 ≤ length (split c s)
  unfolding split on_first
  split-some c [] = omega arith
  split-some c (x ∷ xs) =
      cond_of (λ (ls : List (List ℕ)). 1 ≤ length ls) (eqb x c) ([] ∷ split c xs) (on_first x (split c xs)) (omega arith) (at (split c xs))
    where
      at : (ls : List (List ℕ)) → 1 ≤ length (on_first x ls)
      at [] = omega arith
      at (l ∷ ls) = omega arith

  pub split-size : (c : ℕ) → c < 128 → (s : List ℕ) → size_by w (split c s) ≡ suc (weight w s)
  unfolding split size_by weight
  split-size c l [] = refl
  split-size c l (x ∷ xs) = at (eqb x c) refl (split-size c l xs)
    where
      at : (t : Bool) → eqb x c ≡ t → size_by w (split c xs) ≡ suc (weight w xs) → size_by w (cond t ([] ∷ split c xs) (on_first x (split c xs))) ≡ suc (w x + weight w xs)
      at true q h =
          let e : x ≡ c = eqb-true x c q in
          let o : w x ≡ 1 = ap w e ∙ m.ascii c l in
          omega arith
      at false q h = omega (arith, on_first-size x (split c xs) (split-some c xs))

  map-line-size : (set : ℕ → Bool) (ps : List (List ℕ)) → 8 * size_by w (map (line_by set) ps) ≤ 21 * size_by w (map points ps)
  unfolding size_by
  map-line-size set [] = omega arith
  map-line-size set (p ∷ ps) = omega (arith, line-weight set p, map-line-size set ps)

  -- of a text that no edition refuses
  lines_by-weight : (set : ℕ → Bool) (t : List ℕ) → utf8 false t ≡ true → 8 * size_by w (lines_by set t) ≤ 21 * suc (weight w (points t))
  unfolding lines_by
  lines_by-weight set t u =
      let e = ap (size_by w) (split-points t u) in
      omega (arith, map-line-size set (split 10 t), split-size 10 (omega arith) (points t))

-- ---- weight 1 is the length
pub one : Weight (λ x. 1)
one = record { some = λ x. omega arith; ascii = λ x h. refl; lowers = λ x. omega arith }

pub one-length : (s : List ℕ) → weight (λ x. 1) s ≡ length s
unfolding weight
one-length [] = refl
one-length (x ∷ s) = omega (arith, one-length s)

pub keep-length : (p : ℕ → Bool) (s : List ℕ) → length (keep p s) ≤ length s
keep-length p s = omega (arith, keep-weight one p s, one-length (keep p s), one-length s)

pub runs-length : (p : ℕ → Bool) (r : ℕ) → r < 128 → (inside : Bool) (s : List ℕ) → length (runs p r inside s) ≤ length s
runs-length p r l inside s = omega (arith, runs-weight one p r l inside s, one-length (runs p r inside s), one-length s)

pub signs-length : (s : List ℕ) → length (signs s) ≤ length s
signs-length s = omega (arith, signs-weight one (weight (λ x. 1) s) s (omega arith), one-length (signs s), one-length s)

pub trim-length : (s : List ℕ) → length (trim s) ≤ length s
trim-length s = omega (arith, trim-weight one s, one-length (trim s), one-length s)

pub urls-length : (s : List ℕ) → 8 * length (urls false s) ≤ 21 * length s
urls-length s = omega (arith, urls-weight one s, one-length (urls false s), one-length s)

-- ---- the width in UTF-8
unfoldable pub width : ℕ → ℕ
width x = cond (ltb x 128) 1 2

width-most : (t : Bool) → cond t 1 2 ≤ 2
width-most true = omega arith
width-most false = omega arith

-- below 128 lower case is below 128
pub low-lowered : (x : ℕ) → x < 128 → lowered x < 128
unfolding lowered upper within
low-lowered x h = at (leb 65 x && leb x 90) refl (leb 192 x && leb x 222 && not (eqb x 215)) refl
  where
    at : (t : Bool) → leb 65 x && leb x 90 ≡ t → (u : Bool) → leb 192 x && leb x 222 && not (eqb x 215) ≡ u → cond (t || u) (x + 32) x < 128
    at true q u r = omega (arith, leb-true x 90 (and_right (leb 65 x) (leb x 90) q))
    at false q true r = absurd (none (leb-true 192 x (and_left (leb 192 x) (leb x 222) (and_left (leb 192 x && leb x 222) (not (eqb x 215)) r))))
      where
        none : 192 ≤ x → ⊥
        none k = omega arith
    at false q false r = h

pub two : Weight width
unfolding width
two = record { some = λ x. some (ltb x 128); ascii = λ x h. rw (lt-ltb x 128 h); lowers = λ x. lowers x (ltb x 128) refl }
  where
    some : (t : Bool) → 1 ≤ cond t 1 2
    some true = omega arith
    some false = omega arith

    lowers : (x : ℕ) (t : Bool) → ltb x 128 ≡ t → cond (ltb (lowered x) 128) 1 2 ≤ cond (ltb x 128) 1 2
    lowers x true q = rw (q, lt-ltb (lowered x) 128 (low-lowered x (ltb-true x 128 q))) (omega arith)
    lowers x false q = rw q (width-most (ltb (lowered x) 128))

pub width-encoded : (s : List ℕ) → weight width s ≡ length (encoded s)
unfolding weight width encoded
width-encoded [] = refl
width-encoded (x ∷ s) = at (ltb x 128) (width-encoded s)
  where
    at : (t : Bool) → weight width s ≡ length (encoded s) → cond t 1 2 + weight width s ≡ length (cond t (x ∷ []) ((192 + x / 64) ∷ (128 + x % 64) ∷ []) ++ encoded s)
    at true h = omega arith
    at false h = omega arith

width-size : (ls : List (List ℕ)) → size_by width ls ≡ size ls
unfolding size_by size
width-size [] = refl
width-size (l ∷ ls) = omega (arith, width-encoded l, width-size ls)

-- what is written is as long or longer
width-more : (s : List ℕ) → length s ≤ weight width s
unfolding weight
width-more [] = zero-le
width-more (x ∷ s) = omega (arith, two.some x, width-more s)

pub encoded-more : (s : List ℕ) → length s ≤ length (encoded s)
encoded-more s = omega (arith, width-more s, width-encoded s)

pub join-size : (ls : List (List ℕ)) → length (encoded (join ls)) ≤ size ls
join-size ls = omega (arith, join-weight two ls, width-encoded (join ls), width-size ls)

pub viewed-size : (ls : List (List ℕ)) (v : View) → size (viewed ls v) ≤ size ls
viewed-size ls v = omega (arith, viewed-size_by two ls v, width-size (viewed ls v), width-size ls)

pub blank-size : (a e : ℕ) (ls : List (List ℕ)) → size (blank a e ls) ≤ size ls
blank-size a e ls = omega (arith, blank-size_by two a e ls, width-size (blank a e ls), width-size ls)

pub without_prefix-size : (ls : List (List ℕ)) → size (without_prefix ls) ≤ size ls
without_prefix-size ls = omega (arith, without_prefix-size_by two ls, width-size (without_prefix ls), width-size ls)

-- what a view writes
pub aggressive-length : (ls : List (List ℕ)) → length (encoded (aggressive ls)) ≤ size ls
aggressive-length ls = omega (arith, aggressive-weight two ls, width-encoded (aggressive ls), width-size ls)

pub lines_by-size : (set : ℕ → Bool) (t : List ℕ) → utf8 false t ≡ true → 8 * size (lines_by set t) ≤ 21 * suc (length t)
lines_by-size set t u =
    omega (arith, lines_by-weight two set t u, width-size (lines_by set t), width-encoded (points t), ap length (encoded-points t u))

pub lines-size : (e : ℕ) (t : List ℕ) → utf8 false t ≡ true → 8 * size (lines e t) ≤ 21 * suc (length t)
unfolding lines
lines-size e t u = lines_by-size (gap e) t u

-- ---- bigrams
pairs-length : (ws : List (List ℕ)) → length (pairs ws) ≤ length ws - 1
unfolding pairs
pairs-length [] = omega arith
pairs-length (a ∷ []) = omega arith
pairs-length (a ∷ b ∷ ws) = omega (arith, pairs-length (b ∷ ws))

size_by-most : (ls : List (List ℕ)) → length ls ≤ size_by (λ x. 1) ls
unfolding size_by
size_by-most [] = zero-le
size_by-most (l ∷ ls) = omega (arith, size_by-most ls)

pub bigrams-length : (s : List ℕ) → length (bigrams s) ≤ length s
unfolding bigrams
bigrams-length s = omega (arith, pairs-length (split 32 s), size_by-most (split 32 s), split-size one 32 (omega arith) s, one-length s)

-- of any view of a text that is not refused, also with lines blanked: 21 for each 8 of 1,048,577
pub view-few : (e : ℕ) (t : List ℕ) (ls : List (List ℕ)) (v : View) → utf8 false t ≡ true → length t ≤ text_most → size ls ≤ size (lines e t) →
    (view_table (viewed ls v)).total ≤ 2_752_514
unfolding view_table table_of
view-few e t ls v u h k =
    omega (arith, bigrams-length (encoded (aggressive (viewed ls v))), aggressive-length (viewed ls v), viewed-size ls v, lines-size e t u)

pub view-total : (e : ℕ) (t : List ℕ) (ls : List (List ℕ)) (v : View) → utf8 false t ≡ true → length t ≤ text_most → size ls ≤ size (lines e t) →
    (view_table (viewed ls v)).total ≤ total_most
view-total e t ls v u h k = omega (arith, view-few e t ls v u h k)

-- t of a scoring against a stored text of a sound book: two tables at `total_most` would have 2 ^ 24, a view has fewer
pub scoring_t : (e : ℕ) (t : List ℕ) (ls : List (List ℕ)) (v : View) (s : Stored) → utf8 false t ≡ true → length t ≤ text_most → size ls ≤ size (lines e t) →
    StoredSound s → (score_view ls s v).value.t < 2 ^ 24
unfolding score_view scored value_of
scoring_t e t ls v s u h k q = omega (arith, view-few e t ls v u h k, q.total-to)
