-- Two words of a table byte by byte (`terms_from`), that this is `two_terms` of the pieces between spaces, and what it says by the character in front.
-- Assumes nothing.
use mathlib.Core.Path.{◌≡◌, refl, sym, ap, ◌∙◌}
use mathlib.Core.Bool.{Bool, true, false, not, ◌&&◌, ◌||◌, cond, false≢true}
use mathlib.Core.List.{List, [], ◌∷◌}
use Prim.Native.Nat.{ℕ, ◌+◌, ◌-◌, ◌*◌, ◌%◌, ◌≤◌, ◌<◌}
use native.Mathlib.Omega.{arith}
use lib.Dec.{ltb, leb, eqb}
use borrow.Author.Tests.{lt-ltb, le-ltb, ltb-true, ltb-false, eq-eqb, ne_eqb, le-leb, lt-leb, leb-true}
use lib.ListN.{length, get_or, drop}
use lib.Seq.{drop-drop}
use Rattle.lists.proofs.SliceLaws.{drop-next, drop-done}
use Rattle.rules.specs.Bytes.{within, among, lower, digit, every, split, on_first}
use Rattle.rules.specs.Points.{opens, utf8, ascii, taken, points_on, points}
use Rattle.rules.specs.Book.{term, two_terms}
use Rattle.rules.proofs.BoolLaws.{and_left, and_right}
use Rattle.rules.proofs.PointLaws.{low-opens, opens-range}
use Rattle.detection_terms.specs.Terms.{term_point, plain_term, wide_term, term_byte, next_high, terms_from}

-- ---- code points of a word: below 128, and from there on
abbrev pub plain_point : ℕ → Bool
plain_point x = within 97 122 x || digit x || eqb x 95

pub low_point : (x : ℕ) → ltb x 128 ≡ true → term_point x ≡ plain_point x
unfolding term_point lower within among
low_point x q =
    let l = ltb-true x 128 q in
    rw (ne_eqb x 170 (λ e. omega arith), ne_eqb x 181 (λ e. omega arith), ne_eqb x 186 (λ e. omega arith), lt-leb 223 x (omega arith)) (at (leb 97 x && leb x 122))
  where
    at : (a : Bool) → ((a || false) || false || digit x || eqb x 95) ≡ (a || digit x || eqb x 95)
    at true = refl
    at false = refl

pub high_point : (x : ℕ) → ltb x 128 ≡ false → plain_point x ≡ false
unfolding digit within
high_point x q =
    let l = ltb-false x 128 q in
    rw (le-leb 97 x (omega arith), lt-leb x 122 (omega arith), le-leb 48 x (omega arith), lt-leb x 57 (omega arith)) (ne_eqb x 95 (λ e. omega arith))

-- ---- a code point of two bytes
pub wide_closed : (x : ℕ) (s : List ℕ) → opens x ≡ false → wide_term x s ≡ false
unfolding wide_term
wide_closed x [] h = refl
wide_closed x (y ∷ ys) h = rw h

pub wide-within : (x : ℕ) (s : List ℕ) (i : ℕ) → wide_term x (drop i s) ≡ true → i < length s
unfolding wide_term
wide-within x s i h = at (ltb i (length s)) refl
  where
    at : (t : Bool) → ltb i (length s) ≡ t → i < length s
    at true q = ltb-true i (length s) q
    at false q = absurd (false≢true (sym (ap (wide_term x) (drop-done s i (ltb-false i (length s) q))) ∙ h))

-- ---- one word: behind a byte that adds `high`
unfoldable pub word_on : Bool → ℕ → List ℕ → Bool
word_on wide high [] = eqb high 0
word_on wide high (x ∷ xs) = term_byte wide high x && word_on wide (next_high wide high x) xs

high-low : (x : ℕ) → opens x ≡ true → ltb x 128 ≡ false
high-low x o = le-ltb x 128 (omega (arith, (opens-range x o).0))

swap : (a u p e : Bool) → ((a && u) && (p && e)) ≡ ((a && p) && (u && e))
swap true true true e = refl
swap true true false e = refl
swap true false true e = refl
swap true false false e = refl
swap false u p e = refl

wide-on : (high : ℕ) (w : List ℕ) → (utf8 (not (eqb high 0)) w && every term_point (points_on high w)) ≡ word_on true high w
unfolding word_on utf8 points_on every term_byte next_high
wide-on high [] = at (eqb high 0)
  where
    at : (z : Bool) → (not (not z) && true) ≡ z
    at true = refl
    at false = refl
wide-on high (x ∷ xs) = at (eqb high 0) refl (opens x) refl (λ k. wide-on k xs)
  where
    at : (z : Bool) → eqb high 0 ≡ z → (o : Bool) → opens x ≡ o → ((k : ℕ) → (utf8 (not (eqb k 0)) xs && every term_point (points_on k xs)) ≡ word_on true k xs) →
        (utf8 (not (eqb high 0)) (x ∷ xs) && every term_point (points_on high (x ∷ xs))) ≡ word_on true high (x ∷ xs)
    at true q true o go =
        let r = opens-range x o in
        let n : eqb (64 * (x - 192)) 0 ≡ false = ne_eqb (64 * (x - 192)) 0 (λ e. omega (arith, r.0)) in
        let g : (utf8 true xs && every term_point (points_on (64 * (x - 192)) xs)) ≡ word_on true (64 * (x - 192)) xs = rw n at (go (64 * (x - 192))) in
        rw (q, o, high-low x o) g
    at true q false o go = low (ltb x 128) refl
      where
        low : (t : Bool) → ltb x 128 ≡ t → (utf8 (not (eqb high 0)) (x ∷ xs) && every term_point (points_on high (x ∷ xs))) ≡ word_on true high (x ∷ xs)
        low true l = rw (q, o, l) (swap true (utf8 false xs) (term_point x) (every term_point (points_on 0 xs)) ∙ ap (λ (b : Bool). term_point x && b) (go 0))
        low false l = rw (q, o, l)
    at false q o r go =
        rw q (swap (within 128 191 x) (utf8 false xs) (term_point (high + x % 64)) (every term_point (points_on 0 xs)) ∙
        ap (λ (b : Bool). (within 128 191 x && term_point (high + x % 64)) && b) (go 0))

ascii-on : (w : List ℕ) → (ascii w && every term_point (points_on 0 w)) ≡ word_on false 0 w
unfolding word_on points_on ascii every term_byte next_high
ascii-on [] = refl
ascii-on (x ∷ xs) = at (ltb x 128) refl (ascii-on xs)
  where
    at : (t : Bool) → ltb x 128 ≡ t → (ascii xs && every term_point (points_on 0 xs)) ≡ word_on false 0 xs →
        (ascii (x ∷ xs) && every term_point (points_on 0 (x ∷ xs))) ≡ word_on false 0 (x ∷ xs)
    at true q e =
        rw (q, low-opens x q) (swap true (ascii xs) (term_point x) (every term_point (points_on 0 xs)) ∙ ap (λ (b : Bool). term_point x && b) e)
    at false q e = rw q

-- a word of a table
pub term-on : (wide : Bool) (w : List ℕ) → term wide w ≡ (ltb 0 (length w) && word_on wide 0 w)
unfolding term taken points term_point
term-on true w = ap (λ (b : Bool). ltb 0 (length w) && b) (wide-on 0 w)
term-on false w = ap (λ (b : Bool). ltb 0 (length w) && b) (ascii-on w)

-- ---- two words
split-some : (s : List ℕ) (P : List (List ℕ) → Type 0) → ((w : List ℕ) (ws : List (List ℕ)) → P (w ∷ ws)) → P (split 32 s)
unfolding split on_first
split-some [] P k = k [] []
split-some (x ∷ xs) P k = at (eqb x 32)
  where
    on : (l : List (List ℕ)) → P (on_first x l)
    on [] = k (x ∷ []) []
    on (l ∷ ls) = k (x ∷ l) ls

    at : (t : Bool) → P (cond t ([] ∷ split 32 xs) (on_first x (split 32 xs)))
    at true = k [] (split 32 xs)
    at false = on (split 32 xs)

and_false : (a : Bool) → a && false ≡ false
and_false true = refl
and_false false = refl

and_assoc : (a b c : Bool) → a && b && c ≡ (a && (b && c))
and_assoc true b c = refl
and_assoc false b c = refl

or_true : (a : Bool) → a || true ≡ true
or_true true = refl
or_true false = refl

module _ (wide : Bool) where
  -- the same over the pieces between spaces
  one : Bool → ℕ → List ℕ → Bool
  one some high w = (some || ltb 0 (length w)) && word_on wide high w

  on_pieces : Bool → Bool → ℕ → List (List ℕ) → Bool
  on_pieces true some high [] = false
  on_pieces true some high (b ∷ []) = one some high b
  on_pieces true some high (b ∷ c ∷ ws) = false
  on_pieces false some high [] = false
  on_pieces false some high (a ∷ []) = false
  on_pieces false some high (a ∷ b ∷ []) = one some high a && one false 0 b
  on_pieces false some high (a ∷ b ∷ c ∷ ws) = false

  -- at a space
  space-step : (second some : Bool) (high : ℕ) (w : List ℕ) (ws : List (List ℕ)) →
      on_pieces second some high ([] ∷ w ∷ ws) ≡ (eqb high 0 && (not second && some && on_pieces true false 0 (w ∷ ws)))
  unfolding on_pieces one word_on
  space-step true some high w ws = sym (and_false (eqb high 0))
  space-step false some high w [] = at some (eqb high 0) (one false 0 w)
    where
      at : (s z r : Bool) → ((s || false) && z && r) ≡ (z && (true && s && r))
      at true true r = refl
      at true false r = refl
      at false true r = refl
      at false false r = refl
  space-step false some high w (v ∷ vs) = at (eqb high 0) some
    where
      at : (z s : Bool) → false ≡ (z && (true && s && false))
      at true true = refl
      at true false = refl
      at false s = refl

  -- at any other byte
  one_cons : (some : Bool) (high x : ℕ) (w : List ℕ) → one some high (x ∷ w) ≡ (term_byte wide high x && one true (next_high wide high x) w)
  unfolding one word_on
  one_cons some high x w = rw (lt-ltb 0 (length (x ∷ w)) (omega arith), or_true some)

  byte_step : (second some : Bool) (high x : ℕ) (w : List ℕ) (ws : List (List ℕ)) →
      on_pieces second some high ((x ∷ w) ∷ ws) ≡ (term_byte wide high x && on_pieces second true (next_high wide high x) (w ∷ ws))
  unfolding on_pieces
  byte_step true some high x w [] = one_cons some high x w
  byte_step true some high x w (v ∷ vs) = sym (and_false (term_byte wide high x))
  byte_step false some high x w [] = sym (and_false (term_byte wide high x))
  byte_step false some high x w (v ∷ []) =
      ap (λ (b : Bool). b && one false 0 v) (one_cons some high x w) ∙ and_assoc (term_byte wide high x) (one true (next_high wide high x) w) (one false 0 v)
  byte_step false some high x w (v ∷ u ∷ us) = sym (and_false (term_byte wide high x))

  pieces_terms : (s : List ℕ) (second some : Bool) (high : ℕ) → on_pieces second some high (split 32 s) ≡ terms_from wide second some high s
  unfolding terms_from split on_pieces on_first one word_on
  pieces_terms [] second some high = at second some (eqb high 0) refl
    where
      at : (a b z : Bool) → eqb high 0 ≡ z → on_pieces a b high ([] ∷ []) ≡ (eqb high 0 && (a && b))
      at true true true q = rw q
      at true true false q = rw q
      at true false true q = rw q
      at true false false q = rw q
      at false b true q = rw q
      at false b false q = rw q
  pieces_terms (x ∷ xs) second some high = at (eqb x 32) (λ a b h. pieces_terms xs a b h)
    where
      at : (t : Bool) → ((a b : Bool) (h : ℕ) → on_pieces a b h (split 32 xs) ≡ terms_from wide a b h xs) →
          on_pieces second some high (cond t ([] ∷ split 32 xs) (on_first x (split 32 xs))) ≡
          cond t (eqb high 0 && (not second && some && terms_from wide true false 0 xs)) (term_byte wide high x && terms_from wide second true (next_high wide high x) xs)
      at true go =
          split-some xs (λ (l : List (List ℕ)). on_pieces second some high ([] ∷ l) ≡ (eqb high 0 && (not second && some && on_pieces true false 0 l))) (space-step second some high) ∙
          ap (λ (b : Bool). eqb high 0 && (not second && some && b)) (go true false 0)
      at false go =
          split-some xs (λ (l : List (List ℕ)). on_pieces second some high (on_first x l) ≡ (term_byte wide high x && on_pieces second true (next_high wide high x) l)) (byte_step second some high x) ∙
          ap (λ (b : Bool). term_byte wide high x && b) (go second true (next_high wide high x))

  pub two_terms_lem : (s : List ℕ) → two_terms wide (split 32 s) ≡ terms_from wide false false 0 s
  unfolding two_terms on_pieces one
  two_terms_lem s = same (split 32 s) ∙ pieces_terms s false false 0
    where
      same : (l : List (List ℕ)) → two_terms wide l ≡ on_pieces false false 0 l
      same [] = refl
      same (a ∷ []) = refl
      same (a ∷ b ∷ []) = rw (term-on wide a, term-on wide b)
      same (a ∷ b ∷ c ∷ ws) = refl

  -- ---- by the character in front
  module _ (second some : Bool) (x : ℕ) (xs : List ℕ) where
    -- a space: the second, after an empty word, and the first behind a word
    module _ (e : x ≡ 32) where
      pub space_again : second ≡ true → terms_from wide second some 0 (x ∷ xs) ≡ false
      unfolding terms_from
      space_again a = rw (eq-eqb x 32 e, a)

      pub space-early : second ≡ false → some ≡ false → terms_from wide second some 0 (x ∷ xs) ≡ false
      unfolding terms_from
      space-early a b = rw (eq-eqb x 32 e, a, b)

      pub space-on : second ≡ false → some ≡ true → terms_from wide second some 0 (x ∷ xs) ≡ terms_from wide true false 0 xs
      unfolding terms_from
      space-on a b = rw (eq-eqb x 32 e, a, b)

    module _ (n : x ≡ 32 → ⊥) where
      other : terms_from wide second some 0 (x ∷ xs) ≡ (term_byte wide 0 x && terms_from wide second true (next_high wide 0 x) xs)
      unfolding terms_from
      other = rw (ne_eqb x 32 n)

      pub front-plain : plain_term x ≡ true → terms_from wide second some 0 (x ∷ xs) ≡ terms_from wide second true 0 xs
      unfolding plain_term term_byte next_high
      front-plain h =
          let q = and_left (ltb x 128) (term_point x) h in
          other ∙ rw (q, and_right (ltb x 128) (term_point x) h, low-opens x q, off wide)
        where
          off : (w : Bool) → w && false ≡ false
          off true = refl
          off false = refl

      module _ (p : plain_term x ≡ false) where
        -- what a byte that is no plain one is worth by itself
        alone : term_byte wide 0 x ≡ (wide && opens x)
        unfolding plain_term term_byte
        alone = at (ltb x 128) refl p
          where
            at : (t : Bool) → ltb x 128 ≡ t → (t && term_point x) ≡ false → cond t (term_point x) (wide && opens x) ≡ (wide && opens x)
            at true q h = rw (h, low-opens x q) (sym (and_false wide))
            at false q h = refl

        pub front-ascii : wide ≡ false → terms_from wide second some 0 (x ∷ xs) ≡ false
        front-ascii e = other ∙ ap (λ (b : Bool). b && terms_from wide second true (next_high wide 0 x) xs) (alone ∙ ap (λ (b : Bool). b && opens x) e)

        module _ (e : wide ≡ true) where
          opened : opens x ≡ true → terms_from wide second some 0 (x ∷ xs) ≡ terms_from wide second true (64 * (x - 192)) xs
          unfolding next_high
          opened o = other ∙ rw (alone, e, o)

          pub front-wide : (ys : List ℕ) → xs ≡ ys → wide_term x ys ≡ true → terms_from wide second some 0 (x ∷ xs) ≡ terms_from wide second true 0 (drop 1 ys)
          unfolding wide_term terms_from term_byte next_high
          front-wide [] f h = absurd (false≢true h)
          front-wide (y ∷ ys) f h =
              let o = and_left (opens x) (within 128 191 y) (and_left (opens x && within 128 191 y) (term_point (64 * (x - 192) + y % 64)) h) in
              let s = and_right (opens x) (within 128 191 y) (and_left (opens x && within 128 191 y) (term_point (64 * (x - 192) + y % 64)) h) in
              let t = and_right (opens x && within 128 191 y) (term_point (64 * (x - 192) + y % 64)) h in
              let r = opens-range x o in
              let z : eqb (64 * (x - 192)) 0 ≡ false = ne_eqb (64 * (x - 192)) 0 (λ q. omega (arith, r.0)) in
              let k : eqb y 32 ≡ false = ne_eqb y 32 (λ q. omega (arith, leb-true 128 y (and_left (leb 128 y) (leb y 191) (unfold within in s)))) in
              opened o ∙ rw (f, k, z, s, t, and_false wide)

          pub front_bad : (ys : List ℕ) → xs ≡ ys → wide_term x ys ≡ false → terms_from wide second some 0 (x ∷ xs) ≡ false
          unfolding wide_term terms_from term_byte
          front_bad ys f h = at (opens x) refl ys f h
            where
              at : (o : Bool) → opens x ≡ o → (ys : List ℕ) → xs ≡ ys → wide_term x ys ≡ false → terms_from wide second some 0 (x ∷ xs) ≡ false
              at false o ys f h =
                  let z : (wide && opens x) ≡ false = ap (λ (b : Bool). wide && b) o ∙ and_false wide in
                  other ∙ ap (λ (b : Bool). b && terms_from wide second true (next_high wide 0 x) xs) (alone ∙ z)
              at true o [] f h =
                  let r = opens-range x o in
                  opened o ∙ rw (f, ne_eqb (64 * (x - 192)) 0 (λ q. omega (arith, r.0)))
              at true o (y ∷ ys) f h =
                  let r = opens-range x o in
                  let z : eqb (64 * (x - 192)) 0 ≡ false = ne_eqb (64 * (x - 192)) 0 (λ q. omega (arith, r.0)) in
                  opened o ∙ rw (f, z) (second_bad (eqb y 32) (rw o at h))
                where
                  second_bad : (t : Bool) → (within 128 191 y && term_point (64 * (x - 192) + y % 64)) ≡ false →
                      cond t false ((within 128 191 y && term_point (64 * (x - 192) + y % 64)) && terms_from wide second true (next_high wide (64 * (x - 192)) y) ys) ≡ false
                  second_bad true h = refl
                  second_bad false h = rw h

  -- at the end
  module _ (second some : Bool) (s : List ℕ) (i : ℕ) (h : length s ≤ i) where
    pub end-second : second ≡ true → terms_from wide second some 0 (drop i s) ≡ some
    unfolding terms_from
    end-second a = rw (drop-done s i h, a)

    pub end-first : second ≡ false → terms_from wide second some 0 (drop i s) ≡ false
    unfolding terms_from
    end-first a = rw (drop-done s i h, a)

-- ---- a walk: what is left to read at i, where the second word begins at `start`, or the first is read and that is 0
abbrev pub left_at : Bool → List ℕ → ℕ → ℕ → Bool
left_at wide s start i = terms_from wide (ltb 0 start) (ltb start i) 0 (drop i s)

space-plain : plain_term 32 ≡ false
unfolding plain_term term_point lower digit within among
space-plain = refl

no-space : (x : ℕ) → plain_term x ≡ true → x ≡ 32 → ⊥
no-space x h e = false≢true (sym space-plain ∙ sym (ap plain_term e) ∙ h)

module _ (wide : Bool) (s : List ℕ) (start i : ℕ) (h : i < length s) (l : start ≤ i) where
  abbrev here : ℕ
  here = get_or s i 0

  abbrev rest : List ℕ
  rest = drop (i + 1) s

  front : left_at wide s start i ≡ terms_from wide (ltb 0 start) (ltb start i) 0 (here ∷ rest)
  front = ap (terms_from wide (ltb 0 start) (ltb start i) 0) (drop-next s i h)

  -- behind a character of the word it is not empty
  behind : (j : ℕ) → i < j → terms_from wide (ltb 0 start) true 0 (drop j s) ≡ left_at wide s start j
  behind j k = ap (λ (b : Bool). terms_from wide (ltb 0 start) b 0 (drop j s)) (sym (lt-ltb start j (omega arith)))

  pub on-plain : plain_term here ≡ true → left_at wide s start i ≡ left_at wide s start (i + 1)
  on-plain p = front ∙ front-plain wide (ltb 0 start) (ltb start i) here rest (no-space here p) p ∙ behind (i + 1) (omega arith)

  module _ (e : here ≡ 32) where
    pub on_again : (start ≡ 0 → ⊥) → left_at wide s start i ≡ false
    on_again n = front ∙ space_again wide (ltb 0 start) (ltb start i) here rest e (lt-ltb 0 start (omega (arith, n)))

    module _ (z : start ≡ 0) where
      pub on-early : i ≡ 0 → left_at wide s start i ≡ false
      on-early k = front ∙ space-early wide (ltb 0 start) (ltb start i) here rest e (le-ltb 0 start (omega arith)) (le-ltb start i (omega arith))

      pub on-space : (i ≡ 0 → ⊥) → left_at wide s start i ≡ left_at wide s (i + 1) (i + 1)
      on-space n =
          front ∙ space-on wide (ltb 0 start) (ltb start i) here rest e (le-ltb 0 start (omega arith)) (lt-ltb start i (omega (arith, n))) ∙
          ap (λ (a : Bool). terms_from wide a false 0 rest) (sym (lt-ltb 0 (i + 1) (omega arith))) ∙
          ap (λ (b : Bool). terms_from wide (ltb 0 (i + 1)) b 0 rest) (sym (le-ltb (i + 1) (i + 1) (omega arith)))

  module _ (n : here ≡ 32 → ⊥) (p : plain_term here ≡ false) where
    pub on-ascii : wide ≡ false → left_at wide s start i ≡ false
    on-ascii e = front ∙ front-ascii wide (ltb 0 start) (ltb start i) here rest n p e

    module _ (e : wide ≡ true) where
      pub on_bad : wide_term here rest ≡ false → left_at wide s start i ≡ false
      on_bad t = front ∙ front_bad wide (ltb 0 start) (ltb start i) here rest n p e rest refl t

      pub on-wide : wide_term here rest ≡ true → left_at wide s start i ≡ left_at wide s start (i + 1 + 1)
      on-wide t =
          front ∙ front-wide wide (ltb 0 start) (ltb start i) here rest n p e rest refl t ∙
          ap (terms_from wide (ltb 0 start) true 0) (drop-drop 1 (i + 1) s) ∙ behind (i + 1 + 1) (omega arith)

-- at the end
module _ (wide : Bool) (s : List ℕ) (start i : ℕ) (h : length s ≤ i) where
  pub left_one : start ≡ 0 → left_at wide s start i ≡ false
  left_one z = end-first wide (ltb 0 start) (ltb start i) s i h (le-ltb 0 start (omega arith))

  pub left_two : i ≤ length s → (start ≡ 0 → ⊥) → left_at wide s start i ≡ ltb start (length s)
  left_two k n =
      let same : i ≡ length s = omega arith in
      end-second wide (ltb 0 start) (ltb start i) s i h (lt-ltb 0 start (omega (arith, n))) ∙ ap (ltb start) same
