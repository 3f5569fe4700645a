-- Lent books: the texts of one book numbered from n on, of one book alone, of two, and where their names stand.
--     stored_from-is        numbered from n they are the book's own, n higher
--     stored_from-length, stored_from-at
--     shelved-one, shelved_empty, shelved_two
--     shelved-number, shelved-sound, shelved-most
--     part-is-name         the part's bytes are the text's name, whatever its number
--     names-length
--     parts_lie, part_lies each part lies in its book; so does the part of any text, and of none
-- Assumes nothing.
use mathlib.Core.Path.{◌≡◌, refl, sym, ap, ap₂, ◌∙◌}
use Prim.Native.Nat.{ℕ, zero, suc, ◌+◌, ◌-◌, ◌*◌, ◌≤◌, ◌<◌}
use native.Mathlib.Nat.{not-suc-le-zero, le_of_suc-le-suc, add-zero, zero-add, add-suc}
use native.Mathlib.Omega.{arith}
use mathlib.Core.Bool.{Bool, true, false, cond}
use mathlib.Core.List.{List, [], ◌∷◌, ◌++◌, map, append-nil}
use mathlib.Core.Option.{Option, none, some}
use lib.ListN.{length, get_or, take, drop, length-append, length-map, length-drop, get_or-append, get_or-map}
use lib.Seq.{get_or-append-add, drop-drop, length-take-le}
use lib.Dec.{ltb, eqb}
use borrow.Author.Tests.{ltb-true, ltb-false}
use Rattle.rules.specs.declared.Named.{Named}
use Rattle.rules.specs.Sizes.{stored_most}
use Rattle.rules.specs.Jobs.{name_part}
use Rattle.rules.specs.Search.{Stored, no_text, recurse, turns}
use Rattle.rules.specs.Book.{number, Front, front, also, go_on, pieces, record_form, Record, record_of, records_of, entries_of, stored_kind, table_in, stored_in, stored_of, stored_from, stored, sound, shelved, all_sound, names_in, no_part, names_of, name_parts, part_in, Lies}
use Rattle.rules.proofs.BoolLaws.{and_left, and_right}
use Rattle.rules.proofs.DownLaws.{Each, each_append}
use Rattle.rules.proofs.Steps.{front_cut, pieces_step}
use Rattle.rules.proofs.SoundLaws.{StoredSound, stored_from-sound, stored_from-number, sound-most}

-- ---- one book, numbered from n on
abbrev pub renumber : ℕ → Stored → Stored
renumber m s = record { number = m + s.number; name = s.name; kind = s.kind; table = s.table }

stored_in-is : (m n : ℕ) (name : List ℕ) (rs : List Record) → stored_in (m + n) name rs ≡ map (renumber m) (stored_in n name rs)
unfolding stored_in
stored_in-is m n name [] = refl
stored_in-is m n name (r ∷ rs) = at (stored_kind r.kind) (λ k. stored_in-is m k under rs)
  where
    under : List ℕ
    under = cond (eqb r.kind 1) r.body name

    this : ℕ → Stored
    this k = record { number = k; name = name; kind = r.kind; table = table_in r.body (entries_of r.body) }

    at : (t : Bool) → ((k : ℕ) → stored_in (m + k) under rs ≡ map (renumber m) (stored_in k under rs)) →
        cond t (this (m + n) ∷ []) [] ++ stored_in (cond t (suc (m + n)) (m + n)) under rs ≡
        map (renumber m) (cond t (this n ∷ []) [] ++ stored_in (cond t (suc n) n) under rs)
    at true go = ap (λ (ss : List Stored). this (m + n) ∷ ss) (ap (λ (k : ℕ). stored_in k under rs) (sym (add-suc m n)) ∙ go (suc n))
    at false go = go n

pub stored_from-is : (n : ℕ) (book : List ℕ) → stored_from n book ≡ map (renumber n) (stored book)
unfolding stored stored_from stored_of
stored_from-is n book = at (records_of book)
  where
    at : (o : Option (List Record)) → stored_of n o ≡ map (renumber n) (stored_of 0 o)
    at none = refl
    at (some rs) = ap (λ (k : ℕ). stored_in k [] rs) (sym (add-zero n)) ∙ stored_in-is n 0 [] rs

pub stored_from-length : (n : ℕ) (book : List ℕ) → length (stored_from n book) ≡ length (stored book)
stored_from-length n book = ap length (stored_from-is n book) ∙ length-map (stored book) (renumber n)

map_at : (f : Stored → Stored) (l : List Stored) (k : ℕ) → k < length l → get_or (map f l) k no_text ≡ f (get_or l k no_text)
map_at f [] k h = absurd (not-suc-le-zero h)
map_at f (x ∷ xs) zero h = refl
map_at f (x ∷ xs) (suc k) h = map_at f xs k (le_of_suc-le-suc h)

pub stored_from-at : (n : ℕ) (book : List ℕ) (k : ℕ) → k < length (stored book) → get_or (stored_from n book) k no_text ≡ renumber n (get_or (stored book) k no_text)
stored_from-at n book k h = ap (λ (ss : List Stored). get_or ss k no_text) (stored_from-is n book) ∙ map_at (renumber n) (stored book) k h

-- ---- the texts of one book alone, or beside an empty one; of two
pub shelved-one : (book : List ℕ) → shelved 0 (book ∷ []) ≡ stored book
unfolding shelved stored
shelved-one book = append-nil (stored_from 0 book)

pub shelved_two : (a b : List ℕ) → shelved 0 (a ∷ b ∷ []) ≡ stored a ++ stored_from (length (stored a)) b
unfolding shelved stored
shelved_two a b =
    ap (λ (ss : List Stored). stored_from 0 a ++ ss) (append-nil (stored_from (0 + length (stored_from 0 a)) b)) ∙
    ap (λ (n : ℕ). stored_from 0 a ++ stored_from n b) (zero-add (length (stored_from 0 a)))

stored_nothing : (n : ℕ) → stored_from n [] ≡ []
unfolding stored_from stored_of stored_in records_of pieces recurse turns go_on front
stored_nothing n = refl

pub shelved_empty : (book : List ℕ) → shelved 0 (book ∷ [] ∷ []) ≡ stored book
shelved_empty book =
    shelved_two book [] ∙ ap (λ (ss : List Stored). stored book ++ ss) (stored_nothing (length (stored book))) ∙ append-nil (stored book)

module _ (a b : List ℕ) where
  abbrev all : List Stored
  all = shelved 0 (a ∷ b ∷ [])

  pub two_length : length all ≡ length (stored a) + length (stored b)
  two_length =
      ap length (shelved_two a b) ∙ length-append (stored a) (stored_from (length (stored a)) b) ∙
      ap (λ (n : ℕ). length (stored a) + n) (stored_from-length (length (stored a)) b)

  -- text k of the first; text k of the second, which is N1 higher
  pub two_first : (k : ℕ) → k < length (stored a) → get_or all k no_text ≡ get_or (stored a) k no_text
  two_first k h =
      ap (λ (ss : List Stored). get_or ss k no_text) (shelved_two a b) ∙ get_or-append (stored a) (stored_from (length (stored a)) b) no_text k h

  pub two_second : (k : ℕ) → k < length (stored b) → get_or all (length (stored a) + k) no_text ≡ renumber (length (stored a)) (get_or (stored b) k no_text)
  two_second k h =
      let n = length (stored a) in
      ap (λ (ss : List Stored). get_or ss (n + k) no_text) (shelved_two a b) ∙ get_or-append-add (stored a) (stored_from n b) k no_text ∙ stored_from-at n b k h

-- ---- of any number of books
pub shelved-sound : (n : ℕ) (bs : List (List ℕ)) → all_sound bs ≡ true → Each StoredSound (shelved n bs)
unfolding shelved all_sound
shelved-sound n [] h = tt
shelved-sound n (b ∷ bs) h =
    let ss = stored_from n b in
    each_append StoredSound ss (shelved (n + length ss) bs) (stored_from-sound n b (and_left (sound b) (all_sound bs) h))
    (shelved-sound (n + length ss) bs (and_right (sound b) (all_sound bs) h))

pub shelved-most : (n : ℕ) (bs : List (List ℕ)) → all_sound bs ≡ true → length (shelved n bs) ≤ length bs * stored_most
unfolding shelved all_sound
shelved-most n [] h = omega arith
shelved-most n (b ∷ bs) h =
    let ss = stored_from n b in
    let more = shelved-most (n + length ss) bs (and_right (sound b) (all_sound bs) h) in
    let here = sound-most b (and_left (sound b) (all_sound bs) h) in
    omega (arith, length-append ss (shelved (n + length ss) bs), stored_from-length n b, here, more)

pub shelved-number : (n : ℕ) (bs : List (List ℕ)) (k : ℕ) → k < length (shelved n bs) → (get_or (shelved n bs) k no_text).number ≡ n + k
unfolding shelved
shelved-number n [] k h = absurd (not-suc-le-zero h)
shelved-number n (b ∷ bs) k h = at (ltb k (length ss)) refl (shelved-number (n + length ss) bs (k - length ss))
  where
    ss : List Stored
    ss = stored_from n b

    rest : List Stored
    rest = shelved (n + length ss) bs

    at : (t : Bool) → ltb k (length ss) ≡ t → (k - length ss < length rest → (get_or rest (k - length ss) no_text).number ≡ n + length ss + (k - length ss)) →
        (get_or (ss ++ rest) k no_text).number ≡ n + k
    at true q go =
        let l = ltb-true k (length ss) q in
        ap (λ (s : Stored). s.number) (get_or-append ss rest no_text k l) ∙ stored_from-number n b k l
    at false q go =
        let l = ltb-false k (length ss) q in
        let j = k - length ss in
        let e : length ss + j ≡ k = omega arith in
        let m = length-append ss rest in
        let i = go (omega arith) in
        ap (λ (i : ℕ). (get_or (ss ++ rest) i no_text).number) (sym e) ∙ ap (λ (s : Stored). s.number) (get_or-append-add ss rest j no_text) ∙ i ∙ omega arith

-- ---- where names stand
zero≢one : ◌≡◌ {A = ℕ} 0 1 → ⊥
zero≢one z = omega arith

-- a record at a place of the book, and those behind it
record-cut : (s : List ℕ) (r : Record) (rs : List Record) → records_of s ≡ some (r ∷ rs) →
    (take (length r.body) (drop 6 s) ≡ r.body) × (records_of (drop (6 + length r.body) s) ≡ some rs) × (6 + length r.body ≤ length s)
unfolding records_of go_on also record_of
record-cut s r rs e = at (front record_form s) refl (sym (pieces_step record_form record_of (omega arith) s) ∙ e)
  where
    at : (f : Front) → front record_form s ≡ f → go_on record_of records_of f ≡ some (r ∷ rs) →
        (take (length r.body) (drop 6 s) ≡ r.body) × (records_of (drop (6 + length r.body) s) ≡ some rs) × (6 + length r.body ≤ length s)
    at Front.end q e = let z : ◌≡◌ {A = ℕ} 0 1 = cc in absurd (zero≢one z)
    at (Front.whole p more) q e = go (records_of more) refl e
      where
        go : (o : Option (List Record)) → records_of more ≡ o → also (record_of p) o ≡ some (r ∷ rs) →
            (take (length r.body) (drop 6 s) ≡ r.body) × (records_of (drop (6 + length r.body) s) ≡ some rs) × (6 + length r.body ≤ length s)
        go none o e = let z : ◌≡◌ {A = ℕ} 0 1 = cc in absurd (zero≢one z)
        go (some xs) o e =
            let c = front_cut record_form s p more q in
            let n = number 4 (drop 0 s) in
            let b : r.body ≡ p.body = cc in
            let x : xs ≡ rs = cc in
            let m : length r.body ≡ n = ap length (b ∙ c.body) ∙ length-take-le n (drop 6 s) (omega (arith, c.fits, length-drop 6 s)) in (
              ap (λ (k : ℕ). take k (drop 6 s)) m ∙ sym c.body ∙ sym b,
              ap (λ (k : ℕ). records_of (drop (6 + k) s)) m ∙ ap records_of (sym c.rest) ∙ o ∙ ap (λ (ys : List Record). some ys) x,
              omega (arith, m, c.fits),
            )
    at Front.broken q e = let z : ◌≡◌ {A = ℕ} 0 1 = cc in absurd (zero≢one z)

module _ (a b : List ℕ) (second : Bool) where
  abbrev book : List ℕ
  book = cond second b a

  names_in_lem : (n place : ℕ) (p : Named) (name : List ℕ) (rs : List Record) → records_of (drop place book) ≡ some rs → part_in a b p ≡ name →
      map (part_in a b) (names_in second place p rs) ≡ map (λ s. s.name) (stored_in n name rs)
  unfolding names_in stored_in
  names_in_lem n place p name [] e h = refl
  names_in_lem n place p name (r ∷ rs) e h =
      at (stored_kind r.kind) (λ k. names_in_lem k (place + 6 + length r.body) (cond (eqb r.kind 1) this p) (cond (eqb r.kind 1) r.body name) rs behind (under (eqb r.kind 1)))
    where
      this : Named
      this = record { second = second; at = place + 6; len = length r.body }

      text : ℕ → Stored
      text k = record { number = k; name = name; kind = r.kind; table = table_in r.body (entries_of r.body) }

      cut : (take (length r.body) (drop 6 (drop place book)) ≡ r.body) × (records_of (drop (6 + length r.body) (drop place book)) ≡ some rs) ×
          (6 + length r.body ≤ length (drop place book))
      cut = record-cut (drop place book) r rs e

      behind : records_of (drop (place + 6 + length r.body) book) ≡ some rs
      behind =
          let q : place + 6 + length r.body ≡ place + (6 + length r.body) = omega arith in
          ap (λ (k : ℕ). records_of (drop k book)) q ∙ ap records_of (sym (drop-drop (6 + length r.body) place book)) ∙ cut.1

      here : part_in a b this ≡ r.body
      here = ap (λ (l : List ℕ). take (length r.body) l) (sym (drop-drop 6 place book)) ∙ cut.0

      under : (t : Bool) → part_in a b (cond t this p) ≡ cond t r.body name
      under true = here
      under false = h

      at : (t : Bool) → ((k : ℕ) → map (part_in a b) (names_in second (place + 6 + length r.body) (cond (eqb r.kind 1) this p) rs) ≡
          map (λ s. s.name) (stored_in k (cond (eqb r.kind 1) r.body name) rs)) →
          map (part_in a b) (cond t (p ∷ []) [] ++ names_in second (place + 6 + length r.body) (cond (eqb r.kind 1) this p) rs) ≡
          map (λ s. s.name) (cond t (text n ∷ []) [] ++ stored_in (cond t (suc n) n) (cond (eqb r.kind 1) r.body name) rs)
      at true go = ap₂ (λ (x : List ℕ) (xs : List (List ℕ)). x ∷ xs) h (go (suc n))
      at false go = go n

  names-of : (n : ℕ) → map (part_in a b) (names_of second (records_of book)) ≡ map (λ s. s.name) (stored_from n book)
  unfolding names_of stored_from stored_of
  names-of n = at (records_of book) refl
    where
      at : (o : Option (List Record)) → records_of book ≡ o → map (part_in a b) (names_of second o) ≡ map (λ s. s.name) (stored_of n o)
      at none e = refl
      at (some rs) e = names_in_lem n 0 (record { second = second; at = 0; len = 0 }) [] rs e refl

-- of one book there are as many as texts
pub names-length : (second : Bool) (book : List ℕ) → length (names_of second (records_of book)) ≡ length (stored book)
unfolding stored
names-length second book =
    sym (length-map (names_of second (records_of book)) (part_in book book)) ∙ ap length (same second) ∙ length-map (stored_from 0 book) (λ s. s.name)
  where
    same : (t : Bool) → map (part_in book book) (names_of t (records_of book)) ≡ map (λ s. s.name) (stored_from 0 book)
    same true = names-of book book true 0
    same false = names-of book book false 0

map_two : {A : Type 0} (f : A → List ℕ) (xs ys : List A) → map f (xs ++ ys) ≡ map f xs ++ map f ys
map_two f [] ys = refl
map_two f (x ∷ xs) ys = ap (λ (l : List (List ℕ)). f x ∷ l) (map_two f xs ys)

module _ (a b : List ℕ) where
  abbrev bs : List (List ℕ)
  bs = a ∷ b ∷ []

  pub parts-names : map (part_in a b) (name_parts false bs) ≡ map (λ s. s.name) (shelved 0 bs)
  unfolding name_parts shelved
  parts-names =
      let n = 0 + length (stored_from 0 a) in
      map_two (part_in a b) (names_of false (records_of a)) (names_of true (records_of b) ++ []) ∙
      ap₂ (λ (x y : List (List ℕ)). x ++ y) (names-of a b false 0)
      (map_two (part_in a b) (names_of true (records_of b)) [] ∙ ap (λ (x : List (List ℕ)). x ++ []) (names-of a b true n) ∙ sym (map_two (λ s. s.name) (stored_from n b) [])) ∙
      sym (map_two (λ s. s.name) (stored_from 0 a) (stored_from n b ++ []))

  pub part-is-name : (k : ℕ) → part_in a b (get_or (name_parts false bs) k no_part) ≡ (get_or (shelved 0 bs) k no_text).name
  unfolding no_text
  part-is-name k =
      sym (get_or-map (part_in a b) (name_parts false bs) k no_part) ∙ ap (λ (l : List (List ℕ)). get_or l k []) parts-names ∙
      get_or-map (λ (s : Stored). s.name) (shelved 0 bs) k no_text

-- ---- each part lies in its book
module _ (a b : List ℕ) where
  lie_in : (second : Bool) (place : ℕ) (p : Named) (rs : List Record) → place ≤ length (cond second b a) → records_of (drop place (cond second b a)) ≡ some rs → Lies a b p →
      Each (Lies a b) (names_in second place p rs)
  unfolding names_in
  lie_in second place p [] l e h = tt
  lie_in second place p (r ∷ rs) l e h =
      each_append (Lies a b) (cond (stored_kind r.kind) (p ∷ []) []) _ (this (stored_kind r.kind))
      (lie_in second (place + 6 + length r.body) (cond (eqb r.kind 1) name p) rs fits behind (under (eqb r.kind 1)))
    where
      book : List ℕ
      book = cond second b a

      name : Named
      name = record { second = second; at = place + 6; len = length r.body }

      cut : (take (length r.body) (drop 6 (drop place book)) ≡ r.body) × (records_of (drop (6 + length r.body) (drop place book)) ≡ some rs) ×
          (6 + length r.body ≤ length (drop place book))
      cut = record-cut (drop place book) r rs e

      fits : place + 6 + length r.body ≤ length book
      fits = omega (arith, cut.2, length-drop place book, l)

      behind : records_of (drop (place + 6 + length r.body) book) ≡ some rs
      behind =
          let q : place + 6 + length r.body ≡ place + (6 + length r.body) = omega arith in
          ap (λ (k : ℕ). records_of (drop k book)) q ∙ ap records_of (sym (drop-drop (6 + length r.body) place book)) ∙ cut.1

      under : (t : Bool) → Lies a b (cond t name p)
      under true = fits
      under false = h

      this : (t : Bool) → Each (Lies a b) (cond t (p ∷ []) [])
      this true = (h, tt)
      this false = tt

  lie_of : (second : Bool) → Each (Lies a b) (names_of second (records_of (cond second b a)))
  unfolding names_of
  lie_of second = at (records_of (cond second b a)) refl
    where
      at : (o : Option (List Record)) → records_of (cond second b a) ≡ o → Each (Lies a b) (names_of second o)
      at none e = tt
      at (some rs) e = lie_in second 0 (record { second = second; at = 0; len = 0 }) rs (omega arith) e (omega arith)

  pub parts_lie : Each (Lies a b) (name_parts false (a ∷ b ∷ []))
  unfolding name_parts
  parts_lie =
      each_append (Lies a b) (names_of false (records_of a)) (names_of true (records_of b) ++ []) (lie_of false)
      (each_append (Lies a b) (names_of true (records_of b)) [] (lie_of true) tt)

  lie_at : (l : List Named) (k : ℕ) → Each (Lies a b) l → Lies a b (get_or l k no_part)
  lie_at [] k h = omega arith
  lie_at (p ∷ l) zero h = h.0
  lie_at (p ∷ l) (suc k) h = lie_at l k h.1

  -- so does the part of any text, and of none
  pub part_lies : (w : Stored) → Lies a b (name_part (name_parts false (a ∷ b ∷ [])) w)
  unfolding name_part
  part_lies w = by (eqb w.kind 0)
    where
      by : (q : Bool) → Lies a b (cond q no_part (get_or (name_parts false (a ∷ b ∷ [])) w.number no_part))
      by true = omega arith
      by false = lie_at (name_parts false (a ∷ b ∷ [])) w.number parts_lie
