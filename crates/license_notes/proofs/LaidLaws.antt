-- The lines of a note as `lay` leaves them: they hold no newline, they are few and short enough; and so are they after white-out.
-- Assumes nothing.
use mathlib.Core.Path.{◌≡◌, refl, sym, ap, ◌∙◌}
use mathlib.Core.Bool.{Bool, true, false, cond, not, ◌&&◌, ◌||◌, false≢true}
use mathlib.Core.List.{List, [], ◌∷◌, ◌++◌, map}
use Prim.Native.Nat.{ℕ, zero, suc, ◌+◌, ◌-◌, ◌*◌, ◌%◌, ◌≤◌}
use borrow.Author.Tests.{ne_eqb}
use native.Mathlib.Omega.{arith}
use lib.Dec.{eqb}
use lib.ListN.{length}
use Rattle.rules.specs.Bytes.{text, newline, space, dropped, every, keep, runs, trim_start, add_front, trim_end, trim, on_first, split}
use Rattle.rules.specs.Points.{opens, points_on, points}
use Rattle.rules.specs.Lines.{url, urls, signs, line_by, lines_by, lines, line_count, size}
use Rattle.rules.specs.Search.{blank}
use Rattle.rules.specs.Sizes.{byte_area, word_area}
use Rattle.rules.proofs.BoolLaws.{and_left, and_right, and_both, cond_of}
use Rattle.rules.proofs.PointLaws.{opens-range}
use Rattle.rules.proofs.GrowthLaws.{lines_by-size, blank-size}
use Rattle.slices.specs.Classes.{gap_in, class_table}
use Rattle.slices.proofs.KindLaws.{edition-lines}
use Rattle.preproc_table.specs.Entries.{lines_at, Blanked}
use Rattle.preproc_lines.specs.Normalised.{Normalised}
use Rattle.preproc_test.specs.Counts.{Passed}
use Rattle.preproc_test.proofs.CountLaws.{first-length, split-some}
use Rattle.prefix_list.specs.Listing.{plain, plain_lines}
use Rattle.license_notes.specs.Laid.{Laid}

abbrev other : ℕ → Bool
other x = not (newline x)

-- ---- no line pass writes a newline
append-plain : (xs ys : List ℕ) → plain xs ≡ true → plain ys ≡ true → plain (xs ++ ys) ≡ true
unfolding plain every
append-plain [] ys h k = k
append-plain (x ∷ xs) ys h k =
    and_both (other x) (every other (xs ++ ys)) (and_left (other x) (every other xs) h) (append-plain xs ys (and_right (other x) (every other xs) h) k)

one_plain : (x : ℕ) (xs : List ℕ) → plain (x ∷ xs) ≡ true → plain (x ∷ []) ≡ true
unfolding plain every
one_plain x xs h = and_both (other x) true (and_left (other x) (every other xs) h) refl

rest_plain : (x : ℕ) (xs : List ℕ) → plain (x ∷ xs) ≡ true → plain xs ≡ true
unfolding plain every
rest_plain x xs h = and_right (other x) (every other xs) h

none-plain : plain [] ≡ true
unfolding plain every
none-plain = refl

keep-plain : (p : ℕ → Bool) (s : List ℕ) → plain s ≡ true → plain (keep p s) ≡ true
unfolding keep
keep-plain p [] h = h
keep-plain p (x ∷ xs) h =
    append-plain (cond (p x) (x ∷ []) []) (keep p xs) (cond_of (λ (l : List ℕ). plain l ≡ true) (p x) (x ∷ []) [] (one_plain x xs h) none-plain)
    (keep-plain p xs (rest_plain x xs h))

runs-plain : (p : ℕ → Bool) (r : ℕ) (inside : Bool) (s : List ℕ) → plain (r ∷ []) ≡ true → plain s ≡ true → plain (runs p r inside s) ≡ true
unfolding runs
runs-plain p r inside [] e h = h
runs-plain p r inside (x ∷ xs) e h =
    append-plain (cond (p x) (cond inside [] (r ∷ [])) (x ∷ [])) (runs p r (p x) xs)
    (cond_of (λ (l : List ℕ). plain l ≡ true) (p x) (cond inside [] (r ∷ [])) (x ∷ [])
    (cond_of (λ (l : List ℕ). plain l ≡ true) inside [] (r ∷ []) none-plain e) (one_plain x xs h))
    (runs-plain p r (p x) xs e (rest_plain x xs h))

urls-plain : (inside : Bool) (s : List ℕ) → plain s ≡ true → plain (urls inside s) ≡ true
unfolding urls text plain every newline
urls-plain inside [] h = h
urls-plain inside (x ∷ xs) h =
    let gone = inside && not (space x) in
    let hit = cond (url (x ∷ xs)) (text "http://blackboxed/url") (x ∷ []) in
    append-plain (cond gone [] hit) (urls (gone || url (x ∷ xs)) xs)
    (cond_of (λ (l : List ℕ). plain l ≡ true) gone [] hit none-plain
    (cond_of (λ (l : List ℕ). plain l ≡ true) (url (x ∷ xs)) (text "http://blackboxed/url") (x ∷ []) refl (one_plain x xs h)))
    (urls-plain (gone || url (x ∷ xs)) xs (rest_plain x xs h))

signs-plain : (s : List ℕ) → plain s ≡ true → plain (signs s) ≡ true
unfolding signs plain every newline
signs-plain s h =
    runs-plain _ 95 false _ refl
    (runs-plain _ 41 false _ refl (runs-plain _ 40 false _ refl (runs-plain _ 45 false _ refl (runs-plain _ 39 false s refl h))))

trim_start-plain : (s : List ℕ) → plain s ≡ true → plain (trim_start s) ≡ true
unfolding trim_start
trim_start-plain [] h = h
trim_start-plain (x ∷ xs) h =
    cond_of (λ (l : List ℕ). plain l ≡ true) (space x) (trim_start xs) (x ∷ xs) (trim_start-plain xs (rest_plain x xs h)) h

add_front-plain : (x : ℕ) (s : List ℕ) → plain (x ∷ []) ≡ true → plain s ≡ true → plain (add_front x s) ≡ true
unfolding add_front
add_front-plain x [] e h = cond_of (λ (l : List ℕ). plain l ≡ true) (space x) [] (x ∷ []) none-plain e
add_front-plain x (y ∷ ys) e h = append-plain (x ∷ []) (y ∷ ys) e h

trim_end-plain : (s : List ℕ) → plain s ≡ true → plain (trim_end s) ≡ true
unfolding trim_end
trim_end-plain [] h = h
trim_end-plain (x ∷ xs) h = add_front-plain x (trim_end xs) (one_plain x xs h) (trim_end-plain xs (rest_plain x xs h))

-- nor does reading UTF-8 make one: a code point of two bytes is above it
points_none : (high : ℕ) (s : List ℕ) → (eqb high 0 ≡ false → 128 ≤ high) → plain s ≡ true → plain (points_on high s) ≡ true
unfolding points_on plain every newline
points_none high [] k h = refl
points_none high (x ∷ xs) k h = at (eqb high 0) refl (opens x) refl (λ n m. points_none n xs m (and_right (other x) (every other xs) h))
  where
    x_plain : other x ≡ true
    x_plain = and_left (other x) (every other xs) h

    at : (z : Bool) → eqb high 0 ≡ z → (o : Bool) → opens x ≡ o → ((n : ℕ) → (eqb n 0 ≡ false → 128 ≤ n) → plain (points_on n xs) ≡ true) →
        plain (cond (z && o) [] (cond z x (high + x % 64) ∷ []) ++ points_on (cond (z && o) (64 * (x - 192)) 0) xs) ≡ true
    at true q true o go = let r = opens-range x o in go (64 * (x - 192)) (λ e. omega (arith, r.0))
    at true q false o go = and_both (other x) (every other (points_on 0 xs)) x_plain (go 0 (λ e. absurd (false≢true (sym e))))
    at false q o p go =
        and_both (other (high + x % 64)) (every other (points_on 0 xs)) (ap not (ne_eqb (high + x % 64) 10 (λ e. omega (arith, k q))))
        (go 0 (λ e. absurd (false≢true (sym e))))

points-plain : (s : List ℕ) → plain s ≡ true → plain (points s) ≡ true
unfolding points
points-plain s h = points_none 0 s (λ e. absurd (false≢true (sym e))) h

line_plain : (set : ℕ → Bool) (s : List ℕ) → plain s ≡ true → plain (line_by set s) ≡ true
unfolding line_by trim plain every newline
line_plain set s h =
    let two = keep (λ x. not (dropped x)) (points s) in
    let three = urls false two in
    let four = runs set 32 false three in
    trim_end-plain (trim_start (signs four)) (trim_start-plain (signs four) (signs-plain four
    (runs-plain set 32 false three refl (urls-plain false two (keep-plain (λ x. not (dropped x)) (points s) (points-plain s h))))))

-- ---- the pieces between newlines hold none
first_plain : (x : ℕ) (ls : List (List ℕ)) → plain (x ∷ []) ≡ true → plain_lines ls ≡ true → plain_lines (on_first x ls) ≡ true
unfolding on_first plain_lines
first_plain x [] e h = and_both (plain (x ∷ [])) true e refl
first_plain x (l ∷ ls) e h =
    and_both (plain (x ∷ l)) (plain_lines ls) (append-plain (x ∷ []) l e (and_left (plain l) (plain_lines ls) h)) (and_right (plain l) (plain_lines ls) h)

split_plain : (s : List ℕ) → plain_lines (split 10 s) ≡ true
unfolding split plain_lines plain every newline
split_plain [] = refl
split_plain (x ∷ xs) = at (eqb x 10) refl (split_plain xs)
  where
    single : eqb x 10 ≡ false → plain (x ∷ []) ≡ true
    single q = rw q

    at : (b : Bool) → eqb x 10 ≡ b → plain_lines (split 10 xs) ≡ true → plain_lines (cond b ([] ∷ split 10 xs) (on_first x (split 10 xs))) ≡ true
    at true q h = h
    at false q h = first_plain x (split 10 xs) (single q) h

map-plain : (set : ℕ → Bool) (ps : List (List ℕ)) → plain_lines ps ≡ true → plain_lines (map (line_by set) ps) ≡ true
unfolding plain_lines
map-plain set [] h = refl
map-plain set (p ∷ ps) h =
    and_both (plain (line_by set p)) (plain_lines (map (line_by set) ps)) (line_plain set p (and_left (plain p) (plain_lines ps) h)) (map-plain set ps (and_right (plain p) (plain_lines ps) h))

pub lines-plain : (set : ℕ → Bool) (t : List ℕ) → plain_lines (lines_by set t) ≡ true
unfolding lines_by
lines-plain set t = map-plain set (split 10 t) (split_plain t)

-- ---- there are few
split-few : (s : List ℕ) → length (split 10 s) ≤ suc (length s)
unfolding split
split-few [] = omega arith
split-few (x ∷ xs) =
    cond_of (λ (ls : List (List ℕ)). length ls ≤ suc (suc (length xs))) (eqb x 10) ([] ∷ split 10 xs) (on_first x (split 10 xs))
    (omega (arith, split-few xs)) (omega (arith, first-length x (split 10 xs) (split-some xs), split-few xs))

lines-few : (t : List ℕ) → line_count t ≤ length t + 1
unfolding line_count
lines-few t = omega (arith, split-few t)

-- ---- what `normalise` leaves is laid
pub laid-lines : (set : ℕ → Bool) (t area words : List ℕ) (r : ℕ) → Passed t → byte_area (length t) ≤ length area → word_area (length t) ≤ length words →
    Normalised set t area words r → Laid (length t) r area words
laid-lines set t area words r e p q d =
    record {
      apart = d.apart;
      few = omega (arith, d.count, lines-few t);
      small = e.short;
      area_room = p;
      words-room = q;
      plain = ap plain_lines d.lines ∙ lines-plain set t;
      bytes = omega (arith, ap size d.lines, lines_by-size set t e.bytes);
    }

-- by the table of an edition they are that edition's
pub noted_lines : (e n : ℕ) (class t : List ℕ) (ls : List (List ℕ)) → n ≡ e → class ≡ class_table n → ls ≡ lines_by (gap_in class) t → ls ≡ lines e t
noted_lines e n class t ls said q h = h ∙ edition-lines n class t q ∙ ap (λ (m : ℕ). lines m t) said

-- ---- white-out keeps the lines laid
blank-plain : (a e : ℕ) (ls : List (List ℕ)) → plain_lines ls ≡ true → plain_lines (blank a e ls) ≡ true
unfolding blank plain_lines plain every
blank-plain a e [] h = refl
blank-plain a zero (l ∷ ls) h = h
blank-plain zero (suc e) (l ∷ ls) h = blank-plain zero e ls (and_right (plain l) (plain_lines ls) h)
blank-plain (suc a) (suc e) (l ∷ ls) h =
    and_both (plain l) (plain_lines (blank a e ls)) (and_left (plain l) (plain_lines ls) h) (blank-plain a e ls (and_right (plain l) (plain_lines ls) h))

pub laid-blank : {n lines : ℕ} {area words : List ℕ} {a e : ℕ} {words' : List ℕ} →
    Laid n lines area words → Blanked a e words words' → length words' ≡ length words → Laid n lines area words'
laid-blank {n} {lines} {area} {words} {a} {e} {words'} l b long =
    let ls = lines_at area words lines in
    record {
      apart = b.kept n (4 * n) lines l.apart;
      few = l.few;
      small = l.small;
      area_room = l.area_room;
      words-room = omega (arith, long, l.words-room);
      plain = ap plain_lines (b.lines area lines) ∙ blank-plain a e ls l.plain;
      bytes = omega (arith, ap size (b.lines area lines), blank-size a e ls, l.bytes);
    }
