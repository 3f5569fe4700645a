-- Line passes, on each piece between newline bytes: its code points. How many lines there are, and where they stand in the text, in bytes.
-- Assumes nothing.
use Rattle.std.specs.Prelude.{ℕ, suc, ◌+◌, ◌-◌, Bool, false, not, ◌&&◌, ◌||◌, cond, List, [], ◌∷◌, ◌++◌, map, eqb, length, drop}
use Rattle.rules.specs.Bytes.{text, newline, space, quote, dropped, among, line_len, solid, starts, keep, runs, trim, split}
use Rattle.rules.specs.Points.{points, encoded}

-- 3. `http://` or `https://`, in lower case, with its following run of one or more non-spaces
unfoldable pub url : List ℕ → Bool
url s = (starts (text "http://") s && solid (drop 7 s)) || (starts (text "https://") s && solid (drop 8 s))

-- `inside`: what stands up to the next space belongs to a URL that is written already
unfoldable pub urls : Bool → List ℕ → List ℕ
urls inside [] = []
urls inside (x ∷ xs) =
    let gone = inside && not (space x) in
    cond gone [] (cond (url (x ∷ xs)) (text "http://blackboxed/url") (x ∷ [])) ++ urls (gone || url (x ∷ xs)) xs

-- the original's slip: in edition 1 pass 4 takes the digit 4 too
unfoldable pub slip : ℕ → ℕ → Bool
slip e x = eqb x 52 && eqb e 1

-- 4. 32, tab, U+00A0, `\`, `/` or `|`, and that digit
unfoldable pub gap : ℕ → ℕ → Bool
gap e x = among (text " \t\\/|") x || eqb x 160 || slip e x

-- 5. five kinds of runs, in order
unfoldable pub signs : List ℕ → List ℕ
signs s =
    let quotes = runs quote 39 false s in
    let dashes = runs (among (text "-")) 45 false quotes in
    let opens = runs (among (text "([{")) 40 false dashes in
    let closes = runs (among (text ")]}")) 41 false opens in
    runs (among (text "_")) 95 false closes

-- the passes over one line's bytes, where pass 4 takes the code points of `set`
unfoldable pub line_by : (ℕ → Bool) → List ℕ → List ℕ
line_by set s =
    let one = points s in  -- 1. NFC: nothing up to U+00FF
    let two = keep (λ x. not (dropped x)) one in
    let three = urls false two in
    let four = runs set 32 false three in
    let five = signs four in
    trim five

unfoldable pub lines_by : (ℕ → Bool) → List ℕ → List (List ℕ)
lines_by set t = map (line_by set) (split 10 t)

-- of edition e: the editions differ in that set alone
unfoldable pub line : ℕ → List ℕ → List ℕ
line e s = line_by (gap e) s

unfoldable pub lines : ℕ → List ℕ → List (List ℕ)
lines e t = lines_by (gap e) t

-- L
unfoldable pub line_count : List ℕ → ℕ
line_count t = length (split 10 t)

-- ---- where lines stand in the text, in bytes
-- where line k starts; the text's length from L on
unfoldable pub line_start : ℕ → List ℕ → ℕ
line_start k [] = 0
line_start k (x ∷ xs) = let more = suc (line_start (cond (newline x) (k - 1) k) xs) in cond (eqb k 0) 0 more

-- where it ends: its newline is not counted, any other byte is
unfoldable pub line_end : ℕ → List ℕ → ℕ
line_end k t = let start = line_start k t in start + line_len (drop start t)

-- where the lines from `first` up to `after` end: an empty range where it starts
unfoldable pub range_end : ℕ → ℕ → List ℕ → ℕ
range_end first after t = cond (eqb first after) (line_start first t) (line_end (after - 1) t)

-- how many bytes lines take as UTF-8, with a newline each
unfoldable pub size : List (List ℕ) → ℕ
size [] = 0
size (l ∷ ls) = suc (length (encoded l)) + size ls
