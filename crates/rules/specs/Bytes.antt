-- Code points up to U+00FF, which below 128 are the bytes, and the list functions that the passes are made of. A text is the list of its bytes,
-- a line the list of its code points.
-- Assumes nothing.
use Prim.Native.Nat.{ℕ, suc, compare, Ordering}
use Prim.Native.Char.{code}
use Prim.Native.String.{String}
use Rattle.std.specs.Prelude.{Bool, true, false, not, ◌&&◌, ◌||◌, cond, List, [], ◌∷◌, ◌++◌, leb, eqb}
use Rattle.std.proofs.Math.Dec.{compare_is_eq}

-- a quoted text as its code points
unfoldable pub text : String → List ℕ
text String.[] = []
text (String.◌∷◌ c s) = code c ∷ text s

-- ---- what a code point is: by its general category and White_Space in Unicode's data
unfoldable pub within : ℕ → ℕ → ℕ → Bool
within a b x = leb a x && leb x b

unfoldable pub among : List ℕ → ℕ → Bool
among [] x = false
among (y ∷ ys) x = eqb x y || among ys x

unfoldable pub newline : ℕ → Bool
newline x = eqb x 10

-- White_Space: 9 to 13, 32, U+0085 and U+00A0
unfoldable pub space : ℕ → Bool
space x = within 9 13 x || eqb x 32 || eqb x 133 || eqb x 160

-- Lu: A-Z, and U+00C0 to U+00DE but for the multiplication sign; lower case is 32 above
unfoldable pub upper : ℕ → Bool
upper x = within 65 90 x || (within 192 222 x && not (eqb x 215))

-- Ll and Lo, which lower case leaves: a-z, U+00AA, U+00B5, U+00BA, and U+00DF to U+00FF but for the division sign
unfoldable pub lower : ℕ → Bool
lower x = within 97 122 x || among (170 ∷ 181 ∷ 186 ∷ []) x || (within 223 255 x && not (eqb x 247))

unfoldable pub digit : ℕ → Bool
digit x = within 48 57 x

-- letters, 0-9 and `_`
unfoldable pub word : ℕ → Bool
word x = upper x || lower x || digit x || eqb x 95

-- `"`, `'`, and the Pi and Pf U+00AB and U+00BB
unfoldable pub quote : ℕ → Bool
quote x = among (text "\"'") x || eqb x 171 || eqb x 187

-- from U+0080 on what is punctuation: Po, and those two
unfoldable pub high_mark : ℕ → Bool
high_mark x = quote x || among (161 ∷ 167 ∷ 182 ∷ 183 ∷ 191 ∷ []) x

-- neither word, space nor punctuation: controls 0-8, 14-31, 127, nine signs, and from U+0080 on all that is none of these
unfoldable pub dropped : ℕ → Bool
dropped x =
    leb x 8 || within 14 31 x || eqb x 127 || among (text "$+<=>^|~`") x || (within 128 255 x && not (word x || space x || high_mark x))

-- ---- the front of a text
-- how many from the front on pass p
unfoldable pub lead : (ℕ → Bool) → List ℕ → ℕ
lead p [] = 0
lead p (x ∷ xs) = let more = suc (lead p xs) in cond (p x) more 0

-- how many up to the first newline, or to the end
unfoldable pub line_len : List ℕ → ℕ
line_len s = lead (λ x. not (newline x)) s

-- one that is no space stands here
unfoldable pub solid : List ℕ → Bool
solid [] = false
solid (x ∷ xs) = not (space x)

-- s starts with w
unfoldable pub starts : List ℕ → List ℕ → Bool
starts [] s = true
starts (w ∷ ws) [] = false
starts (w ∷ ws) (x ∷ xs) = let more = starts ws xs in eqb w x && more

-- w stands somewhere in s
unfoldable pub holds : List ℕ → List ℕ → Bool
holds w [] = starts w []
holds w (x ∷ xs) = let more = holds w xs in starts w (x ∷ xs) || more

unfoldable pub every : (ℕ → Bool) → List ℕ → Bool
every p [] = true
every p (x ∷ xs) = let more = every p xs in p x && more

-- ---- what the passes do
-- drop all but those that pass p
unfoldable pub keep : (ℕ → Bool) → List ℕ → List ℕ
keep p [] = []
keep p (x ∷ xs) = cond (p x) (x ∷ []) [] ++ keep p xs

-- each run of those that pass p becomes one r; `inside`: the one before passes
unfoldable pub runs : (ℕ → Bool) → ℕ → Bool → List ℕ → List ℕ
runs p r inside [] = []
runs p r inside (x ∷ xs) = cond (p x) (cond inside [] (r ∷ [])) (x ∷ []) ++ runs p r (p x) xs

unfoldable pub trim_start : List ℕ → List ℕ
trim_start [] = []
trim_start (x ∷ xs) = let more = trim_start xs in cond (space x) more (x ∷ xs)

-- x in front of a text that ends in no space, unless it would be its end
unfoldable pub add_front : ℕ → List ℕ → List ℕ
add_front x [] = cond (space x) [] (x ∷ [])
add_front x (y ∷ ys) = x ∷ y ∷ ys

unfoldable pub trim_end : List ℕ → List ℕ
trim_end [] = []
trim_end (x ∷ xs) = add_front x (trim_end xs)

unfoldable pub trim : List ℕ → List ℕ
trim s = trim_end (trim_start s)

-- ---- pieces between the c's, one more than there are of c; and lines joined by newline
unfoldable pub on_first : ℕ → List (List ℕ) → List (List ℕ)
on_first x [] = (x ∷ []) ∷ []
on_first x (l ∷ ls) = (x ∷ l) ∷ ls

unfoldable pub split : ℕ → List ℕ → List (List ℕ)
split c [] = [] ∷ []
split c (x ∷ xs) = let next = [] ∷ split c xs in let longer = on_first x (split c xs) in cond (eqb x c) next longer

unfoldable pub join : List (List ℕ) → List ℕ
join [] = []
join (l ∷ []) = l
join (l ∷ m ∷ ms) = l ++ 10 ∷ join (m ∷ ms)

-- ---- the order of byte strings: by the first byte that differs; a string before what it begins
unfoldable pub order : List ℕ → List ℕ → Ordering
order [] [] = Ordering.eq
order [] (y ∷ ys) = Ordering.lt
order (x ∷ xs) [] = Ordering.gt
order (x ∷ xs) (y ∷ ys) = elim (compare x y) [ Ordering.lt ↦ Ordering.lt | Ordering.eq ↦ order xs ys | Ordering.gt ↦ Ordering.gt ]

unfoldable pub same : List ℕ → List ℕ → Bool
same xs ys = compare_is_eq (order xs ys)

-- ys stands strictly above xs
unfoldable pub rises : List ℕ → List ℕ → Bool
rises xs ys = elim (order xs ys) [ Ordering.lt ↦ true | Ordering.eq ↦ false | Ordering.gt ↦ false ]
