-- The merge sort as a function on lists. `later x y` says that x comes after y.
-- Assumes nothing.
use Rattle.std.specs.Prelude.{◌≡◌, List, [], ◌∷◌, ℕ, zero, suc, ◌+◌, ◌-◌, ◌/◌, ltb, eqb, length, take, drop, get_or, Bool, true, false, cond}

-- x is the mark that ends a part, with c marks left; and how many are left past x
unfoldable pub ends_part : ℕ → ℕ → ℕ → Bool
ends_part m c x = cond (eqb x m) (ltb c 2) false

unfoldable pub marks_left : ℕ → ℕ → ℕ → ℕ
marks_left m c x = cond (eqb x m) (c - 1) c

-- a part: up to the c-th mark, or the end
unfoldable pub part_of : ℕ → ℕ → List ℕ → List ℕ
part_of m c [] = []
part_of m c (x ∷ xs) = cond (ends_part m c x) [] (x ∷ part_of m (marks_left m c x) xs)

-- the first list comes after the second, in the order of bytes, a proper prefix first
unfoldable pub lex_later : List ℕ → List ℕ → Bool
lex_later [] ys = false
lex_later (x ∷ xs) [] = true
lex_later (x ∷ xs) (y ∷ ys) = cond (eqb y x) (lex_later xs ys) (ltb y x)

-- the part that starts at a comes after the one that starts at b
unfoldable pub part_later : ℕ → ℕ → List ℕ → ℕ → ℕ → Bool
part_later m c text a b = lex_later (part_of m c (drop a text)) (part_of m c (drop b text))

-- whether the next element comes from the right list
unfoldable pub right_next : (ℕ → ℕ → Bool) → List ℕ → List ℕ → Bool
right_next later [] ys = true
right_next later (x ∷ xs) [] = false
right_next later (x ∷ xs) (y ∷ ys) = later x y

-- two lists as one, the earlier head first, on ties the left one's; n elements of it
unfoldable pub merged : (ℕ → ℕ → Bool) → ℕ → List ℕ → List ℕ → List ℕ
merged later zero xs ys = []
merged later (suc n) xs ys = cond (right_next later xs ys) (get_or ys 0 0 ∷ merged later n xs (drop 1 ys)) (get_or xs 0 0 ∷ merged later n (drop 1 xs) ys)

-- the list sorted: halves, each sorted, and merged; g bounds the halvings, and any g from the length on gives the same
unfoldable pub msorted : (ℕ → ℕ → Bool) → ℕ → List ℕ → List ℕ
msorted later zero xs = xs
msorted later (suc g) xs =
    cond (ltb (length xs) 2) xs
    (merged later (length xs) (msorted later g (take (length xs / 2) xs)) (msorted later g (drop (length xs / 2) xs)))

-- how many satisfy q
unfoldable pub count_of : (ℕ → Bool) → List ℕ → ℕ
count_of q [] = 0
count_of q (x ∷ xs) = cond (q x) 1 0 + count_of q xs

-- z does not come after the head
unfoldable pub Leads : (ℕ → ℕ → Bool) → ℕ → List ℕ → Type 0
Leads later z [] = Unit {0}
Leads later z (x ∷ xs) = later z x ≡ false

-- none comes after the next
unfoldable pub InOrder : (ℕ → ℕ → Bool) → List ℕ → Type 0
InOrder later [] = Unit {0}
InOrder later (x ∷ xs) = Leads later x xs × InOrder later xs
