-- UTF-8 up to U+00FF: which bytes are such, read as code points, and written. Every code point is one byte below 128, and two from there on.
-- Assumes nothing.
use Rattle.std.specs.Prelude.{ℕ, ◌+◌, ◌-◌, ◌*◌, ◌/◌, ◌%◌, Bool, false, not, ◌&&◌, ◌||◌, cond, List, [], ◌∷◌, ◌++◌, ltb, eqb}
use Rattle.rules.specs.Bytes.{within, every}

-- C2 or C3: one byte of 80 to BF is to follow
unfoldable pub opens : ℕ → Bool
opens x = within 194 195 x

-- such UTF-8; `owed`: the byte before opens
unfoldable pub utf8 : Bool → List ℕ → Bool
utf8 owed [] = not owed
utf8 owed (x ∷ xs) =
    let lead = not owed && opens x in
    cond owed (within 128 191 x) (ltb x 128 || lead) && utf8 lead xs

unfoldable pub ascii : List ℕ → Bool
ascii t = every (λ x. ltb x 128) t

-- edition 3 takes it, any other ASCII alone
unfoldable pub wide : ℕ → Bool
wide e = eqb e 3

unfoldable pub taken : Bool → List ℕ → Bool
taken w t = cond w (utf8 false t) (ascii t)

-- its code points; `high`: what the byte before adds, 0 where it does not open
unfoldable pub points_on : ℕ → List ℕ → List ℕ
points_on high [] = []
points_on high (x ∷ xs) =
    let lead = eqb high 0 && opens x in
    let point = cond (eqb high 0) x (high + x % 64) in
    cond lead [] (point ∷ []) ++ points_on (cond lead (64 * (x - 192)) 0) xs

unfoldable pub points : List ℕ → List ℕ
points t = points_on 0 t

-- code points as UTF-8
unfoldable pub encoded : List ℕ → List ℕ
encoded [] = []
encoded (x ∷ xs) = cond (ltb x 128) (x ∷ []) ((192 + x / 64) ∷ (128 + x % 64) ∷ []) ++ encoded xs
