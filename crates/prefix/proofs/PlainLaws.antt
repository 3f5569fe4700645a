-- Lines hold no newline, and so no prefix of them does.
-- Assumes nothing.
use mathlib.Core.Path.{◌≡◌, refl}
use mathlib.Core.Bool.{Bool, true, false, cond, not}
use mathlib.Core.List.{List, [], ◌∷◌, ◌++◌}
use Prim.Native.Nat.{ℕ, zero, suc, ◌-◌}
use lib.Dec.{ltb}
use lib.ListN.{length, take, drop}
use Rattle.rules.specs.Bytes.{newline, every, lead, trim, space}
use Rattle.rules.specs.Points.{encoded}
use Rattle.rules.specs.Prefix.{common, prefixes}
use Rattle.rules.specs.declared.View.{View}
use Rattle.rules.specs.Search.{viewed}
use Rattle.rules.proofs.BoolLaws.{and_left, and_right, and_both}
use Rattle.slices.specs.Ends.{kept_len}
use Rattle.slices.proofs.EndLaws.{trim-part}
use Rattle.prefix_list.specs.Listing.{plain, plain_lines}
use Rattle.prefix_list.proofs.ShareLaws.{common-front}

abbrev other : ℕ → Bool
other x = not (newline x)

plain-take : (n : ℕ) (s : List ℕ) → plain s ≡ true → plain (take n s) ≡ true
unfolding plain every
plain-take zero s h = refl
plain-take (suc n) [] h = refl
plain-take (suc n) (x ∷ xs) h =
    and_both (other x) (every other (take n xs)) (and_left (other x) (every other xs) h) (plain-take n xs (and_right (other x) (every other xs) h))

plain-drop : (n : ℕ) (s : List ℕ) → plain s ≡ true → plain (drop n s) ≡ true
unfolding plain every
plain-drop zero s h = h
plain-drop (suc n) [] h = refl
plain-drop (suc n) (x ∷ xs) h = plain-drop n xs (and_right (other x) (every other xs) h)

plain-trim : (s : List ℕ) → plain s ≡ true → plain (trim s) ≡ true
plain-trim s h =
    rw (trim-part s) (plain-take (kept_len space (drop (lead space s) s)) (drop (lead space s) s) (plain-drop (lead space s) s h))

plain-common : (a b : List ℕ) → plain a ≡ true → plain (common a b) ≡ true
plain-common a b h = rw (← common-front a b) (plain-take (length (common a b)) a h)

pub plain-prefixes : (ls : List (List ℕ)) → plain_lines ls ≡ true → plain_lines (prefixes ls) ≡ true
unfolding plain_lines prefixes
plain-prefixes [] h = refl
plain-prefixes (a ∷ []) h = refl
plain-prefixes (a ∷ b ∷ ls) h =
    go (ltb 3 (length (encoded (trim (common a b))))) (plain-trim (common a b) (plain-common a b (and_left (plain a) (plain_lines (b ∷ ls)) h)))
    (plain-prefixes (b ∷ ls) (and_right (plain a) (plain_lines (b ∷ ls)) h))
  where
    go : (t : Bool) → plain (trim (common a b)) ≡ true → plain_lines (prefixes (b ∷ ls)) ≡ true →
        plain_lines (cond t (trim (common a b) ∷ []) [] ++ prefixes (b ∷ ls)) ≡ true
    go true p q = and_both (plain (trim (common a b))) (plain_lines (prefixes (b ∷ ls))) p q
    go false p q = q

lines-take : (n : ℕ) (ls : List (List ℕ)) → plain_lines ls ≡ true → plain_lines (take n ls) ≡ true
unfolding plain_lines
lines-take zero ls h = refl
lines-take (suc n) [] h = refl
lines-take (suc n) (l ∷ ls) h =
    and_both (plain l) (plain_lines (take n ls)) (and_left (plain l) (plain_lines ls) h) (lines-take n ls (and_right (plain l) (plain_lines ls) h))

lines-drop : (n : ℕ) (ls : List (List ℕ)) → plain_lines ls ≡ true → plain_lines (drop n ls) ≡ true
unfolding plain_lines
lines-drop zero ls h = h
lines-drop (suc n) [] h = refl
lines-drop (suc n) (l ∷ ls) h = lines-drop n ls (and_right (plain l) (plain_lines ls) h)

pub plain-viewed : (ls : List (List ℕ)) (v : View) → plain_lines ls ≡ true → plain_lines (viewed ls v) ≡ true
unfolding viewed
plain-viewed ls v h = lines-take (v.end - v.start) (drop v.start ls) (lines-drop v.start ls h)
