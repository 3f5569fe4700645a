-- Line passes 4 and 5 as kinds of runs: the bytes of some classes, each run of which becomes one byte. Run by run in turn, as the rules
-- have it, and all in one walk.
-- Assumes nothing.
use Rattle.std.specs.Prelude.{ℕ, cond, List, [], ◌∷◌, eqb}
use Rattle.rules.specs.Bytes.{within, runs}

-- the classes from lo to hi; a run of their bytes becomes one rep
pub record Kind : Type 0 where
  pub lo : ℕ
  pub hi : ℕ
  pub rep : ℕ

abbrev kind : ℕ → ℕ → ℕ → Kind
kind lo hi rep = record { lo = lo; hi = hi; rep = rep }

-- pass 4, and the five of pass 5, in order
unfoldable pub kinds : List Kind
kinds = kind 2 5 32 ∷ kind 13 13 39 ∷ kind 14 14 45 ∷ kind 15 15 40 ∷ kind 16 16 41 ∷ kind 12 12 95 ∷ []

-- what a byte of class c becomes: the byte of its kind, or 0 where it is of none
unfoldable pub sign_in : List Kind → ℕ → ℕ
sign_in [] c = 0
sign_in (k ∷ ks) c = cond (within k.lo k.hi c) k.rep (sign_in ks c)

-- kind after kind over the whole list; g: what the byte before became, 0 where it is of no kind
unfoldable pub in_turn : (ℕ → ℕ) → List Kind → ℕ → List ℕ → List ℕ
in_turn class [] g xs = xs
in_turn class (k ∷ ks) g xs = in_turn class ks g (runs (λ x. within k.lo k.hi (class x)) k.rep (eqb g k.rep) xs)

-- one walk
unfoldable pub joined : (ℕ → ℕ) → ℕ → List ℕ → List ℕ
joined sign g [] = []
joined sign g (x ∷ xs) =
    let stays = x ∷ joined sign 0 xs in
    let opens = sign x ∷ joined sign (sign x) xs in
    let goes_on = joined sign g xs in
    cond (eqb (sign x) 0) stays (cond (eqb (sign x) g) goes_on opens)
