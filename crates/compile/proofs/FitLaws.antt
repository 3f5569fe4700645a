-- How long what compile writes can be: 24n + 64 bytes are enough for a text of n bytes that an edition takes (`compiled_fits`).
-- Assumes nothing.
use mathlib.Core.Path.{◌≡◌}
use mathlib.Core.Bool.{true, false}
use mathlib.Core.List.{List, [], ◌∷◌}
use Prim.Native.Nat.{ℕ, suc, ◌+◌, ◌*◌, ◌≤◌, Ordering}
use native.Mathlib.Omega.{arith}
use lib.ListN.{length, length-append}
use Rattle.rules.specs.Bytes.{order, split}
use Rattle.rules.specs.Points.{utf8, encoded}
use Rattle.rules.specs.Lines.{lines}
use Rattle.rules.specs.Passes.{aggressive}
use Rattle.rules.specs.Prefix.{Counted}
use Rattle.rules.specs.Table.{pairs, bigrams, tally, tallied, table_of, view_table}
use Rattle.rules.specs.Book.{entries_out, table_out, compiled}
use Rattle.rules.proofs.GrowthLaws.{size_by, one, one-length, split-size, aggressive-length, lines-size}
use Rattle.records.proofs.NumberLaws.{length-written}

-- ---- entries: eight bytes and the bigram's own each
entry-long : (e : Counted) (es : List Counted) → length (entries_out (e ∷ es)) ≡ 8 + length e.bytes + length (entries_out es)
unfolding entries_out
entry-long e es = rw (length-append, length-append, length-append, length-written 4 e.count, length-written 4 (length e.bytes))

tally-long : (g : List ℕ) (es : List Counted) → length (entries_out (tally g es)) ≤ 8 + length g + length (entries_out es)
unfolding tally
tally-long g [] = let one : Counted = record { bytes = g; count = 1 } in omega (arith, entry-long one [])
tally-long g (e ∷ es) = at (order g e.bytes) (tally-long g es)
  where
    at : (o : Ordering) → length (entries_out (tally g es)) ≤ 8 + length g + length (entries_out es) →
        length (entries_out (elim o [
          | Ordering.lt ↦ record { bytes = g; count = 1 } ∷ e ∷ es
          | Ordering.eq ↦ record { bytes = g; count = e.count + 1 } ∷ es
          | Ordering.gt ↦ e ∷ tally g es
        ])) ≤ 8 + length g + length (entries_out (e ∷ es))
    at Ordering.lt h = omega (arith, entry-long (record { bytes = g; count = 1 }) (e ∷ es))
    at Ordering.eq h = omega (arith, entry-long (record { bytes = g; count = e.count + 1 }) es, entry-long e es)
    at Ordering.gt h = omega (arith, entry-long e (tally g es), entry-long e es)

-- eight for each bigram, and its bytes
bulk : List (List ℕ) → ℕ
bulk [] = 0
bulk (g ∷ gs) = 8 + length g + bulk gs

tallied-long : (gs : List (List ℕ)) → length (entries_out (tallied gs)) ≤ bulk gs
unfolding tallied entries_out bulk
tallied-long [] = omega arith
tallied-long (g ∷ gs) = omega (arith, tally-long g (tallied gs), tallied-long gs)

-- each word stands in two bigrams
pairs_bulk : (a : List ℕ) (ws : List (List ℕ)) → bulk (pairs (a ∷ ws)) + length a ≤ 9 * size_by (λ x. 1) (a ∷ ws)
unfolding pairs bulk size_by
pairs_bulk a [] = omega (arith, one-length a)
pairs_bulk a (b ∷ ws) = omega (arith, one-length a, length-append a (32 ∷ b), pairs_bulk b ws)

bigrams_bulk : (s : List ℕ) → bulk (bigrams s) ≤ 9 * suc (length s)
unfolding bigrams
bigrams_bulk s = at (split 32 s) (omega (arith, split-size one 32 (omega arith) s, one-length s))
  where
    at : (ws : List (List ℕ)) → size_by (λ x. 1) ws ≡ suc (length s) → bulk (pairs ws) ≤ 9 * suc (length s)
    at [] e = absurd (unfold size_by in omega arith)
    at (w ∷ ws) e = omega (arith, pairs_bulk w ws)

table-long : (s : List ℕ) → length (table_out (table_of (bigrams s))) ≤ 8 + 9 * suc (length s)
unfolding table_out table_of
table-long s =
    rw (length-append, length-append, length-written 4 (length (bigrams s)), length-written 4 (length (tallied (bigrams s))))
    (omega (arith, tallied-long (bigrams s), bigrams_bulk s))

pub compiled_fits : (e : ℕ) (t : List ℕ) → utf8 false t ≡ true → length (compiled e t) ≤ 24 * length t + 64
unfolding compiled view_table
compiled_fits e t u = omega (arith, table-long (encoded (aggressive (lines e t))), aggressive-length (lines e t), lines-size e t u)
