-- The entries of a table in lent memory from one on: the first of them and the rest.
-- Assumes nothing.
use mathlib.Core.Path.{◌≡◌}
use mathlib.Core.List.{List, [], ◌∷◌}
use Prim.Native.Nat.{ℕ, ◌+◌, ◌≤◌, ◌<◌}
use native.Mathlib.Omega.{arith}
use lib.ListN.{length, drop, get_or, length-drop}
use lib.Seq.{slice, get_or-drop}
use Rattle.lists.proofs.SliceLaws.{slice_next, slice_done}
use Rattle.rules.specs.Prefix.{Counted}
use Rattle.sort_spread.specs.Sort.{part_of}
use Rattle.sort_tally.specs.Group.{entries_from}

-- ---- the view's entry at i
abbrev pub view_left : List ℕ → List ℕ → ℕ → ℕ → ℕ → List Counted
view_left s p k d i = entries_from 32 2 s (slice i d p) (slice i d (drop k p))

abbrev pub view_entry : List ℕ → List ℕ → ℕ → ℕ → Counted
view_entry s p k i = record { bytes = part_of 32 2 (drop (get_or p i 0) s); count = get_or p (k + i) 0 }

module _ (s p : List ℕ) (k d i : ℕ) where
  pub view-next : i < d → d ≤ k → k + k ≤ length p → view_left s p k d i ≡ view_entry s p k i ∷ view_left s p k d (i + 1)
  unfolding entries_from
  view-next h l r =
      rw (slice_next p i d h (omega arith), slice_next (drop k p) i d h (simp length-drop (omega arith)), get_or-drop k p i 0)

  pub view-end : d ≤ i → view_left s p k d i ≡ []
  unfolding entries_from
  view-end h = rw (slice_done p i d h)
