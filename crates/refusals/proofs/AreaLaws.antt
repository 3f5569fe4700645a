-- The work areas at the end of a job: as they were after a refusal before any work, and zero after an answer.
--     kept, zeroed                  one area
--     BothAfter, both_zeroed        both areas of a job
-- Assumes nothing.
use mathlib.Core.Path.{◌≡◌, refl, ap, ◌∙◌}
use mathlib.Core.Bool.{true}
use mathlib.Core.List.{List}
use Prim.Native.Nat.{ℕ}
use lib.ListN.{length, replicate}
use borrow.Author.Tests.{ne_eqb}
use Rattle.rules.specs.Jobs.{area_after}
use Rattle.rules.proofs.RefusalLaws.{early, not_early}

pub kept : (n : ℕ) (area : List ℕ) → early n ≡ true → area ≡ area_after n area
unfolding area_after early
kept n area h = simp (ne_eqb n 0 (not_early 0 n refl h), ne_eqb n 11 (not_early 11 n refl h), ne_eqb n 12 (not_early 12 n refl h))

-- the work kept the area's length n, and then n zeroes were written
zeroed : (n : ℕ) (area left : List ℕ) → n ≡ length area → left ≡ replicate n 0 → left ≡ area_after 0 area
unfolding area_after
zeroed n area left l e = e ∙ ap (λ (k : ℕ). replicate k 0) l

pub record BothAfter (n : ℕ) (b₀ b w₀ w : List ℕ) : Type 0 where
  pub bytes : b ≡ area_after n b₀
  pub words : w ≡ area_after n w₀

pub both_zeroed : {m n : ℕ} {b₀ b w₀ w : List ℕ} → m ≡ length b₀ → b ≡ replicate m 0 → n ≡ length w₀ → w ≡ replicate n 0 → BothAfter 0 b₀ b w₀ w
both_zeroed {m} {n} {b₀} {b} {w₀} {w} l p k q = record { bytes = zeroed m b₀ b l p; words = zeroed n w₀ w k q }
