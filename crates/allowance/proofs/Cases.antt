-- What the definitions compute of scans that are charged to an allowance: within it, at its edges and above it, each refusal that comes before 17, and three
-- scans in turn. The answers are the request's, and of a model written apart.
-- Assumes nothing.
use Prim.Native.Nat.{ℕ, ◌+◌, ◌*◌}
use mathlib.Core.Path.{◌≡◌, refl}
use mathlib.Core.Bool.{true}
use mathlib.Core.List.{List, [], ◌∷◌, ◌++◌, map}
use lib.ListN.{length, take, replicate}
use Rattle.rules.specs.declared.Areas.{Areas}
use Rattle.rules.specs.declared.Limits.{Limits}
use Rattle.rules.specs.declared.Mode.{Mode}
use Rattle.rules.specs.declared.Mode.TheVariants.{Elimination, TopDown}
use Rattle.rules.specs.Jobs.{area_after}
use Rattle.rules.proofs.Opened.{opened}
use Rattle.rules.proofs.Cases.{body_a, book_a, second, room, limits}
use Rattle.allowance.specs.declared.Allowance.{Allowance}
use Rattle.allowance.specs.Allowed.{of_allowed, allowed, allowed_results, charged}

abbrev of : ℕ → ℕ → Allowance
of cap used = record { cap = cap; used = used }

-- one scan: refusal, count, records, cap and used after it; a work area of two 9 at entry; the first two of the results, which are 7 at entry
asked : List ℕ → List (List ℕ) → Limits → Mode → Areas → ℕ → Allowance → List ℕ
asked t bs lim mode a results x =
    let r = allowed t bs lim mode x a results in
    (r.refusal ∷ r.count ∷ r.records ∷ (charged x r).cap ∷ (charged x r).used ∷ []) ++ area_after r.refusal (9 ∷ 9 ∷ []) ++
    take 2 (allowed_results t bs lim mode x a (replicate results 7))

-- marked case 10: text 2 with book A, which takes 20 scorings
ten : Limits
ten = limits 0x3f666666 0x3f7d70a4

case_ten : ℕ → ℕ → List ℕ
case_ten cap used = asked second (book_a ∷ []) ten (Elimination true 10) room 60 (of cap used)

pub within_got : List (List ℕ)
within_got = case_ten 100 0 ∷ case_ten 20 0 ∷ case_ten 18446744073709551615 18446744073709551595 ∷ []

pub within : within_got ≡ (0 ∷ 20 ∷ 1 ∷ 100 ∷ 20 ∷ 0 ∷ 0 ∷ 0 ∷ 1 ∷ []) ∷ (0 ∷ 20 ∷ 1 ∷ 20 ∷ 20 ∷ 0 ∷ 0 ∷ 0 ∷ 1 ∷ []) ∷
    (0 ∷ 20 ∷ 1 ∷ 18446744073709551615 ∷ 18446744073709551615 ∷ 0 ∷ 0 ∷ 0 ∷ 1 ∷ []) ∷ []
unfolding within_got case_ten asked ten limits room second book_a body_a of_allowed allowed allowed_results charged opened
within = refl

-- stopped: used is the cap after it, also where it was before
pub stopped_got : List (List ℕ)
stopped_got = case_ten 19 0 ∷ case_ten 29 20 ∷ case_ten 6 5 ∷ case_ten 5 5 ∷ case_ten 0 0 ∷ case_ten 18446744073709551615 18446744073709551615 ∷ []

pub stopped : stopped_got ≡ (12 ∷ 19 ∷ 1 ∷ 19 ∷ 19 ∷ 0 ∷ 0 ∷ 0 ∷ 1 ∷ []) ∷ (12 ∷ 9 ∷ 1 ∷ 29 ∷ 29 ∷ 0 ∷ 0 ∷ 0 ∷ 1 ∷ []) ∷ (12 ∷ 1 ∷ 0 ∷ 6 ∷ 6 ∷ 0 ∷ 0 ∷ 7 ∷ 7 ∷ []) ∷
    (12 ∷ 0 ∷ 0 ∷ 5 ∷ 5 ∷ 0 ∷ 0 ∷ 7 ∷ 7 ∷ []) ∷ (12 ∷ 0 ∷ 0 ∷ 0 ∷ 0 ∷ 0 ∷ 0 ∷ 7 ∷ 7 ∷ []) ∷
    (12 ∷ 0 ∷ 0 ∷ 18446744073709551615 ∷ 18446744073709551615 ∷ 0 ∷ 0 ∷ 7 ∷ 7 ∷ []) ∷ []
unfolding stopped_got case_ten asked ten limits room second book_a body_a of_allowed allowed allowed_results charged opened
stopped = refl

-- above the cap: 17, and nothing changes
pub overdrawn_got : List (List ℕ)
overdrawn_got = case_ten 5 6 ∷ case_ten 0 1 ∷ case_ten 18446744073709551614 18446744073709551615 ∷ []

pub overdrawn : overdrawn_got ≡ (17 ∷ 0 ∷ 0 ∷ 5 ∷ 6 ∷ 9 ∷ 9 ∷ 7 ∷ 7 ∷ []) ∷ (17 ∷ 0 ∷ 0 ∷ 0 ∷ 1 ∷ 9 ∷ 9 ∷ 7 ∷ 7 ∷ []) ∷
    (17 ∷ 0 ∷ 0 ∷ 18446744073709551614 ∷ 18446744073709551615 ∷ 9 ∷ 9 ∷ 7 ∷ 7 ∷ []) ∷ []
unfolding overdrawn_got case_ten asked ten limits room second book_a body_a of_allowed allowed allowed_results charged opened
overdrawn = refl

-- what is refused before any work comes first, above the cap and at it: bytes of the text, a book one byte short, no stored text, editions that differ, a
-- limit that is no number, a step of 0, work areas one short, results one short
first : Allowance → List (List ℕ)
first x =
    asked (200 ∷ []) (book_a ∷ []) ten (Elimination true 10) room 60 x ∷
    asked second (take 57 book_a ∷ []) ten (Elimination true 10) room 60 x ∷
    asked second ([] ∷ []) ten (Elimination true 10) room 60 x ∷
    asked second (book_a ∷ (2 ∷ 0 ∷ 0 ∷ 0 ∷ 6 ∷ 0 ∷ 2 ∷ 0 ∷ []) ∷ []) ten (Elimination true 10) room 60 x ∷
    asked second (book_a ∷ []) (limits 0x7fc00000 0) (Elimination true 10) room 60 x ∷
    asked second (book_a ∷ []) ten (TopDown 0) room 60 x ∷
    asked second (book_a ∷ []) ten (Elimination true 10) (record { bytes = 8 * length second + 63; words = 100_000 }) 60 x ∷
    asked second (book_a ∷ []) ten (Elimination true 10) (record { bytes = 100_000; words = 12 * length second + 63 }) 60 x ∷
    asked second (book_a ∷ []) ten (Elimination true 10) room 59 x ∷ []

refused : ℕ → ℕ → ℕ → List ℕ
refused cap used n = n ∷ 0 ∷ 0 ∷ cap ∷ used ∷ 9 ∷ 9 ∷ 7 ∷ 7 ∷ []

numbers : List ℕ
numbers = 2 ∷ 4 ∷ 5 ∷ 15 ∷ 6 ∷ 7 ∷ 10 ∷ 10 ∷ 10 ∷ []

pub refusals_got : List (List (List ℕ))
refusals_got = first (of 5 6) ∷ first (of 5 5) ∷ []

pub refusals_want : List (List (List ℕ))
refusals_want = map (refused 5 6) numbers ∷ map (refused 5 5) numbers ∷ []

pub refusals : refusals_got ≡ refusals_want
unfolding refusals_got refusals_want numbers first refused asked ten limits room second book_a body_a of_allowed allowed allowed_results charged opened
refusals = refl

-- three scans in turn, each with what the one before left
pub in_turn_got : List (List ℕ)
in_turn_got = case_ten 50 0 ∷ case_ten 50 20 ∷ case_ten 50 40 ∷ []

pub in_turn_lem : in_turn_got ≡ (0 ∷ 20 ∷ 1 ∷ 50 ∷ 20 ∷ 0 ∷ 0 ∷ 0 ∷ 1 ∷ []) ∷ (0 ∷ 20 ∷ 1 ∷ 50 ∷ 40 ∷ 0 ∷ 0 ∷ 0 ∷ 1 ∷ []) ∷ (12 ∷ 10 ∷ 1 ∷ 50 ∷ 50 ∷ 0 ∷ 0 ∷ 0 ∷ 1 ∷ []) ∷ []
unfolding in_turn_got case_ten asked ten limits room second book_a body_a of_allowed allowed allowed_results charged opened
in_turn_lem = refl

-- two books, and top-down: 22 and 12 scorings
pub both_got : List (List ℕ)
both_got =
    asked second (book_a ∷ book_a ∷ []) ten (Elimination true 10) room 60 (of 100 10) ∷
    asked second (book_a ∷ []) ten (TopDown 1) room 60 (of 100 10) ∷
    asked second (book_a ∷ book_a ∷ []) ten (TopDown 1) room 60 (of 12 10) ∷ []

pub both : both_got ≡ (0 ∷ 22 ∷ 1 ∷ 100 ∷ 32 ∷ 0 ∷ 0 ∷ 0 ∷ 1 ∷ []) ∷ (0 ∷ 12 ∷ 1 ∷ 100 ∷ 22 ∷ 0 ∷ 0 ∷ 0 ∷ 1 ∷ []) ∷ (12 ∷ 2 ∷ 0 ∷ 12 ∷ 12 ∷ 0 ∷ 0 ∷ 7 ∷ 7 ∷ []) ∷ []
unfolding both_got asked ten limits room second book_a body_a of_allowed allowed allowed_results charged opened
both = refl
