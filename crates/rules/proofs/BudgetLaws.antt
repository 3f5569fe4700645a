-- What a budget leaves of a list of events: the count is the smaller of both, what is left is a prefix of the whole, a larger budget
-- loses nothing, and one that pays all changes nothing. The steps of a loop that charges follow.
-- Assumes nothing.
use mathlib.Core.Path.{◌≡◌, refl, sym, ap, ◌∙◌, subst}
use Prim.Native.Nat.{ℕ, zero, suc, ◌+◌, ◌-◌, ◌≤◌, ◌<◌, min}
use native.Mathlib.Nat.{le_of_suc-le-suc, not-suc-le-zero, suc-sub-suc, sub-zero, zero-min, min-zero, suc-min-suc}
use native.Mathlib.Omega.{arith}
use mathlib.Core.Bool.{Bool, false}
use mathlib.Core.List.{List, [], ◌∷◌, ◌++◌}
use lib.ListN.{length, take}
use lib.Dec.{leb, leb-suc-suc, leb-suc-zero}
use Rattle.rules.specs.Search.{Scoring}
use Rattle.rules.specs.Scan.{Event, paid, overall, found, Recorded, after, afford, Begins, scorings, records}

begins_cons : {A : Type 0} (x : A) {xs ys : List A} → Begins xs ys → Begins (x ∷ xs) (x ∷ ys)
begins_cons {A} x b = record { rest = b.rest; is = ap (λ (l : List A). x ∷ l) b.is }

-- ---- the scorings and the records of a list of events
pub scorings-after : (ss : List Scoring) (es : List Event) → scorings (after ss es) ≡ ss ++ scorings es
unfolding scorings after
scorings-after [] es = refl
scorings-after (s ∷ ss) es = ap (λ (r : List Scoring). s ∷ r) (scorings-after ss es)

pub records-after : (ss : List Scoring) (es : List Event) → records (after ss es) ≡ records es
unfolding records after
records-after [] es = refl
records-after (s ∷ ss) es = records-after ss es

pub records-append : (es fs : List Event) → records (es ++ fs) ≡ records es ++ records fs
unfolding records
records-append [] fs = refl
records-append (paid s ∷ es) fs = records-append es fs
records-append (overall b ∷ es) fs = records-append es fs
records-append (found r ∷ es) fs = ap (λ (l : List Recorded). r ∷ l) (records-append es fs)

-- ---- the budget
-- count = min(budget, length of the list)
pub afford-count : (b : ℕ) (es : List Event) → length (scorings (afford b es)) ≡ min b (length (scorings es))
unfolding afford scorings
afford-count b [] = sym (min-zero b)
afford-count zero (paid s ∷ es) = sym (zero-min (suc (length (scorings es))))
afford-count (suc b) (paid s ∷ es) = ap suc (afford-count b es) ∙ sym (suc-min-suc b (length (scorings es)))
afford-count b (overall x ∷ es) = afford-count b es
afford-count b (found r ∷ es) = afford-count b es

-- a larger budget never loses an event
pub afford-more : (b c : ℕ) (es : List Event) → b ≤ c → Begins (afford b es) (afford c es)
unfolding afford
afford-more b c [] h = record { rest = []; is = refl }
afford-more zero zero (paid s ∷ es) h = record { rest = []; is = refl }
afford-more zero (suc c) (paid s ∷ es) h = record { rest = paid s ∷ afford c es; is = refl }
afford-more (suc b) zero (paid s ∷ es) h = absurd (not-suc-le-zero h)
afford-more (suc b) (suc c) (paid s ∷ es) h = begins_cons (paid s) (afford-more b c es (le_of_suc-le-suc h))
afford-more b c (overall x ∷ es) h = begins_cons (overall x) (afford-more b c es h)
afford-more b c (found r ∷ es) h = begins_cons (found r) (afford-more b c es h)

-- a budget that pays all changes nothing
pub afford-all : (b : ℕ) (es : List Event) → length (scorings es) ≤ b → afford b es ≡ es
unfolding afford scorings
afford-all b [] h = refl
afford-all zero (paid s ∷ es) h = absurd (not-suc-le-zero h)
afford-all (suc b) (paid s ∷ es) h = ap (λ (r : List Event). paid s ∷ r) (afford-all b es (le_of_suc-le-suc h))
afford-all b (overall x ∷ es) h = ap (λ (r : List Event). overall x ∷ r) (afford-all b es h)
afford-all b (found r ∷ es) h = ap (λ (q : List Event). found r ∷ q) (afford-all b es h)

records_begin : (es fs : List Event) → Begins es fs → Begins (records es) (records fs)
records_begin es fs b = record { rest = records b.rest; is = ap records b.is ∙ records-append es b.rest }

-- a larger budget never loses a record
pub records-more : (b c : ℕ) (es : List Event) → b ≤ c → Begins (records (afford b es)) (records (afford c es))
records-more b c es h = records_begin (afford b es) (afford c es) (afford-more b c es h)

-- under any budget the events, and the records, are a prefix of the full scan's
pub afford_begins : (b : ℕ) (es : List Event) → Begins (afford b es) es
afford_begins b es =
    subst (Begins (afford b es)) (afford-all (b + length (scorings es)) es (omega arith)) (afford-more b (b + length (scorings es)) es (omega arith))

pub records_begins : (b : ℕ) (es : List Event) → Begins (records (afford b es)) (records es)
records_begins b es = records_begin (afford b es) es (afford_begins b es)

-- ---- a loop that charges: ss is what the part ahead charges, b what is left of the budget
-- a part that the budget pays whole: the rest has what is left of it
pub afford-whole : (b : ℕ) (ss : List Scoring) (es : List Event) → length ss ≤ b → afford b (after ss es) ≡ after ss (afford (b - length ss) es)
unfolding afford after
afford-whole b [] es h = ap (λ (k : ℕ). afford k es) (sym (sub-zero b))
afford-whole zero (s ∷ ss) es h = absurd (not-suc-le-zero h)
afford-whole (suc b) (s ∷ ss) es h =
    ap (λ (r : List Event). paid s ∷ r)
    (afford-whole b ss es (le_of_suc-le-suc h) ∙ ap (λ (k : ℕ). after ss (afford k es)) (sym (suc-sub-suc b (length ss))))

-- a part that it does not pay whole: nothing after that part happens
pub afford-part : (b : ℕ) (ss : List Scoring) (es : List Event) → b < length ss → afford b (after ss es) ≡ after (take b ss) []
unfolding afford after
afford-part b [] es h = absurd (not-suc-le-zero h)
afford-part zero (s ∷ ss) es h = refl
afford-part (suc b) (s ∷ ss) es h = ap (λ (r : List Event). paid s ∷ r) (afford-part b ss es (le_of_suc-le-suc h))

pub records-paid : (b : ℕ) (ss : List Scoring) (es : List Event) → length ss ≤ b → records (afford b (after ss es)) ≡ records (afford (b - length ss) es)
records-paid b ss es h = ap records (afford-whole b ss es h) ∙ records-after ss (afford (b - length ss) es)

pub records_unpaid : (b : ℕ) (ss : List Scoring) (es : List Event) → b < length ss → records (afford b (after ss es)) ≡ []
unfolding records
records_unpaid b ss es h = ap records (afford-part b ss es h) ∙ records-after (take b ss) []

-- whether the budget pays all
abbrev pub pays : ℕ → List Event → Bool
pays b es = leb (length (scorings es)) b

pub pays-paid : (b : ℕ) (ss : List Scoring) (es : List Event) → length ss ≤ b → pays b (after ss es) ≡ pays (b - length ss) es
unfolding scorings after
pays-paid b [] es h = ap (λ (k : ℕ). pays k es) (sym (sub-zero b))
pays-paid zero (s ∷ ss) es h = absurd (not-suc-le-zero h)
pays-paid (suc b) (s ∷ ss) es h =
    leb-suc-suc (length (scorings (after ss es))) b ∙
    pays-paid b ss es (le_of_suc-le-suc h) ∙
    ap (λ (k : ℕ). pays k es) (sym (suc-sub-suc b (length ss)))

pub pays_unpaid : (b : ℕ) (ss : List Scoring) (es : List Event) → b < length ss → pays b (after ss es) ≡ false
unfolding scorings after
pays_unpaid b [] es h = absurd (not-suc-le-zero h)
pays_unpaid zero (s ∷ ss) es h = leb-suc-zero (length (scorings (after ss es)))
pays_unpaid (suc b) (s ∷ ss) es h = leb-suc-suc (length (scorings (after ss es))) b ∙ pays_unpaid b ss es (le_of_suc-le-suc h)
