-- A book as it was before there were editions: what was sound then, with words of ASCII, is sound now (`old_sound_lem`). Its stored texts are read by
-- definitions that have no edition in them, so they are the same.
-- Assumes nothing.
use mathlib.Core.Path.{◌≡◌, refl}
use mathlib.Core.Bool.{Bool, true, false, not, ◌&&◌, ◌||◌, cond, false≢true}
use mathlib.Core.List.{List, [], ◌∷◌}
use mathlib.Core.Option.{Option, none, some}
use Prim.Native.Nat.{ℕ}
use lib.Dec.{leb, eqb}
use lib.ListN.{length}
use borrow.Author.Tests.{eqb-true}
use Rattle.rules.specs.Sizes.{book_most, stored_most}
use Rattle.rules.specs.Bytes.{within, rises}
use Rattle.rules.specs.Points.{wide}
use Rattle.rules.specs.Book.{Record, records_of, entries_of, sound_table, sound_name, stored_kind, sound_body, follows, sound_records, stored, edition, filled, sound}
use Rattle.rules.proofs.BoolLaws.{and_left, and_right, and_both}
use Rattle.chultarvi.proofs.AnyLaws.{any-records}

-- ---- soundness without kind 6
abbrev pub old_follows : ℕ → ℕ → Bool
old_follows a b = cond (eqb b 1) (not (eqb a 1)) (cond (eqb b 2) (eqb a 1) (within 3 5 b && within 2 b a))

abbrev pub old_body : Record → Bool
old_body r = cond (stored_kind r.kind) (sound_table false r.body (entries_of r.body)) (sound_name r.body)

pub old_records : ℕ → List ℕ → List Record → Bool
old_records a name [] = not (eqb a 1)
old_records a name (r ∷ rs) =
    let first = eqb r.kind 1 in
    let more = old_records r.kind (cond first r.body name) rs in
    old_follows a r.kind && old_body r && (not first || rises name r.body) && more

pub old_filled : Option (List Record) → Bool
old_filled none = false
old_filled (some rs) = old_records 0 [] rs

pub old_sound : List ℕ → Bool
old_sound book = leb (length book) book_most && old_filled (records_of book) && leb (length (stored book)) stored_most

-- ---- no record of it was of kind 6
not_six : (a b : ℕ) (t : Bool) → eqb b 6 ≡ t → old_follows a b ≡ true → t ≡ false
unfolding within
not_six a b true q h = absurd (false≢true (simp (eqb-true b 6 q) at h))
not_six a b false q h = refl

module _ (a : ℕ) (r : Record) (six : eqb r.kind 6 ≡ false) where
  same-follows : follows a r.kind ≡ old_follows a r.kind
  unfolding follows
  same-follows = rw six

  same_body : sound_body false r ≡ old_body r
  unfolding sound_body
  same_body = rw six

old_records_lem : (a : ℕ) (name : List ℕ) (rs : List Record) → old_records a name rs ≡ true → sound_records false a name rs ≡ true
unfolding old_records sound_records
old_records_lem a name [] h = h
old_records_lem a name (r ∷ rs) h =
    rw (same-follows a r six, same_body a r six) (and_both (f && b && o) _ (and_left (f && b && o) m h) (old_records_lem r.kind under rs (and_right (f && b && o) m h)))
  where
    under : List ℕ
    under = cond (eqb r.kind 1) r.body name

    f : Bool
    f = old_follows a r.kind

    b : Bool
    b = old_body r

    o : Bool
    o = not (eqb r.kind 1) || rises name r.body

    m : Bool
    m = old_records r.kind under rs

    six : eqb r.kind 6 ≡ false
    six = not_six a r.kind (eqb r.kind 6) refl (and_left f b (and_left (f && b) o (and_left (f && b && o) m h)))

pub old_sound_lem : (book : List ℕ) → old_sound book ≡ true → sound book ≡ true
unfolding old_sound sound old_filled filled
old_sound_lem book h =
    let size = leb (length book) book_most in
    let few = leb (length (stored book)) stored_most in
    let front = and_left (size && old_filled (records_of book)) few h in
    let now = filled (wide (edition book)) (records_of book) in
    and_both (size && now) few
    (and_both size now (and_left size (old_filled (records_of book)) front) (at (records_of book) (and_right size (old_filled (records_of book)) front)))
    (and_right (size && old_filled (records_of book)) few h)
  where
    at : (o : Option (List Record)) → old_filled o ≡ true → filled (wide (edition book)) o ≡ true
    at none k = k
    at (some rs) k = any-records (wide (edition book)) 0 [] rs (old_records_lem 0 [] rs k)
