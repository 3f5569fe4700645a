-- The edition of a book: it is one that is known, whatever the bytes; of a sound book it is what its first record says where that is of kind 6, and no
-- other record is.
-- Assumes nothing.
use mathlib.Core.Path.{◌≡◌, refl, sym}
use mathlib.Core.Bool.{Bool, true, false, not, ◌&&◌, ◌||◌, cond}
use mathlib.Core.List.{List, [], ◌∷◌}
use Prim.Native.Nat.{ℕ, ◌≤◌, ◌<◌}
use native.Mathlib.Omega.{arith}
use lib.Dec.{leb, eqb}
use lib.ListN.{length, take, drop}
use borrow.Author.Tests.{leb-true, eqb-true, eq-eqb, le-leb, lt-leb}
use Rattle.rules.specs.Sizes.{edition_most}
use Rattle.rules.specs.Bytes.{within, rises}
use Rattle.rules.specs.Book.{number, Record, At, record_at, sound_edition, stored_kind, sound_body, follows, sound_records, said_by, said_at, edition}
use Rattle.rules.proofs.BoolLaws.{and_left, and_right}
use Rattle.rules.proofs.DownLaws.{Each}

pub edition_width : (body : List ℕ) → sound_edition body ≡ true → length body ≡ 2
unfolding sound_edition
edition_width body h = eqb-true (length body) 2 (and_left (eqb (length body) 2) _ h)

-- of two bytes, what they say decides
module _ (body : List ℕ) (n : ℕ) (two : length body ≡ 2) (said : n ≡ number 2 body) where
  pub edition-within : 1 < n → leb n edition_most ≡ sound_edition body
  unfolding sound_edition within
  edition-within h = rw (← said, eq-eqb (length body) 2 two, le-leb 2 n h) refl

  pub edition-below : n ≤ 1 → leb 2 n ≡ sound_edition body
  unfolding sound_edition within
  edition-below h = rw (← said, eq-eqb (length body) 2 two, lt-leb 2 n (omega arith)) refl

-- ---- every edition is known
abbrev Known : ℕ → Type 0
Known e = (1 ≤ e) × (e ≤ edition_most)

said_known : (kind : ℕ) (body : List ℕ) → Known (said_by kind body)
unfolding said_by sound_edition within
said_known kind body = at (eqb kind 6 && sound_edition body) refl
  where
    n : ℕ
    n = number 2 body

    at : (t : Bool) → (eqb kind 6 && sound_edition body) ≡ t → Known (cond t n 1)
    at true q =
        let both = and_right (eqb (length body) 2) (leb 2 n && leb n edition_most) (and_right (eqb kind 6) (sound_edition body) q) in
        omega (arith, leb-true 2 n (and_left (leb 2 n) (leb n edition_most) both), leb-true n edition_most (and_right (leb 2 n) (leb n edition_most) both))
    at false q = omega arith

pub edition_known : (book : List ℕ) → Known (edition book)
unfolding edition said_at
edition_known book = at (record_at book 0)
  where
    at : (a : At) → Known (said_at book a)
    at At.end = omega arith
    at (At.whole kind start len) = said_known kind (take len (drop start book))
    at At.broken = omega arith

-- ---- in a sound book only the first record is of kind 6
pub only_first : (w : Bool) (a : ℕ) (name : List ℕ) (rs : List Record) → (eqb a 0 ≡ false) → sound_records w a name rs ≡ true → Each (λ r. eqb r.kind 6 ≡ false) rs
unfolding sound_records follows within
only_first w a name [] l h = tt
only_first w a name (r ∷ rs) l h = (at (eqb r.kind 6) refl, only_first w r.kind under rs (kind (eqb r.kind 0) refl) (and_right (f && b && o) m h))
  where
    under : List ℕ
    under = cond (eqb r.kind 1) r.body name

    f : Bool
    f = follows a r.kind

    b : Bool
    b = sound_body w r

    o : Bool
    o = not (eqb r.kind 1) || rises name r.body

    m : Bool
    m = sound_records w r.kind under rs

    may : f ≡ true
    may = and_left f b (and_left (f && b) o (and_left (f && b && o) m h))

    at : (t : Bool) → eqb r.kind 6 ≡ t → t ≡ false
    at true q = sym (simp (q, l) at may)
    at false q = refl

    kind : (t : Bool) → eqb r.kind 0 ≡ t → t ≡ false
    kind true q = sym (simp (eqb-true r.kind 0 q) at may)
    kind false q = refl

-- and where it is, the edition is what it says
pub sound-said : (w : Bool) (kind : ℕ) (body : List ℕ) → eqb kind 6 ≡ true → sound_body w (record { kind = kind; body = body }) ≡ true → said_by kind body ≡ number 2 body
unfolding said_by sound_body stored_kind within
sound-said w kind body q h = let e : sound_edition body ≡ true = simp (eqb-true kind 6 q) at h in rw (q, e)
