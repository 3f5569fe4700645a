-- What is known of a sound book: every record lies within it, it has at most `stored_most` stored texts, and of each stored text the name,
-- the kind, the number and the table (`StoredSound`).
-- Assumes nothing.
use mathlib.Core.Path.{◌≡◌, refl, ap}
use Prim.Native.Nat.{ℕ, zero, suc, ◌+◌, ◌≤◌, ◌<◌}
use native.Mathlib.Nat.{not-suc-le-zero, le_of_suc-le-suc}
use native.Mathlib.Omega.{arith}
use mathlib.Core.Bool.{Bool, true, false, not, ◌&&◌, ◌||◌, cond, false≢true}
use mathlib.Core.List.{List, [], ◌∷◌, ◌++◌}
use mathlib.Core.Option.{Option, none, some}
use lib.ListN.{length, get_or, drop, length-take, length-drop}
use lib.Dec.{leb, eqb}
use borrow.Author.Tests.{leb-true, eqb-true, lt-leb, ne_eqb}
use Rattle.rules.specs.Sizes.{book_most, stored_most, total_most, name_most}
use Rattle.rules.specs.Bytes.{within, rises}
use Rattle.rules.specs.Points.{wide}
use Rattle.rules.specs.Prefix.{Counted}
use Rattle.rules.specs.Search.{Stored, no_text}
use Rattle.rules.specs.Book.{number, Front, front, record_form, Record, records_of, At, placed, record_at, entries_of, sum, sound_entries, shaped, sound_table, sound_name, stored_kind, sound_body, follows, sound_records, table_in, stored_in, stored_of, stored_from, stored, edition, filled, sound}
use Rattle.rules.proofs.BoolLaws.{and_left, and_right, and_not}
use Rattle.rules.proofs.Steps.{front_cut}
use Rattle.rules.proofs.DownLaws.{Each, each_append}

-- ---- every record lies within the book
pub record-within : (book : List ℕ) (place kind start len : ℕ) → record_at book place ≡ At.whole kind start len →
    (start ≡ place + 6) × (start + len ≤ length book)
unfolding record_at placed
record-within book place kind start len e = at (front record_form (drop place book)) refl e
  where
    at : (r : Front) → front record_form (drop place book) ≡ r → placed place r ≡ At.whole kind start len → (start ≡ place + 6) × (start + len ≤ length book)
    at Front.end q e = let z : ◌≡◌ {A = ℕ} 0 1 = cc in omega arith
    at (Front.whole p more) q e =
        let c = front_cut record_form (drop place book) p more q in
        let n = number 4 (drop 0 (drop place book)) in
        let a : start ≡ place + 6 = cc in
        let b : len ≡ length p.body = cc in
        (a, omega (arith, ap length c.body, length-take n (drop 6 (drop place book)), length-drop place book))
    at Front.broken q e = let z : ◌≡◌ {A = ℕ} 0 1 = cc in omega arith

-- ---- stored texts
pub record StoredSound (s : Stored) : Type 0 where
  pub name-from : 1 ≤ length s.name
  pub name-to : length s.name ≤ name_most
  pub kind-from : 2 ≤ s.kind
  pub kind-to : s.kind ≤ 4
  pub rising : sound_entries [] s.table.entries ≡ true
  pub total : s.table.total ≡ sum s.table.entries
  pub total-to : s.table.total ≤ total_most

pub within-from : (a b x : ℕ) → within a b x ≡ true → a ≤ x
unfolding within
within-from a b x h = leb-true a x (and_left (leb a x) (leb x b) h)

within-to : (a b x : ℕ) → within a b x ≡ true → x ≤ b
unfolding within
within-to a b x h = leb-true x b (and_right (leb a x) (leb x b) h)

-- the kinds of a licence's records
abbrev OfLicence : ℕ → Type 0
OfLicence a = (1 ≤ a) × (a ≤ 5)

-- a record of a licence that is no name stands after another of it
follows-other : (a b : ℕ) → follows a b ≡ true → eqb b 1 ≡ false → eqb b 6 ≡ false → OfLicence a
unfolding follows
follows-other a b h k l = at (eqb b 2) (simp (k, l) at h)
  where
    at : (t : Bool) → cond t (eqb a 1) (within 3 5 b && within 2 b a) ≡ true → OfLicence a
    at true h = omega (arith, eqb-true a 1 h)
    at false h =
        let low = and_left (within 3 5 b) (within 2 b a) h in
        let high = and_right (within 3 5 b) (within 2 b a) h in
        omega (arith, within-from 2 b a high, within-to 2 b a high, within-to 3 5 b low)

-- a sound table's shape, which is all that a score asks for
pub sound-shaped : (w : Bool) (body : List ℕ) (o : Option (List Counted)) → sound_table w body o ≡ true → shaped body o ≡ true
unfolding sound_table
sound-shaped w body none h = absurd (false≢true h)
sound-shaped w body (some es) h = and_left (shaped body (some es)) _ h

pub table-sound : (body : List ℕ) (o : Option (List Counted)) → shaped body o ≡ true →
    (sound_entries [] (table_in body o).entries ≡ true) × ((table_in body o).total ≡ sum (table_in body o).entries) × (sum (table_in body o).entries ≤ total_most)
unfolding shaped table_in
table-sound body none h = absurd (false≢true h)
table-sound body (some es) h =
    let a = leb 8 (length body) in
    let b = eqb (number 4 body) (sum es) in
    let c = eqb (number 4 (drop 4 body)) (length es) in
    let d = sound_entries [] es in
    let e = leb (sum es) total_most in
    let front = and_left (a && b && c && d) e h in (
      and_right (a && b && c) d front,
      eqb-true (number 4 body) (sum es) (and_right a b (and_left (a && b) c (and_left (a && b && c) d front))),
      leb-true (sum es) total_most (and_right (a && b && c && d) e h),
    )

-- such a body is read to its end, and names its total
pub sound-some : (body : List ℕ) (o : Option (List Counted)) → shaped body o ≡ true → o ≡ some (table_in body o).entries
unfolding shaped table_in
sound-some body none h = absurd (false≢true h)
sound-some body (some es) h = refl

pub body-total : (body : List ℕ) (o : Option (List Counted)) → shaped body o ≡ true → (table_in body o).total ≡ number 4 body
unfolding shaped table_in
body-total body none h = absurd (false≢true h)
body-total body (some es) h = refl

pub table-size : (body : List ℕ) (o : Option (List Counted)) → shaped body o ≡ true → 8 ≤ length body
unfolding shaped
table-size body none h = absurd (false≢true h)
table-size body (some es) h =
    let a = leb 8 (length body) in
    let b = eqb (number 4 body) (sum es) in
    let c = eqb (number 4 (drop 4 body)) (length es) in
    let d = sound_entries [] es in
    let front = and_left (a && b && c && d) (leb (sum es) total_most) h in
    leb-true 8 (length body) (and_left a b (and_left (a && b) c (and_left (a && b && c) d front)))

pub body-shaped : (w : Bool) (r : Record) → sound_body w r ≡ true → stored_kind r.kind ≡ true → shaped r.body (entries_of r.body) ≡ true
unfolding sound_body
body-shaped w r h k = sound-shaped w r.body (entries_of r.body) (simp k at h)

name-sound : (w : Bool) (r : Record) → sound_body w r ≡ true → eqb r.kind 1 ≡ true → sound_name r.body ≡ true
unfolding sound_body stored_kind within
name-sound w r h k = simp (eqb-true r.kind 1 k) at h

module _ (w : Bool) (r : Record) (n : ℕ) (name : List ℕ) (named : sound_name name ≡ true) (body : sound_body w r ≡ true) where
  stored-sound : stored_kind r.kind ≡ true → StoredSound (record { number = n; name = name; kind = r.kind; table = table_in r.body (entries_of r.body) })
  unfolding sound_name stored_kind
  stored-sound k =
      let size = and_left (within 1 name_most (length name)) _ named in
      let t = table-sound r.body (entries_of r.body) (body-shaped w r body k) in
      record {
        name-from = within-from 1 name_most (length name) size;
        name-to = within-to 1 name_most (length name) size;
        kind-from = within-from 2 4 r.kind k;
        kind-to = within-to 2 4 r.kind k;
        rising = t.0;
        total = t.1;
        total-to = omega (arith, t.1, t.2);
      }

-- after a record of kind a, and where it is a licence's under its name
stored-each : (w : Bool) (n a : ℕ) (name : List ℕ) (rs : List Record) → sound_records w a name rs ≡ true → (OfLicence a → sound_name name ≡ true) → Each StoredSound (stored_in n name rs)
unfolding sound_records stored_in stored_kind
stored-each w n a name [] h k = tt
stored-each w n a name (r ∷ rs) h k =
    each_append StoredSound (cond (stored_kind r.kind) (this ∷ []) []) (stored_in (cond (stored_kind r.kind) (suc n) n) under rs)
    (here (stored_kind r.kind) refl)
    (stored-each w (cond (stored_kind r.kind) (suc n) n) r.kind under rs (and_right (f && b && o) m h) (λ l. goes (eqb r.kind 1) refl l))
  where
    this : Stored
    this = record { number = n; name = name; kind = r.kind; table = table_in r.body (entries_of r.body) }

    under : List ℕ
    under = cond (eqb r.kind 1) r.body name

    f : Bool
    f = follows a r.kind

    b : Bool
    b = sound_body w r

    o : Bool
    o = not (eqb r.kind 1) || rises name r.body

    m : Bool
    m = sound_records w r.kind under rs

    front : f && b ≡ true
    front = and_left (f && b) o (and_left (f && b && o) m h)

    other : eqb r.kind 1 ≡ false → r.kind ≤ 5 → sound_name name ≡ true
    other q l = k (follows-other a r.kind (and_left f b front) q (ne_eqb r.kind 6 (λ e. omega arith)))

    no_name_lem : stored_kind r.kind ≡ true → eqb r.kind 1 ≡ false
    no_name_lem q = ne_eqb r.kind 1 (λ e. omega (arith, within-from 2 4 r.kind q))

    here : (t : Bool) → stored_kind r.kind ≡ t → Each StoredSound (cond t (this ∷ []) [])
    here true q = (stored-sound w r n name (other (no_name_lem q) (omega (arith, within-to 2 4 r.kind q))) (and_right f b front) q, tt)
    here false q = tt

    goes : (t : Bool) → eqb r.kind 1 ≡ t → OfLicence r.kind → sound_name (cond t r.body name) ≡ true
    goes true q l = name-sound w r (and_right f b front) q
    goes false q l = other q l.1

sound-parts : (book : List ℕ) → sound book ≡ true →
    (length book ≤ book_most) × (filled (wide (edition book)) (records_of book) ≡ true) × (length (stored book) ≤ stored_most)
unfolding sound
sound-parts book h =
    let a = leb (length book) book_most in
    let b = filled (wide (edition book)) (records_of book) in
    let c = leb (length (stored book)) stored_most in
    let front = and_left (a && b) c h in
    (leb-true (length book) book_most (and_left a b front), and_right a b front, leb-true (length (stored book)) stored_most (and_right (a && b) c h))

pub sound-length : (book : List ℕ) → sound book ≡ true → length book ≤ book_most
sound-length book h = (sound-parts book h).0

pub sound-most : (book : List ℕ) → sound book ≡ true → length (stored book) ≤ stored_most
sound-most book h = (sound-parts book h).2

pub stored_from-sound : (n : ℕ) (book : List ℕ) → sound book ≡ true → Each StoredSound (stored_from n book)
unfolding stored_from stored_of filled
stored_from-sound n book h = at (records_of book) (sound-parts book h).1
  where
    at : (o : Option (List Record)) → filled (wide (edition book)) o ≡ true → Each StoredSound (stored_of n o)
    at none k = tt
    at (some rs) k = stored-each (wide (edition book)) n 0 [] rs k (λ l. absurd (not-suc-le-zero l.0))

pub sound-stored : (book : List ℕ) → sound book ≡ true → Each StoredSound (stored book)
unfolding stored
sound-stored book h = stored_from-sound 0 book h

-- texts are numbered in book order
stored_in-number : (n i : ℕ) (name : List ℕ) (rs : List Record) → i < length (stored_in n name rs) → (get_or (stored_in n name rs) i no_text).number ≡ n + i
unfolding stored_in
stored_in-number n i name [] h = absurd (not-suc-le-zero h)
stored_in-number n i name (r ∷ rs) h = at (stored_kind r.kind) i h (λ m j l. stored_in-number m j under rs l)
  where
    this : Stored
    this = record { number = n; name = name; kind = r.kind; table = table_in r.body (entries_of r.body) }

    under : List ℕ
    under = cond (eqb r.kind 1) r.body name

    at : (t : Bool) (i : ℕ) → i < length (cond t (this ∷ []) [] ++ stored_in (cond t (suc n) n) under rs) →
        ((m j : ℕ) → j < length (stored_in m under rs) → (get_or (stored_in m under rs) j no_text).number ≡ m + j) →
        (get_or (cond t (this ∷ []) [] ++ stored_in (cond t (suc n) n) under rs) i no_text).number ≡ n + i
    at true zero l go = omega arith
    at true (suc i) l go = omega (arith, go (suc n) i (le_of_suc-le-suc l))
    at false i l go = go n i l

pub stored_from-number : (n : ℕ) (book : List ℕ) (k : ℕ) → k < length (stored_from n book) → (get_or (stored_from n book) k no_text).number ≡ n + k
unfolding stored_from stored_of
stored_from-number n book k h = at (records_of book) h
  where
    at : (o : Option (List Record)) → k < length (stored_of n o) → (get_or (stored_of n o) k no_text).number ≡ n + k
    at none l = absurd (not-suc-le-zero l)
    at (some rs) l = stored_in-number n k [] rs l

pub stored-number : (book : List ℕ) (k : ℕ) → k < length (stored book) → (get_or (stored book) k no_text).number ≡ k
unfolding stored
stored-number book k h = omega (arith, stored_from-number 0 book k h)

-- ---- what is too large to compute: any book over its size, and any with a text too many, is unsound
pub book_too_long : (book : List ℕ) → book_most < length book → sound book ≡ false
unfolding sound
book_too_long book h = simp (lt-leb (length book) book_most h)

pub too_many-texts : (book : List ℕ) → stored_most < length (stored book) → sound book ≡ false
unfolding sound
too_many-texts book h = and_not (leb (length book) book_most && filled (wide (edition book)) (records_of book)) _ (lt-leb (length (stored book)) stored_most h)
