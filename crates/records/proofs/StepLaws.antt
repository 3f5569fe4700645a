-- The records of a book, and the entries of a table body, from a place on: none at the end, none where one breaks off, and else the one
-- that stands there before those from the place after it on.
-- Assumes nothing.
use mathlib.Core.Path.{◌≡◌, refl, sym, ap, ◌∙◌}
use mathlib.Core.List.{List, []}
use mathlib.Core.Option.{Option, none, some}
use Prim.Native.Nat.{ℕ, ◌+◌, ◌≤◌, ◌<◌}
use native.Mathlib.Omega.{arith}
use lib.ListN.{length, take, drop}
use lib.Seq.{drop-drop}
use Rattle.rules.specs.Prefix.{Counted}
use Rattle.rules.specs.Book.{number, Form, Piece, Front, front, also, go_on, pieces, record_form, record_of, records_of, At, placed, record_at, entry_form, entry_of}
use Rattle.rules.proofs.Steps.{pieces_step}
use Rattle.std.specs.Prelude.{None, Some, Ok, Err}
use Rattle.records.specs.declared.pieces.Entry.{Entry}
use Rattle.records.specs.Places.{breaks_off, entry_framed}
use Rattle.records.proofs.FrontLaws.{Here, here_of, head-number, number-take, record-placed, entry-framed}

no : ◌≡◌ {A = ℕ} 0 1 → ⊥
no z = omega arith

-- ---- any pieces
module _ {A : Type 0} (f : Form) (read : Piece → A) (s : List ℕ) (at : ℕ) (pos : 0 < f.head) where
  pieces_end : front f (drop at s) ≡ Front.end → pieces f read (drop at s) ≡ some []
  unfolding go_on
  pieces_end e = pieces_step f read pos (drop at s) ∙ ap (go_on read (pieces f read)) e

  pieces-broken : front f (drop at s) ≡ Front.broken → pieces f read (drop at s) ≡ none
  unfolding go_on
  pieces-broken e = pieces_step f read pos (drop at s) ∙ ap (go_on read (pieces f read)) e

  pieces-next : (start len : ℕ) → Here f s at start len →
      pieces f read (drop at s) ≡
      also (read (record { head = take f.head (drop at s); body = take len (drop start s) })) (pieces f read (drop (start + len) s))
  unfolding go_on
  pieces-next start len h = pieces_step f read pos (drop at s) ∙ ap (go_on read (pieces f read)) h.is

-- ---- records
-- a whole record at `at`
pub record RecordHere (s : List ℕ) (at kind start len : ℕ) : Type 0 where
  pub later : at < start + len
  pub begins : at + 6 ≡ start
  pub fits : start + len ≤ length s
  pub is : records_of (drop at s) ≡ also (record { kind = kind; body = take len (drop start s) }) (records_of (drop (start + len) s))

pub record-here : (s : List ℕ) (at kind start len : ℕ) → record_at s at ≡ At.whole kind start len → RecordHere s at kind start len
unfolding record_at placed records_of record_of
record-here s at kind start len found = go (front record_form (drop at s)) refl found
  where
    go : (r : Front) → front record_form (drop at s) ≡ r → placed at r ≡ At.whole kind start len → RecordHere s at kind start len
    go Front.end q e = let z : ◌≡◌ {A = ℕ} 0 1 = cc in absurd (no z)
    go (Front.whole p more) q e =
        let a : at + 6 ≡ start = cc in
        let b : length p.body ≡ len = cc in
        let h : Here record_form s at start len = rw (a, b) at (here_of record_form s at p more q (omega arith)) in
        let placed = record-placed s at start len h in
        let k : number 2 (drop (at + 4) s) ≡ kind = cc in
        let body = take len (drop start s) in
        record {
          later = omega (arith, h.begins);
          begins = a;
          fits = h.fits;
          is = pieces-next record_form record_of s at (omega arith) start len h ∙
              ap (λ (m : ℕ). also (record { kind = m; body = body }) (pieces record_form record_of (drop (start + len) s)))
              (head-number 2 4 6 (drop at s) (omega arith) ∙ ap (number 2) (drop-drop 4 at s) ∙ k);
        }
    go Front.broken q e = let z : ◌≡◌ {A = ℕ} 0 1 = cc in absurd (no z)

pub record-end : (s : List ℕ) (at : ℕ) → record_at s at ≡ At.end → records_of (drop at s) ≡ some []
unfolding record_at placed records_of
record-end s at found = go (front record_form (drop at s)) refl found
  where
    go : (r : Front) → front record_form (drop at s) ≡ r → placed at r ≡ At.end → records_of (drop at s) ≡ some []
    go Front.end q e = pieces_end record_form record_of s at (omega arith) q
    go (Front.whole p more) q e = let z : ◌≡◌ {A = ℕ} 0 1 = cc in absurd (no z)
    go Front.broken q e = let z : ◌≡◌ {A = ℕ} 0 1 = cc in absurd (no z)

pub record-broken : (s : List ℕ) (at : ℕ) → record_at s at ≡ At.broken → records_of (drop at s) ≡ none
unfolding record_at placed records_of
record-broken s at found = go (front record_form (drop at s)) refl found
  where
    go : (r : Front) → front record_form (drop at s) ≡ r → placed at r ≡ At.broken → records_of (drop at s) ≡ none
    go Front.end q e = let z : ◌≡◌ {A = ℕ} 0 1 = cc in absurd (no z)
    go (Front.whole p more) q e = let z : ◌≡◌ {A = ℕ} 0 1 = cc in absurd (no z)
    go Front.broken q e = pieces-broken record_form record_of s at (omega arith) q

-- ---- entries, of a body or of any list
abbrev pub entries_behind : List ℕ → ℕ → Option (List Counted)
entries_behind s at = pieces entry_form entry_of (drop at s)

pub record EntryHere (s : List ℕ) (at count start len : ℕ) : Type 0 where
  pub begins : start ≡ at + 8
  pub fits : start + len ≤ length s
  pub is : entries_behind s at ≡ also (record { bytes = take len (drop start s); count = count }) (entries_behind s (start + len))

pub entry_here : (s : List ℕ) (at : ℕ) (found : Entry) → entry_framed at (front entry_form (drop at s)) ≡ Ok (Some found) →
    EntryHere s at found.count found.start found.len
unfolding entry_framed entry_of
entry_here s at found e = go (front entry_form (drop at s)) refl e
  where
    go : (r : Front) → front entry_form (drop at s) ≡ r → entry_framed at r ≡ Ok (Some found) → EntryHere s at found.count found.start found.len
    go Front.end q e = let z : ◌≡◌ {A = ℕ} 0 1 = cc in absurd (no z)
    go (Front.whole p more) q e =
        let same : record { count = number 4 p.head; start = at + 8; len = length p.body } ≡ found = cc in
        let a = ap (λ (x : Entry). x.start) same in
        let b = ap (λ (x : Entry). x.len) same in
        let h : Here entry_form s at found.start found.len = rw (a, b) at (here_of entry_form s at p more q (omega arith)) in
        let framed : record { count = number 4 p.head; start = at + 8; len = length p.body } ≡ record { count = number 4 (drop at s); start = found.start; len = found.len } =
        let t = entry-framed s at found.start found.len h in cc in
        let k : number 4 (drop at s) ≡ found.count = sym (ap (λ (x : Entry). x.count) framed) ∙ ap (λ (x : Entry). x.count) same in
        let bytes = take found.len (drop found.start s) in
        record {
          begins = h.begins;
          fits = h.fits;
          is = pieces-next entry_form entry_of s at (omega arith) found.start found.len h ∙
              ap (λ (m : ℕ). also (record { bytes = bytes; count = m }) (entries_behind s (found.start + found.len))) (number-take 4 8 (drop at s) (omega arith) ∙ k);
        }
    go Front.broken q e = let z : ◌≡◌ {A = ℕ} 0 1 = cc in absurd (no z)

pub entry-end : (s : List ℕ) (at : ℕ) → entry_framed at (front entry_form (drop at s)) ≡ Ok None → entries_behind s at ≡ some []
unfolding entry_framed
entry-end s at found = go (front entry_form (drop at s)) refl found
  where
    go : (r : Front) → front entry_form (drop at s) ≡ r → entry_framed at r ≡ Ok None → entries_behind s at ≡ some []
    go Front.end q e = pieces_end entry_form entry_of s at (omega arith) q
    go (Front.whole p more) q e = let z : ◌≡◌ {A = ℕ} 0 1 = cc in absurd (no z)
    go Front.broken q e = let z : ◌≡◌ {A = ℕ} 0 1 = cc in absurd (no z)

pub entry-broken : (s : List ℕ) (at : ℕ) → entry_framed at (front entry_form (drop at s)) ≡ Err breaks_off → entries_behind s at ≡ none
unfolding entry_framed
entry-broken s at found = go (front entry_form (drop at s)) refl found
  where
    go : (r : Front) → front entry_form (drop at s) ≡ r → entry_framed at r ≡ Err breaks_off → entries_behind s at ≡ none
    go Front.end q e = let z : ◌≡◌ {A = ℕ} 0 1 = cc in absurd (no z)
    go (Front.whole p more) q e = let z : ◌≡◌ {A = ℕ} 0 1 = cc in absurd (no z)
    go Front.broken q e = pieces-broken entry_form entry_of s at (omega arith) q
