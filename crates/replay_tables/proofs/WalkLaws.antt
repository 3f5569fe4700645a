-- The walk along a table's body. `Telling body whole d at w`: what is told so far stands in d up to w, and with the entries from `at` on it is
-- the whole; two bytes are told for each that is walked, at most.
-- Assumes nothing.
use mathlib.Core.Path.{◌≡◌, sym, ap, ◌∙◌}
use mathlib.Core.Bool.{true}
use mathlib.Core.List.{List, ◌∷◌, ◌++◌, append_assoc, append-nil}
use mathlib.Core.Option.{some}
use Prim.Native.Nat.{ℕ, ◌+◌, ◌-◌, ◌*◌, ◌≤◌, ◌<◌}
use native.Mathlib.Omega.{arith}
use lib.ListN.{length, take, drop, length-append, length-take}
use lib.Seq.{slice}
use Rattle.lists.specs.Wrote.{Wrote, InFront}
use Rattle.rules.specs.Prefix.{Counted}
use Rattle.rules.specs.Book.{number, entry_form, entry_of, entries_of, pieces, shaped, table_in}
use Rattle.rules.proofs.SoundLaws.{table-size, sound-some, body-total}
use Rattle.ngram_meet.proofs.MeetLaws.{entry_end, stored_entry, NextEntry, entry_next, entry-end}
use Rattle.detection_shelf.specs.Bodies.{table_of_body}
use Rattle.questions.specs.Numbers.{decimal}
use Rattle.questions.specs.Hex.{hexed}
use Rattle.questions.proofs.HexLaws.{hexed-length}
use Rattle.questions.proofs.NumberLaws.{decimal-length}
use Rattle.questions.proofs.PutLaws.{front-more}
use Rattle.replay_tables.specs.Told.{entry_told, entries_told}

-- ---- one entry
pub entry_length : (e : Counted) (len : ℕ) → e.count < 4294967296 → length e.bytes ≤ len → length (entry_told e) ≤ 2 * (8 + len)
unfolding entry_told
entry_length e len h k =
    omega (arith, decimal-length e.count h, hexed-length e.bytes, length-append (decimal e.count) (58 ∷ hexed e.bytes))

pub part_length : (a e : ℕ) (l : List ℕ) → length (take (e - a) (drop a l)) ≤ e - a
part_length a e l = rw length-take (omega arith)

-- ---- the walk
pub record Telling (body whole d : List ℕ) (at w : ℕ) : Type 0 where
  pub stored : List Counted
  pub there : pieces entry_form entry_of (drop at body) ≡ some stored
  pub out : List ℕ
  pub front : InFront out w d
  pub both : out ++ entries_told stored ≡ whole
  pub room : w ≤ 2 * at
  pub walked : at ≤ length body
  pub long : 2 * length body + 1 ≤ length d

-- what is told but for the newline
abbrev pub whole_of : List ℕ → List ℕ
whole_of body = decimal (table_of_body body).total ++ entries_told (table_of_body body).entries

module _ (body : List ℕ) (h : shaped body (entries_of body) ≡ true) where
  pub body-long : 8 ≤ length body
  body-long = table-size body (entries_of body) h

  pub telling_start : (d : List ℕ) (total w : ℕ) → total ≡ number 4 (drop 0 body) → total < 4294967296 → InFront (decimal total) w d → 2 * length body + 1 ≤ length d →
      Telling body (whole_of body) d 8 w
  unfolding table_of_body entries_of
  telling_start d total w e l f k =
      let t : total ≡ (table_in body (entries_of body)).total = e ∙ sym (body-total body (entries_of body) h) in
      record {
        stored = (table_in body (entries_of body)).entries;
        there = sound-some body (entries_of body) h;
        out = decimal total;
        front = f;
        both = ap (λ (n : ℕ). decimal n ++ entries_told (table_in body (entries_of body)).entries) t;
        room = omega (arith, f.count, decimal-length total l);
        walked = body-long;
        long = k;
      }

module _ {body whole d : List ℕ} {at w : ℕ} (c : Telling body whole d at w) where
  module _ (l : at < length body) where
    abbrev nx : NextEntry body at c.stored
    nx = entry_next body at c.stored c.there l

    pub telling_fits : entry_end body at ≤ length body
    telling_fits = nx.fits

    pub telling_more : (len r : ℕ) (d' : List ℕ) → len ≡ number 4 (drop (at + 4) body) → r ≤ w + 2 * (8 + len) → length d' ≡ length d →
        Wrote (take w d ++ entry_told (record { bytes = slice (at + 8) (at + 8 + len) body; count = number 4 (drop at body) })) d r d' →
        Telling body whole d' (at + 8 + len) r
    unfolding entries_told
    telling_more len r d' e h k p =
        let this : Counted = record { bytes = slice (at + 8) (at + 8 + len) body; count = number 4 (drop at body) } in
        let same : stored_entry body at ≡ this = ap (λ (n : ℕ). record { bytes = slice (at + 8) (at + 8 + n) body; count = number 4 (drop at body) }) (sym e) in
        let fits = nx.fits in
        record {
          stored = nx.rest;
          there = rw e nx.there;
          out = c.out ++ entry_told this;
          front = front-more (entry_told this) c.front p;
          both =
              append_assoc c.out (entry_told this) (entries_told nx.rest)
              ∙ ap (λ (es : List Counted). c.out ++ entries_told es) (sym (nx.first ∙ ap (λ (x : Counted). x ∷ nx.rest) same))
              ∙ c.both;
          room = omega (arith, h, c.room);
          walked = omega (arith, fits, e);
          long = omega (arith, k, c.long);
        }

  pub telling_room : w < length d
  telling_room = omega (arith, c.room, c.walked, c.long)

  pub telling_end : length body ≤ at → InFront whole w d
  unfolding entries_told
  telling_end h =
      let e = entry-end body at c.stored c.there h in
      let o : c.out ≡ whole = sym (append-nil c.out) ∙ ap (λ (es : List Counted). c.out ++ entries_told es) (sym e) ∙ c.both in
      rw o at c.front
