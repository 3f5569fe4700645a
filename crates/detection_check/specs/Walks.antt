-- What a walk over a book says at a place: the verdict on what is still to come, which is the book's own at the start.
-- Assumes nothing.
use Rattle.std.specs.Prelude.{Result, Ok, Err, ◌≡◌, ℕ, ◌+◌, ◌-◌, ◌≤◌, ◌<◌, Bool, not, ◌&&◌, ◌||◌, cond, List, [], leb, eqb, length, take, drop}
use Rattle.std.proofs.Math.Option.{Option, none, some}
use Rattle.rules.specs.declared.Checked.{Checked}
use Rattle.rules.specs.declared.Refusal.{Refusal}
use Rattle.rules.specs.Told.{refusal_number}
use Rattle.rules.specs.Sizes.{stored_most}
use Rattle.rules.specs.Bytes.{rises}
use Rattle.rules.specs.Book.{Record, records_of, also, follows, sound_body, sound_records, stored_in}
use Rattle.detection_check.specs.declared.Walk.{Walk}

-- the two answers of `check`
abbrev pub refused : Checked
refused = record { refusal = 4; texts = 0 }

abbrev pub found : ℕ → Checked
found n = record { refusal = 0; texts = n }

-- a record after one of kind a, under the licence `name`; `w`: words may be UTF-8
unfoldable pub record_sound : Bool → ℕ → List ℕ → Record → Bool
record_sound w a name r = follows a r.kind && sound_body w r && (not (eqb r.kind 1) || rises name r.body)

-- after a record of kind a, under `name`, with n stored texts before: the answer by what is still to come
unfoldable pub book_verdict : Bool → ℕ → List ℕ → ℕ → Option (List Record) → Checked
book_verdict w a name n none = refused
book_verdict w a name n (some rs) =
    let all = n + length (stored_in 0 [] rs) in
    cond (sound_records w a name rs && leb all stored_most) (found all) refused

-- a walk's places are the book's
pub record Within (book : List ℕ) (w : Walk) : Type 0 where
  pub at : w.at ≤ length book
  pub name : w.name ≤ w.past
  pub past : w.past ≤ length book
  pub texts : w.texts ≤ stored_most

abbrev pub name_in : List ℕ → Walk → List ℕ
name_in book w = take (w.past - w.name) (drop w.name book)

unfoldable pub verdict_at : List ℕ → Walk → Checked
verdict_at book w = book_verdict w.wide w.kind (name_in book w) w.texts (records_of (drop w.at book))

-- the same where the record r stands at the walk's place, and the next at `to`
unfoldable pub verdict_before : List ℕ → Walk → Record → ℕ → Checked
verdict_before book w r to = book_verdict w.wide w.kind (name_in book w) w.texts (also r (records_of (drop to book)))

-- a step keeps the verdict, and goes on or refuses
unfoldable pub verdict_of : List ℕ → Result Walk Refusal → Checked
verdict_of book (Ok w) = verdict_at book w
verdict_of book (Err r) = record { refusal = refusal_number r; texts = 0 }

pub data Onward (book : List ℕ) (w : Walk) : Result Walk Refusal → Type 0 where
  onward : (v : Walk) → Within book v → w.at < v.at → Onward book w (Ok v)
  ended : (r : Refusal) → Onward book w (Err r)

pub record Stepped (book : List ℕ) (w : Walk) (all : Checked) (r : Result Walk Refusal) : Type 0 where
  pub same : verdict_of book r ≡ all
  pub on : Onward book w r
