-- The verdict on a book by what is still to come, step by step.
--     verdict-start, verdict-long                at the book's start, which is the job's answer; a book over its size
--     verdict-next, verdict_bad, verdict-over    a record that is sound, one that is not, and a text too many
--     verdict-end                                with none to come
-- And what a step of the walk answers: step_bad, step-over, step-name, step_other, step_end, step-broken, step-record.
-- Assumes nothing.
use mathlib.Core.Path.{◌≡◌, refl, sym, ap, ◌∙◌}
use mathlib.Core.Bool.{Bool, true, false, not, ◌&&◌, cond}
use mathlib.Core.List.{List, [], ◌∷◌, ◌++◌}
use mathlib.Core.Option.{Option, none, some}
use Prim.Native.Nat.{ℕ, suc, ◌+◌, ◌-◌, ◌≤◌, ◌<◌}
use native.Mathlib.Nat.{zero-add, add-zero}
use native.Mathlib.Omega.{arith}
use lib.Dec.{leb, eqb}
use lib.ListN.{length, take, drop}
use borrow.Author.Tests.{le-leb, lt-leb, eq-eqb, ne_eqb}
use Rattle.rules.specs.declared.Checked.{Checked}
use Rattle.rules.specs.Sizes.{book_most, stored_most}
use Rattle.rules.specs.Points.{wide}
use Rattle.rules.specs.Search.{Stored}
use Rattle.rules.specs.Book.{Record, records_of, also, stored_kind, sound_records, stored_in, stored_of, stored_from, stored, edition, filled, sound}
use Rattle.rules.specs.Refusal.{refusal, of_check}
use Rattle.rules.specs.Jobs.{check}
use Rattle.rules.proofs.SoundLaws.{book_too_long}
use Rattle.records.proofs.StepLaws.{RecordHere}
use Rattle.detection_check.specs.Walks.{refused, found, record_sound, book_verdict, Within, name_in, verdict_at, verdict_before, verdict_of, Onward, onward, ended, Stepped}
use Rattle.detection_check.specs.declared.Walk.{Walk}
use Rattle.std.specs.Prelude.{Result, Ok, Err, IsErrAnd}
use Rattle.rules.specs.declared.Refusal.{Refusal}
use Rattle.rules.specs.declared.Refusal.TheVariants.{BookUnsound}
use Rattle.rules.specs.Told.{checked_told}
use Rattle.detection_bodies.proofs.ByteLaws.{and_false}

-- ---- how many stored texts
abbrev pub counted : Bool → ℕ → ℕ
counted t n = cond t (n + 1) n

texts : List Record → ℕ
texts [] = 0
texts (r ∷ rs) = counted (stored_kind r.kind) (texts rs)

one_more : (t : Bool) (s : Stored) (l : List Stored) → length (cond t (s ∷ []) [] ++ l) ≡ counted t (length l)
one_more true s l = omega arith
one_more false s l = refl

texts-length : (rs : List Record) (n : ℕ) (name : List ℕ) → length (stored_in n name rs) ≡ texts rs
unfolding stored_in texts
texts-length [] n name = refl
texts-length (r ∷ rs) n name =
    let t = stored_kind r.kind in
    one_more t _ (stored_in (cond t (suc n) n) (cond (eqb r.kind 1) r.body name) rs) ∙
    ap (counted t) (texts-length rs (cond t (suc n) n) (cond (eqb r.kind 1) r.body name))

counted_add : (t : Bool) (n k : ℕ) → n + counted t k ≡ counted t n + k
counted_add true n k = omega arith
counted_add false n k = refl

texts_cons : (n : ℕ) (r : Record) (rs : List Record) → n + length (stored_in 0 [] (r ∷ rs)) ≡ counted (stored_kind r.kind) n + length (stored_in 0 [] rs)
unfolding texts
texts_cons n r rs =
    let t = stored_kind r.kind in
    ap (λ (k : ℕ). n + k) (texts-length (r ∷ rs) 0 []) ∙ counted_add t n (texts rs) ∙ ap (λ (k : ℕ). counted t n + k) (sym (texts-length rs 0 []))

-- ---- the verdict
module _ (w : Bool) (a : ℕ) (name : List ℕ) (n : ℕ) (r : Record) where
  pub verdict-next : (o : Option (List Record)) → record_sound w a name r ≡ true →
      book_verdict w a name n (also r o) ≡ book_verdict w r.kind (cond (eqb r.kind 1) r.body name) (counted (stored_kind r.kind) n) o
  unfolding book_verdict also sound_records record_sound
  verdict-next none h = refl
  verdict-next (some rs) h = rw (h, texts_cons n r rs)

  pub verdict_bad : (o : Option (List Record)) → record_sound w a name r ≡ false → book_verdict w a name n (also r o) ≡ refused
  unfolding book_verdict also sound_records record_sound
  verdict_bad none h = refl
  verdict_bad (some rs) h = rw h

  pub verdict-over : (o : Option (List Record)) → stored_most < counted (stored_kind r.kind) n → book_verdict w a name n (also r o) ≡ refused
  unfolding book_verdict also
  verdict-over none h = refl
  verdict-over (some rs) h =
      let all = n + length (stored_in 0 [] (r ∷ rs)) in
      rw (lt-leb all stored_most (omega (arith, texts_cons n r rs)), and_false)

pub verdict-end : (w : Bool) (a : ℕ) (name : List ℕ) (n : ℕ) → n ≤ stored_most → book_verdict w a name n (some []) ≡ cond (not (eqb a 1)) (found n) refused
unfolding book_verdict sound_records stored_in
verdict-end w a name n h = rw (add-zero n, le-leb n stored_most h) (at (not (eqb a 1)))
  where
    at : (t : Bool) → cond (t && true) (found n) refused ≡ cond t (found n) refused
    at true = refl
    at false = refl

-- ---- the job's answer
answer : Bool → ℕ → Checked
answer t n = record { refusal = cond (not t) 4 0; texts = cond (eqb (cond (not t) 4 0) 0) n 0 }

answer-is : (t : Bool) (n : ℕ) → answer t n ≡ cond t (found n) refused
unfolding answer
answer-is true n = refl
answer-is false n = refl

check-is : (book : List ℕ) → check book ≡ answer (sound book) (length (stored book))
unfolding check of_check refusal answer
check-is book = refl

pub verdict-long : (book : List ℕ) → book_most < length book → check book ≡ refused
unfolding answer
verdict-long book h = check-is book ∙ rw (book_too_long book h)

pub verdict-start : (book : List ℕ) → length book ≤ book_most → check book ≡ book_verdict (wide (edition book)) 0 [] 0 (records_of book)
unfolding sound stored stored_from filled stored_of book_verdict
verdict-start book h = check-is book ∙ rw (le-leb (length book) book_most h) (at (records_of book))
  where
    at : (o : Option (List Record)) → answer (true && filled (wide (edition book)) o && leb (length (stored_of 0 o)) stored_most) (length (stored_of 0 o)) ≡ book_verdict (wide (edition book)) 0 [] 0 o
    at none = answer-is false 0
    at (some rs) =
        let all = length (stored_in 0 [] rs) in
        answer-is (sound_records (wide (edition book)) 0 [] rs && leb all stored_most) all ∙ rw (zero-add all)

-- ---- a step of the walk
module _ (book : List ℕ) (w : Walk) (kind start len : ℕ) where
  -- the record as the definition has it, and as the part book[start..start + len] is lent
  abbrev this : Record
  this = record { kind = kind; body = take len (drop start book) }

  abbrev pub lent_record : Record
  lent_record = record { kind = kind; body = take (start + len - start) (drop start book) }

  same : lent_record ≡ this
  same = let k : start + len - start ≡ len = omega arith in rw k

  abbrev Stepping : Result Walk Refusal → Type 0
  Stepping r = Stepped book w (verdict_before book w this (start + len)) r

  pub step_bad : record_sound w.wide w.kind (name_in book w) lent_record ≡ false → Stepping (Err BookUnsound)
  unfolding verdict_of verdict_before
  step_bad h =
      record {
        same = sym (verdict_bad w.wide w.kind (name_in book w) w.texts this (records_of (drop (start + len) book)) (rw same at h));
        on = ended BookUnsound;
      }

  pub step-over : (n : ℕ) → n ≡ counted (stored_kind kind) w.texts → stored_most < n → Stepping (Err BookUnsound)
  unfolding verdict_of verdict_before
  step-over n q h =
      record {
        same = sym (verdict-over w.wide w.kind (name_in book w) w.texts this (records_of (drop (start + len) book)) (omega arith));
        on = ended BookUnsound;
      }

  module _ (n : ℕ) (q : n ≡ counted (stored_kind kind) w.texts) (most : n ≤ stored_most) (h : record_sound w.wide w.kind (name_in book w) lent_record ≡ true)
      (within : Within book w) (later : w.at < start + len) (fits : start + len ≤ length book) where
    moved : verdict_before book w this (start + len) ≡
        book_verdict w.wide kind (cond (eqb kind 1) (take len (drop start book)) (name_in book w)) n (records_of (drop (start + len) book))
    unfolding verdict_before
    moved =
        verdict-next w.wide w.kind (name_in book w) w.texts this (records_of (drop (start + len) book)) (rw same at h) ∙
        ap (λ (k : ℕ). book_verdict w.wide kind (cond (eqb kind 1) (take len (drop start book)) (name_in book w)) k (records_of (drop (start + len) book))) (sym q)

    pub step-name : kind ≡ 1 → Stepping (Ok (record { at = start + len; kind = kind; name = start; past = start + len; texts = n; wide = w.wide }))
    unfolding verdict_of verdict_at
    step-name e =
        let k : start + len - start ≡ len = omega arith in
        record { same = rw k (sym (moved ∙ rw (eq-eqb kind 1 e))); on = onward (record { at = start + len; kind = kind; name = start; past = start + len; texts = n; wide = w.wide }) (record { at = fits; name = omega arith; past = fits; texts = most }) later }

    pub step_other : (kind ≡ 1 → ⊥) → Stepping (Ok (record { at = start + len; kind = kind; name = w.name; past = w.past; texts = n; wide = w.wide }))
    unfolding verdict_of verdict_at
    step_other e =
        record {
          same = sym (moved ∙ rw (ne_eqb kind 1 e));
          on = onward (record { at = start + len; kind = kind; name = w.name; past = w.past; texts = n; wide = w.wide }) (record { at = fits; name = within.name; past = within.past; texts = most }) later;
        }

-- what stands at the walk's place
module _ (book : List ℕ) (w : Walk) where
  pub step-record : (kind start len : ℕ) (r : Result Walk Refusal) → RecordHere book w.at kind start len →
      Stepped book w (verdict_before book w (record { kind = kind; body = take len (drop start book) }) (start + len)) r → Stepped book w (verdict_at book w) r
  unfolding verdict_at verdict_before
  step-record kind start len r h s =
      record { same = s.same ∙ sym (ap (book_verdict w.wide w.kind (name_in book w) w.texts) h.is); on = s.on }

  pub step_end : w.texts ≤ stored_most → records_of (drop w.at book) ≡ some [] → verdict_at book w ≡ cond (not (eqb w.kind 1)) (found w.texts) refused
  unfolding verdict_at
  step_end most h = ap (book_verdict w.wide w.kind (name_in book w) w.texts) h ∙ verdict-end w.wide w.kind (name_in book w) w.texts most

  pub step-broken : records_of (drop w.at book) ≡ none → verdict_at book w ≡ refused
  unfolding verdict_at book_verdict
  step-broken h = ap (book_verdict w.wide w.kind (name_in book w) w.texts) h

-- a refusal that `?` hands on
pub told-as : (r : Result ℕ Refusal) (e : Refusal) → IsErrAnd r (λ x. x ≡ e) → checked_told r ≡ checked_told (Err e)
told-as (Ok n) e h = absurd h
told-as (Err x) e h = ap (λ (y : Refusal). checked_told (Err y)) h

-- ---- the walk: its verdict is the book's
pub record CheckWalk (book : List ℕ) (w : Walk) : Type 0 where
  pub within : Within book w
  pub all : verdict_at book w ≡ check book

pub walked_start : (book : List ℕ) → length book ≤ book_most → CheckWalk book (record { at = 0; kind = 0; name = 0; past = 0; texts = 0; wide = wide (edition book) })
unfolding verdict_at
walked_start book h =
    record {
      within = record { at = omega arith; name = omega arith; past = omega arith; texts = omega arith };
      all = sym (verdict-start book h);
    }

module _ (book : List ℕ) (w : Walk) (r : Result Walk Refusal) (walked : CheckWalk book w) (s : Stepped book w (verdict_at book w) r) where
  pub walked_on : (v : Walk) → r ≡ Ok v → w.at < v.at
  walked_on v e = later v (rw e at s.on)
    where
      later : (v : Walk) → Onward book w (Ok v) → w.at < v.at
      later v (onward u within l) = l

  pub walked_next : (v : Walk) → r ≡ Ok v → CheckWalk book v
  unfolding verdict_of
  walked_next v e = record { within = inside v (rw e at s.on); all = ap (verdict_of book) (sym e) ∙ s.same ∙ walked.all }
    where
      inside : (v : Walk) → Onward book w (Ok v) → Within book v
      inside v (onward u within l) = within

  pub walked_done : (e : Refusal) → r ≡ Err e → checked_told (Err e) ≡ check book
  unfolding verdict_of
  walked_done e q = ap (verdict_of book) (sym q) ∙ s.same ∙ walked.all
