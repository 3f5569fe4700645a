-- What stands at a place of a list, case by case, and its body and its numbers as parts of the whole list.
--     front-end, front-broken, front-whole     from the lengths, the definition's case
--     framed-whole                             from the code's answer, the definition's case
-- Assumes nothing.
use mathlib.Core.Path.{◌≡◌, refl, sym, ap, ◌∙◌}
use mathlib.Core.Bool.{Bool, true, cond, false≢true}
use mathlib.Core.List.{List, [], ◌∷◌}
use Prim.Native.Nat.{ℕ, zero, suc, ◌+◌, ◌*◌, ◌-◌, ◌≤◌, ◌<◌}
use native.Mathlib.Nat.{not-suc-le-zero, le_of_suc-le-suc}
use native.Mathlib.Omega.{arith}
use lib.Dec.{leb}
use lib.ListN.{length, take, drop, length-drop}
use lib.Seq.{drop-drop, length-take-le}
use borrow.Author.Tests.{le-leb, lt-leb}
use Rattle.lists.proofs.SliceLaws.{drop-done, part_slice}
use Rattle.rules.specs.Book.{number, Form, Piece, Front, front, end, whole, broken, record_form, record_of, At, placed as placed_at, record_at, entry_form, entry_of}
use Rattle.rules.proofs.Steps.{front_cut}
use Rattle.std.specs.Prelude.{Option, None, Some, Result, Ok, Err, IsErr}
use Rattle.records.specs.declared.pieces.Piece.{Piece as Found}
use Rattle.records.specs.declared.pieces.Record.{Record}
use Rattle.records.specs.declared.pieces.Broken.{Broken}
use Rattle.records.specs.Places.{breaks_off, framed, at_of, entry_framed}

-- a number needs its own bytes only
pub number-take : (n k : ℕ) (s : List ℕ) → n ≤ k → number n (take k s) ≡ number n s
unfolding number
number-take zero k s h = refl
number-take (suc n) zero s h = absurd (not-suc-le-zero h)
number-take (suc n) (suc k) [] h = refl
number-take (suc n) (suc k) (x ∷ xs) h = ap (λ (m : ℕ). x + 256 * m) (number-take n k xs (le_of_suc-le-suc h))

-- ---- the three cases, of a whole list
abbrev cut : Form → List ℕ → Piece
cut f s = record { head = take f.head s; body = take (number 4 (drop f.place s)) (drop f.head s) }

front-some : (f : Form) (s : List ℕ) → 0 < length s →
    front f s ≡ cond (leb (f.head + number 4 (drop f.place s)) (length s)) (whole (cut f s) (drop (f.head + number 4 (drop f.place s)) s)) broken
unfolding front
front-some f [] h = absurd (not-suc-le-zero h)
front-some f (x ∷ xs) h = refl

-- ---- at a place
module _ (f : Form) (s : List ℕ) (at : ℕ) where
  pub front-end : length s ≤ at → front f (drop at s) ≡ end
  unfolding front
  front-end h = ap (front f) (drop-done s at h)

  abbrev len : ℕ
  len = number 4 (drop (at + f.place) s)

  placed : number 4 (drop f.place (drop at s)) ≡ len
  placed = ap (number 4) (drop-drop f.place at s)

  pub front-broken : at < length s → length s < at + f.head + len → front f (drop at s) ≡ broken
  front-broken h k =
      let l = length-drop at s in
      front-some f (drop at s) (omega arith) ∙
      simp (lt-leb (f.head + number 4 (drop f.place (drop at s))) (length (drop at s)) (omega (arith, placed)))

  pub front-whole : at < length s → at + f.head + len ≤ length s → front f (drop at s) ≡ whole (cut f (drop at s)) (drop (at + f.head + len) s)
  front-whole h k =
      let l = length-drop at s in
      let n = number 4 (drop f.place (drop at s)) in
      let e : at + (f.head + n) ≡ at + f.head + len = omega (arith, placed) in
      let t : leb (f.head + n) (length (drop at s)) ≡ true = le-leb (f.head + n) (length (drop at s)) (omega (arith, placed)) in
      front-some f (drop at s) (omega arith) ∙ ap (λ (b : Bool). cond b (whole (cut f (drop at s)) (drop (f.head + n) (drop at s))) broken) t ∙
      ap (λ (m : List ℕ). whole (cut f (drop at s)) m) (drop-drop (f.head + n) at s ∙ ap (λ (m : ℕ). drop m s) e)

  pub cut-length : at + f.head + len ≤ length s → length (cut f (drop at s)).body ≡ len
  cut-length k =
      length-take-le (number 4 (drop f.place (drop at s))) (drop f.head (drop at s))
      (omega (arith, placed, length-drop f.head (drop at s), length-drop at s)) ∙ placed

-- ---- from the code's answer
-- a whole piece at `at`: its body is the part of s at `start`, of `len` bytes
pub record Here (f : Form) (s : List ℕ) (at start len : ℕ) : Type 0 where
  pub begins : start ≡ at + f.head
  pub fits : start + len ≤ length s
  pub is : front f (drop at s) ≡ whole (record { head = take f.head (drop at s); body = take len (drop start s) }) (drop (start + len) s)

no : ◌≡◌ {A = ℕ} 0 1 → ⊥
no z = omega arith

pub here_of : (f : Form) (s : List ℕ) (at : ℕ) (p : Piece) (more : List ℕ) → front f (drop at s) ≡ whole p more → 0 < f.head →
    Here f s at (at + f.head) (length p.body)
here_of f s at p more q pos =
    let c = front_cut f (drop at s) p more q in
    let n = number 4 (drop f.place (drop at s)) in
    let l : length p.body ≡ n =
    ap length c.body ∙ length-take-le n (drop f.head (drop at s)) (omega (arith, c.fits, length-drop f.head (drop at s))) in
    let b : p.body ≡ take (length p.body) (drop (at + f.head) s) =
    c.body ∙ ap (λ (d : List ℕ). take n d) (drop-drop f.head at s) ∙ ap (λ (k : ℕ). take k (drop (at + f.head) s)) (sym l) in
    let k : at + (f.head + n) ≡ at + f.head + length p.body = omega arith in
    let m : more ≡ drop (at + f.head + length p.body) s =
    c.rest ∙ drop-drop (f.head + n) at s ∙ ap (λ (j : ℕ). drop j s) k in
    record {
      begins = refl;
      fits = omega (arith, c.fits, length-drop at s);
      is = q ∙ ap (λ (h : List ℕ). whole (record { head = h; body = p.body }) more) c.head ∙
          ap (λ (d : List ℕ). whole (record { head = take f.head (drop at s); body = d }) more) b ∙
          ap (λ (d : List ℕ). whole (record { head = take f.head (drop at s); body = take (length p.body) (drop (at + f.head) s) }) d) m;
    }

pub framed-whole : (f : Form) (s : List ℕ) (at : ℕ) (found : Found) → 0 < f.head →
    framed (at + f.head) (front f (drop at s)) ≡ Ok (Some found) → Here f s at found.start found.len
unfolding framed
framed-whole f s at found pos e = go (front f (drop at s)) refl e
  where
    go : (r : Front) → front f (drop at s) ≡ r → framed (at + f.head) r ≡ Ok (Some found) → Here f s at found.start found.len
    go Front.end q e = let z : ◌≡◌ {A = ℕ} 0 1 = cc in absurd (no z)
    go (Front.whole p more) q e =
        let same : record { start = at + f.head; len = length p.body } ≡ found = cc in
        rw (ap (λ (x : Found). x.start) same, ap (λ (x : Found). x.len) same) at (here_of f s at p more q pos)
    go Front.broken q e = let z : ◌≡◌ {A = ℕ} 0 1 = cc in absurd (no z)

-- the numbers in the head of a record and of an entry
pub head-number : (n i k : ℕ) (s : List ℕ) → i + n ≤ k → number n (drop i (take k s)) ≡ number n (drop i s)
head-number n i k s h = ap (number n) (sym (part_slice i k s)) ∙ number-take n (k - i) (drop i s) (omega arith)

pub framed-end : (start : ℕ) (r : Front) → framed start r ≡ Ok None → r ≡ Front.end
unfolding framed
framed-end start Front.end e = refl
framed-end start (Front.whole p more) e = let z : ◌≡◌ {A = ℕ} 0 1 = cc in absurd (no z)
framed-end start Front.broken e = let z : ◌≡◌ {A = ℕ} 0 1 = cc in absurd (no z)

pub framed-broken : (start : ℕ) (r : Front) → framed start r ≡ Err breaks_off → r ≡ Front.broken
unfolding framed
framed-broken start Front.end e = let z : ◌≡◌ {A = ℕ} 0 1 = cc in absurd (no z)
framed-broken start (Front.whole p more) e = let z : ◌≡◌ {A = ℕ} 0 1 = cc in absurd (no z)
framed-broken start Front.broken e = refl

-- what breaks off is the one answer that is an error
pub broken-alone : {A : Type 0} (r : Result A Broken) → IsErr r → r ≡ Err breaks_off
broken-alone (Ok x) e = absurd (false≢true e)
broken-alone (Err b) e = refl

pub at-broken : (r : Result (Option Record) Broken) → IsErr r → at_of r ≡ At.broken
at-broken r e = ap at_of (broken-alone r e)

-- ---- a record and an entry
body-length : (f : Form) (s : List ℕ) (at start len : ℕ) → Here f s at start len → length (take len (drop start s)) ≡ len
body-length f s at start len h = length-take-le len (drop start s) (omega (arith, length-drop start s, h.fits))

pub record-placed : (s : List ℕ) (at start len : ℕ) → Here record_form s at start len → record_at s at ≡ At.whole (number 2 (drop (at + 4) s)) start len
unfolding record_at placed_at record_of
record-placed s at start len h =
    let k : number 2 (drop 4 (take 6 (drop at s))) ≡ number 2 (drop (at + 4) s) =
    head-number 2 4 6 (drop at s) (omega arith) ∙ ap (number 2) (drop-drop 4 at s) in
    ap (placed_at at) h.is ∙ rw (k, body-length record_form s at start len h, ← h.begins)

pub entry-framed : (s : List ℕ) (at start len : ℕ) → Here entry_form s at start len →
    entry_framed at (front entry_form (drop at s)) ≡ Ok (Some (record { count = number 4 (drop at s); start = start; len = len }))
unfolding entry_framed entry_of
entry-framed s at start len h =
    ap (entry_framed at) h.is ∙ rw (number-take 4 8 (drop at s) (omega arith), body-length entry_form s at start len h, ← h.begins)
