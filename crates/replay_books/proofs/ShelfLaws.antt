-- A record behind the end of a book: its body first, then its head.
--     put_back         a part that was lent up to the end, put back
--     head-put         the two numbers of a head are one run of bytes
--     stays_at, stayed           the book up to its end, where nothing, or only what is behind it, was written
--     grown            a body from the sixth byte on and the head before it
--     first-edition, no_room, opened   what a book begins with
--     compiled-front   what `compile` leaves of its output
-- Assumes nothing.
use mathlib.Core.Path.{◌≡◌, refl, sym, ap, subst, ◌∙◌}
use mathlib.Core.List.{List, [], ◌++◌, append-nil}
use Prim.Native.Nat.{ℕ, ◌+◌, ◌-◌, ◌%◌, ◌≤◌, ◌<◌}
use native.Mathlib.Omega.{arith}
use lib.ListN.{length, take, drop, length-append, length-drop, take-append-drop, drop_of_length-le}
use lib.Seq.{length-take-le, take-append-le, take-append-add, take-append_seam, take_at, drop_at}
use borrow.Author.Tests.{eq-eqb, ne_eqb, lt-ltb, le-ltb}
use borrow.Rule.Slice.PartMut.{put_mid}
use Rattle.lists.specs.Wrote.{InFront}
use Rattle.rules.specs.declared.Compiled.{Compiled}
use Rattle.rules.specs.Book.{written, compiled}
use Rattle.rules.specs.Refusal.{refusal, of_compile}
use Rattle.rules.specs.Jobs.{compile, output_after, over, lent, CompileDone}
use Rattle.records.specs.Written.{put_at}
use Rattle.records.proofs.NumberLaws.{length-written, put_two}
use Rattle.replay_books.specs.Shelf.{head_out, opening, Grown, stays, grows}

-- a part that was lent up to the end, put back
pub put_back : (m : ℕ) (b last : List ℕ) → m ≤ length b → put_mid m (length b - m) b last ≡ take m b ++ last
put_back m b last h =
    ap (λ (l : List ℕ). take m b ++ (last ++ l)) (drop_of_length-le (drop m b) {i = length b - m} (rw length-drop (omega arith))) ∙
    ap (λ (l : List ℕ). take m b ++ l) (append-nil last)

pub head-put : (at len kind : ℕ) (d : List ℕ) → at + 6 ≤ length d → put_at (at + 4) (written 2 kind) (put_at at (written 4 len) d) ≡ put_at at (head_out len kind) d
head-put at len kind d h =
    let four = length-written 4 len in
    ap (λ (k : ℕ). put_at (at + k) (written 2 kind) (put_at at (written 4 len) d)) (sym four) ∙
    put_two at (written 4 len) (written 2 kind) d (omega arith)

head-length : (len kind : ℕ) → length (head_out len kind) ≡ 6
head-length len kind = omega (arith, length-append (written 4 len) (written 2 kind), length-written 4 len, length-written 2 kind)

module _ (at : ℕ) (b₀ : List ℕ) where
  pub stays_at : at ≤ length b₀ → InFront (take at b₀) at b₀
  stays_at h = record { within = h; count = sym (length-take-le at b₀ h); bytes = refl }

  -- what is behind the place m was written
  before_same : (m : ℕ) (last : List ℕ) → at ≤ m → m ≤ length b₀ → take at (take m b₀ ++ last) ≡ take at b₀
  before_same m last h k =
      let l = length-take-le m b₀ k in
      take-append-le at (take m b₀) last (omega arith) ∙ sym (take-append-le at (take m b₀) (drop m b₀) (omega arith)) ∙
      ap (take at) (take-append-drop m b₀)

  stays-before : (m : ℕ) (last : List ℕ) → at ≤ m → m ≤ length b₀ → InFront (take at b₀) at (take m b₀ ++ last)
  stays-before m last h k =
      let l = length-append (take m b₀) last in
      let n = length-take-le m b₀ k in
      record { within = omega arith; count = sym (length-take-le at b₀ (omega arith)); bytes = before_same m last h k }

  pub put_front : (r : ℕ) (p : List ℕ) → r ≡ at + length p → r ≤ length b₀ → InFront (take at b₀ ++ p) r (put_at at p b₀)
  unfolding put_at
  put_front r p e h =
      let l : length (take at b₀ ++ p) ≡ r = omega (arith, length-append (take at b₀) p, length-take-le at b₀ (omega arith)) in
      record {
        within = omega (arith, length-append (take at b₀ ++ p) (drop (at + length p) b₀));
        count = sym l;
        bytes = take_at (take at b₀ ++ p) (drop (at + length p) b₀) r l;
      }

  module _ (last body head : List ℕ) (len : ℕ) (six : length head ≡ 6) (room : at + 6 ≤ length b₀) (fits : len ≤ length last) (is : take len last ≡ body) where
    abbrev front : List ℕ
    front = take at b₀ ++ head

    front_length : length front ≡ at + 6
    front_length = omega (arith, length-append (take at b₀) head, length-take-le at b₀ (omega arith))

    put_is : put_at at head (take (at + 6) b₀ ++ last) ≡ front ++ last
    unfolding put_at
    put_is =
        let s = before_same (at + 6) last (omega arith) room in
        let d : drop (at + length head) (take (at + 6) b₀ ++ last) ≡ last =
        ap (λ (k : ℕ). drop (at + k) (take (at + 6) b₀ ++ last)) six ∙ drop_at (take (at + 6) b₀) last (at + 6) (length-take-le (at + 6) b₀ room) in
        rw (s, d)

    body-length : length body ≡ len
    body-length = ap length (sym is) ∙ length-take-le len last fits

    grows_by : InFront (front ++ body) (at + 6 + len) (put_at at head (take (at + 6) b₀ ++ last))
    grows_by =
        rw put_is (record {
          within = omega (arith, length-append front last, front_length);
          count = omega (arith, length-append front body, front_length, body-length);
          bytes = ap (λ (k : ℕ). take (k + len) (front ++ last)) (sym front_length) ∙ take-append-add front last len ∙ ap (λ (s : List ℕ). front ++ s) is;
        })

module _ (at kind : ℕ) (body b₀ last : List ℕ) (room : at + 6 ≤ length b₀) where
  abbrev after : List ℕ
  after = put_mid (at + 6) (length b₀ - (at + 6)) b₀ last

  pub stayed : Grown at kind body b₀ at after
  stayed =
      stays (subst (λ (x : List ℕ). InFront (take at b₀) at x) (sym (put_back (at + 6) b₀ last room)) (stays-before at b₀ (at + 6) last (omega arith) room))

  pub grown : (len : ℕ) (b : List ℕ) → len ≤ length last → len ≡ length body → take len last ≡ body → b ≡ put_at at (head_out len kind) after →
      Grown at kind body b₀ (at + 6 + len) b
  grown len b fits n is e =
      let head = head_out (length body) kind in
      let q : b ≡ put_at at head (take (at + 6) b₀ ++ last) =
      e ∙ ap (put_at at (head_out len kind)) (put_back (at + 6) b₀ last room) ∙ ap (λ (k : ℕ). put_at at (head_out k kind) (take (at + 6) b₀ ++ last)) n in
      grows (subst (λ (x : List ℕ). InFront ((take at b₀ ++ head) ++ body) (at + 6 + len) x) (sym q)
      (grows_by at b₀ last body head len (head-length (length body) kind) room fits is))

-- ---- what a book begins with
module _ (e room : ℕ) where
  opening-first : e ≡ 1 → opening e room ≡ []
  unfolding opening
  opening-first h = rw (eq-eqb e 1 h)

  opening-narrow : (e ≡ 1 → ⊥) → room < 8 → opening e room ≡ []
  unfolding opening
  opening-narrow h k = rw (ne_eqb e 1 h, lt-ltb room 8 k)

  opening-later : (e ≡ 1 → ⊥) → 8 ≤ room → opening e room ≡ head_out 2 6 ++ written 2 (e % 65536)
  unfolding opening
  opening-later h k = rw (ne_eqb e 1 h, le-ltb room 8 k)

module _ (at e : ℕ) (b₀ : List ℕ) (within : at ≤ length b₀) where
  abbrev room : ℕ
  room = length b₀ - at

  none-put : opening e room ≡ [] → InFront (take at b₀ ++ opening e room) at b₀
  none-put z = rw (z, append-nil) (stays_at at b₀ within)

  pub first-edition : e ≡ 1 → InFront (take at b₀ ++ opening e room) at b₀
  first-edition h = none-put (opening-first e room h)

  pub no_room : (e ≡ 1 → ⊥) → room < 8 → InFront (take at b₀ ++ opening e room) at b₀
  no_room h k = none-put (opening-narrow e room h k)

  pub opened : (b b' : List ℕ) → (e ≡ 1 → ⊥) → 8 ≤ room → b ≡ put_at at (head_out 2 6) b₀ → b' ≡ put_at (at + 6) (written 2 (e % 65536)) b →
      InFront (take at b₀ ++ opening e room) (at + 6 + 2) b'
  opened b b' h k p q =
      let head = head_out 2 6 in
      let body = written 2 (e % 65536) in
      let six = head-length 2 6 in
      let n : length (head ++ body) ≡ 8 = omega (arith, length-append head body, length-written 2 (e % 65536)) in
      let two : b' ≡ put_at at (head ++ body) b₀ =
      q ∙ ap (put_at (at + 6) body) p ∙ ap (λ (j : ℕ). put_at (at + j) body (put_at at head b₀)) (sym six) ∙ put_two at head body b₀ (omega arith) in
      rw (opening-later e room h k, two) (put_front at b₀ (at + 6 + 2) (head ++ body) (omega arith) (omega arith))

-- how much is lent of a book from a place on
pub part_room : (m : ℕ) (b : List ℕ) → m ≤ length b → length (take (length b - m) (drop m b)) ≡ length b - m
part_room m b h = length-take-le (length b - m) (drop m b) (omega (arith, length-drop m b))

module _ (n : ℕ) (t b₀ b w₀ w out₀ out : List ℕ) (a : Compiled) (d : CompileDone n t b₀ b w₀ w out₀ out a) (z : a.refusal ≡ 0) where
  none-refused : refusal (of_compile n t (lent b₀ w₀) (length out₀)) ≡ 0
  unfolding compile
  none-refused = sym (ap (λ (x : Compiled). x.refusal) d.answer) ∙ z

  pub compiled-length : a.len ≡ length (compiled n t)
  unfolding compile
  compiled-length = ap (λ (x : Compiled). x.len) d.answer ∙ rw (eq-eqb (refusal (of_compile n t (lent b₀ w₀) (length out₀))) 0 none-refused)

  pub compiled-front : take a.len out ≡ compiled n t
  unfolding output_after over
  compiled-front =
      let e : out ≡ compiled n t ++ drop (length (compiled n t)) out₀ =
      d.output ∙ rw (eq-eqb (refusal (of_compile n t (lent b₀ w₀) (length out₀))) 0 none-refused) in
      rw (compiled-length, e) (take-append_seam (compiled n t) (drop (length (compiled n t)) out₀))
