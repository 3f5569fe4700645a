-- What the functions between operands answer, from the tests that led there: letters of an operator, what closes a group, what is written behind
-- an operand; and each answer taken apart where it is known to be the one or the other.
-- Assumes nothing.
use mathlib.Core.Path.{◌≡◌, refl, sym, ap, ◌∙◌}
use Prim.Native.Nat.{ℕ, ◌+◌, ◌≤◌, ◌<◌}
use mathlib.Core.Bool.{true, false}
use mathlib.Core.List.{List, [], ◌∷◌, ◌++◌}
use native.Mathlib.Nat.{le_refl}
use native.Mathlib.Omega.{arith}
use borrow.Author.Tests.{eq-eqb}
use lib.Dec.{eqb}
use lib.ListN.{length, drop}
use Rattle.rules.specs.Bytes.{lead}
use Rattle.expression.specs.Reading.{Tree, Level, fresh, whole, or_of, and_of, anded, ored, Ctl, to, refused, next, stop, follow, run, at_done, at_ended, closing, finish}
use Rattle.expression_bytes.specs.Front.{head_is}
use Rattle.expression_bytes.proofs.FrontLaws.{head-within, blanks-high, blanks-stop}
use Rattle.expression_bytes.proofs.StateLaws as state
use Rattle.std.specs.Prelude.{Result, Ok, Err}
use Rattle.expression_parts.specs.declared.parts.Bad.{Bad}
use Rattle.expression_parts.proofs.AnswerLaws.{one_on, over-blanks}
use Rattle.expression_output.specs.Output.{Put}
use Rattle.expression_output.proofs.OutputLaws.{overlay-length, put_then}
use Rattle.expression_joints.specs.declared.Joint.{Joint}
use Rattle.expression_joints.specs.Joints.{Joined, Shut, Jointed, Lays, on, off}

-- ---- what is stuck
word-stuck : (s : List ℕ) (w : ℕ) (ws : List ℕ) (l : Level) (fs : List Level) (p : ℕ) → head_is w s ≡ false → run s (Ctl.word (w ∷ ws)) l fs p ≡ refused 13 p
unfolding head_is run next stop follow
word-stuck [] w ws l fs p e = refl
word-stuck (x ∷ s) w ws l fs p e = rw e

operator_stuck : (s : List ℕ) (l : Level) (fs : List Level) (p : ℕ) → head_is 32 s ≡ false → head_is 40 s ≡ false → run s (Ctl.word []) l fs p ≡ refused 13 p
unfolding head_is run next stop follow
operator_stuck [] l fs p e f = refl
operator_stuck (x ∷ s) l fs p e f = rw (e, f)

-- a level is open, so that the end is refused too
inside_stuck : (s : List ℕ) (t : Tree) (l m : Level) (fs : List Level) (p : ℕ) → head_is 32 s ≡ false → head_is 65 s ≡ false → head_is 79 s ≡ false → head_is 41 s ≡ false → run s (Ctl.done t) l (m ∷ fs) p ≡ refused 13 p
unfolding head_is run next stop follow at_done at_ended finish
inside_stuck [] t l m fs p e a o f = refl
inside_stuck (x ∷ s) t l m fs p e a o f = rw (a, o, e, f)

-- ---- operators
module _ (text : List ℕ) (at : ℕ) where
  -- two states that a byte leads out of alike
  alike : (c d : Ctl) (l : Level) (fs : List Level) (b : ℕ) → head_is b (drop at text) ≡ true → next c l fs b ≡ next d l fs b → run (drop at text) c l fs at ≡ run (drop at text) d l fs at
  alike c d l fs b h q =
      state.step (drop at text) c l fs at b h ∙ ap (follow at (λ c' l' fs'. run (drop 1 (drop at text)) c' l' fs' (at + 1))) q
      ∙ sym (state.step (drop at text) d l fs at b h)

  -- a byte that leads on
  leads : (c d : Ctl) (l m : Level) (fs gs : List Level) (b : ℕ) → head_is b (drop at text) ≡ true → next c l fs b ≡ to d m gs → run (drop (at + 1) text) d m gs (at + 1) ≡ run (drop at text) c l fs at
  unfolding follow
  leads c d l m fs gs b h q =
      sym (state.step (drop at text) c l fs at b h ∙ ap (follow at (λ c' l' fs'. run (drop 1 (drop at text)) c' l' fs' (at + 1))) q ∙ one_on text at d m gs)

  pub after-blank : head_is 32 (drop at text) ≡ true → Joined text at [] (Ok at)
  unfolding next
  after-blank h = Joined.joined at (λ l fs. alike Ctl.want (Ctl.word []) l fs 32 h refl) (le_refl at) (let k = head-within text at 32 h in omega arith)

  pub after_open : head_is 40 (drop at text) ≡ true → Joined text at [] (Ok at)
  unfolding next
  after_open h = Joined.joined at (λ l fs. alike Ctl.want (Ctl.word []) l fs 40 h refl) (le_refl at) (let k = head-within text at 40 h in omega arith)

  pub after_bad : head_is 32 (drop at text) ≡ false → head_is 40 (drop at text) ≡ false → Joined text at [] (Err (record { place = at }))
  after_bad e f = Joined.halted (record { place = at }) (λ l fs. sym (operator_stuck (drop at text) l fs at e f))

  pub letter_bad : (w : ℕ) (ws : List ℕ) → head_is w (drop at text) ≡ false → Joined text at (w ∷ ws) (Err (record { place = at }))
  letter_bad w ws e = Joined.halted (record { place = at }) (λ l fs. sym (word-stuck (drop at text) w ws l fs at e))

  letter : (w : ℕ) (ws : List ℕ) (l : Level) (fs : List Level) → head_is w (drop at text) ≡ true → run (drop (at + 1) text) (Ctl.word ws) l fs (at + 1) ≡ run (drop at text) (Ctl.word (w ∷ ws)) l fs at
  unfolding next
  letter w ws l fs h = leads (Ctl.word (w ∷ ws)) (Ctl.word ws) l l fs fs w h (rw (eq-eqb w w refl))

  pub letter_on : (w : ℕ) (ws : List ℕ) {r : Result ℕ Bad} → head_is w (drop at text) ≡ true → Joined text (at + 1) ws r → Joined text at (w ∷ ws) r
  letter_on w ws h (Joined.joined n e lo hi) = Joined.joined n (λ l fs. e l fs ∙ letter w ws l fs h) (omega (arith, lo)) hi
  letter_on w ws h (Joined.halted b e) = Joined.halted b (λ l fs. e l fs ∙ letter w ws l fs h)

  pub and_begins : (t : Tree) (l : Level) (fs : List Level) → head_is 65 (drop at text) ≡ true → run (drop (at + 1) text) (Ctl.word (78 ∷ 68 ∷ [])) (anded l t) fs (at + 1) ≡ run (drop at text) (Ctl.done t) l fs at
  unfolding next at_done
  and_begins t l fs h = leads (Ctl.done t) (Ctl.word (78 ∷ 68 ∷ [])) l (anded l t) fs fs 65 h refl

  pub or_begins : (t : Tree) (l : Level) (fs : List Level) → head_is 79 (drop at text) ≡ true → run (drop (at + 1) text) (Ctl.word (82 ∷ [])) (ored l t) fs (at + 1) ≡ run (drop at text) (Ctl.done t) l fs at
  unfolding next at_done
  or_begins t l fs h = leads (Ctl.done t) (Ctl.word (82 ∷ [])) l (ored l t) fs fs 79 h refl

  -- ---- what closes a group
  closes : (t : Tree) (l : Level) (fs : List Level) → head_is 41 (drop at text) ≡ true → run (drop (at + 1) text) (Ctl.done t) l fs (at + 1) ≡ run (drop at text) (Ctl.done t) fresh (l ∷ fs) at
  unfolding next at_done at_ended closing whole fresh or_of and_of
  closes t l fs h = leads (Ctl.done t) (Ctl.done t) fresh l (l ∷ fs) fs 41 h refl

  pub close_here : (n : ℕ) → head_is 41 (drop at text) ≡ true → n ≡ at + 1 + lead (eqb 32) (drop (at + 1) text) → Shut text at (Ok n)
  unfolding next at_done at_ended
  close_here n h e =
      let k = head-within text at 41 h in
      Shut.shut n (λ t l fs. over-blanks text (at + 1) (Ctl.done t) l fs refl n e ∙ closes t l fs h) (omega (arith, e))
      (blanks-high text (at + 1) n (omega arith) e) (blanks-stop text (at + 1) n e)

  pub close_bad : head_is 32 (drop at text) ≡ false → head_is 65 (drop at text) ≡ false → head_is 79 (drop at text) ≡ false → head_is 41 (drop at text) ≡ false → Shut text at (Err (record { place = at }))
  close_bad e a o f = Shut.halted (record { place = at }) (λ t l fs. sym (inside_stuck (drop at text) t fresh l fs at e a o f))

-- at a place that is the same, told otherwise
pub at_place : {text : List ℕ} {m n : ℕ} (ws : List ℕ) {r : Result ℕ Bad} → m ≡ n → Joined text m ws r → Joined text n ws r
at_place ws e j = rw e at j

-- ---- an answer taken apart, known to be the one or the other
pub record Reached (text : List ℕ) (from : ℕ) (ws : List ℕ) (n : ℕ) : Type 0 where
  pub same : (l : Level) (fs : List Level) → run (drop n text) Ctl.want l fs n ≡ run (drop from text) (Ctl.word ws) l fs from
  pub low : from ≤ n
  pub high : n ≤ length text

pub record Closed (text : List ℕ) (from n : ℕ) : Type 0 where
  pub same : (t : Tree) (l : Level) (fs : List Level) → run (drop n text) (Ctl.done t) l fs n ≡ run (drop from text) (Ctl.done t) fresh (l ∷ fs) from
  pub low : from ≤ n
  pub high : n ≤ length text
  pub stop : head_is 32 (drop n text) ≡ false

pub record Onward (text : List ℕ) (at : ℕ) (into : Level → Tree → Level) (more : List ℕ → List ℕ) (from to : ℕ) (s d : List ℕ) (n e : ℕ) : Type 0 where
  pub same : (t : Tree) (l : Level) (fs : List Level) → run (drop n text) Ctl.want (into l t) fs n ≡ run (drop at text) (Ctl.done t) l fs at
  pub low : at ≤ n
  pub high : n ≤ length text
  pub lays : Lays more from to s d e

module _ {text : List ℕ} {from : ℕ} {ws : List ℕ} where
  reached-of : {n : ℕ} → Joined text from ws (Ok n) → Reached text from ws n
  reached-of (Joined.joined n e lo hi) = record { same = e; low = lo; high = hi }

  missed_of : {b : Bad} → Joined text from ws (Err b) → (l : Level) (fs : List Level) → refused 13 b.place ≡ run (drop from text) (Ctl.word ws) l fs from
  missed_of (Joined.halted p e) = e

  pub joined_at : {r : Result ℕ Bad} {n : ℕ} → r ≡ Ok n → Joined text from ws r → Reached text from ws n
  joined_at e j = reached-of (rw e at j)

  pub joined_bad : {r : Result ℕ Bad} {b : Bad} → r ≡ Err b → Joined text from ws r → (l : Level) (fs : List Level) → refused 13 b.place ≡ run (drop from text) (Ctl.word ws) l fs from
  joined_bad e j = missed_of (rw e at j)

module _ {text : List ℕ} {from : ℕ} where
  closed_of : {n : ℕ} → Shut text from (Ok n) → Closed text from n
  closed_of (Shut.shut n e lo hi f) = record { same = e; low = lo; high = hi; stop = f }

  open_of : {b : Bad} → Shut text from (Err b) → (t : Tree) (l : Level) (fs : List Level) → refused 13 b.place ≡ run (drop from text) (Ctl.done t) fresh (l ∷ fs) from
  open_of (Shut.halted p e) = e

  pub shut_at : {r : Result ℕ Bad} {n : ℕ} → r ≡ Ok n → Shut text from r → Closed text from n
  shut_at e j = closed_of (rw e at j)

  pub shut_bad : {r : Result ℕ Bad} {b : Bad} → r ≡ Err b → Shut text from r → (t : Tree) (l : Level) (fs : List Level) → refused 13 b.place ≡ run (drop from text) (Ctl.done t) fresh (l ∷ fs) from
  shut_bad e j = open_of (rw e at j)

-- ---- what is written behind an operand
module _ (from to : ℕ) (s : List ℕ) where
  -- it stays as it is
  pub lays_same : Lays (λ bs. bs) from to s s to
  lays_same bs s₀ x y = (x, y)

  -- and more is put behind it
  pub lays_more : (m : List ℕ → List ℕ) (w : List ℕ) {d e : List ℕ} {p r : ℕ} → length s < 18446744073709551616 → Lays m from to s d p → Put p w d e r → Lays (λ bs. m bs ++ w) from to s e r
  lays_more m w h f p bs s₀ x y = put_then from (m bs) w s₀ (omega (arith, ap length x ∙ overlay-length from bs s₀)) (f bs s₀ x y) p

module _ {text : List ℕ} {at : ℕ} {into : Level → Tree → Level} {more : List ℕ → List ℕ} {from to : ℕ} {s d : List ℕ} where
  -- the operator's first byte leads to the rest of its word
  module _ {ws : List ℕ} (begins : (t : Tree) (l : Level) (fs : List Level) → run (drop (at + 1) text) (Ctl.word ws) (into l t) fs (at + 1) ≡ run (drop at text) (Ctl.done t) l fs at) where
    pub joint_on : {r : Result ℕ Bad} {n e : ℕ} → r ≡ Ok n → Joined text (at + 1) ws r → Lays more from to s d e → Jointed text at into more from to s d (Ok (record { next = n; end = e }))
    joint_on {r} {n} {e} q j f = let k = joined_at q j in on (record { next = n; end = e }) (λ t l fs. k.same (into l t) fs ∙ begins t l fs) (omega (arith, k.low)) k.high f

    pub joint_off : {r : Result ℕ Bad} {b : Bad} → r ≡ Err b → Joined text (at + 1) ws r → length d ≡ length s → Jointed text at into more from to s d (Err b)
    joint_off {r} {b} q j e = off b (λ t l fs. joined_bad q j (into l t) fs ∙ begins t l fs) e

  onward-of : {j : Joint} → Jointed text at into more from to s d (Ok j) → Onward text at into more from to s d j.next j.end
  onward-of (on j f lo hi g) = record { same = f; low = lo; high = hi; lays = g }

  offward_of : {b : Bad} → Jointed text at into more from to s d (Err b) → ((t : Tree) (l : Level) (fs : List Level) → refused 13 b.place ≡ run (drop at text) (Ctl.done t) l fs at) × (length d ≡ length s)
  offward_of (off p f g) = (f, g)

  pub jointed_on : {r : Result Joint Bad} {j : Joint} → r ≡ Ok j → Jointed text at into more from to s d r → Onward text at into more from to s d j.next j.end
  jointed_on q j = onward-of (rw q at j)

  pub jointed_off : {r : Result Joint Bad} {b : Bad} → r ≡ Err b → Jointed text at into more from to s d r → ((t : Tree) (l : Level) (fs : List Level) → refused 13 b.place ≡ run (drop at text) (Ctl.done t) l fs at) × (length d ≡ length s)
  jointed_off q j = offward_of (rw q at j)
