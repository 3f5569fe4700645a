-- A whole text: the OR level outside all parentheses, and the end behind it.
-- Assumes nothing.
use mathlib.Core.Path.{◌≡◌, refl, sym, ap, ◌∙◌}
use Prim.Native.Nat.{ℕ, ◌+◌, ◌≤◌, ◌<◌}
use mathlib.Core.Bool.{Bool, true, false, cond, and-true, and-false}
use mathlib.Core.List.{List, [], ◌∷◌}
use native.Mathlib.Omega.{arith}
use borrow.Author.Tests.{lt-ltb, le-ltb, eq-eqb, ne_eqb}
use lib.Dec.{eqb, ltb}
use lib.ListN.{length, drop, length-drop}
use Rattle.rules.specs.Jobs.{over}
use Rattle.expression.specs.declared.Satisfied.{Satisfied}
use Rattle.expression.specs.Reading.{Tree, Level, fresh, whole as amounts, and_of, or_of, Ctl, Verdict, accepted, refused, closing, at_ended, at_done, next, finish, stop, follow, run, verdict}
use Rattle.expression.specs.Writing.{spell, neat, neat_as}
use Rattle.expression.specs.Jobs.{satisfy_as, satisfy, spelled_as, written_as, WriteDone}
use Rattle.expression_bytes.specs.Front.{head_is}
use Rattle.expression_bytes.proofs.FrontLaws.{false_true}
use Rattle.expression_output.specs.Output.{overlay}
use Rattle.expression_output.proofs.OutputLaws.{overlay-front}
use Rattle.expression_joints.specs.declared.Value.{Value}
use Rattle.std.specs.Prelude.{Result, Ok, Err}
use Rattle.rules.specs.declared.Refusal.TheVariants as because
use Rattle.rules.specs.Told.{refusal_number}
use Rattle.expression.specs.declared.Refused.{Refused}
use Rattle.expression.specs.Told.{satisfied_told, spelled_told}
use Rattle.expression_parts.specs.Parts.{no_expression}
use Rattle.expression_levels.specs.Levels.{only_fresh, Valued}
use Rattle.expression_levels.proofs.LevelLaws.{Tree-read, Tree-none, put-length}
use Rattle.expression_spelling.specs.Flat.{spaced_out}
use Rattle.expression_spelling.proofs.SpellingLaws.{neat-is}
use Rattle.expression_job.specs.Whole.{Whole, whole, none}

-- ---- behind the last operand
stuck : (s : List ℕ) (t : Tree) (p : ℕ) → 0 < length s → head_is 32 s ≡ false → head_is 65 s ≡ false → head_is 79 s ≡ false → refused 13 p ≡ run s (Ctl.done t) fresh [] p
unfolding head_is run next follow at_done at_ended closing
stuck [] t p k e a o = absurd (omega (arith, k))
stuck (x ∷ xs) t p k e a o = rw (e, a, o) (either (eqb x 41))
  where
    either : (b : Bool) → refused 13 p ≡ follow p (λ c' l' fs'. run xs c' l' fs' (p + 1)) (cond b Rattle.expression.specs.Reading.dead Rattle.expression.specs.Reading.dead)
    either true = refl
    either false = refl

at-end : (s : List ℕ) (t : Tree) (p : ℕ) → length s ≤ 0 → run s (Ctl.done t) fresh [] p ≡ accepted t
unfolding run stop finish amounts fresh and_of or_of
at-end [] t p k = refl
at-end (x ∷ s) t p k = absurd (omega (arith, k))

module _ {list text s d : List ℕ} where
  pub all_read : {v : Value} → length text ≤ v.next → Tree-read only_fresh list text 0 0 (32 ∷ 65 ∷ 79 ∷ []) s 0 v d → Whole list text s d (Ok v)
  unfolding verdict drop
  all_read {v} h w = whole w.tree (sym (w.same tt [] refl) ∙ at-end (drop v.next text) w.tree v.next (omega (arith, length-drop v.next text))) w.value

  pub left_over_lem : {v : Value} → v.next < length text → Tree-read only_fresh list text 0 0 (32 ∷ 65 ∷ 79 ∷ []) s 0 v d → Whole list text s d (Err (no_expression v.next))
  unfolding verdict drop
  left_over_lem {v} h w =
      none (sym (w.same tt [] refl) ∙ sym (stuck (drop v.next text) w.tree v.next (omega (arith, h, length-drop v.next text)) w.on.stops.0 w.on.stops.1.0 w.on.stops.1.1.0))
      (put-length 0 (spell w.tree) s w.value.put)

  pub not_read : {r : Refused} → Tree-none only_fresh text 0 0 s d (refusal_number r.refusal) r.place → Whole list text s d (Err r)
  unfolding verdict drop
  not_read n = none (sym (n.same tt [] refl)) n.kept

  -- the output's length is kept
  pub whole-kept : {r : Result Value Refused} → Whole list text s d r → length d ≡ length s
  whole-kept (whole t e w) = put-length 0 (spell t) s w.put
  whole-kept (none e k) = k

-- ---- of an answer that is known
pub record Accepted (list text s : List ℕ) (v : Value) (d : List ℕ) : Type 0 where
  pub tree : Tree
  pub is : verdict text ≡ accepted tree
  pub value : Valued list s 0 tree v d

module _ {list text s d : List ℕ} where
  accepted-of : {v : Value} → Whole list text s d (Ok v) → Accepted list text s v d
  accepted-of (whole t e w) = record { tree = t; is = e; value = w }

  pub was_accepted : {r : Result Value Refused} {v : Value} → r ≡ Ok v → Whole list text s d r → Accepted list text s v d
  was_accepted e w = accepted-of (rw e at w)

  refused-of : {r : Refused} → Whole list text s d (Err r) → verdict text ≡ refused (refusal_number r.refusal) r.place
  refused-of (none e k) = e

  pub was_refused : {q : Result Value Refused} {r : Refused} → q ≡ Err r → Whole list text s d q → verdict text ≡ refused (refusal_number r.refusal) r.place
  was_refused e w = refused-of (rw e at w)

-- ---- the answers
module _ (list text : List ℕ) where
  pub satisfy-no : (r : Refused) → verdict text ≡ refused (refusal_number r.refusal) r.place → satisfied_told (Err r) ≡ satisfy text list
  unfolding satisfy satisfy_as
  satisfy-no r e = sym (ap (satisfy_as list) e)

  pub satisfy-yes : {s d : List ℕ} {v : Value} → Accepted list text s v d → satisfied_told (Ok v.holds) ≡ satisfy text list
  unfolding satisfy satisfy_as
  satisfy-yes a =
      ap (λ (b : Bool). let r : Satisfied = record { refusal = 0; satisfied = b; place = 0 } in r) a.value.holds ∙ sym (ap (satisfy_as list) a.is)

module _ (text out : List ℕ) where
  pub write_no : (r : Refused) → verdict text ≡ refused (refusal_number r.refusal) r.place → WriteDone text out out (spelled_told (Err r))
  unfolding spelled_as written_as
  write_no r e = record { answer = sym (ap (λ (v : Verdict). spelled_as v (length out)) e); output = sym (ap (λ (v : Verdict). written_as v out) e) }

  module _ {list s d : List ℕ} {v : Value} (a : Accepted list text s v d) where
    pub write_short : length out < v.end → WriteDone text out out (spelled_told (Err (record { refusal = because.OutputShort; place = 0 })))
    unfolding spelled_as written_as
    write_short h =
        let short : ltb (length out) (length (spell a.tree)) ≡ true = lt-ltb (length out) (length (spell a.tree)) (omega (arith, h, a.value.put.1)) in
        record { answer = rw (a.is, short); output = rw (a.is, short) }

    length-is : v.end ≤ length out → length out < 18446744073709551615 → v.end ≡ length (spell a.tree)
    length-is h k = omega (arith, h, k, a.value.put.1)

    spelled : Verdict → List ℕ
    spelled (accepted t) = spell t
    spelled (refused k p) = []

    is_accepted : Verdict → Bool
    is_accepted (accepted t) = true
    is_accepted (refused k p) = false

    -- read again, it is no other verdict
    pub never_refused : {A : Type 0} {k p : ℕ} → verdict text ≡ refused k p → A
    unfolding is_accepted
    never_refused e = false_true (sym (ap is_accepted (sym a.is ∙ e)))

    -- and the same tree
    again : {other out' : List ℕ} {r : Result Value Refused} → Whole other text out out' r → out' ≡ overlay 0 (spell a.tree) out
    unfolding spelled
    again (whole t e w) = w.put.0 ∙ ap (λ (bs : List ℕ). overlay 0 bs out) (ap spelled (sym e ∙ a.is))
    again (none e k) = never_refused e

    pub write_done : v.end ≤ length out → length out < 18446744073709551615 → {other out' : List ℕ} {r : Result Value Refused} → Whole other text out out' r → WriteDone text out out' (spelled_told (Ok v.end))
    unfolding spelled_as written_as over
    write_done h k w =
        let n = length-is h k in
        let fits : ltb (length out) (length (spell a.tree)) ≡ false = le-ltb (length out) (length (spell a.tree)) (omega (arith, h, n)) in
        record {
          answer = rw (a.is, fits, n);
          output = again w ∙ overlay-front (spell a.tree) out (omega (arith, h, n)) ∙ sym (rw (a.is, fits));
        }

module _ (text : List ℕ) where
  pub neat-no : {k p : ℕ} → verdict text ≡ refused k p → false ≡ neat text
  unfolding neat neat_as
  neat-no e = sym (ap (neat_as text) e)

  module _ {list s d : List ℕ} {v : Value} (a : Accepted list text s v d) (small : length text < 18446744073709551615) where
    pub neat-other : (v.end ≡ length text → ⊥) → false ≡ neat text
    neat-other h =
        let n : length (spell a.tree) ≡ length text → ⊥ = λ e. h (omega (arith, e, small, a.value.put.1)) in
        sym (neat-is text a.tree a.is ∙ rw (ne_eqb (length (spell a.tree)) (length text) n) (and-false (spaced_out text)))

    pub neat-yes : v.end ≡ length text → spaced_out text ≡ neat text
    neat-yes h =
        let n : length (spell a.tree) ≡ length text = omega (arith, h, small, a.value.put.1) in
        sym (neat-is text a.tree a.is ∙ rw (eq-eqb (length (spell a.tree)) (length text) n) (and-true (spaced_out text)))
