-- Operands: a part, or a group that a level fills.
-- Assumes nothing.
use mathlib.Core.Path.{◌≡◌, refl, sym, ap, ◌∙◌}
use Prim.Native.Nat.{ℕ, suc, ◌+◌, ◌≤◌, ◌<◌}
use mathlib.Core.Bool.{true, false}
use mathlib.Core.List.{List, [], ◌∷◌}
use native.Mathlib.Omega.{arith}
use native.Mathlib.Numerals.{add-one}
use borrow.Author.Tests.{lt-ltb, le-ltb}
use lib.Dec.{eqb}
use lib.ListN.{length, drop}
use Rattle.rules.specs.Bytes.{lead, split}
use Rattle.expression.specs.Reading.{Tree, leaf, Level, fresh, Ctl, depth_most, Verdict, refused, next, opening, follow, run}
use Rattle.expression.specs.Writing.{is_or, spell, spell_part, satisfied, met_in}
use Rattle.expression_bytes.specs.Front.{head_is}
use Rattle.expression_bytes.proofs.StateLaws as state
use Rattle.expression_parts.specs.declared.parts.PartAt.{PartAt}
use Rattle.expression_parts.specs.declared.parts.Bad.{Bad}
use Rattle.expression_parts.specs.Parts.{part_of, no_expression, Inside, Reads, reads, stuck}
use Rattle.expression_parts.proofs.AnswerLaws as answer
use Rattle.expression_output.specs.Output.{Put}
use Rattle.expression_joints.specs.declared.Value.{Value}
use Rattle.std.specs.Prelude.{Result, Ok, Err}
use Rattle.rules.specs.declared.Refusal.TheVariants as because
use Rattle.rules.specs.Told.{refusal_number}
use Rattle.expression.specs.declared.Refused.{Refused}
use Rattle.expression_levels.specs.Levels.{only_fresh, Told, told, no}
use Rattle.expression_levels.proofs.LevelLaws.{Tree-read, Tree-none}

-- ---- the blanks before an operand
module _ (text : List ℕ) (at from : ℕ) (b : from ≡ at + lead (eqb 32) (drop at text)) where
  pub over : (l : Level) (fs : List Level) → run (drop from text) Ctl.want l fs from ≡ run (drop at text) Ctl.want l fs at
  unfolding next
  over l fs = answer.over-blanks text at Ctl.want l fs refl from b

  pub from-blanks : {list : List ℕ} {depth : ℕ} {ys s : List ℕ} {o : ℕ} {r : Result Value Refused} {d : List ℕ} → Told (λ l. l) list text from depth ys s o r d → Told (λ l. l) list text at depth ys s o r d
  from-blanks (told {v = v} {d = d} t e i w) = told {v = v} {d = d} t (λ l fs h. e l fs h ∙ over l fs) record { low = (let k = i.low in omega arith); high = i.high; stops = i.stops } w
  from-blanks (no e k) = no (λ l fs h. e l fs h ∙ over l fs) k

-- ---- a part
module _ (text : List ℕ) (from : ℕ) (start : Level → List Level → Verdict) where
  pub record Part-read (p : PartAt) : Type 0 where
    pub same : (l : Level) (fs : List Level) → run (drop p.next text) (Ctl.done (leaf (part_of text p))) l fs p.next ≡ start l fs
    pub in_text : Inside text from p

  read_of : {p : PartAt} → Reads text from start (Ok p) → Part-read p
  read_of (reads e i) = record { same = e; in_text = i }

  pub part-read : {r : Result PartAt Bad} {p : PartAt} → r ≡ Ok p → Reads text from start r → Part-read p
  part-read e w = read_of (rw e at w)

  none_of : {b : Bad} → Reads text from start (Err b) → (l : Level) (fs : List Level) → refused 13 b.place ≡ start l fs
  none_of (stuck e) = e

  pub part_none : {r : Result PartAt Bad} {b : Bad} → r ≡ Err b → Reads text from start r → (l : Level) (fs : List Level) → refused 13 b.place ≡ start l fs
  part_none e w = none_of (rw e at w)

module _ (list text : List ℕ) (at depth : ℕ) (s : List ℕ) (o : ℕ) where
  pub part-told : {p : PartAt} {v : Value} {d : List ℕ} → Part-read text (at + 1) (λ l fs. run (drop at text) Ctl.want l fs at) p → v.next ≡ p.next → v.holds ≡ met_in (part_of text p) (split 10 list) → v.or ≡ false → Put o (spell_part (part_of text p)) s d v.end → Told (λ l. l) list text at depth (32 ∷ []) s o (Ok v) d
  unfolding satisfied is_or spell
  part-told {p = p} {v = v} {d = d} r n h k w =
      told {v = v} {d = d} (leaf (part_of text p)) (λ l fs i. rw n (r.same l fs))
      (rw n record { low = r.in_text.low; high = r.in_text.high; stops = (r.in_text.stop, tt) })
      record { holds = h; or = k; put = w }

  -- ---- a group
  module _ (from : ℕ) (b : from ≡ at + lead (eqb 32) (drop at text)) (opens : head_is 40 (drop from text) ≡ true) where
    pub too_deep : depth_most ≤ depth → Told (λ l. l) list text at depth (32 ∷ []) s o (Err (record { refusal = because.TooDeep; place = from })) s
    unfolding next opening follow
    too_deep k =
        no {r = record { refusal = because.TooDeep; place = from }} (λ l fs h. sym (state.step (drop from text) Ctl.want l fs from 40 opens ∙ rw (h, le-ltb depth depth_most k)) ∙ over text at from b l fs) refl

    inside : depth < depth_most → (l : Level) (fs : List Level) → length fs ≡ depth → run (drop (from + 1) text) Ctl.want fresh (l ∷ fs) (from + 1) ≡ run (drop at text) Ctl.want l fs at
    unfolding next opening follow
    inside k l fs h =
        sym (state.step (drop from text) Ctl.want l fs from 40 opens ∙ rw (h, lt-ltb depth depth_most k) (answer.one_on text from Ctl.want fresh (l ∷ fs))) ∙ over text at from b l fs

    deeper : (fs : List Level) (l : Level) → length fs ≡ depth → length (l ∷ fs) ≡ depth + 1
    deeper fs l h = ap suc h ∙ sym (add-one depth)

    pub group-no : depth < depth_most → {r : Refused} {d : List ℕ} → Tree-none only_fresh text (from + 1) (depth + 1) s d (refusal_number r.refusal) r.place → Told (λ l. l) list text at depth (32 ∷ []) s o (Err r) d
    group-no i n = no (λ l fs h. n.same tt (l ∷ fs) (deeper fs l h) ∙ inside i l fs h) n.kept

    module _ (i : depth < depth_most) {v : Value} {d : List ℕ} (w : Tree-read only_fresh list text (from + 1) (depth + 1) (32 ∷ 65 ∷ 79 ∷ []) s o v d) where
      filled : (l : Level) (fs : List Level) → length fs ≡ depth → run (drop v.next text) (Ctl.done w.tree) fresh (l ∷ fs) v.next ≡ run (drop at text) Ctl.want l fs at
      filled l fs h = w.same tt (l ∷ fs) (deeper fs l h) ∙ inside i l fs h

      pub group_open : {p : ℕ} → length d ≡ length s → ((t : Tree) (l : Level) (fs : List Level) → refused 13 p ≡ run (drop v.next text) (Ctl.done t) fresh (l ∷ fs) v.next) → Told (λ l. l) list text at depth (32 ∷ []) s o (Err (no_expression p)) d
      group_open k e = no (λ l fs h. e w.tree l fs ∙ filled l fs h) k

      pub group-told : {r : Value} → ((t : Tree) (l : Level) (fs : List Level) → run (drop r.next text) (Ctl.done t) l fs r.next ≡ run (drop v.next text) (Ctl.done t) fresh (l ∷ fs) v.next) → v.next ≤ r.next → r.next ≤ length text → head_is 32 (drop r.next text) ≡ false → r.holds ≡ v.holds → r.or ≡ v.or → r.end ≡ v.end → Told (λ l. l) list text at depth (32 ∷ []) s o (Ok r) d
      group-told {r = r} e lo hi st h k z =
          told {v = r} {d = d} w.tree (λ l fs j. e w.tree l fs ∙ filled l fs j)
          record { low = (let x = w.on.low in omega (arith, b)); high = hi; stops = (st, tt) }
          record { holds = h ∙ w.value.holds; or = k ∙ w.value.or; put = (w.value.put.0, z ∙ w.value.put.1) }
