use mathlib.Core.Path.{◌≡◌, refl, sym, ap, ◌∙◌}
use mathlib.Core.Bool.{false}
use mathlib.Core.List.{List, ◌++◌}
use native.Mathlib.Nat.{sub-zero}
use native.Mathlib.Omega.{arith}
use Prim.Native.Nat.{ℕ, ◌+◌, ◌-◌, ◌/◌, ◌≤◌}
use lib.ListN.{length, take, drop, length-take, length-drop}
use lib.Seq.{paste, take-take, length-take-le}
use Rattle.sort_spread.specs.Sort.{part_later, msorted}
use Rattle.sort_order.proofs.PartLaws.{later-one, later_chain}
use Rattle.sort_spread.proofs.OrderLaws.{inorder_msorted, runs-apart}
use Rattle.sort_spread.proofs.SortLaws.{msorted-few, Halves, halves, by_merge, by_copy}
use Rattle.sort_parts.proofs.+sort_parts.Goals as goal
use Rattle.sort_parts.proofs.+sort_parts.Goals.{After-last_after}

pub returns-then-k-lt2-clause-sorted : goal.returns-then-k-lt2-clause-sorted
returns-then-k-lt2-clause-sorted t c = sym (msorted-few _ c.args.k (take c.args.k c.args.p.now) (simp length-take (omega arith)))

-- once the halves are compared, both are sorted, each where `Halves` says
module _ (t : ℕ) (l : After-last_after t) where
  ready : let a = l.args in
      let k = a.k in
      let h = k / 2 in
      let p₂ = l.copy_within.new.self in
      let zs = l.sort_parts-2.new.p in
      Halves (part_later a.cut.mark a.cut.times a.text.now) k h (k - h) a.p.now (take k p₂ ++ (zs ++ drop (k + h + h - k) (drop k p₂)))
  ready =
      let a = l.args in
      let p = a.p.now in
      let k = a.k in
      let h = k / 2 in
      let r = k - h in
      let p₂ = l.copy_within.new.self in
      let ys = l.sort_parts.new.p in
      let zs = l.sort_parts-2.new.p in
      let x : h + r + r - h ≡ r + r = omega arith in
      let y : k + h + h - k ≡ h + h = omega arith in
      let whole : List ℕ = take h p ++ (ys ++ drop (r + r) (drop h p)) in
      let copied : p₂ ≡ paste whole k whole h =
      l.copy_within.ensures.after ∙ ap (λ (m : ℕ). paste (take h p ++ (ys ++ drop m (drop h p))) k (take h p ++ (ys ++ drop m (drop h p))) (h - 0)) x ∙ ap (paste whole k whole) (sub-zero h) in
      rw y
      (halves _ k h r p ys p₂ zs l.if-k-lt2.false refl refl (omega arith)
      (l.sort_parts.auto.p ∙ rw x (length-take-le (r + r) (drop h p) (simp length-drop (omega arith))))
      (l.sort_parts.ensures.sorted ∙ rw (take-take r (h + r + r - h) (drop h p) (omega arith)))
      copied
      (l.sort_parts-2.auto.p ∙ rw y (length-take-le (h + h) (drop k p₂) (simp length-drop (omega (arith, l.copy_within.auto.self)))))
      (l.sort_parts-2.ensures.sorted ∙ rw (take-take h (k + h + h - k) (drop k p₂) (omega arith))))

  -- where they are in turn, the left one laid before the right one is the sorted whole
  laid : let a = l.args in
      let k = a.k in
      let p₂ = l.copy_within.new.self in
      let zs = l.sort_parts-2.new.p in
      let p₃ = take k p₂ ++ (zs ++ drop (k + k / 2 + k / 2 - k) (drop k p₂)) in
      (p₄ : List ℕ) → p₄ ≡ paste p₃ 0 (drop k p₃) (k + k / 2 - k) → l.last_after.result ≡ false
      → (take k p₄ ≡ msorted (part_later a.cut.mark a.cut.times a.text.now) k (take k a.p.now)) × (drop (k + k) p₄ ≡ drop (k + k) a.p.now)
  laid p₄ e b =
      let a = l.args in
      let k = a.k in
      let h = k / 2 in
      let s = ready in
      let one = later-one a.cut.mark a.cut.times a.text.now in
      let few : length (take h a.p.now) ≤ h = simp length-take (omega arith) in
      let two : 2 ≤ k = l.if-k-lt2.false in
      let p₃ : List ℕ = take k l.copy_within.new.self ++ (l.sort_parts-2.new.p ++ drop (k + h + h - k) (drop k l.copy_within.new.self)) in
      let n : k + h - k ≡ h = omega arith in
      by_copy _ s p₄ (e ∙ ap (paste p₃ 0 (drop k p₃)) n)
      (runs-apart _ one (later_chain a.cut.mark a.cut.times a.text.now) _ k h (omega arith) (omega arith) (omega (arith, s.long))
      (rw s.left (inorder_msorted _ one h (take h a.p.now) few)) (sym l.last_after.ensures ∙ b))

pub returns-then-last_after-clause-sorted : goal.returns-then-last_after-clause-sorted
returns-then-last_after-clause-sorted t c =
    let e = c.merge.ensures in
    (by_merge _ (ready t (goal.at.returns-then-last_after-clause-sorted t c).After-last_after) _ (e.front, e.back)).0

pub returns-then-last_after-clause-rest : goal.returns-then-last_after-clause-rest
returns-then-last_after-clause-rest t c =
    let e = c.merge.ensures in
    (by_merge _ (ready t (goal.at.returns-then-last_after-clause-rest t c).After-last_after) _ (e.front, e.back)).1

pub returns-else-last_after-clause-sorted : goal.returns-else-last_after-clause-sorted
returns-else-last_after-clause-sorted t c =
    (laid t (goal.at.returns-else-last_after-clause-sorted t c).After-last_after _ c.copy_within-else-last_after.ensures.after c.if-last_after.false).0

pub returns-else-last_after-clause-rest : goal.returns-else-last_after-clause-rest
returns-else-last_after-clause-rest t c =
    (laid t (goal.at.returns-else-last_after-clause-rest t c).After-last_after _ c.copy_within-else-last_after.ensures.after c.if-last_after.false).1
