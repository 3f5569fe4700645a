-- `hit_at`: at the text's start, at a line's start, and inside a line.
-- Assumes nothing.
use mathlib.Core.Path.{◌≡◌, refl, sym, ap₂, ◌∙◌}
use mathlib.Core.Bool.{Bool, false}
use mathlib.Core.List.{List}
use Prim.Native.Nat.{ℕ}
use lib.Dec.{eqb}
use lib.ListN.{drop}
use borrow.Author.Tests.{eq-eqb, ne_eqb}
use Rattle.rules.specs.Passes.{hit}
use Rattle.preproc_copyright.proofs.HitCaseLaws.{takes_as}
use Rattle.preproc_cut.proofs.CutLaws.{hit-inside, inside-none}
use Rattle.preproc_cut.proofs.hit_at.Goals as goal
use Rattle.preproc_cut.proofs.hit_at.Goals.{Else-fresh, Start}

-- the two flags, as the tests tell them
flags : (l : List ℕ) {a b x y : Bool} → a ≡ x → b ≡ y → hit a b l ≡ hit x y l
flags l e f = ap₂ (λ (u v : Bool). hit u v l) e f

module _ (c : Start) where
  abbrev rest : List ℕ
  rest = drop c.args.at c.args.s.now

pub returns-then-at-eq0 : goal.returns-then-at-eq0
returns-then-at-eq0 c = takes_as _ (sym (flags (rest (goal.at.returns-then-at-eq0 c).Start) (eq-eqb c.args.at 0 c.if-at-eq0.true) refl)) c.hit_len.ensures

pub returns-then-fresh : goal.returns-then-fresh
returns-then-fresh c = takes_as _ (sym (flags (rest (goal.at.returns-then-fresh c).Start) (ne_eqb c.args.at 0 c.if-at-eq0.false) c.if-fresh.true)) c.hit_len-then-fresh.ensures

module _ (c : Else-fresh) where
  abbrev start_of_c : Start
  start_of_c = (goal.at.Else-fresh c).Start

  mid : hit (eqb c.args.at 0) c.args.fresh (rest start_of_c) ≡ hit false false (rest start_of_c)
  mid = flags (rest start_of_c) (ne_eqb c.args.at 0 c.if-at-eq0.false) c.if-fresh.false

pub returns-then-s-at-eq10 : goal.returns-then-s-at-eq10
returns-then-s-at-eq10 c = takes_as _ (sym (mid (goal.at.returns-then-s-at-eq10 c).Else-fresh ∙ hit-inside (rest (goal.at.returns-then-s-at-eq10 c).Start))) c.hit_a.ensures

pub returns : goal.returns
returns c = mid (goal.at.returns c).Else-fresh ∙ inside-none c.args.s.now c.args.at c.requires.1 c.if-s-at-eq10.false
