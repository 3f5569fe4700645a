-- `ngram_score::useless` meets its contract: what it says was tested at the number below.
-- Assumes nothing.
use mathlib.Core.Bool.{not}
use mathlib.Core.Path.{ap}
use Rattle.std.proofs.Common.{sym, refl, ◌∙◌, arith}
use borrow.Author.Tests.{not-true}
use Rattle.ngram_score.proofs.FloorLaws.{useless_to, useless_none}
use Rattle.ngram_score.proofs.useless.Goals as goal

pub returns-then-not-shares_beat : goal.returns-then-not-shares_beat
returns-then-not-shares_beat c = let a = c.args in
    useless_to a.floor a.a a.b c.requires.0 c.requires.1 _ _ (omega arith) (omega arith) refl
    (sym c.shares_beat.ensures ∙ not-true _ (ap not c.if-not-shares_beat.true))

pub returns-then-not-shares_beat-2 : goal.returns-then-not-shares_beat-2
returns-then-not-shares_beat-2 c = let a = c.args in
    useless_to a.floor a.a a.b c.requires.0 c.requires.1 c.about-near.result _ (omega arith) (omega arith) refl
    (sym c.shares_beat-2.ensures ∙ not-true _ (ap not c.if-not-shares_beat-2.true))

pub returns-then-near-eq0 : goal.returns-then-near-eq0
returns-then-near-eq0 c = let a = c.args in
    useless_none a.floor a.a a.b c.requires.0 c.requires.1

pub returns-then-not-shares_beat-3 : goal.returns-then-not-shares_beat-3
returns-then-not-shares_beat-3 c = let a = c.args in
    useless_to a.floor a.a a.b c.requires.0 c.requires.1 _ _ (omega arith) (omega arith) (omega (arith, c.if-near-eq0.false))
    (sym c.shares_beat-3.ensures ∙ not-true _ (ap not c.if-not-shares_beat-3.true))

pub returns : goal.returns
returns c = let a = c.args in
    useless_none a.floor a.a a.b c.requires.0 c.requires.1
