-- `floors::Floor::beaten_by` meets its contract, arm by arm.
-- Assumes nothing.
use Rattle.floors.specs.Floors as floors
use Rattle.floors.proofs.Floor.beaten_by.Goals as goal

pub returns-then-self : goal.returns-then-self
unfolding floors.beats
returns-then-self c = rw c.if-self.true

pub returns : goal.returns
unfolding floors.beats
returns c = rw c.if-self.false
