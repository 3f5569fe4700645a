-- `join_runs` is `cap_runs` with one byte left of each run.
-- Assumes nothing.
use Rattle.preproc_runs.proofs.PassLaws.{runs-capped}
use Rattle.preproc_runs.proofs.join_runs.Goals as goal

pub returns : goal.returns
returns c = rw runs-capped at c.cap_runs.ensures
