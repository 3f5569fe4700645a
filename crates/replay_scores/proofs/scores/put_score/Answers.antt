-- `put_score`: the eight digits, and the newline behind them.
-- Assumes nothing.
use mathlib.Core.List.{[], ◌∷◌}
use native.Mathlib.Omega.{arith}
use lib.Ieee.{binary32, to_bits}
use Rattle.lists.proofs.ChainLaws.{front_of}
use Rattle.questions.specs.Numbers.{four_bytes}
use Rattle.questions.proofs.HexLaws.{pairs-length}
use Rattle.questions.proofs.PutLaws.{front-more}
use Rattle.replay_scores.specs.Told.{bits_told}
use Rattle.replay_scores.proofs.ScoreLaws.{no_nan}
use Rattle.replay_scores.proofs.scores.put_score.Goals as goal

pub float_to_bits-bits : goal.float_to_bits-bits
float_to_bits-bits c = no_nan _ c.requires.0

pub put_byte-requires : goal.put_byte-requires
unfolding four_bytes
put_byte-requires c = omega (arith, c.put_bits-end.ensures.count, pairs-length (four_bytes (to_bits binary32 c.args.x)))

pub returns : goal.returns
unfolding bits_told
returns c = front-more (10 ∷ []) (front_of c.put_bits-end.ensures) c.put_byte.ensures
