-- `put_line_hex`: what is put is the UTF-8 that was spread over the scratch.
-- Assumes nothing.
use mathlib.Core.Path.{◌≡◌, sym, ap, ◌∙◌}
use native.Mathlib.Omega.{arith}
use lib.ListN.{take}
use lib.Seq.{slice, length-take-le}
use Rattle.rules.specs.Points.{encoded}
use Rattle.points.proofs.EncodeLaws.{encoded_twice}
use Rattle.replay_lines.proofs.ToldLaws.{copied}
use Rattle.replay_lines.proofs.put_line_hex.Goals as goal
use Rattle.replay_lines.proofs.put_line_hex.Goals.{After-encode_in-end, After-put-n}

-- what the scratch holds of the line: itself, and then its UTF-8
module _ (p : After-put-n) where
  line : slice 0 p.put-n.result p.put-n.new.dst ≡ p.args.src.now
  line = copied p.args.src.now p.args.scratch.now _ _ p.put-n.ensures.0 p.put-n.ensures.1

module _ (s : After-encode_in-end) where
  abbrev put_of_s : After-put-n
  put_of_s = (goal.at.After-encode_in-end s).After-put-n

  utf8 : take s.encode_in-end.result s.encode_in-end.new.area ≡ encoded s.args.src.now
  utf8 = s.encode_in-end.ensures.bytes ∙ ap encoded (line put_of_s)

pub encode_in-end-requires : goal.encode_in-end-requires
encode_in-end-requires c = let t = encoded_twice c.args.src.now in
    let k = c.put-n.auto.dst in
    let n = c.put-n.ensures.0 in
    (omega arith, omega (arith, n, k, c.requires.0), rw (line (goal.at.encode_in-end-requires c).After-put-n) (omega (arith, t, k, c.requires.0)))

pub slice_bounds-put_hex-end-2 : goal.slice_bounds-put_hex-end-2
slice_bounds-put_hex-end-2 c = sym (length-take-le _ _ c.encode_in-end.ensures.high)

pub put_hex-requires : goal.put_hex-requires
put_hex-requires c = rw (utf8 (goal.at.put_hex-requires c).After-encode_in-end) c.requires.1

pub returns : goal.returns
returns c = rw (utf8 (goal.at.returns c).After-encode_in-end) at c.put_hex.ensures
