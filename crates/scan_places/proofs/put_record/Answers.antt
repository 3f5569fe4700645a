-- `scan_places::put_record` meets its contract: a score from 0.0 to 1.0 is no NaN, and no place lies behind the text.
-- Assumes nothing.
use mathlib.Core.Path.{ap₂, ◌∙◌}
use mathlib.Core.List.{[], ◌∷◌, ◌++◌}
use Prim.Native.Nat.{ℕ, ◌+◌, ◌*◌}
use native.Mathlib.Omega.{arith}
use lib.Ieee.{to_bits, binary32}
use lib.ListN.{take, drop}
use Rattle.rules.specs.Sizes.{record_width}
use Rattle.rules.specs.Scan.{six}
use Rattle.rules.proofs.PlaceLaws.{start-most, range-most}
use Rattle.rules.proofs.ScoreLaws.{no_nan}
use Rattle.scan_places.proofs.put_record.Goals as goal

pub float_to_bits-bits : goal.float_to_bits-bits
float_to_bits-bits c = no_nan _ c.requires.after_bound.1

pub overflow_cast-start : goal.overflow_cast-start
overflow_cast-start c = record { fits = omega (arith, c.places_from-places.ensures.0, start-most c.args.range.first c.args.text.now, c.requires.text_len_bound) }

pub overflow_cast-end : goal.overflow_cast-end
overflow_cast-end c = record { fits = omega (arith, c.places_from-places.ensures.1, range-most c.args.range.first c.args.range.after c.args.text.now c.requires.line_le_first.1, c.requires.text_len_bound) }

pub returns : goal.returns
unfolding six
returns c = let a = c.args in
    let e = c.places_from-places.ensures in (
      e.1,
      c.put_six.ensures ∙
          ap₂ (λ (start end : ℕ). take (record_width * a.k) a.results.now ++
          (a.number ∷ a.range.first ∷ a.range.after ∷ to_bits binary32 a.range.value.score ∷ start ∷ end ∷ []) ++
          drop (record_width * a.k + record_width) a.results.now) e.0 e.1,
    )
