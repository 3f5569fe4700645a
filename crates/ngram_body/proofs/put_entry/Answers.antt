-- `ngram_body::put_entry` meets its contract: three runs of bytes, each behind the one before.
-- Assumes nothing.
use mathlib.Core.Path.{◌∙◌}
use native.Mathlib.Omega.{arith}
use Rattle.ngram_body.proofs.BodyLaws.{part-most, part-inside, entry-put}
use Rattle.ngram_body.proofs.put_entry.Goals as goal

pub overflow_cast-len : goal.overflow_cast-len
overflow_cast-len c = let a = c.args in
    let q = c.part_end.ensures in
    let n = part-most a.text.now a.a in
    omega (arith, c.requires.text_len_bound)

pub copy_to-requires : goal.copy_to-requires
copy_to-requires c = let a = c.args in
    let q = c.part_end.ensures in
    let k = c.write_u32-2.auto.s in
    let l = c.write_u32.auto.s in
    let h = c.requires.text_in_bounds in record { k_in_bounds = (λ t. omega (arith, part-inside a.text.now a.a (omega arith))); k_in_bounds_2 = omega arith }

pub returns : goal.returns
returns c = let a = c.args in
    let q = c.part_end.ensures in record {
      end = omega arith;
      put = c.copy_to.ensures.1
          ∙ rw (c.write_u32-2.ensures, c.write_u32.ensures)
          (entry-put a.text.now a.a a.count a.at _ a.out.now (omega arith) c.requires.text_in_bounds);
    }
