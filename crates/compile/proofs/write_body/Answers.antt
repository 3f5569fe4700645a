-- `compile::write_body` meets its contract: the lent parts hold the table, and its body fits or not.
-- Assumes nothing.
use mathlib.Core.Path.{subst}
use Prim.Native.Nat.{ℕ, ◌≤◌}
use lib.ListN.{length}
use Rattle.compile.proofs.BodyLaws.{body_sizes, body_is, body-over, body-put}
use Rattle.compile.proofs.write_body.Goals as goal

pub body_len-len-requires : goal.body_len-len-requires
body_len-len-requires c = let both = body_sizes _ _ _ _ c.requires _ c.table_end-from.ensures in record { distinct_le_total = both.0; text_len_bound = both.1 }

pub returns-then-out-len : goal.returns-then-out-len
returns-then-out-len c = body-over _ _ _ _ (body_is _ _ _ c.args.t c.requires _ c.table_end-from.ensures) c.body_len-len.ensures c.if-out-len.true

pub put_body-requires : goal.put_body-requires
put_body-requires c = let z = body_sizes _ _ _ _ c.requires _ c.table_end-from.ensures in
    record { distinct_le_total = z.0; text_len_bound = z.1; distinct_in_bounds = subst (λ (n : ℕ). n ≤ length c.args.out.now) c.body_len-len.ensures c.if-out-len.false }

pub returns : goal.returns
returns c = body-put _ _ _ _ (body_is _ _ _ c.args.t c.requires _ c.table_end-from.ensures) c.body_len-len.ensures _ _ c.if-out-len.false c.put_body.ensures
