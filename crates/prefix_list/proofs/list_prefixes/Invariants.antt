-- `prefix_list::list_prefixes` meets its contract: its loop is `Listing`.
-- Assumes nothing.
use Rattle.prefix_list.proofs.ListLaws.{Listing}
use Rattle.prefix_list.proofs.list_prefixes.Given as goal

abbrev pub invariant-loop-i : goal.invariant-loop-i
invariant-loop-i l = Listing l.n l.initial.i l.fn.v.end l.initial.area l.initial.words l.area l.words l.k l.w l.i
