-- `detection_bodies::name_sound` meets its contract: the length, and then every byte.
-- Assumes nothing.
use Rattle.std.proofs.Common.{rules, tests}
use Rattle.std.proofs.lemmas.Iterator.{YieldsList-from_slice}
use Rattle.std.proofs.lemmas.Iterator.Search.{all_from_yields_List}
use Rattle.std.proofs.lemmas.Bool.Decides.{nat_tests}
use borrow.Author.Tests.{lt-leb, le-leb}
use Rattle.detection_bodies.proofs.ByteLaws.{and_false, every_list_all}
use Rattle.rules.specs.Book.{sound_name}
use Rattle.rules.specs.Bytes.{within, every}
use native.Mathlib.Omega.{arith}
use lib.ListN.{length}
use Prim.Native.Nat.{◌<◌, ◌≤◌}
use mathlib.Core.Path.{◌≡◌, ◌∙◌}
use Rattle.detection_bodies.proofs.name_sound.Goals as goal

pub returns-then-is_empty : goal.returns-then-is_empty
unfolding sound_name within
returns-then-is_empty c = let l : length c.args.s.now < 1 = grind (arith, nat_tests) in
    simp (lt-leb 1 (length c.args.s.now) l)

pub returns-then-s-gt-NAME_MOST : goal.returns-then-s-gt-NAME_MOST
unfolding sound_name within
returns-then-s-gt-NAME_MOST c = simp (lt-leb _ _ c.if-s-gt-NAME_MOST.true, and_false)

pub returns : goal.returns
unfolding sound_name within
returns c = let s = c.args.s.now in
    let l : 1 ≤ length s = grind (arith, nat_tests) in
    let e : c.all.result ≡ every (within 33 126) s =
    all_from_yields_List (within 33 126) _ _ c.all.result c.all.ensures.ran (YieldsList-from_slice s cc) (λ x b q k. search (rules, tests)) ∙ every_list_all (within 33 126) s in
    e ∙ simp (le-leb 1 (length s) l, le-leb (length s) 64 (omega arith))
