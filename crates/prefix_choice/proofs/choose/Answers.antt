-- `prefix_choice::choose` meets its contract: the groups stand in the part of the table that was lent.
-- Assumes nothing.
use mathlib.Core.Path.{◌≡◌, sym, ap, ◌∙◌, subst}
use mathlib.Core.List.{List, ◌++◌}
use Prim.Native.Nat.{ℕ, ◌+◌, ◌-◌, ◌≤◌, ◌<◌}
use native.Mathlib.Omega.{arith}
use lib.ListN.{length, take, drop, get_or, length-drop}
use lib.Seq.{length-take-le}
use Rattle.lists.proofs.SliceLaws.{part-rest}
use Rattle.lists.proofs.LentLaws.{lent-low}
use Rattle.sort_spread.specs.Sort.{part_later, msorted}
use Rattle.sort_tally.specs.Group.{groups, Grouped}
use Rattle.prefix_choice.proofs.StandLaws.{grouped-some, grouped_fits, lent-rest}
use Rattle.prefix_choice.proofs.choose.Goals as goal
use Rattle.prefix_choice.proofs.choose.Goals.{After-group_prefixes-d}

-- what is known once the starts are grouped
module _ (g : After-group_prefixes-d) where
  abbrev text : List ℕ
  text = g.args.text.now

  abbrev old : List ℕ
  old = g.args.words.now

  abbrev at : ℕ
  at = g.args.at

  abbrev first : List ℕ
  first = take g.args.k (drop at old)

  abbrev part : List ℕ
  part = g.group_prefixes-d.new.p

  abbrev new : List ℕ
  new = take at old ++ (part ++ drop (length old - at) (drop at old))

  inside : at ≤ length old
  inside = omega (arith, g.requires.k_nonzero.1)

  part-long : length part ≡ length old - at
  part-long = g.group_prefixes-d.auto.p ∙ ap length (part-rest at old) ∙ length-drop at old

  first-long : length first ≡ g.args.k
  first-long = length-take-le g.args.k (drop at old) (rw length-drop (omega (arith, g.requires.k_nonzero.1)))

  part-there : take (length new - at) (drop at new) ≡ part
  part-there = part-rest at new ∙ lent-rest at old part inside part-long

  grouped : Grouped (groups (part_later 10 1 text) (msorted (part_later 10 1 text) g.args.k first)) g.args.k g.group_prefixes-d.result part
  grouped = rw (part-rest at old) at g.group_prefixes-d.ensures

  some : (0 < g.group_prefixes-d.result) × (g.group_prefixes-d.result ≤ g.args.k)
  some = grouped-some text part g.args.k g.group_prefixes-d.result first first-long grouped g.requires.k_nonzero.0

pub decide-requires : goal.decide-requires
decide-requires c = let group_prefixes = (goal.at.decide-requires c).After-group_prefixes-d in
    let e = sym (part-there group_prefixes) in record {
      d_nonzero = (
        (some group_prefixes).0,
        (some group_prefixes).1,
        subst (λ (p : List ℕ). c.args.k + c.args.k ≤ length p) e (omega (arith, part-long group_prefixes, c.requires.k_nonzero.1)),
        c.requires.k_nonzero.2,
        c.requires.k_nonzero.3,
      );
      by_index = subst (λ (p : List ℕ). (j : ℕ) → j < c.group_prefixes-d.result → get_or p j 0 ≤ length (text group_prefixes)) e
          (grouped_fits (text group_prefixes) (part group_prefixes) c.args.k c.group_prefixes-d.result (first group_prefixes) (first-long group_prefixes) (grouped group_prefixes) (length (text group_prefixes)) c.requires.by_index);
    }

pub returns : goal.returns
returns c = let group_prefixes = (goal.at.returns c).After-group_prefixes-d in
    record {
      front = lent-low (at group_prefixes) (length (old group_prefixes) - at group_prefixes) (old group_prefixes) (part group_prefixes) (inside group_prefixes) (part-long group_prefixes);
      decided = λ ls l e.
          c.decide.ensures ls (first group_prefixes)
          (record {
            listed = l;
            long = first-long group_prefixes;
            grouped = subst (Grouped (groups (part_later 10 1 (text group_prefixes)) (msorted (part_later 10 1 (text group_prefixes)) c.args.k (first group_prefixes))) c.args.k c.group_prefixes-d.result) (sym (part-there group_prefixes)) (grouped group_prefixes);
          }) e;
    }
