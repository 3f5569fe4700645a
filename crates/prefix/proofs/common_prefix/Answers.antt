-- `prefix::common_prefix` meets its contract.
-- Assumes nothing.
use mathlib.Core.Path.{◌≡◌, sym, ap, ◌∙◌, subst}
use mathlib.Core.Bool.{true}
use mathlib.Core.List.{List, map}
use Prim.Native.Nat.{ℕ, ◌+◌, ◌-◌, ◌*◌, ◌≤◌, ◌<◌}
use native.Mathlib.Omega.{arith}
use lib.ListN.{length, take}
use lib.Seq.{slice, length-take-le}
use Rattle.rules.specs.declared.View.{View}
use Rattle.lists.proofs.SliceLaws.{slice_first}
use Rattle.rules.specs.Prefix.{prefixes, strip, without_prefix}
use Rattle.rules.specs.Table.{occurs}
use Rattle.rules.specs.Search.{viewed}
use Rattle.rules.proofs.PrefixLaws.{without-none}
use Rattle.preproc_table.specs.Entries.{table_end, view_start, lines_from, lines_at}
use Rattle.preproc_table.proofs.EntryLaws.{lines-viewed, lines-length, apart_below}
use Rattle.prefix_list.specs.declared.Listed.{Listed}
use Rattle.prefix_list.specs.Listing.{plain_lines, ListStands}
use Rattle.std.proofs.Common.{Some}
use Rattle.prefix_choice.specs.Choice.{Decided}
use Rattle.prefix.proofs.PlainLaws.{plain-prefixes, plain-viewed}
use Rattle.prefix_choice.proofs.StandLaws.{stands-listed, stands_fits, stands-none, view-same}
use Rattle.prefix.proofs.common_prefix.Goals as goal
use Rattle.prefix.proofs.common_prefix.Goals.{After-choose, After-list_prefixes-x, In_ok-found}

-- what is known once the prefixes are listed
module _ (x : After-list_prefixes-x) where
  abbrev n : ℕ
  n = x.args.n

  abbrev v : View
  v = x.args.v

  abbrev area₀ : List ℕ
  area₀ = x.args.area.now

  abbrev table₀ : List ℕ
  table₀ = x.args.words.now

  abbrev area : List ℕ
  area = x.list_prefixes-x.new.area

  abbrev table : List ℕ
  table = x.list_prefixes-x.new.words

  abbrev found : Listed
  found = x.list_prefixes-x.result

  abbrev lines : List (List ℕ)
  lines = viewed (lines_at area₀ table₀ x.args.count) v

  lines_are : lines ≡ lines_from area₀ table₀ v.start (v.end - v.start)
  unfolding viewed
  lines_are = lines-viewed area₀ table₀ v.start v.end x.args.count x.requires.classes.2 x.requires.classes.3

  lines-many : length lines ≡ v.end - v.start
  lines-many = ap length lines_are ∙ lines-length area₀ table₀ v.start (v.end - v.start)

  stands : ListStands n (prefixes lines) area₀ table₀ found area table
  stands = subst (λ (ls : List (List ℕ)). ListStands n (prefixes ls) area₀ table₀ found area table) (sym lines_are) x.list_prefixes-x.ensures

  smooth : plain_lines (prefixes lines) ≡ true
  smooth = plain-prefixes lines (plain-viewed (lines_at area₀ table₀ x.args.count) v x.requires.count_value)

  area_room : 8 * n + 64 ≤ length area
  area_room = omega (arith, x.list_prefixes-x.auto.area, x.requires.n_le_text_most.1)

  table-room : 12 * n + 64 ≤ length table
  table-room = omega (arith, x.list_prefixes-x.auto.words, x.requires.n_le_text_most.2)

  end-within : found.end ≤ length area
  end-within = omega (arith, stands.high, area_room)

  text-long : length (take found.end area) ≡ found.end
  text-long = length-take-le found.end area end-within

-- and once one is chosen
module _ (q : After-choose) where
  abbrev list_prefixes_of_q : After-list_prefixes-x
  list_prefixes_of_q = (goal.at.After-choose q).After-list_prefixes-x

  decided : Decided (lines list_prefixes_of_q) (take (found list_prefixes_of_q).end (area list_prefixes_of_q)) q.choose.result
  decided =
      (rw q.table_end-at.ensures at q.choose.ensures.decided) (lines list_prefixes_of_q)
      (stands-listed (n list_prefixes_of_q) (lines list_prefixes_of_q) (area₀ list_prefixes_of_q) (table₀ list_prefixes_of_q) (found list_prefixes_of_q) (area list_prefixes_of_q) (table list_prefixes_of_q) (stands list_prefixes_of_q) (smooth list_prefixes_of_q) (area_room list_prefixes_of_q) (table-room list_prefixes_of_q))
      (lines-many list_prefixes_of_q)

  abbrev last : List ℕ
  last = q.choose.new.words

  last-low : take (table_end (n list_prefixes_of_q)) last ≡ take (table_end (n list_prefixes_of_q)) (table₀ list_prefixes_of_q)
  last-low =
      let front = rw q.table_end-at.ensures at q.choose.ensures.front in
      front ∙ (stands list_prefixes_of_q).table-low

  same_lines : (lines list_prefixes_of_q) ≡ lines_from (area list_prefixes_of_q) last (v list_prefixes_of_q).start ((v list_prefixes_of_q).end - (v list_prefixes_of_q).start)
  same_lines =
      (lines_are list_prefixes_of_q)
      ∙ sym (view-same (n list_prefixes_of_q) q.args.count (area₀ list_prefixes_of_q) (table₀ list_prefixes_of_q) (area list_prefixes_of_q) last q.requires.classes.1 q.requires.classes.4 (stands list_prefixes_of_q).area_low last-low
      (v list_prefixes_of_q).start ((v list_prefixes_of_q).end - (v list_prefixes_of_q).start) (omega (arith, q.requires.classes.2, q.requires.classes.3)))

-- and it is a prefix
module _ (f : In_ok-found) where
  abbrev list_prefixes_of_f : After-list_prefixes-x
  list_prefixes_of_f = (goal.at.In_ok-found f).After-list_prefixes-x

  abbrev choose_of_f : After-choose
  choose_of_f = (goal.at.In_ok-found f).After-choose

  abbrev from : ℕ
  from = f.in_ok-found.found.start

  abbrev to : ℕ
  to = f.in_ok-found.found.end

  taken : Decided (lines list_prefixes_of_f) (take (found list_prefixes_of_f).end (area list_prefixes_of_f)) (Some f.in_ok-found.found)
  taken = subst (Decided (lines list_prefixes_of_f) (take (found list_prefixes_of_f).end (area list_prefixes_of_f))) f.in_ok-found.was (decided choose_of_f)

  bytes-there : slice from to (take (found list_prefixes_of_f).end (area list_prefixes_of_f)) ≡ slice from to (area list_prefixes_of_f)
  bytes-there = slice_first from to (found list_prefixes_of_f).end (area list_prefixes_of_f) (omega (arith, taken.1, (text-long list_prefixes_of_f)))

pub returns-then-x-eq0 : goal.returns-then-x-eq0
returns-then-x-eq0 c = let list_prefixes = (goal.at.returns-then-x-eq0 c).After-list_prefixes-x in
    record { strips = without-none (lines list_prefixes) (stands-none (n list_prefixes) (lines list_prefixes) (area₀ list_prefixes) (table₀ list_prefixes) (found list_prefixes) (area list_prefixes) (table list_prefixes) (stands list_prefixes) (smooth list_prefixes) (area_room list_prefixes) (table-room list_prefixes) c.if-x-eq0.true); area = (stands list_prefixes).area_low; words = (stands list_prefixes).table-low }

pub slice_bounds-choose-end-2 : goal.slice_bounds-choose-end-2
slice_bounds-choose-end-2 c = sym (length-take-le _ _ (end-within (goal.at.slice_bounds-choose-end-2 c).After-list_prefixes-x))

pub choose-requires : goal.choose-requires
choose-requires c = let list_prefixes = (goal.at.choose-requires c).After-list_prefixes-x in
    let few = (stands list_prefixes).few in
    record {
      k_nonzero = (omega arith, omega (arith, c.table_end-at.ensures, table-room list_prefixes), omega (arith, c.requires.n_le_text_most.0), omega (arith, c.requires.classes.3, c.requires.classes.4, c.requires.n_le_text_most.0));
      by_index = rw c.table_end-at.ensures
          (stands_fits (n list_prefixes) (lines list_prefixes) (area₀ list_prefixes) (table₀ list_prefixes) (found list_prefixes) (area list_prefixes) (table list_prefixes) (stands list_prefixes) (smooth list_prefixes) (area_room list_prefixes) (table-room list_prefixes));
    }

pub returns-in_err-found : goal.returns-in_err-found
returns-in_err-found c = let list_prefixes = (goal.at.returns-in_err-found c).After-list_prefixes-x in
    let choose = (goal.at.returns-in_err-found c).After-choose in
    record { strips = rw c.from_residual.ensures (subst (Decided (lines list_prefixes) (take (found list_prefixes).end (area list_prefixes))) c.in_err-found.was (decided choose)); area = (stands list_prefixes).area_low; words = last-low choose }

pub home-requires : goal.home-requires
home-requires c = let in_prefix = (goal.at.home-requires c).In_ok-found in
    let list_prefixes = (goal.at.home-requires c).After-list_prefixes-x in
    let choose = (goal.at.home-requires c).After-choose in
    let d = taken in_prefix in record {
      classes = (
        c.requires.classes.0,
        apart_below c.args.count (table_end (n list_prefixes)) (omega (arith, c.requires.classes.4)) (table₀ list_prefixes) (last choose) (sym (last-low choose)) (n list_prefixes) (view_start (n list_prefixes)) c.requires.classes.1,
        c.requires.classes.2,
        c.requires.classes.3,
        omega (arith, c.choose.auto.words, table-room list_prefixes, c.requires.classes.4),
        omega (arith, area_room list_prefixes),
      );
      a_le_b = (
        d.0,
        omega (arith, d.1, text-long list_prefixes, end-within list_prefixes),
        subst (λ (ls : List (List ℕ)). 0 < occurs (slice (from in_prefix) (to in_prefix) (area list_prefixes)) (prefixes ls)) (same_lines choose) (subst (λ (w : List ℕ). 0 < occurs w (prefixes (lines list_prefixes))) (bytes-there in_prefix) d.3),
      );
    }

pub returns : goal.returns
returns c = let list_prefixes = (goal.at.returns c).After-list_prefixes-x in
    let in_prefix = (goal.at.returns c).In_ok-found in
    let h = c.home.ensures in record {
      strips = (
        subst (λ (w : List ℕ). without_prefix (lines list_prefixes) ≡ map (strip w) (lines list_prefixes)) (bytes-there in_prefix ∙ sym h.bytes) (taken in_prefix).2,
        h.low,
        h.order,
        h.high,
      );
      area = (stands list_prefixes).area_low;
      words = last-low (goal.at.returns c).After-choose;
    }
