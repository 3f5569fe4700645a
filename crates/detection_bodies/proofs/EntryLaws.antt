-- A table body's soundness by what is still to come: after the entry `last`, with a sum and a number of entries before (`table_rest`).
--     rest-start, rest-short     at the body's start, which is its own soundness; a body without a head
--     rest-next                  an entry that is sound
--     rest_bad, rest_over        one that is not, and one that exceeds the largest total
--     rest_end                   with none to come
-- A run over the entries at `at`, after the entry body[last..at] (`EntryRun`), has the same laws: run-start, run-next, run_bad, run-over, run_end,
-- run-broken.
-- Assumes nothing.
use mathlib.Core.Path.{◌≡◌, refl, sym, ap, ◌∙◌}
use mathlib.Core.Bool.{Bool, true, false, ◌&&◌, false≢true}
use mathlib.Core.List.{List, [], ◌∷◌}
use mathlib.Core.Option.{Option, none, some}
use Prim.Native.Nat.{ℕ, ◌+◌, ◌-◌, ◌≤◌, ◌<◌}
use native.Mathlib.Nat.{zero-add, add-zero}
use native.Mathlib.Omega.{arith}
use lib.Dec.{leb, ltb, eqb}
use lib.ListN.{length, take, drop}
use borrow.Author.Tests.{le-leb, lt-leb, ltb-true}
use Rattle.lists.specs.Parts.{part}
use Rattle.rules.specs.Sizes.{total_most}
use Rattle.rules.specs.Bytes.{rises, split}
use Rattle.rules.specs.Prefix.{Counted}
use Rattle.rules.specs.Book.{number, also, sum, two_terms, all_terms, sound_entries, shaped, sound_table, entries_of}
use Rattle.rules.proofs.BoolLaws.{and_left, and_right}
use Rattle.records.proofs.StepLaws.{entries_behind, EntryHere}
use Rattle.detection_bodies.proofs.ByteLaws.{and_false}

unfoldable pub table_rest : Bool → List ℕ → List ℕ → ℕ → ℕ → Option (List Counted) → Bool
table_rest w body last s n none = false
table_rest w body last s n (some es) =
    eqb (number 4 body) (s + sum es) && eqb (number 4 (drop 4 body)) (n + length es) && sound_entries last es && leb (s + sum es) total_most && all_terms w es

pub rest-start : (w : Bool) (body : List ℕ) (o : Option (List Counted)) → 8 ≤ length body → sound_table w body o ≡ table_rest w body [] 0 0 o
unfolding sound_table shaped table_rest
rest-start w body none h = refl
rest-start w body (some es) h = rw (le-leb 8 (length body) h, zero-add (sum es), zero-add (length es))

pub rest-short : (w : Bool) (body : List ℕ) (o : Option (List Counted)) → length body < 8 → sound_table w body o ≡ false
unfolding sound_table shaped
rest-short w body none h = refl
rest-short w body (some es) h = rw (lt-leb 8 (length body) h)

-- the entry e, after `last`
abbrev pub entry_sound : Bool → List ℕ → Counted → Bool
entry_sound w last e = ltb 0 e.count && two_terms w (split 32 e.bytes) && rises last e.bytes

-- its three tests
record Tests (w : Bool) (last : List ℕ) (e : Counted) : Type 0 where
  pub some : ltb 0 e.count ≡ true
  pub terms : two_terms w (split 32 e.bytes) ≡ true
  pub above : rises last e.bytes ≡ true

tests : (w : Bool) (last : List ℕ) (e : Counted) → entry_sound w last e ≡ true → Tests w last e
tests w last e h =
    let a = ltb 0 e.count in
    let b = two_terms w (split 32 e.bytes) in
    let c = rises last e.bytes in
    let front = and_left (a && b) c h in
    record { some = and_left a b front; terms = and_right a b front; above = and_right (a && b) c h }

-- one that fails is found, wherever it stands
found : (p a b c m l more : Bool) → (a && b && c) ≡ false → (p && (a && c && m) && l && (b && more)) ≡ false
found false a b c m l more h = refl
found true false b c m l more h = refl
found true true b false m l more h = refl
found true true false true m l more h = and_false (m && l)
found true true true true m l more h = absurd (false≢true (sym h))

module _ (w : Bool) (body last : List ℕ) (s n : ℕ) (e : Counted) where
  pub rest-next : (o : Option (List Counted)) → entry_sound w last e ≡ true →
      table_rest w body last s n (also e o) ≡ table_rest w body e.bytes (s + e.count) (n + 1) o
  unfolding table_rest also sound_entries all_terms sum
  rest-next none h = refl
  rest-next (some es) h =
      let t = tests w last e h in
      let a : s + (e.count + sum es) ≡ s + e.count + sum es = omega arith in
      let b : n + length (e ∷ es) ≡ n + 1 + length es = omega arith in
      rw (t.some, t.terms, t.above, a, b)

  pub rest_bad : (o : Option (List Counted)) → entry_sound w last e ≡ false → table_rest w body last s n (also e o) ≡ false
  unfolding table_rest also sound_entries all_terms
  rest_bad none h = refl
  rest_bad (some es) h =
      found (eqb (number 4 body) (s + sum (e ∷ es)) && eqb (number 4 (drop 4 body)) (n + length (e ∷ es))) (ltb 0 e.count) (two_terms w (split 32 e.bytes)) (rises last e.bytes)
      (sound_entries e.bytes es) (leb (s + sum (e ∷ es)) total_most) (all_terms w es) h

  pub rest_over : (o : Option (List Counted)) → total_most < s + e.count → table_rest w body last s n (also e o) ≡ false
  unfolding table_rest also sum
  rest_over none h = refl
  rest_over (some es) h = rw (lt-leb (s + (e.count + sum es)) total_most (omega arith), and_false)

pub rest_end : (w : Bool) (body last : List ℕ) (s n : ℕ) → s ≤ total_most →
    table_rest w body last s n (some []) ≡ (eqb (number 4 body) s && eqb (number 4 (drop 4 body)) n)
unfolding table_rest sound_entries all_terms sum
rest_end w body last s n h =
    rw (add-zero s, add-zero n, le-leb s total_most h) (and_true (eqb (number 4 body) s && eqb (number 4 (drop 4 body)) n))
  where
    and_true : (a : Bool) → a && true && true && true ≡ a
    and_true true = refl
    and_true false = refl

-- ---- a run over a body's entries
pub record EntryRun (w : Bool) (body : List ℕ) (at last s n : ℕ) : Type 0 where
  pub headed : 8 ≤ length body
  pub within : at ≤ length body
  pub behind : last ≤ at
  pub most : s ≤ total_most
  pub count : n ≤ s
  pub rest : table_rest w body (part body last at) s n (entries_behind body at) ≡ sound_table w body (entries_of body)

pub run-start : (w : Bool) (body : List ℕ) → 8 ≤ length body → EntryRun w body 8 8 0 0
unfolding entries_of
run-start w body h =
    record {
      headed = h;
      within = h;
      behind = omega arith;
      most = omega arith;
      count = omega arith;
      rest = sym (rest-start w body (entries_behind body 8) h);
    }

-- the entry that stands at body[start..start + len]
abbrev pub entry_in : List ℕ → ℕ → ℕ → ℕ → Counted
entry_in body count start len = record { bytes = part body start (start + len); count = count }

module _ {w : Bool} {body : List ℕ} {at last s n : ℕ} (r : EntryRun w body at last s n) where
  pub run_end : entries_behind body at ≡ some [] → sound_table w body (entries_of body) ≡ (eqb (number 4 body) s && eqb (number 4 (drop 4 body)) n)
  run_end e = sym r.rest ∙ ap (table_rest w body (part body last at) s n) e ∙ rest_end w body (part body last at) s n r.most

  pub run-broken : entries_behind body at ≡ none → sound_table w body (entries_of body) ≡ false
  unfolding table_rest
  run-broken e = sym r.rest ∙ ap (table_rest w body (part body last at) s n) e

  module _ (c start len : ℕ) (h : EntryHere body at c start len) where
    is : entries_behind body at ≡ also (entry_in body c start len) (entries_behind body (start + len))
    is =
        let k : len ≡ start + len - start = omega arith in
        h.is ∙ ap (λ (m : ℕ). also (record { bytes = take m (drop start body); count = c }) (entries_behind body (start + len))) k

    pub run_bad : entry_sound w (part body last at) (entry_in body c start len) ≡ false → sound_table w body (entries_of body) ≡ false
    run_bad e =
        sym r.rest ∙ ap (table_rest w body (part body last at) s n) is ∙
        rest_bad w body (part body last at) s n (entry_in body c start len) (entries_behind body (start + len)) e

    pub run-over : total_most < s + c → sound_table w body (entries_of body) ≡ false
    run-over l =
        sym r.rest ∙ ap (table_rest w body (part body last at) s n) is ∙
        rest_over w body (part body last at) s n (entry_in body c start len) (entries_behind body (start + len)) l

    pub run-next : entry_sound w (part body last at) (entry_in body c start len) ≡ true → s + c ≤ total_most → EntryRun w body (start + len) start (s + c) (n + 1)
    run-next e l =
        let pos : 0 < c = ltb-true 0 c (tests w (part body last at) (entry_in body c start len) e).some in
        record {
          headed = r.headed;
          within = h.fits;
          behind = omega arith;
          most = l;
          count = omega (arith, r.count);
          rest = sym (rest-next w body (part body last at) s n (entry_in body c start len) (entries_behind body (start + len)) e) ∙
              sym (ap (table_rest w body (part body last at) s n) is) ∙ r.rest;
        }
