-- The walk over a text's lines. `Normalising set text area table at to count`, where pass 4 takes `set`: `count` lines are there, the text is done up to `at`, and the next line
-- goes to `to`.
--     going_start     with none done
--     piece-within, piece-length     the next line lies in the text, as long as it was counted
--     end_top         it ends in A
--     going_on        one line more
--     going_end       with none left
-- Assumes nothing.
use mathlib.Core.Path.{◌≡◌, refl, sym, ap, ap₂, ◌∙◌}
use mathlib.Core.Bool.{Bool, true, false, not, cond}
use mathlib.Core.List.{List, [], ◌∷◌, ◌++◌, map, append-nil, append_assoc}
use Prim.Native.Nat.{ℕ, suc, ◌+◌, ◌-◌, ◌*◌, ◌≤◌, ◌<◌}
use native.Mathlib.Nat.{not-suc-le-zero}
use native.Mathlib.Numerals.{add-one}
use native.Mathlib.Omega.{arith}
use lib.Dec.{leb, eqb, leb-zero, leb-suc-suc}
use lib.ListN.{length, take, drop, length-drop}
use lib.Seq.{drop-drop, length-take-le}
use borrow.Author.Tests.{le-leb, lt-leb, leb-true, leb-false}
use Rattle.lists.proofs.SliceLaws.{slice_within}
use Rattle.rules.specs.Bytes.{newline, lead, line_len, split, on_first}
use Rattle.rules.specs.Lines.{line_by, lines_by}
use Rattle.rules.proofs.RefusalLaws.{lines_by-count}
use Rattle.slices.specs.declared.ends.ByteSpan.{ByteSpan}
use Rattle.rules.proofs.PlaceLaws.{lead-most}
use Rattle.preproc_lines.specs.Placed.{Placed}
use Rattle.preproc_table.specs.Entries.{start_at, end_at, line_at, lines_from, lines_at, entry_set, Apart}
use Rattle.preproc_lines.specs.Normalised.{Normalised}
use Rattle.preproc_table.proofs.EntryLaws.{start-written, end-written, start-other, end-other, lines_more, lines_same, lines-length, up_to}

-- ---- the pieces from a place on; behind the end there is none
pub rest_of : ℕ → List ℕ → List (List ℕ)
rest_of at t = cond (leb at (length t)) (split 10 (drop at t)) []

rest-start : (t : List ℕ) → rest_of 0 t ≡ split 10 t
unfolding rest_of
rest-start t = rw (leb-zero (length t))

rest-none : (at : ℕ) (t : List ℕ) → length t < at → rest_of at t ≡ []
unfolding rest_of
rest-none at t h = rw (lt-leb at (length t) h)

rest_some : (at : ℕ) (t : List ℕ) → at ≤ length t → rest_of at t ≡ split 10 (drop at t)
unfolding rest_of
rest_some at t h = rw (le-leb at (length t) h)

rest_cons : (k x : ℕ) (s : List ℕ) → rest_of (suc k) (x ∷ s) ≡ rest_of k s
unfolding rest_of
rest_cons k x s = rw (leb-suc-suc k (length s))

rest-drop : (a k : ℕ) (t : List ℕ) → a ≤ length t → rest_of k (drop a t) ≡ rest_of (a + k) t
rest-drop a k t h = at (leb k (length (drop a t))) refl
  where
    at : (b : Bool) → leb k (length (drop a t)) ≡ b → rest_of k (drop a t) ≡ rest_of (a + k) t
    at true e =
        let l : k ≤ length (drop a t) = leb-true k (length (drop a t)) e in
        rest_some k (drop a t) l ∙ rw (drop-drop k a t) (sym (rest_some (a + k) t (omega (arith, length-drop a t))))
    at false e =
        let l : length (drop a t) < k = leb-false k (length (drop a t)) e in
        rest-none k (drop a t) l ∙ sym (rest-none (a + k) t (omega (arith, length-drop a t)))

-- the first line, and what is behind its newline
first-line : (x : ℕ) (s : List ℕ) (b : Bool) → newline x ≡ b → split 10 s ≡ take (line_len s) s ∷ rest_of (line_len s + 1) s →
    cond b ([] ∷ split 10 s) (on_first x (split 10 s)) ≡ take (cond (not (newline x)) (suc (line_len s)) 0) (x ∷ s) ∷ rest_of (cond (not (newline x)) (suc (line_len s)) 0 + 1) (x ∷ s)
unfolding on_first
first-line x s true q e = rw q (ap (λ (ls : List (List ℕ)). [] ∷ ls) (sym (rest-start s) ∙ sym (rest_cons 0 x s)))
first-line x s false q e =
    let k : suc (line_len s) + 1 ≡ suc (line_len s + 1) = omega arith in
    rw (q, k, rest_cons (line_len s + 1) x s, e)

split-first : (s : List ℕ) → split 10 s ≡ take (line_len s) s ∷ rest_of (line_len s + 1) s
unfolding split line_len lead newline
split-first [] = ap (λ (ls : List (List ℕ)). [] ∷ ls) (sym (rest-none 1 [] (omega arith)))
split-first (x ∷ s) = first-line x s (eqb x 10) refl (split-first s)

rest-next : (at : ℕ) (t : List ℕ) → at ≤ length t → rest_of at t ≡ take (line_len (drop at t)) (drop at t) ∷ rest_of (at + (line_len (drop at t) + 1)) t
rest-next at t h =
    rest_some at t h ∙ split-first (drop at t)
    ∙ ap (λ (ls : List (List ℕ)). take (line_len (drop at t)) (drop at t) ∷ ls) (rest-drop at (line_len (drop at t) + 1) t h)

-- ---- the walk
pub record Normalising (set : ℕ → Bool) (text area table : List ℕ) (at to count : ℕ) : Type 0 where
  pub few : count ≤ at
  pub within : at ≤ length text + 1
  pub low : length text ≤ to
  pub fits : to ≤ length text + 3 * at
  pub top : to ≤ 4 * length text + 1
  pub before : (i : ℕ) → i < count → end_at table i < to
  pub apart : Apart (length text) (4 * length text) table count
  pub there : lines_at area table count ++ map (line_by set) (rest_of at text) ≡ lines_by set text

pub going_start : (set : ℕ → Bool) (text area table : List ℕ) → Normalising set text area table 0 (length text) 0
unfolding lines_at lines_from lines_by
going_start set text area table =
    record {
      few = omega arith;
      within = omega arith;
      low = omega arith;
      fits = omega arith;
      top = omega arith;
      before = λ i h. absurd (not-suc-le-zero h);
      apart =
          record {
            low = λ i h. absurd (not-suc-le-zero h);
            order = λ i h. absurd (not-suc-le-zero h);
            high = λ i h. absurd (not-suc-le-zero h);
            apart = λ i j h k. absurd (not-suc-le-zero k);
          };
      there = ap (map (line_by set)) (rest-start text);
    }

-- the line at `at`, m bytes long, as the part `&text[at..at + m]`
module _ (text : List ℕ) (at m : ℕ) (e : m ≡ line_len (drop at text)) (h : at ≤ length text) where
  abbrev piece : List ℕ
  piece = take (at + m - at) (drop at text)

  pub piece-within : at + m ≤ length text
  unfolding line_len
  piece-within = omega (arith, e, lead-most (λ x. not (newline x)) (drop at text), length-drop at text)

  piece_is : piece ≡ take (line_len (drop at text)) (drop at text)
  piece_is =
      let k : at + m - at ≡ line_len (drop at text) = omega (arith, e) in
      ap (λ (j : ℕ). take j (drop at text)) k

  pub piece-length : length piece ≡ m
  piece-length =
      let k : at + m - at ≡ m = omega arith in
      rw k (length-take-le m (drop at text) (omega (arith, piece-within, length-drop at text)))

  module _ {set : ℕ → Bool} {area area' table : List ℕ} {to count : ℕ} {r : ByteSpan} (g : Normalising set text area table at to count) (p : Placed set piece area to r area') (room : 2 * count + 1 < length table) where
    abbrev now_written : List ℕ
    now_written = entry_set table count r.start r.end

    last-start : start_at now_written count ≡ r.start
    last-start = start-written table count r.start r.end room

    last_end : end_at now_written count ≡ r.end
    last_end = end-written table count r.start r.end room

    old_start : (i : ℕ) → i < count → start_at now_written i ≡ start_at table i
    old_start i l = start-other table count r.start r.end i (λ q. omega arith)

    old_end : (i : ℕ) → i < count → end_at now_written i ≡ end_at table i
    old_end i l = end-other table count r.start r.end i (λ q. omega arith)

    pub end_top : r.end ≤ 4 * length text
    end_top = omega (arith, p.high, piece-length, piece-within, g.fits)

    step-apart : Apart (length text) (4 * length text) now_written (count + 1)
    step-apart =
        record {
          low = up_to (λ i. length text ≤ start_at now_written i) count (λ i l. rw (old_start i l) (g.apart.low i l)) (rw last-start (omega (arith, p.low, g.low)));
          order = up_to (λ i. start_at now_written i ≤ end_at now_written i) count (λ i l. rw (old_start i l, old_end i l) (g.apart.order i l)) (rw (last-start, last_end) p.order);
          high = up_to (λ i. end_at now_written i ≤ 4 * length text) count (λ i l. rw (old_end i l) (g.apart.high i l)) (rw last_end end_top);
          apart =
              λ i j l h. up_to (λ k. i < k → end_at now_written i + 1 ≤ start_at now_written k) count
              (λ k u v. rw (old_end i (omega arith), old_start k u) (g.apart.apart i k v u))
              (λ v. rw (old_end i v, last-start) (omega (arith, g.before i v, p.low)))
              j h l;
        }

    old_line : (i : ℕ) → i < count → line_at area' now_written i ≡ line_at area table i
    unfolding line_at
    old_line i l =
        rw (old_start i l, old_end i l)
        (slice_within (length piece) to area' area (omega (arith, piece-length, piece-within, g.apart.low i l)) (g.apart.order i l) (omega (arith, g.before i l)) p.same)

    last_line : line_at area' now_written count ≡ line_by set (take (line_len (drop at text)) (drop at text))
    unfolding line_at
    last_line = rw (last-start, last_end) (p.bytes ∙ ap (line_by set) piece_is)

    step_lines : lines_at area' now_written (count + 1) ≡ lines_at area table count ++ (line_by set (take (line_len (drop at text)) (drop at text)) ∷ [])
    unfolding lines_at
    step_lines =
        rw (add-one count)
        (lines_more area' now_written 0 count
        ∙ ap₂ (λ (ls : List (List ℕ)) (l : List ℕ). ls ++ (l ∷ [])) (lines_same area' area now_written table 0 count (λ j u v. old_line j (omega arith))) last_line')
      where
        last_line' : line_at area' now_written (0 + count) ≡ line_by set (take (line_len (drop at text)) (drop at text))
        last_line' = let z : 0 + count ≡ count = omega arith in rw z last_line

    pub going_on : Normalising set text area' now_written (at + m + 1) (r.end + 1) (count + 1)
    going_on =
        record {
          few = omega (arith, g.few);
          within = omega (arith, piece-within);
          low = omega (arith, g.low, p.low, p.order);
          fits = omega (arith, g.fits, p.high, piece-length);
          top = omega (arith, end_top);
          before = up_to (λ i. end_at now_written i < r.end + 1) count (λ i l. rw (old_end i l) (omega (arith, g.before i l, p.low, p.order))) (rw last_end (omega arith));
          apart = step-apart;
          there = step-there;
        }
      where
        step-there : lines_at area' now_written (count + 1) ++ map (line_by set) (rest_of (at + m + 1) text) ≡ lines_by set text
        step-there =
            let k : at + m + 1 ≡ at + (line_len (drop at text) + 1) = omega (arith, e) in
            rw (step_lines, append_assoc, k) (ap (λ (ls : List (List ℕ)). lines_at area table count ++ map (line_by set) ls) (sym (rest-next at text h)) ∙ g.there)

pub going_end : {set : ℕ → Bool} {text area table : List ℕ} {at to count : ℕ} → length text < at → Normalising set text area table at to count → Normalised set text area table count
unfolding lines_at
going_end {set} {text} {area} {table} {at} {to} {count} h g =
    let e : lines_from area table 0 count ≡ lines_by set text = rw (rest-none at text h, append-nil) at g.there in
    record {
      count = sym (lines-length area table 0 count) ∙ ap length e ∙ lines_by-count set text;
      lines = e;
      apart = g.apart;
    }
