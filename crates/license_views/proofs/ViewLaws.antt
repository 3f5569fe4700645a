-- A view's table in the areas: what the functions below ask and give, over the lists that the areas hold.
-- Assumes nothing.
use mathlib.Core.Path.{◌≡◌, sym, ap, ◌∙◌}
use mathlib.Core.List.{List, ◌++◌, append-nil}
use Prim.Native.Nat.{ℕ, ◌+◌, ◌-◌, ◌*◌, ◌≤◌, ◌<◌}
use native.Mathlib.Omega.{arith}
use lib.ListN.{length, take, drop, length-drop, drop_of_length-le}
use lib.Seq.{slice, drop_at, length-take-le}
use borrow.Rule.Slice.PartMut.{put_mid, take_put}
use Rattle.lists.proofs.SliceLaws.{part_slice, part-rest}
use Rattle.rules.specs.declared.View.{View}
use Rattle.rules.specs.Table.{Table, bigrams, table_of, view_table}
use Rattle.rules.specs.Search.{viewed}
use Rattle.rules.specs.Lines.{size}
use Rattle.rules.proofs.GrowthLaws.{bigrams-length, aggressive-length, viewed-size}
use Rattle.preproc_table.specs.Entries.{table_end, view_start, lines_at}
use Rattle.preproc_table.proofs.EntryLaws.{lines-below, apart_below}
use Rattle.ngram_table.specs.Tables.{table_at}
use Rattle.license_views.specs.declared.Viewed.{Viewed}
use Rattle.slices.specs.declared.ends.ByteSpan.{ByteSpan}
use Rattle.prefix_list.specs.Listing.{plain_lines}
use Rattle.license_notes.specs.Laid.{Held}
use Rattle.license_views.specs.Tabled.{Processed, Tabled, table_over}

-- ---- the words behind the line table
behind-put : (a : ℕ) (xs ys : List ℕ) → a ≤ length xs → drop a (put_mid a (length xs - a) xs ys) ≡ ys
behind-put a xs ys h =
    drop_at (take a xs) (ys ++ drop (length xs - a) (drop a xs)) a (length-take-le a xs h) ∙
    ap (λ (l : List ℕ). ys ++ l) (drop_of_length-le (drop a xs) {i = length xs - a} (rw length-drop (omega arith))) ∙
    append-nil ys

-- ---- the table of a view
module _ {n lines : ℕ} {v : View} {area₀ words₀ : List ℕ} {r : ByteSpan} {area words : List ℕ} (p : Processed n lines v area₀ words₀ r area words) where
  text-few : length (slice r.start r.end area) ≤ 3 * n + 3
  text-few =
      let ls = lines_at area₀ words₀ lines in
      omega (
        arith,
        ap length p.bytes,
        aggressive-length (viewed ls v),
        viewed-size ls v,
        p.held.laid.bytes,
        ap size p.held.same,
      )

  -- its words stand from `from` on
  module _ (from : ℕ) (q : from ≡ table_end n) where
    pub table_fits : (length (bigrams (take (r.end - r.start) (drop r.start area))) + length (bigrams (take (r.end - r.start) (drop r.start area))) ≤
        length (take (length words - from) (drop from words))) ×
        (length (take (r.end - r.start) (drop r.start area)) < 4294967296)
    table_fits =
        let b = bigrams-length (slice r.start r.end area) in
        let room = p.held.laid.words-room in
        let small = p.held.laid.small in
        let f = text-few in
        rw (part_slice r.start r.end area, part-rest from words) (omega (arith, length-drop from words), omega arith)

    module _ (total distinct : ℕ) (last : List ℕ) (long : length (put_mid from (length words - from) words last) ≡ length words)
        (is : table_at (take (r.end - r.start) (drop r.start area)) last total distinct ≡ table_of (bigrams (take (r.end - r.start) (drop r.start area))))
        (few : distinct ≤ total) where
      abbrev after : List ℕ
      after = put_mid from (length words - from) words last

      abbrev viewed_as : Viewed
      viewed_as = record { start = r.start; end = r.end; total = total; distinct = distinct }

      total-is : total ≡ length (bigrams (slice r.start r.end area))
      unfolding table_at table_of
      total-is = ap (λ (t : Table). t.total) is ∙ ap (λ (l : List ℕ). length (bigrams l)) (part_slice r.start r.end area)

      fits : from ≤ length words
      fits = omega (arith, p.held.laid.words-room)

      pub tabled : Tabled n area after viewed_as
      tabled =
          let b = bigrams-length (slice r.start r.end area) in
          let f = text-few in
          record {
            order = p.order;
            high = p.high;
            short = omega (arith, p.held.laid.small);
            few = few;
            room = omega (arith, total-is, p.held.laid.words-room, p.held.laid.small);
            most = omega (arith, total-is, p.held.laid.small);
            stands = rw (← q, behind-put from words last fits, ← part_slice r.start r.end area) is;
          }

      pub table_is : table_over area viewed_as ≡ view_table (viewed (lines_at area₀ words₀ lines) v)
      unfolding table_over view_table
      table_is = ap (λ (l : List ℕ). table_of (bigrams l)) p.bytes

      pub table-held : Held n lines area₀ words₀ area after
      table-held =
          let below : take from words ≡ take from after = sym (take_put from (length words - from) words last fits) in
          let few-lines : 2 * lines ≤ from = omega (arith, p.held.laid.few) in
          record {
            laid = record {
              apart = apart_below lines from few-lines words after below n (view_start n) p.held.laid.apart;
              few = p.held.laid.few;
              small = p.held.laid.small;
              area_room = p.held.laid.area_room;
              words-room = omega (arith, long, p.held.laid.words-room);
              plain = ap plain_lines (sym (lines-below lines from few-lines words after below area)) ∙ p.held.laid.plain;
              bytes = omega (arith, ap size (lines-below lines from few-lines words after below area), p.held.laid.bytes);
            };
            area_long = p.held.area_long;
            words_long = long ∙ p.held.words_long;
            same = sym (lines-below lines from few-lines words after below area) ∙ p.held.same;
          }
