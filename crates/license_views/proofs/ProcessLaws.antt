-- The aggressive passes on a view, pass 1 first: what stands below 4n in the bytes, and below the bigrams in the words, stays.
-- Assumes nothing.
use mathlib.Core.Path.{◌≡◌, refl, sym, ap, ◌∙◌}
use mathlib.Core.List.{List, map}
use Prim.Native.Nat.{ℕ, ◌*◌, ◌≤◌}
use native.Mathlib.Omega.{arith}
use lib.ListN.{length, take, drop}
use lib.Seq.{slice}
use Rattle.rules.specs.declared.View.{View}
use Rattle.rules.specs.Points.{encoded}
use Rattle.rules.specs.Prefix.{strip, without_prefix}
use Rattle.rules.specs.Passes.{aggressive}
use Rattle.rules.specs.Search.{viewed}
use Rattle.rules.specs.Lines.{size}
use Rattle.rules.proofs.GrowthLaws.{viewed-size}
use Rattle.slices.specs.declared.ends.ByteSpan.{ByteSpan}
use Rattle.slices.specs.Classes.{Classes}
use Rattle.preproc_table.specs.Entries.{table_end, view_start, lines_at, Apart}
use Rattle.preproc_table.proofs.EntryLaws.{lines-viewed, lines-kept, lines-below, apart_below}
use Rattle.prefix_list.specs.Listing.{plain_lines}
use Rattle.prefix_choice.specs.Choice.{Strips}
use Rattle.std.proofs.Common.{Option, None, Some}
use Rattle.preproc_view.specs.Whole as view
use Rattle.preproc_view.specs.Whole.{view_at}
use Rattle.license_notes.specs.Laid.{Laid, Held}
use Rattle.license_views.specs.Tabled.{Processed}

-- areas that agree below hold the same lines
module _ (n lines : ℕ) (area₀ words₀ area words : List ℕ) (laid : Laid n lines area₀ words₀) (area_long : length area ≡ length area₀)
    (words_long : length words ≡ length words₀) (area_low : take (view_start n) area ≡ take (view_start n) area₀) (words-low : take (table_end n) words ≡ take (table_end n) words₀) where
  fits : 2 * lines ≤ table_end n
  fits = omega (arith, laid.few)

  apart : Apart n (view_start n) words lines
  apart = apart_below lines (table_end n) fits words₀ words (sym words-low) n (view_start n) laid.apart

  same : lines_at area words lines ≡ lines_at area₀ words₀ lines
  same = lines-kept lines area area₀ apart (ap (drop n) area_low) ∙ lines-below lines (table_end n) fits words words₀ words-low area₀

  pub held_below : Held n lines area₀ words₀ area words
  held_below =
      record {
        laid = record {
          apart = apart;
          few = laid.few;
          small = laid.small;
          area_room = omega (arith, area_long, laid.area_room);
          words-room = omega (arith, words_long, laid.words-room);
          plain = ap plain_lines same ∙ laid.plain;
          bytes = omega (arith, ap size same, laid.bytes);
        };
        area_long = area_long;
        words_long = words_long;
        same = same;
      }

-- a view of the table is the view of its lines
pub view-is : (n lines : ℕ) (area words : List ℕ) (v : View) → v.start ≤ v.end → v.end ≤ lines → view_at area words v ≡ viewed (lines_at area words lines) v
unfolding viewed
view-is n lines area words v o h = sym (lines-viewed area words v.start v.end lines o h)

pub view-ready : (n lines : ℕ) (class area words : List ℕ) (v : View) → Classes class → Laid n lines area words → v.start ≤ v.end → v.end ≤ lines →
    view.Ready class area words n v
view-ready n lines class area words v c laid o h =
    record {
      classes = c;
      room = laid.area_room;
      entries = omega (arith, laid.few, laid.words-room);
      apart = record {
        low = λ i l. laid.apart.low i (omega arith);
        order = λ i l. laid.apart.order i (omega arith);
        high = λ i l. laid.apart.high i (omega arith);
        apart = λ i j l m. laid.apart.apart i j l (omega arith);
      };
      order = o;
      bytes = omega (arith, ap size (view-is n lines area words v o h), viewed-size (lines_at area words lines) v, laid.bytes);
    }

-- after pass 1 has chosen in area₁ and words₁, the rest of the passes leaves its text in area
pub process_done : (n lines : ℕ) (v : View) (area₀ words₀ area₁ words₁ area : List ℕ) (r : ByteSpan) → v.start ≤ v.end → v.end ≤ lines →
    Held n lines area₀ words₀ area₁ words₁ → length area ≡ length area₁ → view.ViewProcessed (view_at area₁ words₁ v) n area₁ r area →
    Processed n lines v area₀ words₀ r area words₁
process_done n lines v area₀ words₀ area₁ words₁ area r o h held long p =
    let again = held_below n lines area₁ words₁ area words₁ held.laid long refl p.below refl in
    record {
      order = p.stands.from;
      high = p.stands.to;
      bytes = p.stands.bytes ∙ ap (λ (ls : List (List ℕ)). encoded (aggressive ls)) (view-is n lines area₁ words₁ v o h ∙ ap (λ (ls : List (List ℕ)). viewed ls v) held.same);
      held = record {
        laid = again.laid;
        area_long = long ∙ held.area_long;
        words_long = held.words_long;
        same = again.same ∙ held.same;
      };
    }

-- what pass 1 chose of the lines as they were, it chose of them as they are
module _ (n lines : ℕ) (v : View) (area₀ words₀ area₁ words₁ : List ℕ) (o : v.start ≤ v.end) (h : v.end ≤ lines) (held : Held n lines area₀ words₀ area₁ words₁) where
  now_viewed : view_at area₁ words₁ v ≡ viewed (lines_at area₀ words₀ lines) v
  now_viewed = view-is n lines area₁ words₁ v o h ∙ ap (λ (ls : List (List ℕ)). viewed ls v) held.same

  chose_none : without_prefix (viewed (lines_at area₀ words₀ lines) v) ≡ viewed (lines_at area₀ words₀ lines) v →
      without_prefix (view_at area₁ words₁ v) ≡ view_at area₁ words₁ v
  chose_none e = ap without_prefix now_viewed ∙ e ∙ sym now_viewed

  chose_span : (w : List ℕ) → without_prefix (viewed (lines_at area₀ words₀ lines) v) ≡ map (strip w) (viewed (lines_at area₀ words₀ lines) v) →
      without_prefix (view_at area₁ words₁ v) ≡ map (strip w) (view_at area₁ words₁ v)
  chose_span w e = ap without_prefix now_viewed ∙ e ∙ ap (map (strip w)) (sym now_viewed)

  -- the same of either answer
  pub chose : (common : Option ByteSpan) → Strips n (viewed (lines_at area₀ words₀ lines) v) area₁ common → view.StripsAs area₁ n (view_at area₁ words₁ v) common
  chose None e = chose_none e
  chose (Some r) e = (e.2, e.3, chose_span (slice r.start r.end area₁) e.0)
