-- What both scans conclude: from areas that still hold the same lines that a scan can go on.
--     fits_of                           bounds lie in their view and score from 0.0 to 1.0
--     held_none, held_more              the same lines, once and again
--     scanning_held                     a scan goes on
-- Assumes nothing.
use mathlib.Core.Path.{◌≡◌, refl, ◌∙◌, subst}
use mathlib.Core.List.{List}
use Prim.Native.Nat.{ℕ, ◌≤◌}
use native.Mathlib.Omega.{arith}
use Rattle.rules.specs.declared.Bounds.{Bounds}
use Rattle.rules.specs.declared.View.{View}
use Rattle.rules.specs.Search.{bounds}
use Rattle.rules.proofs.DownLaws.{bounds_in}
use Rattle.preproc_table.specs.Entries.{lines_at}
use Rattle.license_notes.specs.Laid.{Laid, Held}
use Rattle.detection_shelf.specs.declared.Shelved.{Shelved}
use Rattle.detection_shelf.specs.Shelves.{Shelf, text_in, Stands}
use Rattle.scan_ranges.specs.declared.Scope.{Scope}
use Rattle.scan_ranges.specs.Run.{Scanning, RangeFits}
use Rattle.scan_ranges.proofs.ValueLaws.{bounds-unit, stands-sound}

-- ---- bounds lie in their view, and score from 0.0 to 1.0
pub fits_of : {scope : Scope} {class area words : List ℕ} {books : Shelf} → Scanning scope class area words books → (v : View) (t : Shelved) → v.start ≤ v.end → v.end ≤ scope.lines →
    Stands books t → (range : Bounds) → (bounds (lines_at area words scope.lines) v (text_in books t)).value ≡ range → RangeFits scope.lines range
fits_of {scope} {class} {area} {words} {books} s v t order high stands range is =
    let ls = lines_at area words scope.lines in
    let inside = bounds_in ls v (text_in books t) order in
    subst (RangeFits scope.lines) is (record {
      order = inside.1;
      high = omega (arith, inside.2);
      unit = bounds-unit ls scope.n v (text_in books t) s.laid.small s.laid.bytes (stands-sound books _ t s.counted stands);
    })

-- ---- areas that still hold the same lines
pub scanning_held : {scope : Scope} {class area₀ words₀ area words : List ℕ} {books : Shelf} →
    Scanning scope class area₀ words₀ books → Held scope.n scope.lines area₀ words₀ area words → Scanning scope class area words books
scanning_held s h = record {
  classes = s.classes;
  laid = h.laid;
  few = s.few;
  counted = s.counted;
  some-text = s.some-text;
}

pub held_none : {n lines : ℕ} {area words : List ℕ} → Laid n lines area words → Held n lines area words area words
held_none l = record { laid = l; area_long = refl; words_long = refl; same = refl }

pub held_more : {n lines : ℕ} {area₀ words₀ area₁ words₁ area words : List ℕ} →
    Held n lines area₀ words₀ area₁ words₁ → Held n lines area₁ words₁ area words → Held n lines area₀ words₀ area words
held_more a b = record {
  laid = b.laid;
  area_long = b.area_long ∙ a.area_long;
  words_long = b.words_long ∙ a.words_long;
  same = b.same ∙ a.same;
}
