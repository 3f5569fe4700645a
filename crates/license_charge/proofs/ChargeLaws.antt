-- What a charge asks of a view's table, and what it tells.
-- Assumes nothing.
use mathlib.Core.Path.{◌≡◌}
use mathlib.Core.List.{List}
use Prim.Native.Nat.{ℕ, ◌+◌, ◌-◌, ◌≤◌}
use native.Mathlib.Omega.{arith}
use lib.ListN.{length, take, drop, length-drop}
use Rattle.lists.proofs.SliceLaws.{part_slice, part-rest}
use Rattle.rules.specs.declared.Value.{Value}
use Rattle.rules.specs.Sizes.{total_most}
use Rattle.rules.specs.Table.{bigrams, table_of, value_of}
use Rattle.rules.specs.Book.{table_in, entries_of}
use Rattle.preproc_table.specs.Entries.{table_end}
use Rattle.ngram_table.specs.Tables.{table_at}
use Rattle.floors.specs.declared.Floor.{Floor}
use Rattle.floors.specs.Floors.{Judged}
use Rattle.license_views.specs.declared.Viewed.{Viewed}
use Rattle.license_views.specs.Tabled.{Tabled, table_over}
use Rattle.detection_shelf.specs.Bodies.{table_of_body}

-- ---- the charge
-- the table's words stand from `from` on
pub record Chargeable (area words : List ℕ) (from : ℕ) (t : Viewed) : Type 0 where
  pub sizes : (t.distinct ≤ t.total) × (t.total + t.total ≤ length (take (length words - from) (drop from words))) × (t.total ≤ total_most)
  pub stands : table_at (take (t.end - t.start) (drop t.start area)) (take (length words - from) (drop from words)) t.total t.distinct ≡
      table_of (bigrams (take (t.end - t.start) (drop t.start area)))

pub chargeable : (area words : List ℕ) (n : ℕ) (t : Viewed) → Tabled n area words t → (from : ℕ) → from ≡ table_end n → Chargeable area words from t
chargeable area words n t h from q =
    record {
      sizes = (h.few, rw (part-rest from words) (omega (arith, h.room, length-drop from words)), h.most);
      stands = rw (part-rest from words, part_slice t.start t.end area, q) h.stands;
    }

pub charged : (area body : List ℕ) (t : Viewed) (floor : Floor) (r : Value) →
    Judged floor (value_of (table_of (bigrams (take (t.end - t.start) (drop t.start area)))) (table_in body (entries_of body))) r →
    Judged floor (value_of (table_over area t) (table_of_body body)) r
unfolding table_over table_of_body
charged area body t floor r j = rw (← part_slice t.start t.end area) j
