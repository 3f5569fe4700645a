-- A score is no NaN, so that it has bits.
-- Assumes nothing.
use mathlib.Core.Path.{◌≡◌, ap}
use mathlib.Core.Bool.{true}
use mathlib.Core.List.{List, []}
use Prim.Native.Nat.{ℕ}
use native.Mathlib.Omega.{arith}
use lib.Dec.{T}
use lib.Seq.{slice}
use Rattle.rules.specs.Table.{Table, bigrams, table_of, value_of}
use Rattle.rules.specs.Book.{entries_of, shaped, table_in, Proper}
use Rattle.rules.specs.Refusal.{unit}
use Rattle.rules.proofs.TableLaws.{table_proper, value-unit, sound-entries-rising}
use Rattle.rules.proofs.SoundLaws.{table-sound}
pub use Rattle.rules.proofs.ScoreLaws.{no_nan}
use Rattle.ngram_table.specs.Tables.{table_at}
use Rattle.license_views.specs.declared.Viewed.{Viewed}
use Rattle.license_views.specs.Tabled.{Tabled, table_over}
use Rattle.detection_shelf.specs.Bodies.{table_of_body}

-- ---- a view's table and a sound body's
view_proper : {n : ℕ} {area words : List ℕ} {t : Viewed} → Tabled n area words t → Proper (table_over area t)
unfolding table_over table_at table_of
view_proper {area = area} {t = t} h =
    table_proper (bigrams (slice t.start t.end area)) (omega (arith, ap (λ (u : Table). u.total) h.stands, h.most))

body_proper : (body : List ℕ) → shaped body (entries_of body) ≡ true → Proper (table_of_body body)
unfolding table_of_body
body_proper body h =
    let s = table-sound body (entries_of body) h in
    record {
      rising = (sound-entries-rising [] (table_in body (entries_of body)).entries s.0).1;
      summed = s.1;
      limited = omega (arith, s.1, s.2);
    }

pub score-unit : {n : ℕ} {area words : List ℕ} {t : Viewed} (body : List ℕ) → Tabled n area words t → shaped body (entries_of body) ≡ true →
    T (unit (value_of (table_over area t) (table_of_body body)).score)
score-unit {area = area} {t = t} body h s = value-unit (table_over area t) (table_of_body body) (view_proper h) (body_proper body s)
