-- One index of a search: its view lies in the note, its scoring is the view's, and the areas are kept.
-- Assumes nothing.
use mathlib.Core.Path.{◌≡◌, sym, ap, ap₂, ◌∙◌}
use mathlib.Core.List.{List}
use Prim.Native.Nat.{ℕ, ◌-◌, ◌≤◌, ◌<◌}
use Rattle.rules.specs.declared.View.{View}
use Rattle.rules.specs.declared.Value.{Value}
use Rattle.rules.specs.Table.{Table, view_table, value_of}
use Rattle.rules.specs.Search.{viewed, scored, score_view}
use Rattle.license_notes.specs.Laid.{Held}
use Rattle.detection_shelf.specs.Bodies.{table_of_body}
use Rattle.std.specs.Prelude.{None, Some}
use Rattle.license_charge.specs.declared.Charged.{Charged}
use Rattle.license_charge.specs.Pay.{pay, charged_of}
use Rattle.license_charge.proofs.PayLaws.{one-unpaid, one-paid}
use Rattle.license_bounds.specs.declared.Moving.{Moving}
use Rattle.license_bounds.specs.declared.Moving.TheVariants.{End, Start}
use Rattle.license_bounds.proofs.ReadyLaws.{once}
use Rattle.license_bounds.specs.Ready.{view_between, score_at, Spans, Working, Kept, OfBody}

-- ---- one index of a search
pub index_inside : (lines i : ℕ) (moving : Moving) (v : View) → v ≡ view_between moving i → Spans lines moving i i → (v.start ≤ v.end) × (v.end ≤ lines)
unfolding view_between Spans
index_inside lines i (End start) v e h = rw e h
index_inside lines i (Start end) v e h = rw e h

pub index_scored : (ls : List (List ℕ)) (moving : Moving) (i : ℕ) (v : View) (t : Table) (body : List ℕ) (b : ℕ) (c : Charged Value) → v ≡ view_between moving i →
    t ≡ view_table (viewed ls v) → c.value ≡ value_of t (table_of_body body) → 0 < b → c.left.count ≡ b - 1 →
    OfBody body (λ s. Some c ≡ charged_of (pay (score_at ls s moving i) b))
unfolding score_at score_view scored
index_scored ls moving i v t body b c e h k p l s q =
    one-paid (score_at ls s moving i) (once ls s moving i) b c p (k ∙ ap₂ value_of (h ∙ ap (λ (u : View). view_table (viewed ls u)) e) (sym q)) l

pub index_unpaid : (ls : List (List ℕ)) (moving : Moving) (i : ℕ) (body : List ℕ) (b : ℕ) → b ≡ 0 →
    OfBody body (λ s. None ≡ charged_of (pay (score_at ls s moving i) b))
index_unpaid ls moving i body b z s q = one-unpaid (score_at ls s moving i) (once ls s moving i) b z

pub index_kept : (n lines : ℕ) (class area₀ words₀ area words body : List ℕ) → Working n lines class area₀ words₀ body → Held n lines area₀ words₀ area words →
    Kept n lines class area₀ words₀ area words body
index_kept n lines class area₀ words₀ area words body w h =
    record {
      working = record { laid = h.laid; classes = w.classes; sound = w.sound };
      area_long = h.area_long;
      words_long = h.words_long;
      same = h.same;
    }
