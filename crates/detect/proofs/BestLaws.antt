-- The best of the books' texts: the walk over all.
--     Walking                                   the texts still to come, paid from what is left, are the whole paid from the budget;
--                                               the best is the definition's, or both are below the floor;
--                                               past the first, it is one of the books' texts
--     walk_first, walk_step                     before the first text, and past one that is scored
--     walk-out, walk_end                        the two answers
--     best_above                                over the table of a view it is the view's best
--     best-exact                                with the floor at 0.0 it is told in full
-- Assumes nothing.
use mathlib.Core.Path.{◌≡◌, refl, sym, ap, ap₂, ◌∙◌, subst}
use mathlib.Core.Bool.{false}
use mathlib.Core.List.{List}
use mathlib.Core.Option.{Option, some}
use Prim.Native.Nat.{ℕ, zero, suc, ◌+◌, ◌-◌, ◌≤◌, ◌<◌}
use native.Mathlib.Numerals.{add-one}
use native.Mathlib.Omega.{arith}
use lib.Dec.{T}
use lib.Ieee.{Float, le}
use lib.ListN.{length, get_or, drop, drop_of_length-le}
use lib.Seq.{drop-cons}
use Rattle.rules.specs.declared.View.{View}
use Rattle.rules.specs.declared.Value.{Value}
use Rattle.rules.specs.Refusal.{unit}
use Rattle.rules.specs.Table.{Table, nought, value_of, view_table}
use Rattle.rules.specs.Search as rules
use Rattle.rules.specs.Search.{Stored, no_text, Made, ◌>>=◌, scored, better, no_best, best_from, viewed, recurse, turns}
use Rattle.rules.specs.Book.{number, table_in, entries_of, pieces, go_on, front}
use Rattle.detection_shelf.specs.declared.Counts.{Counts}
use Rattle.detection_shelf.specs.declared.Shelved.{Shelved}
use Rattle.detection_shelf.specs.declared.Spot.{Spot}
use Rattle.detection_shelf.specs.Shelves.{Shelf, texts, CountsOf, BeforeOn, Stands, body_in, text_in, first_spot, after_on}
use Rattle.detection_shelf.proofs.ShelfLaws.{stands-text, before-both, after-stands}
use Rattle.preproc_table.specs.Entries.{lines_at}
use Rattle.floors.specs.declared.Floor.{Floor}
use Rattle.floors.specs.Floors.{Judged}
use Rattle.license_notes.specs.Laid.{Held}
use Rattle.detection_shelf.specs.Bodies.{table_of_body}
use Rattle.license_charge.specs.Pay.{Paid, pay}
use Rattle.license_charge.proofs.PayLaws.{pay-done, pay-one, pay-none}
use Rattle.detect_best.specs.declared.Best.{Best}
use Rattle.std.specs.Prelude.{None, Some, IsSomeAnd}
use Rattle.std.specs.Prelude as prelude
use Rattle.rules.specs.Told.{kind_number}
use Rattle.license_charge.specs.declared.Charged.{Charged}
use Rattle.detect_best.specs.Beats.{best_in, kind_of, score_of, StandsIn, Betters, to_beat}
use Rattle.detect.specs.Bests.{chosen_in, ChosenStands, Alike, same, ChosenFor, BestOf, BestAbove, BestDone}
use Rattle.detect.proofs.AlikeLaws.{better-unit, alike_next, alike-lowest}

-- ---- a best, and none yet, as the definition has them
known-kind : (books : Shelf) (best : prelude.Option Best) → kind_of best ≡ (best_in books best).text.kind
unfolding best_in text_in no_best no_text
known-kind books None = refl
known-kind books (Some b) = refl

known-score : (books : Shelf) (best : prelude.Option Best) → score_of best ≡ (best_in books best).value.score
unfolding best_in no_best
known-score books None = refl
known-score books (Some b) = refl

if-some : (books : Shelf) (best : prelude.Option Best) → IsSomeAnd best (λ b. Stands books b.text) → StandsIn books best
if-some books None n = tt
if-some books (Some b) h = h

-- the next text
abbrev pub Next : Shelf → ℕ → Shelved → Type 0
Next books k t = Stands books t × (t.number ≡ k)

-- ---- the walk: best is the best of the texts before spot, and what is left of the budget is what they leave
pub record Walking (books : Shelf) (table : Table) (floor : Float) (budget : ℕ) (best : prelude.Option Best) (left : ℕ) (spot : Spot) : Type 0 where
  pub before : BeforeOn books spot
  pub real : rules.Best
  pub alike : Alike floor (best_in books best) real
  pub fair : T (unit real.value.score)
  pub paid : (v : View) → pay (best_from table v (drop spot.number (texts books)) real) left ≡ pay (best_from table v (texts books) no_best) budget
  pub known : StandsIn books best
  pub stands : 0 < spot.number → IsSomeAnd best (λ b. Stands books b.text)

none_fair : T (unit no_best.value.score)
unfolding no_best unit le
none_fair = tt

pub walk_first : (books : Shelf) (table : Table) (floor : Float) (budget : ℕ) (spot : Spot) (c : Counts) → CountsOf books c →
    spot ≡ first_spot → Walking books table floor budget None budget spot
unfolding best_in
walk_first books table floor budget spot c s p =
    rw p (record {
      before = before-both books c s;
      real = no_best;
      alike = same refl;
      fair = none_fair;
      paid = λ v. refl;
      known = tt;
      stands = λ (l : 0 < 0). absurd (omega (arith, l));
    })

module _ {books : Shelf} {table : Table} {floor : Float} {budget : ℕ} {best : prelude.Option Best} {left : ℕ} {spot : Spot}
    (w : Walking books table floor budget best left spot) (all : ℕ) (long : all ≡ length (texts books)) where
  abbrev next : Stored
  next = get_or (texts books) spot.number no_text

  abbrev rest : List Stored
  rest = drop (suc spot.number) (texts books)

  abbrev on : View → Value → Made rules.Best
  on v x = best_from table v rest (better w.real (record { text = next; value = x }))

  -- the next text is scored first
  split : (v : View) → spot.number < all → best_from table v (drop spot.number (texts books)) w.real ≡ (scored table v next >>= λ x. on v x)
  unfolding best_from
  split v l =
      ap (λ (ss : List Stored). best_from table v ss w.real) (drop-cons (texts books) spot.number no_text (omega arith))

  once : (v : View) → length (scored table v next).list ≡ 1
  unfolding scored
  once v = refl

  -- what the code holds of the next text is what the definition makes of it
  next-is : (v : View) (text : Shelved) → Next books spot.number text →
      best_in books (Some (record { text = text; value = value_of table (table_of_body (body_in books text)) })) ≡ (record { text = next; value = (scored table v next).value })
  unfolding best_in scored text_in table_of_body
  next-is v text f =
      let t : text_in books text ≡ next = sym (stands-text books text f.0) ∙ ap (λ (k : ℕ). get_or (texts books) k no_text) f.1 in
      ap₂ (λ (s : Stored) (x : Value). record { text = s; value = x }) t (ap (λ (s : Stored). value_of table s.table) t)

  -- the code's best of this text and those before, and the definition's
  next-alike : (text : Shelved) (value : Value) (after : prelude.Option Best) → Judged (to_beat floor (kind_of best) (score_of best) (kind_number text.text.kind)) (value_of table (table_of_body (body_in books text))) value →
      Betters best (record { text = text; value = value }) after →
      Alike floor (best_in books after) (better w.real (best_in books (Some (record { text = text; value = value_of table (table_of_body (body_in books text)) }))))
  unfolding best_in text_in
  next-alike text value after j b =
      let j' = rw (known-kind books best, known-score books best) at j in
      rw (b.is books) (alike_next floor (best_in books best) w.real (text_in books text) (value_of table (table_of_body (body_in books text))) value w.alike w.fair j')

  next_fair : (text : Shelved) → T (unit (value_of table (table_of_body (body_in books text))).score) →
      T (unit (better w.real (best_in books (Some (record { text = text; value = value_of table (table_of_body (body_in books text)) })))).value.score)
  unfolding best_in
  next_fair text u = better-unit w.real (best_in books (Some (record { text = text; value = value_of table (table_of_body (body_in books text)) }))) w.fair u

  pub walk_step : (text : Shelved) (value : Value) (after : prelude.Option Best) (spot' : Spot) (left' : ℕ) (to-beat : Floor) → spot.number < all → 0 < left →
      Next books spot.number text → to-beat ≡ to_beat floor (kind_of best) (score_of best) (kind_number text.text.kind) →
      Judged to-beat (value_of table (table_of_body (body_in books text))) value → Betters best (record { text = text; value = value }) after →
      left' ≡ left - 1 → spot' ≡ after_on text → Walking books table floor budget after left' spot'
  walk_step text value after spot' left' to-beat l k f t j b q p =
      rw (q, p) (record {
        before = after-stands books text f.0;
        real = better w.real (best_in books (Some (record { text = text; value = value_of table (table_of_body (body_in books text)) })));
        alike = next-alike text value after (rw t at j) b;
        fair = next_fair text j.real-unit;
        paid = λ v.
            ap₂ (λ (ss : List Stored) (x : rules.Best). pay (best_from table v ss x) (left - 1)) (ap (λ (n : ℕ). drop n (texts books)) (up f.1))
            (ap (better w.real) (next-is v text f)) ∙
            sym (pay-one (scored table v next) (λ x. on v x) (once v) left k) ∙
            ap (λ (m : Made rules.Best). pay m left) (sym (split v l)) ∙
            w.paid v;
        known = if-some books after (b.stands books f.0 w.known);
        stands = λ u. b.stands books f.0 w.known;
      })
    where
      up : text.number ≡ spot.number → text.number + 1 ≡ suc spot.number
      up e = add-one text.number ∙ ap suc e

  -- a text to come, and nothing left
  pub walk-out : spot.number < all → left ≡ 0 → BestOf books table floor budget None
  unfolding ChosenFor ChosenStands
  walk-out l z =
      record {
        is = λ v. sym (w.paid v) ∙ ap (λ (m : Made rules.Best). pay m left) (split v l) ∙
            ap (λ (n : ℕ). pay (scored table v next >>= λ x. on v x) n) z ∙ pay-none (scored table v next) (λ x. on v x) (once v);
        stands = λ u. tt;
      }

  -- all are scored
  pub walk_end : all ≤ spot.number → BestOf books table floor budget (Some (record { value = best; left = record { count = left } }))
  unfolding ChosenFor ChosenStands best_from
  walk_end l =
      record {
        is = λ v. (
          w.real,
          (
            sym (w.paid v) ∙
                ap (λ (ss : List Stored). pay (best_from table v ss w.real) left) (drop_of_length-le (texts books) {i = spot.number} (omega arith)) ∙
                pay-done w.real left,
            w.alike,
          ),
        );
        stands = λ u. w.stands (omega (arith, u));
      }

-- ---- the best text of a view
pub best_above : (n lines : ℕ) (area₀ words₀ area words : List ℕ) (v : View) (books : Shelf) (floor : Float) (budget : ℕ) (r : prelude.Option (Charged (prelude.Option Best))) (table : Table) →
    BestOf books table floor budget r → table ≡ view_table (viewed (lines_at area₀ words₀ lines) v) → Held n lines area₀ words₀ area words →
    BestAbove n lines area₀ words₀ area words v books floor budget r
unfolding rules.best
best_above n lines area₀ words₀ area words v books floor budget r table b e h =
    record {
      is = subst (λ (t : Table). ChosenFor books floor r (pay (best_from t v (texts books) no_best) budget)) e (b.is v);
      stands = b.stands;
      held = h;
    }

chosen_exact : (books : Shelf) (floor : Float) (r : prelude.Option (Charged (prelude.Option Best))) (o : Option (Paid rules.Best)) → floor ≡ nought → ChosenFor books floor r o → chosen_in books r ≡ o
unfolding ChosenFor chosen_in
chosen_exact books floor None o e p = sym p
chosen_exact books floor (Some c) o e p =
    ap (λ (x : rules.Best). some (record { value = x; left = c.left.count })) (alike-lowest floor (best_in books c.value) p.0 e p.1.1) ∙ sym p.1.0

pub best-exact : (n lines : ℕ) (area₀ words₀ area words : List ℕ) (v : View) (books : Shelf) (floor : Float) (budget : ℕ) (r : prelude.Option (Charged (prelude.Option Best))) → floor ≡ nought →
    BestAbove n lines area₀ words₀ area words v books floor budget r → BestDone n lines area₀ words₀ area words v books budget r
best-exact n lines area₀ words₀ area words v books floor budget r e b =
    record {
      is = chosen_exact books floor r (pay (rules.best (texts books) (lines_at area₀ words₀ lines) v) budget) e b.is;
      stands = b.stands;
      held = b.held;
    }
