-- What the areas hold stays, what a view scores is one scoring, and a part of a span is a span.
-- Assumes nothing.
use mathlib.Core.Path.{◌≡◌, refl, ◌∙◌}
use mathlib.Core.List.{List, []}
use Prim.Native.Nat.{ℕ, ◌≤◌}
use native.Mathlib.Omega.{arith}
use lib.ListN.{length}
use Rattle.rules.specs.Search.{Stored, scored, score_view}
use Rattle.license_bounds.specs.declared.Moving.{Moving}
use Rattle.license_bounds.specs.declared.Moving.TheVariants.{End, Start}
use Rattle.license_bounds.specs.Ready.{Working, Kept, Spans, score_at}
use Rattle.detection_shelf.specs.Bodies.{table_of_body}

pub once : (ls : List (List ℕ)) (s : Stored) (moving : Moving) (i : ℕ) → length (score_at ls s moving i).list ≡ 1
unfolding score_at score_view scored
once ls s moving i = refl

-- a stored text whose table is this body's
abbrev pub body_text : List ℕ → Stored
body_text body = record { number = 0; name = []; kind = 0; table = table_of_body body }

pub spans_in : (lines : ℕ) (moving : Moving) (l r m k : ℕ) → Spans lines moving l r → l ≤ m → k ≤ r → Spans lines moving m k
unfolding Spans
spans_in lines (End start) l r m k h p q = (omega arith, omega arith)
spans_in lines (Start end) l r m k h p q = (omega arith, omega arith)

pub kept-none : {n lines : ℕ} {class area words body : List ℕ} → Working n lines class area words body → Kept n lines class area words area words body
kept-none w = record { working = w; area_long = refl; words_long = refl; same = refl }

pub kept_more : {n lines : ℕ} {class area₀ words₀ area₁ words₁ area₂ words₂ body : List ℕ} →
    Kept n lines class area₀ words₀ area₁ words₁ body → Kept n lines class area₁ words₁ area₂ words₂ body → Kept n lines class area₀ words₀ area₂ words₂ body
kept_more a b = record {
  working = b.working;
  area_long = b.area_long ∙ a.area_long;
  words_long = b.words_long ∙ a.words_long;
  same = b.same ∙ a.same;
}
