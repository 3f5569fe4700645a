-- `license_views::process` meets its contract: pass 1 chooses, the areas still hold the lines, and the other passes go on from there.
-- Assumes nothing.
use mathlib.Core.Path.{◌≡◌}
use mathlib.Core.List.{List}
use Prim.Native.Nat.{ℕ}
use lib.ListN.{length}
use borrow.Author.Rules.{rules}
use Rattle.rules.specs.declared.View.{View}
use Rattle.slices.specs.declared.ends.ByteSpan.{ByteSpan}
use Rattle.preproc_view.specs.Whole as view
use Rattle.license_notes.specs.Laid.{Held}
use Rattle.license_views.specs.Tabled.{Processed}
use Rattle.license_views.proofs.ProcessLaws.{held_below, view-ready, chose, process_done}
use Rattle.license_views.proofs.process.Goals as goal
use Rattle.license_views.proofs.process.Goals.{After-common_prefix-common}

-- what is known once pass 1 has chosen
module _ (k : After-common_prefix-common) where
  abbrev n : ℕ
  n = k.args.n

  abbrev lines : ℕ
  lines = k.args.lines

  abbrev v : View
  v = k.args.v

  abbrev area₀ : List ℕ
  area₀ = k.args.area.now

  abbrev words₀ : List ℕ
  words₀ = k.args.words.now

  abbrev area₁ : List ℕ
  area₁ = k.common_prefix-common.new.area

  abbrev words₁ : List ℕ
  words₁ = k.common_prefix-common.new.words

  held : Held n lines area₀ words₀ area₁ words₁
  held =
      held_below n lines area₀ words₀ area₁ words₁ k.requires.classes.1 (search rules) (search rules) k.common_prefix-common.ensures.area k.common_prefix-common.ensures.words

  ready : view.Ready k.args.class.now area₁ words₁ n v
  ready = view-ready n lines _ area₁ words₁ v k.requires.classes.0 held.laid k.requires.start_le_end.0 k.requires.start_le_end.1

  done : (area : List ℕ) (r : ByteSpan) → length area ≡ length area₁ → view.ViewProcessed (view.view_at area₁ words₁ v) n area₁ r area →
      Processed n lines v area₀ words₀ r area words₁
  done area r long p = process_done n lines v area₀ words₀ area₁ words₁ area r k.requires.start_le_end.0 k.requires.start_le_end.1 held long p

pub process_with-requires : goal.process_with-requires
process_with-requires c = let k = (goal.at.process_with-requires c).After-common_prefix-common in (
  ready k,
  chose (n k) (lines k) (v k) (area₀ k) (words₀ k) (area₁ k) (words₁ k) c.requires.start_le_end.0 c.requires.start_le_end.1 (held k) c.common_prefix-common.result c.common_prefix-common.ensures.strips,
)

pub returns : goal.returns
returns c = done (goal.at.returns c).After-common_prefix-common _ _ (search rules) c.process_with.ensures
