-- When the next text is the better one, over any books.
-- Assumes nothing.
use mathlib.Core.Path.{◌≡◌, refl, sym, ◌∙◌}
use mathlib.Core.Bool.{true, false, false≢true}
use Prim.Native.Nat.{◌≤◌, ◌<◌}
use native.Mathlib.Omega.{arith}
use lib.Ieee.{lt}
use lib.Dec.{ltb}
use borrow.Author.Tests.{ne_eqb, ltb-true, ltb-false}
use Rattle.std.specs.Prelude.{None, Some}
use Rattle.std.specs.Ordering.{partial_lt}
use Rattle.rules.specs.contracts.KindPartialOrd.TheImpl.{partial_cmp-value}
use Rattle.rules.specs.declared.Kind.{Kind}
use Rattle.rules.specs.declared.Kind.TheVariants.{Original, Alternate, Header}
use Rattle.rules.specs.Told.{kind_number}
use Rattle.rules.specs.Search as rules
use Rattle.rules.specs.Search.{ahead, better, no_best, no_text}
use Rattle.rules.proofs.RankLaws as rank
use Rattle.detection_shelf.specs.Shelves.{Shelf, text_in}
use Rattle.detect_best.specs.declared.Best.{Best}
use Rattle.detect_best.specs.Beats.{best_in, Wins}

-- a stored text's kind is not none's
kind_some : (k : Kind) → kind_number k ≡ 0 → ⊥
kind_some Original e = omega (arith, e)
kind_some Alternate e = omega (arith, e)
kind_some Header e = omega (arith, e)

pub better_first : (books : Shelf) (next : Best) → best_in books (Some next) ≡ better (best_in books None) (best_in books (Some next))
unfolding best_in no_best no_text
better_first books next = sym (rank.better-none (best_in books None) (best_in books (Some next)) refl)

module _ (books : Shelf) (best next : Best) where
  abbrev was : rules.Best
  was = best_in books (Some best)

  abbrev is : rules.Best
  is = best_in books (Some next)

  pub better-more : lt best.value.score next.value.score ≡ true → is ≡ better was is
  unfolding best_in
  better-more l = sym (rank.better-ahead was is (rank.ahead-higher was is l))

  pub better_tied : lt next.value.score best.value.score ≡ false → kind_number next.text.text.kind < kind_number best.text.text.kind → is ≡ better was is
  unfolding best_in text_in
  better_tied l k = sym (rank.better-ahead was is (rank.ahead_tied was is l k))

  behind-stays : ahead was is ≡ false → was ≡ better was is
  unfolding best_in text_in
  behind-stays h = sym (rank.better-behind was is (ne_eqb (kind_number best.text.text.kind) 0 (kind_some best.text.text.kind)) h)

  pub better-lower : lt next.value.score best.value.score ≡ true → was ≡ better was is
  unfolding best_in
  better-lower l = behind-stays (rank.behind-lower was is l)

  pub better-kept : lt best.value.score next.value.score ≡ false → kind_number best.text.text.kind ≤ kind_number next.text.text.kind → was ≡ better was is
  unfolding best_in text_in
  better-kept l h = behind-stays (rank.behind was is (l, λ z. h))

-- what `wins` answers at its returns, so that the search finds it
pub wins_none : (next : Best) → Wins None next true
wins_none next = record {
  yes = λ _. record { is = λ books. better_first books next; stands = λ books n b. n };
  no = λ e. absurd (false≢true (sym e));
}

pub wins_more : (best next : Best) → lt best.value.score next.value.score ≡ true → Wins (Some best) next true
wins_more best next l = record {
  yes = λ _. record { is = λ books. better-more books best next l; stands = λ books n b. n };
  no = λ e. absurd (false≢true (sym e));
}

pub wins_lower : (best next : Best) → lt next.value.score best.value.score ≡ true → Wins (Some best) next false
wins_lower best next l = record {
  yes = λ e. absurd (false≢true e);
  no = λ _. record { is = λ books. better-lower books best next l; stands = λ books n b. b };
}

-- a kind goes before another where its number is the smaller one
kinds : (k l : Kind) → partial_lt partial_cmp-value.it k l ≡ ltb (kind_number k) (kind_number l)
kinds Original Original = refl
kinds Original Alternate = refl
kinds Original Header = refl
kinds Alternate Original = refl
kinds Alternate Alternate = refl
kinds Alternate Header = refl
kinds Header Original = refl
kinds Header Alternate = refl
kinds Header Header = refl

pub wins_tied : (best next : Best) → lt best.value.score next.value.score ≡ false → lt next.value.score best.value.score ≡ false →
    Wins (Some best) next (partial_lt partial_cmp-value.it next.text.text.kind best.text.text.kind)
wins_tied best next l m =
    let kind = kind_number best.text.text.kind in
    let other = kind_number next.text.text.kind in
    let t = kinds next.text.text.kind best.text.text.kind in
    record {
      yes = λ e. record { is = λ books. better_tied books best next m (ltb-true other kind (sym t ∙ e)); stands = λ books n b. n };
      no = λ e. record { is = λ books. better-kept books best next l (ltb-false other kind (sym t ∙ e)); stands = λ books n b. b };
    }
