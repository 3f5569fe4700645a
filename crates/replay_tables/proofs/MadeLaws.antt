-- What compile leaves in an output of 49,152 bytes: the body of the text's table, or nothing.
-- Assumes nothing.
use mathlib.Core.Path.{◌≡◌, refl, sym, ap, ◌∙◌}
use mathlib.Core.Bool.{Bool, true, false}
use mathlib.Core.List.{List, [], ◌++◌}
use Prim.Native.Nat.{ℕ, ◌≤◌}
use native.Mathlib.Omega.{arith}
use lib.Dec.{eqb}
use lib.ListN.{length, take, drop, length-append}
use lib.Seq.{take_at}
use borrow.Author.Tests.{eq-eqb, ne_eqb, eqb-true, eqb-false}
use Rattle.rules.specs.declared.Areas.{Areas}
use Rattle.rules.specs.declared.Compiled.{Compiled}
use Rattle.rules.specs.Lines.{lines}
use Rattle.rules.specs.Table.{view_table}
use Rattle.rules.specs.Book.{entries_of, shaped, compiled}
use Rattle.rules.specs.Refusal.{refusal, of_text, before_compile, of_compile}
use Rattle.rules.specs.Jobs.{over, compile, output_after, lent, CompileDone}
use Rattle.rules.proofs.RefusalLaws.{refusal-first}
use Rattle.detection_shelf.specs.Bodies.{table_of_body}
use Rattle.compile.proofs.SoundCompiled.{compiled-shaped, compiled_again}
use Rattle.replay_tables.specs.Told.{compiles, table_told, table_for}

-- a text that compile does not refuse is let through
passes : (n : ℕ) (t : List ℕ) (a : Areas) (out : ℕ) → refusal (of_compile n t a out) ≡ 0 → refusal (of_text n t) ≡ 0
unfolding of_compile before_compile of_text
passes n t a out z = at (eqb (refusal (of_text n t)) 0) refl
  where
    at : (b : Bool) → eqb (refusal (of_text n t)) 0 ≡ b → refusal (of_text n t) ≡ 0
    at true e = eqb-true (refusal (of_text n t)) 0 e
    at false e = let k = eqb-false (refusal (of_text n t)) 0 e in absurd (k (sym (refusal-first (of_text n t) _ k) ∙ z))

pub record TableMade (n : ℕ) (t : List ℕ) (len : ℕ) (out : List ℕ) : Type 0 where
  pub here : compiles n t ≡ true
  pub within : len ≤ length out
  pub sound : shaped (take len out) (entries_of (take len out)) ≡ true
  pub table : table_of_body (take len out) ≡ view_table (lines n t)

module _ {n : ℕ} {t b₀ b w₀ w out₀ out : List ℕ} {a : Compiled} (d : CompileDone n t b₀ b w₀ w out₀ out a)
    (p : length b₀ ≡ 16448) (q : length w₀ ≡ 24640) (r : length out₀ ≡ 49152) where
  abbrev number : ℕ
  number = refusal (of_compile n t (lent b₀ w₀) (length out₀))

  number_is : number ≡ refusal (of_compile n t (record { bytes = 16448; words = 24640 }) 49152)
  number_is i = refusal (of_compile n t (record { bytes = p i; words = q i }) (r i))

  refusal_is : a.refusal ≡ number
  unfolding compile
  refusal_is = ap (λ (x : Compiled). x.refusal) d.answer

  pub not_made : (a.refusal ≡ 0 → ⊥) → compiles n t ≡ false
  unfolding compiles
  not_made h = ne_eqb _ 0 (λ z. h (refusal_is ∙ number_is ∙ z))

  module _ (h : a.refusal ≡ 0) where
    none : number ≡ 0
    none = sym refusal_is ∙ h

    len_is : a.len ≡ length (compiled n t)
    unfolding compile
    len_is = ap (λ (x : Compiled). x.len) d.answer ∙ rw (eq-eqb number 0 none)

    out-is : out ≡ compiled n t ++ drop (length (compiled n t)) out₀
    unfolding output_after over
    out-is = d.output ∙ rw (eq-eqb number 0 none)

    body_is : take a.len out ≡ compiled n t
    body_is = rw out-is (take_at (compiled n t) (drop (length (compiled n t)) out₀) a.len (sym len_is))

    pub made : TableMade n t a.len out
    unfolding compiles table_of_body
    made =
        let s = passes n t (lent b₀ w₀) (length out₀) none in
        record {
          here = eq-eqb _ 0 (sym number_is ∙ none);
          within = omega (arith, len_is, ap length out-is, length-append (compiled n t) (drop (length (compiled n t)) out₀));
          sound = rw body_is (compiled-shaped n t s);
          table = rw body_is (compiled_again n t s);
        }

-- ---- which answer it is
pub no_table : (n : ℕ) (t : List ℕ) → compiles n t ≡ false → table_for n t ≡ []
unfolding table_for
no_table n t e = rw e

pub right-table : (n : ℕ) (t : List ℕ) → compiles n t ≡ true → table_for n t ≡ table_told (view_table (lines n t))
unfolding table_for
right-table n t e = rw e
