-- The job's answer and the lent memory after it: refused before any work, or with the work done.
-- Assumes nothing.
use Rattle.std.proofs.Common.{Result, Ok, Err}
use mathlib.Core.Path.{◌≡◌, sym, ◌∙◌}
use mathlib.Core.Bool.{Bool, true, false, cond}
use mathlib.Core.List.{List}
use Prim.Native.Nat.{ℕ}
use lib.Dec.{ltb, eqb}
use lib.ListN.{length, replicate}
use borrow.Author.Tests.{ne_eqb}
use Rattle.rules.specs.declared.Refusal.{Refusal}
use Rattle.rules.specs.declared.Refusal.TheVariants as refused
use Rattle.rules.specs.Told.{refusal_number, compiled_told}
use Rattle.rules.specs.Book.{compiled}
use Rattle.rules.specs.Refusal.{refusal, before_compile, of_compile}
use Rattle.rules.specs.Jobs.{area_after, over, compile, output_after, lent, CompileDone}
use Rattle.rules.proofs.ToldLaws.{numbered}
use Rattle.rules.proofs.RefusalLaws.{early, compile-before, compile_fits}
use Rattle.refusals.proofs.AdmitLaws.{compile-early}
use Rattle.refusals.proofs.AreaLaws.{kept}
use Rattle.compile.specs.Bodied.{Bodied}

module _ (e : ℕ) (t b w out : List ℕ) where
  abbrev before : ℕ
  before = refusal (before_compile e t (lent b w))

  abbrev number : ℕ
  number = refusal (of_compile e t (lent b w) (length out))

  -- ---- refused before any work: nothing changes
  pub done_none : (r : Refusal) → refusal_number r ≡ before → CompileDone e t b b w w out out (compiled_told (Err r))
  unfolding compile output_after
  done_none r s =
      let n = refusal_number r in
      let h = numbered r in
      let same : number ≡ n = compile-before e t (lent b w) (length out) (λ z. h (s ∙ z)) ∙ sym s in
      let first : early n ≡ true = rw s (compile-early e t (lent b w) (λ z. h (s ∙ z))) in
      let not : eqb number 0 ≡ false = ne_eqb number 0 (λ z. h (sym same ∙ z)) in
      record {
        answer = simp not (λ i. record { refusal = sym same i; len = 0 });
        output = simp not;
        bytes = kept n b first;
        words = kept n w first;
      }

  -- ---- the work is done: 0 or 11
  module _ (r : Result ℕ Refusal) (out' b' w' : List ℕ) (z : before ≡ 0) (d : Bodied (compiled e t) out r out')
      (bs : b' ≡ replicate (length b) 0) (ws : w' ≡ replicate (length w) 0) where
    at : (over-long : Bool) → number ≡ cond over-long 11 0 → r ≡ cond over-long (Err refused.OutputShort) (Ok (length (compiled e t))) →
        out' ≡ cond over-long out (over (compiled e t) out) → CompileDone e t b b' w w' out out' (compiled_told r)
    unfolding compile output_after area_after
    at true n p o = rw p (record { answer = simp n; output = simp n o; bytes = bs; words = ws })
    at false n p o = rw p (record { answer = simp n; output = simp n o; bytes = bs; words = ws })

    pub done_work : CompileDone e t b b' w w' out out' (compiled_told r)
    done_work = at (ltb (length out) (length (compiled e t))) (compile_fits e t (lent b w) (length out) z) d.answer d.bytes
