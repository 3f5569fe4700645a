-- The body of a table that stands in the areas: what measuring and writing it ask, and what they leave of the output.
-- Assumes nothing.
use Rattle.std.proofs.Common.{Result, Ok, Err}
use mathlib.Core.Path.{◌≡◌, refl, sym, ap, ap₂, ◌∙◌, subst}
use mathlib.Core.Bool.{true, false}
use mathlib.Core.List.{List, ◌++◌}
use Prim.Native.Nat.{ℕ, ◌+◌, ◌-◌, ◌≤◌, ◌<◌}
use native.Mathlib.Omega.{arith}
use lib.Dec.{ltb}
use lib.ListN.{length, take, drop, replicate}
use lib.Seq.{take_all}
use borrow.Author.Tests.{lt-ltb, le-ltb}
use Rattle.lists.specs.Wrote.{Wrote}
use Rattle.lists.proofs.SliceLaws.{part_slice}
use Rattle.rules.specs.declared.View.{View}
use Rattle.rules.specs.declared.Refusal.{Refusal}
use Rattle.rules.specs.declared.Refusal.TheVariants as refused
use Rattle.rules.specs.Lines.{lines, line_count}
use Rattle.rules.specs.Search.{viewed}
use Rattle.rules.specs.Table.{Table, bigrams, table_of, view_table}
use Rattle.rules.specs.Book.{table_out, compiled}
use Rattle.rules.specs.Jobs.{over}
use Rattle.rules.proofs.RefusalLaws.{lines-count}
use Rattle.preproc_table.specs.Entries.{table_end}
use Rattle.ngram_table.specs.Tables.{table_at}
use Rattle.license_views.specs.declared.Viewed.{Viewed}
use Rattle.license_views.specs.Tabled.{Tabled, table_over}
use Rattle.license_charge.proofs.ChargeLaws.{chargeable}
use Rattle.compile.specs.Bodied.{Bodied}

-- ---- the table as it is lent
module _ (area words : List ℕ) (n : ℕ) (t : Viewed) (h : Tabled n area words t) (from : ℕ) (q : from ≡ table_end n) where
  abbrev text : List ℕ
  text = take (t.end - t.start) (drop t.start area)

  abbrev places : List ℕ
  places = take (length words - from) (drop from words)

  pub body_sizes : ((t.distinct ≤ t.total) × (t.total + t.total ≤ length places) × (t.total < 4294967296)) × (length text ≤ 16777216)
  body_sizes =
      let s = (chargeable area words n t h from q).sizes in
      ((s.0, s.1, omega arith), omega (arith, ap length (part_slice t.start t.end area), h.short))

  pub body_is : table_out (table_at text places t.total t.distinct) ≡ table_out (table_over area t)
  unfolding table_over
  body_is =
      ap table_out
      ((chargeable area words n t h from q).stands ∙ ap (λ (l : List ℕ). table_of (bigrams l)) (part_slice t.start t.end area))

-- ---- the output
module _ (made body out₀ : List ℕ) (len : ℕ) (e : made ≡ body) (l : len ≡ length made) where
  pub body-over : length out₀ < len → Bodied body out₀ (Err refused.OutputShort) out₀
  body-over h =
      let k : ltb (length out₀) (length body) ≡ true = lt-ltb (length out₀) (length body) (omega (arith, ap length e)) in
      record { answer = rw k; bytes = rw k }

  pub body-put : (r : ℕ) (out : List ℕ) → len ≤ length out₀ → Wrote made out₀ r out → Bodied body out₀ (Ok len) out
  unfolding over
  body-put r out h w =
      let k : ltb (length out₀) (length body) ≡ false = le-ltb (length out₀) (length body) (omega (arith, ap length e)) in
      let o : out ≡ body ++ drop (length body) out₀ = w.bytes ∙ ap₂ (λ (m : List ℕ) (j : ℕ). m ++ drop j out₀) e (w.count ∙ ap length e) in
      record { answer = rw k (ap Ok (l ∙ ap length e)); bytes = rw k o }

-- ---- the whole view of a text is its lines
whole-viewed : (ls : List (List ℕ)) (v : View) → v.start ≡ 0 → v.end ≡ length ls → viewed ls v ≡ ls
unfolding viewed
whole-viewed ls v s e = rw s (take_all (v.end - 0) ls (omega (arith, e)))

pub compiled-is : (e : ℕ) (t : List ℕ) (ls : List (List ℕ)) (n : ℕ) (u : Table) → ls ≡ lines e t → n ≡ line_count t → u ≡ view_table (viewed ls (record { start = 0; end = n })) →
    table_out u ≡ compiled e t
unfolding compiled
compiled-is e t ls n u l c h =
    let w = whole-viewed ls (record { start = 0; end = n }) refl (c ∙ sym (lines-count e t) ∙ ap length (sym l)) in
    ap table_out (h ∙ ap view_table (w ∙ l))

pub bodied_as : (a b out₀ : List ℕ) (r : Result ℕ Refusal) (out : List ℕ) → a ≡ b → Bodied a out₀ r out → Bodied b out₀ r out
bodied_as a b out₀ r out e h = subst (λ (l : List ℕ). Bodied l out₀ r out) e h

-- ---- zeroes over an area that kept its length
pub zeroed : (b b₁ b₀ : List ℕ) → b ≡ replicate (length b₁) 0 → length b₁ ≡ length b₀ → b ≡ replicate (length b₀) 0
zeroed b b₁ b₀ e l = e ∙ ap (λ (n : ℕ). replicate n 0) l
