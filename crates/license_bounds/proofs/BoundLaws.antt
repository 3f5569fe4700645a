-- Bounds, paid search by search; and the index that a paid search finds lies where it was looked for.
-- Assumes nothing.
use mathlib.Core.Path.{◌≡◌, sym, ap, ◌∙◌, subst}
use mathlib.Core.List.{List}
use mathlib.Core.Option.{Option}
use Prim.Native.Nat.{ℕ, ◌≤◌}
use Rattle.rules.specs.declared.Index.{Index}
use Rattle.rules.specs.declared.Bounds.{Bounds}
use Rattle.rules.specs.declared.Value.{Value}
use Rattle.rules.specs.declared.View.{View}
use Rattle.rules.specs.Search.{Made, Stored, ◌>>=◌, done, search, bounds}
use Rattle.rules.proofs.Steps.{search_in}
use Rattle.std.specs.Prelude.{None, Some}
use Rattle.license_charge.specs.declared.Charged.{Charged}
use Rattle.license_charge.specs.Pay.{Paid, pay, charged_of}
use Rattle.license_charge.proofs.PayLaws.{and_then, pay_bind, pay-done, out_of, paid_of, paid-value}
use Rattle.license_bounds.specs.declared.Moving.TheVariants.{End, Start}
use Rattle.license_bounds.specs.Ready.{score_at, view_between}

-- ---- the index found
pub found_in : (F : ℕ → Made Value) (l r b : ℕ) (c : Charged Index) → l ≤ r → Some c ≡ charged_of (pay (search F l r) b) → (l ≤ c.value.at) × (c.value.at ≤ r)
found_in F l r b c h e = subst (λ (i : Index). (l ≤ i.at) × (i.at ≤ r)) (paid-value (search F l r) b c e) (search_in F l r h)

-- ---- bounds: the search of the end, then that of the start
module _ (ls : List (List ℕ)) (v : View) (s : Stored) (b : ℕ) where
  abbrev ends : Made Index
  ends = search (score_at ls s (End v.start)) v.start v.end

  abbrev starts : ℕ → Made Index
  starts e = search (score_at ls s (Start e)) v.start e

  abbrev both : ℕ → Index → Bounds
  both e a = record { first = a.at; after = e; value = a.value }

  second : Index → Made Bounds
  second e = starts e.at >>= λ a. done (both e.at a)

  paid-bounds : pay (bounds ls v s) b ≡ and_then (pay ends b) (λ e l. pay (second e) l)
  unfolding bounds score_at view_between second
  paid-bounds = pay_bind ends second b

  paid-second : (e : Index) (l : ℕ) → pay (second e) l ≡ and_then (pay (starts e.at) l) (λ a k. pay (done (both e.at a)) k)
  unfolding second
  paid-second e l = pay_bind (starts e.at) (λ a. done (both e.at a)) l

  pub no_end : None ≡ charged_of (pay ends b) → None ≡ charged_of (pay (bounds ls v s) b)
  unfolding and_then charged_of
  no_end o = sym (ap charged_of (paid-bounds ∙ ap (λ (p : Option (Paid Index)). and_then p (λ e l. pay (second e) l)) (out_of (pay ends b) o)))

  module _ (e : Charged Index) (found : Some e ≡ charged_of (pay ends b)) where
    on : pay (bounds ls v s) b ≡ and_then (pay (starts e.value.at) e.left.count) (λ a k. pay (done (both e.value.at a)) k)
    unfolding and_then
    on = paid-bounds ∙ ap (λ (p : Option (Paid Index)). and_then p (λ e l. pay (second e) l)) (paid_of (pay ends b) e found) ∙ paid-second e.value e.left.count

    pub no_start : None ≡ charged_of (pay (starts e.value.at) e.left.count) → None ≡ charged_of (pay (bounds ls v s) b)
    unfolding and_then charged_of
    no_start o =
        sym
        (ap charged_of
        (on ∙ ap (λ (p : Option (Paid Index)). and_then p (λ a k. pay (done (both e.value.at a)) k)) (out_of (pay (starts e.value.at) e.left.count) o)))

    pub both_found : (a : Charged Index) → Some a ≡ charged_of (pay (starts e.value.at) e.left.count) →
        Some (record { value = both e.value.at a.value; left = a.left }) ≡ charged_of (pay (bounds ls v s) b)
    unfolding and_then charged_of
    both_found a o =
        sym
        (ap charged_of
        (on ∙
        ap (λ (p : Option (Paid Index)). and_then p (λ a k. pay (done (both e.value.at a)) k)) (paid_of (pay (starts e.value.at) e.left.count) a o) ∙
        pay-done (both e.value.at a.value) a.left.count))
