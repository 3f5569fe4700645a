-- Paying a run of scorings part by part: one scoring is paid or not (`pay-one`, `pay-none`), and one run after another (`pay_bind`).
-- Assumes nothing.
use mathlib.Core.Path.{◌≡◌, refl, sym, ap, ◌∙◌}
use mathlib.Core.Bool.{Bool, true, false}
use mathlib.Core.Option.{Option, none, some}
use Prim.Native.Nat.{ℕ, ◌+◌, ◌-◌, ◌≤◌, ◌<◌}
use native.Mathlib.Nat.{sub-zero}
use native.Mathlib.Omega.{arith}
use lib.Dec.{leb, leb-zero}
use lib.ListN.{length, length-append}
use borrow.Author.Tests.{leb-true, leb-false, le-leb, lt-leb}
use Rattle.rules.specs.Search.{Made, done, ◌>>=◌}
use Rattle.std.specs.Prelude.{None, Some}
use Rattle.license_charge.specs.declared.Charged.{Charged}
use Rattle.license_charge.specs.Pay.{Paid, pay, charged_of}

-- what follows a payment
unfoldable pub and_then : {A B : Type 0} → Option (Paid A) → (A → ℕ → Option (Paid B)) → Option (Paid B)
and_then none f = none
and_then (some p) f = f p.value p.left

pub pay-done : {A : Type 0} (a : A) (b : ℕ) → pay (done a) b ≡ some (record { value = a; left = b })
unfolding pay
pay-done a b = simp (leb-zero, sub-zero)

leb_sub : (n k b : ℕ) → n ≤ b → leb (n + k) b ≡ leb k (b - n)
leb_sub n k b h = at (leb k (b - n)) refl
  where
    at : (t : Bool) → leb k (b - n) ≡ t → leb (n + k) b ≡ t
    at true q = let l = leb-true k (b - n) q in le-leb (n + k) b (omega arith)
    at false q = let l = leb-false k (b - n) q in lt-leb (n + k) b (omega arith)

sub_sub : (b n k : ℕ) → b - (n + k) ≡ b - n - k
sub_sub b n k = omega arith

pub pay_bind : {A B : Type 0} (m : Made A) (f : A → Made B) (b : ℕ) → pay (m >>= f) b ≡ and_then (pay m b) (λ a l. pay (f a) l)
unfolding pay and_then
pay_bind {A} {B} m f b = at (leb (length m.list) b) refl
  where
    at : (t : Bool) → leb (length m.list) b ≡ t → pay (m >>= f) b ≡ and_then (pay m b) (λ a l. pay (f a) l)
    at true q =
        let n = length m.list in
        let k = length (f m.value).list in
        simp (length-append, leb_sub n k b (leb-true n b q), sub_sub b n k, q)
    at false q =
        let n = length m.list in
        let k = length (f m.value).list in
        let l = leb-false n b q in
        simp (length-append, lt-leb (n + k) b (omega arith), q)

-- ---- one scoring and what follows it
module _ {A B : Type 0} (m : Made A) (f : A → Made B) (once : length m.list ≡ 1) where
  pub pay-one : (b : ℕ) → 0 < b → pay (m >>= f) b ≡ pay (f m.value) (b - 1)
  unfolding pay and_then
  pay-one b h = pay_bind m f b ∙ simp (once, le-leb 1 b h)

  pub pay-none : pay (m >>= f) 0 ≡ none
  unfolding pay and_then
  pay-none = pay_bind m f 0 ∙ simp once

-- ---- what the code yields of a payment
pub out_of : {A : Type 0} (o : Option (Paid A)) → None ≡ charged_of o → o ≡ none
unfolding charged_of
out_of none e = refl
out_of (some p) e = absurd (let z : ◌≡◌ {A = ℕ} 0 1 = cc in omega arith)

pub paid_of : {A : Type 0} (o : Option (Paid A)) (c : Charged A) → Some c ≡ charged_of o → o ≡ some (record { value = c.value; left = c.left.count })
unfolding charged_of
paid_of none c e = absurd (let z : ◌≡◌ {A = ℕ} 0 1 = cc in omega arith)
paid_of {A} (some p) c e =
    let z : c ≡ record { value = p.value; left = record { count = p.left } } = cc in
    simp z

-- what a run yields is its answer
pub paid-value : {A : Type 0} (m : Made A) (b : ℕ) (c : Charged A) → Some c ≡ charged_of (pay m b) → m.value ≡ c.value
unfolding pay
paid-value {A} m b c e = at (leb (length m.list) b) refl (paid_of (pay m b) c e)
  where
    got : Paid A
    got = record { value = m.value; left = b - length m.list }

    to : Paid A
    to = record { value = c.value; left = c.left.count }

    at : (t : Bool) → leb (length m.list) b ≡ t → pay m b ≡ some to → m.value ≡ c.value
    at true q f =
        let f' = rw q at f in
        let z : got ≡ to = cc in
        ap (λ (r : Paid A). r.value) z
    at false q f =
        let f' = rw q at f in
        absurd (let z : ◌≡◌ {A = ℕ} 0 1 = cc in omega arith)

-- of one scoring: nothing was left; or it is this, and one less is left
pub record One {A : Type 0} (m : Made A) (b : ℕ) (c : Charged A) : Type 0 where
  pub some_left : 0 < b
  pub value : c.value ≡ m.value
  pub left : c.left.count ≡ b - 1

module _ {A : Type 0} (m : Made A) (once : length m.list ≡ 1) where
  pub one-unpaid : (b : ℕ) → b ≡ 0 → None ≡ charged_of (pay m b)
  unfolding pay charged_of
  one-unpaid b z = simp (once, z)

  pub one-paid : (b : ℕ) (c : Charged A) → 0 < b → c.value ≡ m.value → c.left.count ≡ b - 1 → Some c ≡ charged_of (pay m b)
  unfolding pay charged_of
  one-paid b c h v l = simp (once, le-leb 1 b h, sym v, sym l)

  pub unpaid-one : (b : ℕ) → None ≡ charged_of (pay m b) → b ≡ 0
  unfolding pay charged_of
  unpaid-one b e = at (leb (length m.list) b) refl (out_of (pay m b) e)
    where
      at : (t : Bool) → leb (length m.list) b ≡ t → pay m b ≡ none → b ≡ 0
      at true q f =
          let f' = rw q at f in
          absurd (let z : ◌≡◌ {A = ℕ} 0 1 = cc in omega arith)
      at false q f = let l = leb-false (length m.list) b q in omega (arith, once)

  pub paid-one : (b : ℕ) (c : Charged A) → Some c ≡ charged_of (pay m b) → One m b c
  unfolding pay
  paid-one b c e = at (leb (length m.list) b) refl (paid_of (pay m b) c e)
    where
      got : Paid A
      got = record { value = m.value; left = b - length m.list }

      to : Paid A
      to = record { value = c.value; left = c.left.count }

      at : (t : Bool) → leb (length m.list) b ≡ t → pay m b ≡ some to → One m b c
      at true q f =
          let f' = rw q at f in
          let z : got ≡ to = cc in
          let l = leb-true (length m.list) b q in
          let k = ap (λ (r : Paid A). r.left) z in
          record { some_left = omega (arith, once); value = sym (ap (λ (r : Paid A). r.value) z); left = sym k ∙ ap (λ (n : ℕ). b - n) once }
      at false q f =
          let f' = rw q at f in
          absurd (let z : ◌≡◌ {A = ℕ} 0 1 = cc in omega arith)
