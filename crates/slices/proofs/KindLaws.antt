-- What the table of an edition says of each kind of code point, at every number: the tests of the passes are ranges of its classes.
-- Assumes nothing.
use mathlib.Core.Path.{◌≡◌, refl, sym, ap, ◌∙◌, fun_ext}
use mathlib.Core.Bool.{Bool, true, false, not, ◌&&◌, ◌||◌, cond}
use mathlib.Core.List.{List, [], ◌∷◌}
use Prim.Native.Nat.{ℕ, ◌≤◌, ◌<◌}
use native.Mathlib.Omega.{arith}
use lib.Dec.{ltb, eqb, lit<, lit≤}
use lib.ListN.{get_or, get_or-eq_default}
use borrow.Author.Tests.{ltb-true, ltb-false, le-leb, lt-leb, eqb-true, ne_eqb}
use Rattle.lists.specs.Tables.{tab}
use Rattle.lists.proofs.TableLaws.{tab-at, tab-length}
use Rattle.rules.specs.Bytes.{text, within, among, space, upper, lower, digit, word, quote, dropped, every}
use Rattle.rules.specs.Lines.{slip, gap, lines_by, lines}
use Rattle.rules.specs.Class.{class_of}
use Rattle.rules.proofs.BoolLaws.{and_left, and_right}
use Rattle.rules.proofs.ClassLaws.{Ruled, dropped_class, gap_class, quote_class, dash_class, open_class, close_class, under_class, space_class, vertical_class, kept_class, upper_class, slip_class, digit_class, class_like}
use Rattle.slices.specs.Classes.{in_class, in_either, class_table, Classes, dropped_in, gap_in, kept_in, space_in, vertical_in, upper_in, digit_in}

-- behind the table's end the class is 0
high_class : (e x : ℕ) → 256 ≤ x → get_or (class_table e) x 0 ≡ 0
unfolding class_table
high_class e x h = get_or-eq_default (tab 256 (class_of e)) 0 {n = x} (rw (tab-length 256 (class_of e)) h)

-- where a rule holds at all 256 entries, and its test fails from there on, the table says it everywhere
module _ (test : ℕ → ℕ → Bool) (lo hi : ℕ) (rule : Ruled test lo hi) (none : within lo hi 0 ≡ false) (high : (e x : ℕ) → 256 ≤ x → test e x ≡ false) (e : ℕ) where
  each_point : (x : ℕ) (b : Bool) → ltb x 256 ≡ b → in_class (class_table e) lo hi x ≡ test e x
  unfolding in_class class_table
  each_point x true q = let h = ltb-true x 256 q in rw (tab-at 256 (class_of e) x h) (sym (rule e x h))
  each_point x false q = let h = ltb-false x 256 q in rw (high_class e x h) (none ∙ sym (high e x h))

  in_edition : in_class (class_table e) lo hi ≡ test e
  in_edition = fun_ext (λ x. each_point x (ltb x 256) refl)

-- the same of a test that does not look at the edition
everywhere : (test : ℕ → Bool) (lo hi : ℕ) → Ruled (λ e. test) lo hi → within lo hi 0 ≡ false → ((x : ℕ) → 256 ≤ x → test x ≡ false) →
    (e : ℕ) → in_class (class_table e) lo hi ≡ test
everywhere test lo hi rule none high e = in_edition (λ e. test) lo hi rule none (λ e. high) e

-- ---- the tests fail behind U+00FF
module _ (x : ℕ) (h : 256 ≤ x) where
  high-within : (a b : ℕ) → a ≤ 256 → b < 256 → within a b x ≡ false
  unfolding within
  high-within a b k l = rw (le-leb a x (omega arith), lt-leb x b (omega arith))

  high_equal : (y : ℕ) → y < 256 → eqb x y ≡ false
  high_equal y k = ne_eqb x y (λ e. omega arith)

  high-among : (ys : List ℕ) → every (λ y. ltb y 256) ys ≡ true → among ys x ≡ false
  unfolding among every
  high-among [] t = refl
  high-among (y ∷ ys) t = rw (high_equal y (ltb-true y 256 (and_left (ltb y 256) (every (λ z. ltb z 256) ys) t))) (high-among ys (and_right (ltb y 256) (every (λ z. ltb z 256) ys) t))

  high-space : space x ≡ false
  unfolding space
  high-space = rw (high-within 9 13 (lit≤ tt) (lit< tt), high_equal 32 (lit< tt), high_equal 133 (lit< tt), high_equal 160 (lit< tt))

  high-quote : quote x ≡ false
  unfolding quote text every
  high-quote = rw (high-among (text "\"'") refl, high_equal 171 (lit< tt), high_equal 187 (lit< tt))

  high-dropped : dropped x ≡ false
  unfolding dropped text every
  high-dropped =
      rw (
        lt-leb x 8 (omega arith),
        high-within 14 31 (lit≤ tt) (lit< tt),
        high_equal 127 (lit< tt),
        high-among (text "$+<=>^|~`") refl,
        high-within 128 255 (lit≤ tt) (lit< tt),
      )

  high-upper : upper x ≡ false
  unfolding upper
  high-upper = rw (high-within 65 90 (lit≤ tt) (lit< tt), high-within 192 222 (lit≤ tt) (lit< tt))

  high-lower : lower x ≡ false
  unfolding lower every
  high-lower = rw (high-within 97 122 (lit≤ tt) (lit< tt), high-among (170 ∷ 181 ∷ 186 ∷ []) refl, high-within 223 255 (lit≤ tt) (lit< tt))

  high_digit : digit x ≡ false
  unfolding digit
  high_digit = high-within 48 57 (lit≤ tt) (lit< tt)

  high-kept : (word x || space x) ≡ false
  unfolding word
  high-kept = rw (high-upper, high-lower, high_digit, high_equal 95 (lit< tt), high-space)

high-slip : (e x : ℕ) → 256 ≤ x → slip e x ≡ false
unfolding slip
high-slip e x h = rw (high_equal x h 52 (lit< tt))

high-gap : (e x : ℕ) → 256 ≤ x → gap e x ≡ false
unfolding gap text every
high-gap e x h = rw (high-among x h (text " \t\\/|") refl, high_equal x h 160 (lit< tt)) (high-slip e x h)

-- ---- the kinds
pub dropped-table : (e : ℕ) → dropped_in (class_table e) ≡ dropped
unfolding within
dropped-table = everywhere dropped 1 2 dropped_class refl high-dropped

pub space-table : (e : ℕ) → space_in (class_table e) ≡ space
unfolding within
space-table = everywhere space 5 8 space_class refl high-space

pub gap-table : (e : ℕ) → gap_in (class_table e) ≡ gap e
unfolding within
gap-table = in_edition gap 2 5 gap_class refl high-gap

pub quote-table : (e : ℕ) → in_class (class_table e) 13 13 ≡ quote
unfolding within
quote-table = everywhere quote 13 13 quote_class refl high-quote

pub dash_table : (e : ℕ) → in_class (class_table e) 14 14 ≡ among (text "-")
unfolding within text every
dash_table = everywhere (among (text "-")) 14 14 dash_class refl (λ x h. high-among x h (text "-") refl)

pub open_table : (e : ℕ) → in_class (class_table e) 15 15 ≡ among (text "([{")
unfolding within text every
open_table = everywhere (among (text "([{")) 15 15 open_class refl (λ x h. high-among x h (text "([{") refl)

pub close_table : (e : ℕ) → in_class (class_table e) 16 16 ≡ among (text ")]}")
unfolding within text every
close_table = everywhere (among (text ")]}")) 16 16 close_class refl (λ x h. high-among x h (text ")]}") refl)

pub under_table : (e : ℕ) → in_class (class_table e) 12 12 ≡ among (text "_")
unfolding within text every
under_table = everywhere (among (text "_")) 12 12 under_class refl (λ x h. high-among x h (text "_") refl)

pub vertical-table : (e : ℕ) → vertical_in (class_table e) ≡ within 10 13
unfolding within
vertical-table = everywhere (within 10 13) 6 7 vertical_class refl (λ x h. high-within x h 10 13 (lit≤ tt) (lit< tt))

pub kept_table : (e : ℕ) → kept_in (class_table e) ≡ (λ x. word x || space x)
unfolding within
kept_table = everywhere (λ x. word x || space x) 4 12 kept_class refl high-kept

pub upper-table : (e : ℕ) → upper_in (class_table e) ≡ upper
unfolding within
upper-table = everywhere upper 11 11 upper_class refl high-upper

-- ---- a digit is the 4, or one of the others
slip-table : (e : ℕ) → in_class (class_table e) 4 4 ≡ slip e
unfolding within
slip-table = in_edition slip 4 4 slip_class refl high-slip

others-table : (e : ℕ) → in_class (class_table e) 9 9 ≡ (λ x. digit x && not (slip e x))
unfolding within
others-table = in_edition (λ e x. digit x && not (slip e x)) 9 9 digit_class refl (λ e x h. rw (high_digit x h))

four_or-other : (e x : ℕ) (four : Bool) → eqb x 52 ≡ four → (slip e x || (digit x && not (slip e x))) ≡ digit x
unfolding slip digit within
four_or-other e x true q = rw (eqb-true x 52 q) (either (eqb e 1))
  where
    either : (b : Bool) → (b || not b) ≡ true
    either true = refl
    either false = refl
four_or-other e x false q = rw q (and_true (digit x))
  where
    and_true : (b : Bool) → (b && true) ≡ b
    and_true true = refl
    and_true false = refl

pub digit-table : (e : ℕ) → digit_in (class_table e) ≡ digit
unfolding in_either
digit-table e =
    ap (λ (f : ℕ → Bool). λ x. f x || in_class (class_table e) 9 9 x) (slip-table e) ∙ ap (λ (f : ℕ → Bool). λ x. slip e x || f x) (others-table e) ∙
    fun_ext (λ x. four_or-other e x (eqb x 52) refl)

-- ---- a table that is lent
-- of some edition
pub by_table : {t : List ℕ} {test : ℕ → Bool} (kind : List ℕ → ℕ → Bool) → Classes t → ((e : ℕ) → kind (class_table e) ≡ test) → kind t ≡ test
by_table kind c k = ap (λ (u : List ℕ). kind u) c.table ∙ k c.edition

pub edition-classes : (e : ℕ) {t : List ℕ} → t ≡ class_table e → Classes t
edition-classes e q = record { edition = e; table = q }

-- of edition e: its gaps, and so its lines
pub edition-lines : (e : ℕ) (t text : List ℕ) → t ≡ class_table e → lines_by (gap_in t) text ≡ lines e text
unfolding lines
edition-lines e t text q = ap (λ (u : List ℕ). lines_by (gap_in u) text) q ∙ ap (λ (set : ℕ → Bool). lines_by set text) (gap-table e)

-- ---- the table of every edition is that of 1 or of 2
pub table-first : (e : ℕ) → e ≡ 1 → class_table e ≡ class_table 1
table-first e q = ap class_table q

pub table-later : (e : ℕ) → (e ≡ 1 → ⊥) → class_table e ≡ class_table 2
unfolding class_table
table-later e q = ap (tab 256) (fun_ext (λ x. class_like e x ∙ ap (λ (t : Bool). class_of (cond t 1 2) x) (ne_eqb e 1 q)))
