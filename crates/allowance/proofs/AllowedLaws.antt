-- What a scan that is charged to an allowance keeps, from `AllowedDone` alone, so of every call that promises it:
--     allowed-refusal                its refusal is the first row of `of_allowed` that applies
--     unless_overdrawn               unless 17 is answered it is the plain scan whose budget is what is left
--     allowed_as_plain               so it is where used is at most cap
--     allowed-count                  and its count is exact, by that budget
--     cap_stays, used_grows          the cap is never written, and used grows by the count
--     used_most, used_within         used stays within the cap, and within whatever both numbers were within
--     over_fills                     12 leaves used equal to cap
--     else_free                      any refusal but 12 charges nothing
--     overdrawn, overdrawn_only      17 exactly where nothing is refused before any work and used is above cap
--     overdrawn_answer               17, and nothing beside it
--     overdrawn_still                after 17 no lent memory has changed, the allowance neither
-- Before them, how such a promise is made: `plain-allowed`, `refused-allowed` and `overdrawn_allowed`. Assumes nothing.
use mathlib.Core.Path.{◌≡◌, refl, sym, ap, ◌∙◌}
use Prim.Native.Nat.{ℕ, ◌+◌, ◌≤◌, ◌<◌, min}
use native.Mathlib.Omega.{arith}
use mathlib.Core.Bool.{Bool, true, false, cond}
use mathlib.Core.List.{List, [], ◌∷◌}
use lib.ListN.{length}
use lib.Dec.{ltb, eqb}
use borrow.Author.Tests.{lt-ltb, le-ltb, eqb-true, eqb-false, ltb-true, ltb-false, ne_eqb}
use Rattle.rules.specs.declared.Areas.{Areas}
use Rattle.rules.specs.declared.Limits.{Limits}
use Rattle.rules.specs.declared.Mode.{Mode}
use Rattle.rules.specs.declared.Scanned.{Scanned}
use Rattle.rules.specs.Lines.{lines}
use Rattle.rules.specs.Book.{shelved, edition_of, name_parts}
use Rattle.rules.specs.Scan.{events, scorings}
use Rattle.rules.specs.Refusal.{row, refusal, before_scan, over_budget, of_scan}
use Rattle.rules.specs.Jobs.{lent, area_after, answered, scan, results_after, ScanDone}
use Rattle.rules.proofs.RefusalLaws.{not_early, early, refusal-first, refusal_then, refusal-early, scan-numbered, scan-before, scan_then, scan-count, scan_only, scan-none}
use Rattle.allowance.specs.declared.Allowance.{Allowance}
use Rattle.allowance.specs.Allowed.{left_of, of_allowed, allowed, allowed_results, with_used, charged, AllowedDone}

-- ---- the rows
module _ (t : List ℕ) (bs : List (List ℕ)) (lim : Limits) (mode : Mode) (x : Allowance) (a : Areas) (results : ℕ) where
  abbrev before : ℕ
  before = refusal (before_scan t bs lim mode a results)

  abbrev number : ℕ
  number = refusal (of_allowed t bs lim mode x a results)

  abbrev plain : ℕ
  plain = refusal (of_scan t bs lim mode (left_of x) a results)

  number-before : (before ≡ 0 → ⊥) → number ≡ before
  unfolding of_allowed
  number-before h = refusal-first (before_scan t bs lim mode a results) _ h

  number_then : before ≡ 0 → number ≡ cond (ltb x.cap x.used) 17 (cond (over_budget (left_of x) lim mode t bs) 12 0)
  unfolding of_allowed refusal
  number_then h =
      refusal_then (before_scan t bs lim mode a results)
      (row 17 (ltb x.cap x.used) ∷ row 12 (over_budget (left_of x) lim mode t bs) ∷ [])
      (scan-numbered t bs lim mode a results) h

  plain_then : before ≡ 0 → plain ≡ cond (over_budget (left_of x) lim mode t bs) 12 0
  unfolding over_budget
  plain_then h = scan_then t bs lim mode a results (left_of x) h

  number_17 : before ≡ 0 → x.cap < x.used → number ≡ 17
  number_17 h l = number_then h ∙ simp (lt-ltb x.cap x.used l)

  -- unless used is above cap, both lists of rows say the same, and so they do where something before 17 applies
  number-within : x.used ≤ x.cap → before ≡ 0 → number ≡ plain
  number-within l z =
      let most : ℕ = cond (over_budget (left_of x) lim mode t bs) 12 0 in
      let fits : ◌≡◌ {A = ℕ} (cond (ltb x.cap x.used) 17 most) most = simp (le-ltb x.cap x.used l) in
      number_then z ∙ fits ∙ sym (plain_then z)

  number-refused : (before ≡ 0 → ⊥) → number ≡ plain
  number-refused h = number-before h ∙ sym (scan-before t bs lim mode a results (left_of x) h)

  -- 17, or the plain scan's number
  pub record Overdrawn : Type 0 where
    pub free : before ≡ 0
    pub above : x.cap < x.used

  record Plain : Type 0 where
    is : number ≡ plain
    not_17 : number ≡ 17 → ⊥

  either : {P : Type 0} → (Overdrawn → P) → (Plain → P) → P
  unfolding early
  either {P} f g = at (eqb before 0) refl
    where
      -- neither what the plain scan answers nor what is refused before any work is 17
      no : (u : Bool) → ◌≡◌ {A = ℕ} (cond u 12 0) 17 → ⊥
      no true e = omega arith
      no false e = omega arith

      free : (u : Bool) → ltb x.cap x.used ≡ u → before ≡ 0 → P
      free true q z = f (record { free = z; above = ltb-true x.cap x.used q })
      free false q z =
          let e = number-within (ltb-false x.cap x.used q) z in
          g (record { is = e; not_17 = λ i. no (over_budget (left_of x) lim mode t bs) (sym (plain_then z) ∙ sym e ∙ i) })

      at : (u : Bool) → eqb before 0 ≡ u → P
      at true q = free (ltb x.cap x.used) refl (eqb-true before 0 q)
      at false q =
          let h = eqb-false before 0 q in
          let l = refusal-early (before_scan t bs lim mode a results) (scan-numbered t bs lim mode a results) h in
          g (record { is = number-refused h; not_17 = λ i. not_early 17 before refl l (sym (number-before h) ∙ i) })

  number_only : number ≡ 17 → Overdrawn
  number_only e = either (λ o. o) (λ p. absurd (p.not_17 e))

  number_not_17 : x.used ≤ x.cap → number ≡ 17 → ⊥
  number_not_17 l e = let o = number_only e in omega (arith, l, o.above)

  -- ---- the answer, by it
  allowed_17 : number ≡ 17 → allowed t bs lim mode x a results ≡ answered 17 lim (name_parts false bs) []
  unfolding allowed
  allowed_17 e = simp e

  allowed_else : (number ≡ 17 → ⊥) → allowed t bs lim mode x a results ≡ scan t bs lim mode (left_of x) a results
  unfolding allowed
  allowed_else h = simp (ne_eqb number 17 h)

  allowed-number : (allowed t bs lim mode x a results).refusal ≡ number
  unfolding scan answered
  allowed-number =
      either (λ o. let e = number_17 o.free o.above in ap (λ (r : Scanned). r.refusal) (allowed_17 e) ∙ sym e)
      (λ p. ap (λ (r : Scanned). r.refusal) (allowed_else p.not_17) ∙ sym p.is)

-- ---- the results, by it
module _ (t : List ℕ) (bs : List (List ℕ)) (lim : Limits) (mode : Mode) (x : Allowance) (a : Areas) (old : List ℕ) where
  results_17 : number t bs lim mode x a (length old) ≡ 17 → allowed_results t bs lim mode x a old ≡ old
  unfolding allowed_results
  results_17 e = simp e

  results_else : (number t bs lim mode x a (length old) ≡ 17 → ⊥) → allowed_results t bs lim mode x a old ≡ results_after t bs lim mode (left_of x) a old
  unfolding allowed_results
  results_else h = simp (ne_eqb (number t bs lim mode x a (length old)) 17 h)

-- ---- a plain scan's count is within its budget, whatever it is refused for
scan-most : (t : List ℕ) (bs : List (List ℕ)) (lim : Limits) (mode : Mode) (b : ℕ) (a : Areas) (results : ℕ) → (scan t bs lim mode b a results).count ≤ b
scan-most t bs lim mode b a results = at (eqb n 0) refl
  where
    n : ℕ
    n = refusal (before_scan t bs lim mode a results)

    at : (u : Bool) → eqb n 0 ≡ u → (scan t bs lim mode b a results).count ≤ b
    at true q = omega (arith, scan-count t bs lim mode a results b (eqb-true n 0 q))
    at false q = omega (arith, scan-none t bs lim mode a results b (eqb-false n 0 q))

-- ---- how the promise is made
module _ {t : List ℕ} {bs : List (List ℕ)} {lim : Limits} {mode : Mode} (x : Allowance) {b₀ b w₀ w r₀ r : List ℕ} {a : Scanned} where
  else_allowed : (number t bs lim mode x (lent b₀ w₀) (length r₀) ≡ 17 → ⊥) → ScanDone t bs lim mode (left_of x) b₀ b w₀ w r₀ r a → AllowedDone t bs lim mode x (charged x a) b₀ b w₀ w r₀ r a
  else_allowed h d =
      record {
        answer = d.answer ∙ sym (allowed_else t bs lim mode x (lent b₀ w₀) (length r₀) h);
        allowance = refl;
        results = d.results ∙ sym (results_else t bs lim mode x (lent b₀ w₀) r₀ h);
        bytes = d.bytes;
        words = d.words;
      }

  -- within the cap
  pub plain-allowed : x.used ≤ x.cap → ScanDone t bs lim mode (left_of x) b₀ b w₀ w r₀ r a → AllowedDone t bs lim mode x (charged x a) b₀ b w₀ w r₀ r a
  plain-allowed l d = else_allowed (number_not_17 t bs lim mode x (lent b₀ w₀) (length r₀) l) d

  -- above it, by what comes before 17
  pub refused-allowed : (before t bs lim mode x (lent b₀ w₀) (length r₀) ≡ 0 → ⊥) → ScanDone t bs lim mode (left_of x) b₀ b w₀ w r₀ r a → AllowedDone t bs lim mode x (charged x a) b₀ b w₀ w r₀ r a
  refused-allowed h d = else_allowed (λ e. h (number_only t bs lim mode x (lent b₀ w₀) (length r₀) e).free) d

-- above it, by 17
pub overdrawn_allowed : {t : List ℕ} {bs : List (List ℕ)} {lim : Limits} {mode : Mode} (x : Allowance) {b₀ w₀ r₀ : List ℕ} {a : Scanned} →
    before t bs lim mode x (lent b₀ w₀) (length r₀) ≡ 0 → x.cap < x.used → a ≡ answered 17 lim (name_parts false bs) [] → AllowedDone t bs lim mode x (charged x a) b₀ b₀ w₀ w₀ r₀ r₀ a
unfolding area_after answered
overdrawn_allowed {t} {bs} {lim} {mode} x {b₀} {w₀} {r₀} {a} z l e =
    let n = number_17 t bs lim mode x (lent b₀ w₀) (length r₀) z l in
    let k : a.refusal ≡ 17 = ap (λ (r : Scanned). r.refusal) e in
    record {
      answer = e ∙ sym (allowed_17 t bs lim mode x (lent b₀ w₀) (length r₀) n);
      allowance = refl;
      results = sym (results_17 t bs lim mode x (lent b₀ w₀) r₀ n);
      bytes = sym (simp k);
      words = sym (simp k);
    }

-- ---- what it says
module _ {t : List ℕ} {bs : List (List ℕ)} {lim : Limits} {mode : Mode} {x₀ x : Allowance} {b₀ b w₀ w r₀ r : List ℕ} {a : Scanned}
    (d : AllowedDone t bs lim mode x₀ x b₀ b w₀ w r₀ r a) where
  -- what is refused before any work
  abbrev pub refused : ℕ
  refused = refusal (before_scan t bs lim mode (lent b₀ w₀) (length r₀))

  pub allowed-refusal : a.refusal ≡ refusal (of_allowed t bs lim mode x₀ (lent b₀ w₀) (length r₀))
  allowed-refusal = ap (λ (y : Scanned). y.refusal) d.answer ∙ allowed-number t bs lim mode x₀ (lent b₀ w₀) (length r₀)

  pub cap_stays : x.cap ≡ x₀.cap
  unfolding charged
  cap_stays = ap (λ (y : Allowance). y.cap) d.allowance

  pub used_grows : x.used ≡ x₀.used + a.count
  unfolding charged
  used_grows = ap (λ (y : Allowance). y.used) d.allowance

  -- ---- 17
  pub overdrawn_only : a.refusal ≡ 17 → (refused ≡ 0) × (x₀.cap < x₀.used)
  overdrawn_only e =
      let o = number_only t bs lim mode x₀ (lent b₀ w₀) (length r₀) (sym allowed-refusal ∙ e) in
      (o.free, o.above)

  pub overdrawn : refused ≡ 0 → x₀.cap < x₀.used → a.refusal ≡ 17
  overdrawn z l = allowed-refusal ∙ number_17 t bs lim mode x₀ (lent b₀ w₀) (length r₀) z l

  -- ---- where 17 is not answered it is the plain scan
  pub unless_overdrawn : (a.refusal ≡ 17 → ⊥) → ScanDone t bs lim mode (left_of x₀) b₀ b w₀ w r₀ r a
  unless_overdrawn h =
      let k : number t bs lim mode x₀ (lent b₀ w₀) (length r₀) ≡ 17 → ⊥ = λ e. h (allowed-refusal ∙ e) in
      record {
        answer = d.answer ∙ allowed_else t bs lim mode x₀ (lent b₀ w₀) (length r₀) k;
        results = d.results ∙ results_else t bs lim mode x₀ (lent b₀ w₀) r₀ k;
        bytes = d.bytes;
        words = d.words;
      }

  pub allowed_as_plain : x₀.used ≤ x₀.cap → ScanDone t bs lim mode (left_of x₀) b₀ b w₀ w r₀ r a
  allowed_as_plain l = unless_overdrawn (λ e. omega (arith, l, (overdrawn_only e).1))

  pub allowed-count : x₀.used ≤ x₀.cap → refused ≡ 0 → a.count ≡ min (left_of x₀) (length (scorings (events lim mode (shelved 0 bs) (lines (edition_of bs) t))))
  allowed-count l z =
      ap (λ (y : Scanned). y.count) (allowed_as_plain l).answer ∙ scan-count t bs lim mode (lent b₀ w₀) (length r₀) (left_of x₀) z

  count_left : x₀.used ≤ x₀.cap → a.count ≤ left_of x₀
  count_left l =
      omega (arith, ap (λ (y : Scanned). y.count) (allowed_as_plain l).answer, scan-most t bs lim mode (left_of x₀) (lent b₀ w₀) (length r₀))

  -- ---- what is charged
  pub overdrawn_answer : a.refusal ≡ 17 → a ≡ answered 17 lim (name_parts false bs) []
  overdrawn_answer e = d.answer ∙ allowed_17 t bs lim mode x₀ (lent b₀ w₀) (length r₀) (sym allowed-refusal ∙ e)

  none_17 : a.refusal ≡ 17 → a.count ≡ 0
  unfolding answered scorings
  none_17 e = ap (λ (y : Scanned). y.count) (overdrawn_answer e)

  none-refused : (refused ≡ 0 → ⊥) → a.count ≡ 0
  none-refused h =
      ap (λ (y : Scanned). y.count) (unless_overdrawn (λ e. h (overdrawn_only e).0)).answer ∙ scan-none t bs lim mode (lent b₀ w₀) (length r₀) (left_of x₀) h

  same_used : a.count ≡ 0 → x ≡ x₀
  unfolding charged
  same_used e =
      let n : x₀.used + a.count ≡ x₀.used = omega (arith, e) in
      d.allowance ∙ ap (with_used x₀) n

  pub overdrawn_still : a.refusal ≡ 17 → (x ≡ x₀) × (r ≡ r₀) × (b ≡ b₀) × (w ≡ w₀)
  unfolding area_after
  overdrawn_still e =
      let n : number t bs lim mode x₀ (lent b₀ w₀) (length r₀) ≡ 17 = sym allowed-refusal ∙ e in
      (same_used (none_17 e), d.results ∙ results_17 t bs lim mode x₀ (lent b₀ w₀) r₀ n, d.bytes ∙ simp e, d.words ∙ simp e)

  -- above the cap nothing is charged
  above_none : x₀.cap < x₀.used → a.count ≡ 0
  above_none l = at (eqb refused 0) refl
    where
      at : (u : Bool) → eqb refused 0 ≡ u → a.count ≡ 0
      at true q = none_17 (overdrawn (eqb-true refused 0 q) l)
      at false q = none-refused (eqb-false refused 0 q)

  -- used stays within whatever both numbers were within
  pub used_within : (m : ℕ) → x₀.cap ≤ m → x₀.used ≤ m → x.used ≤ m
  used_within m h k = at (ltb x₀.cap x₀.used) refl
    where
      at : (u : Bool) → ltb x₀.cap x₀.used ≡ u → x.used ≤ m
      at true q = omega (arith, used_grows, above_none (ltb-true x₀.cap x₀.used q))
      at false q = let l = ltb-false x₀.cap x₀.used q in omega (arith, used_grows, count_left l)

  pub used_most : x₀.used ≤ x₀.cap → x.used ≤ x.cap
  used_most l = omega (arith, used_within x₀.cap (omega arith) l, cap_stays)

  -- what the plain scan answers
  plain-number : (a.refusal ≡ 17 → ⊥) → a.refusal ≡ refusal (of_scan t bs lim mode (left_of x₀) (lent b₀ w₀) (length r₀))
  unfolding scan answered
  plain-number h = ap (λ (y : Scanned). y.refusal) (unless_overdrawn h).answer

  pub over_fills : a.refusal ≡ 12 → x.used ≡ x.cap
  over_fills e = at (ltb x₀.cap x₀.used) refl
    where
      other : a.refusal ≡ 17 → ⊥
      other i = omega (arith, e, i)

      at : (u : Bool) → ltb x₀.cap x₀.used ≡ u → x.used ≡ x.cap
      at true q =
          let o = scan_only t bs lim mode (lent b₀ w₀) (length r₀) (left_of x₀) (sym (plain-number other) ∙ e) in
          absurd (other (overdrawn o.0 (ltb-true x₀.cap x₀.used q)))
      at false q =
          let l = ltb-false x₀.cap x₀.used q in
          let o = scan_only t bs lim mode (lent b₀ w₀) (length r₀) (left_of x₀) (sym (plain-number other) ∙ e) in
          omega (arith, used_grows, cap_stays, l, allowed-count l o.0, o.1)

  pub else_free : (a.refusal ≡ 0 → ⊥) → (a.refusal ≡ 12 → ⊥) → x ≡ x₀
  else_free h k = same_used (at (eqb a.refusal 17) refl)
    where
      no : (u : Bool) → a.refusal ≡ cond u 12 0 → ⊥
      no true e = k e
      no false e = h e

      at : (u : Bool) → eqb a.refusal 17 ≡ u → a.count ≡ 0
      at true q = none_17 (eqb-true a.refusal 17 q)
      at false q =
          none-refused (λ z. no (over_budget (left_of x₀) lim mode t bs)
          (plain-number (eqb-false a.refusal 17 q) ∙ plain_then t bs lim mode x₀ (lent b₀ w₀) (length r₀) z))
