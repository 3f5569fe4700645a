-- A text is as it would be written exactly if it is spaced out and as long as that (`neat_derived`): where every operator has its blanks, only blanks
-- and parentheses are dropped, so what is written stands in the text, byte after byte (`Sub`).
-- Assumes nothing.
use mathlib.Core.Path.{◌≡◌, refl, sym, ap, ◌∙◌}
use Prim.Native.Nat.{ℕ, ◌≤◌, ◌<◌}
use native.Mathlib.Omega.{arith}
use mathlib.Core.Bool.{Bool, true, false, ◌&&◌, cond}
use mathlib.Core.List.{List, [], ◌∷◌, ◌++◌, append_assoc, append-nil}
use lib.ListN.{length, replicate}
use lib.Dec.{eqb}
use borrow.Author.Tests.{eqb-true, eq-eqb}
use Rattle.rules.specs.Bytes.{same, within}
use Rattle.rules.proofs.BoolLaws.{and_left, and_right, and_both}
use Rattle.rules.proofs.PrefixLaws.{same_self, same_true}
use Rattle.expression.specs.Reading.{part, Tree, id_byte, and_word, or_word, with_word}
use Rattle.expression.specs.Writing.{spell, spell_part, wrap, is_or}
use Rattle.expression.specs.Annex.{Simple, ExceptionId, Ends, Begins, Rank, ors, Reads, plussed, blanks, excepted}
use Rattle.expression.proofs.WordLaws.{id_not}
use Rattle.expression.proofs.PartLaws.{Strange, part-last, exc-last, part-plain, part-exc}
use Rattle.expression_spelling.specs.Flat.{apart, spaced_out}
use Rattle.expression_spelling.proofs.EndLaws.{first, last, first_of, last-of, some, part-first, exc-first, longer, clash}
use Rattle.expression_spelling.proofs.SpacedLaws.{spaced-front, spaced_back, spaced-at, spell-spaced}

-- ---- xs stands in ys, in order
data Sub : List ℕ → List ℕ → Type 0 where
  done : Sub [] []
  keep : {xs ys : List ℕ} (x : ℕ) → Sub xs ys → Sub (x ∷ xs) (x ∷ ys)
  skip : {xs ys : List ℕ} (x : ℕ) → Sub xs ys → Sub xs (x ∷ ys)

sub_none : (s : List ℕ) → Sub [] s
sub_none [] = Sub.done
sub_none (x ∷ s) = Sub.skip x (sub_none s)

sub_self : (s : List ℕ) → Sub s s
sub_self [] = Sub.done
sub_self (x ∷ s) = Sub.keep x (sub_self s)

sub_join : {v w s u : List ℕ} → Sub v s → Sub w u → Sub (v ++ w) (s ++ u)
sub_join Sub.done k = k
sub_join (Sub.keep x h) k = Sub.keep x (sub_join h k)
sub_join (Sub.skip x h) k = Sub.skip x (sub_join h k)

sub_length : {v s : List ℕ} → Sub v s → length v ≤ length s
sub_length Sub.done = omega arith
sub_length (Sub.keep x h) = omega (arith, sub_length h)
sub_length (Sub.skip x h) = omega (arith, sub_length h)

sub_all : {v s : List ℕ} → Sub v s → length v ≡ length s → v ≡ s
sub_all Sub.done e = refl
sub_all (Sub.keep x h) e = ap (λ l. x ∷ l) (sub_all h (omega arith))
sub_all (Sub.skip x h) e = absurd (omega (arith, sub_length h))

-- ---- at an operator of a text that is spaced out stand blanks
blank : ℕ → Bool
blank x = eqb x 32

strange : Strange blank
unfolding blank id_byte within
strange = record { no-id = λ x e. id_not x 32 refl e; no_plus = refl }

blank-last : {s : List ℕ} → Ends s → (x : ℕ) (u : List ℕ) → apart 41 x ≡ false → spaced_out (s ++ (x ∷ u)) ≡ true → last blank s ≡ true
unfolding blank
blank-last (Ends.blank s) x u n h = last-of blank s (32 ∷ []) (omega arith)
blank-last (Ends.paren s) x u n h = absurd (clash (spaced-at s 41 x u (rw (append_assoc s (41 ∷ []) (x ∷ u)) at h)) n)

blank-first : {u : List ℕ} → Begins u → (s : List ℕ) (x : ℕ) → apart x 40 ≡ false → spaced_out (s ++ (x ∷ u)) ≡ true → first blank u ≡ true
unfolding first blank
blank-first (Begins.blank u) s x n h = refl
blank-first (Begins.paren u) s x n h = absurd (clash (spaced-at s x 40 u h) n)

-- ---- what is written stands in what is read, with a blank on each side where the text has one
end : Bool → List ℕ
end t = cond t (32 ∷ []) []

Within : List ℕ → List ℕ → Type 0
Within v s = (f b : Bool) → (f ≡ true → first blank s ≡ true) → (b ≡ true → last blank s ≡ true) → Sub (end f ++ (v ++ end b)) s

bare : {v s : List ℕ} → Sub v s → first blank s ≡ false → last blank s ≡ false → Within v s
unfolding Within end
bare {v = v} h n m true b hf hb = absurd (clash (hf refl) n)
bare {v = v} h n m false true hf hb = absurd (clash (hb refl) m)
bare {v = v} h n m false false hf hb = rw (append-nil v) h

alone : (v s : List ℕ) → Within v s → Sub v s
unfolding Within end
alone v s h = rw (append-nil v) at (h false false (λ e. absurd (clash e refl)) (λ e. absurd (clash e refl)))

sub_trans : {xs ys zs : List ℕ} → Sub xs ys → Sub ys zs → Sub xs zs
sub_trans h Sub.done = h
sub_trans (Sub.keep x h) (Sub.keep y k) = Sub.keep x (sub_trans h k)
sub_trans (Sub.skip x h) (Sub.keep y k) = Sub.skip x (sub_trans h k)
sub_trans h (Sub.skip x k) = Sub.skip x (sub_trans h k)

-- something stands behind it
sub_more : {v s : List ℕ} (u : List ℕ) → Sub v s → Sub v (s ++ u)
sub_more {v = v} u h = rw (append-nil v) at (sub_join h (sub_none u))

-- ---- parts
simple-within : {w : List ℕ} {plus : Bool} → Simple w plus → Within (spell_part (part w plus [])) (plussed w plus)
simple-within {w = w} {plus = plus} h =
    rw (part-plain w plus) (bare (sub_self (plussed w plus)) (part-first blank strange h) (part-last blank strange h 0))

exc_sub : (w x : List ℕ) (plus : Bool) (a b : ℕ) → Sub (excepted w plus 0 0 x) (excepted w plus a b x)
unfolding excepted blanks
exc_sub w x plus a b =
    let few : (n : ℕ) → Sub (32 ∷ []) (32 ∷ replicate n 32) = λ n. Sub.keep 32 (sub_none (replicate n 32)) in
    sub_join (sub_self (plussed w plus)) (sub_join (few a) (sub_join (sub_self with_word) (sub_join (few b) (sub_self x))))

exc-within : {w x : List ℕ} {plus : Bool} (a b : ℕ) → Simple w plus → ExceptionId x → Within (spell_part (part w plus x)) (excepted w plus a b x)
exc-within {w} {x} {plus} a b h k =
    rw (part-exc w plus x k.string.some)
    (bare (exc_sub w x plus a b) (exc-first blank strange a b x h) (exc-last blank strange w plus a b k 0))

-- ---- groups
group_sub : (o : Bool) (v s : List ℕ) → Sub v s → Sub (wrap o v) (40 ∷ (s ++ 41 ∷ []))
unfolding wrap
group_sub true v s h = Sub.keep 40 (sub_join h (sub_self (41 ∷ [])))
group_sub false v s h = Sub.skip 40 (sub_more (41 ∷ []) h)

group-within : (o : Bool) (v s : List ℕ) → Within v s → Within (wrap o v) (40 ∷ (s ++ 41 ∷ []))
unfolding first blank
group-within o v s h = bare (group_sub o v s (alone v s h)) refl (last-of blank (40 ∷ s) (41 ∷ []) (omega arith))

or-within : (o : Bool) (v s : List ℕ) → Within (wrap o v) s → Within v s
unfolding wrap Within
or-within true v s h f b hf hb =
    sub_trans (sub_join (sub_self (end f)) (Sub.skip 40 (sub_join (sub_more (41 ∷ []) (sub_self v)) (sub_self (end b))))) (h f b hf hb)
or-within false v s h f b hf hb = h f b hf hb

-- ---- blanks and chains
before-within : (v s : List ℕ) → 0 < length s → Within v s → Within v (32 ∷ s)
unfolding Within end
before-within v s l h f b hf hb = go f
  where
    inner : Sub (v ++ end b) s
    inner = h false b (λ e. absurd (clash e refl)) (λ e. sym (last-of blank (32 ∷ []) s l) ∙ hb e)

    go : (f : Bool) → Sub (end f ++ (v ++ end b)) (32 ∷ s)
    go true = Sub.keep 32 inner
    go false = Sub.skip 32 inner

behind-within : (v s : List ℕ) → 0 < length s → Within v s → Within v (s ++ 32 ∷ [])
unfolding Within end
behind-within v s l h f b hf hb = go b
  where
    inner : Sub (end f ++ v) s
    inner = rw (append-nil v) at (h f false (λ e. sym (first_of blank s (32 ∷ []) l) ∙ hf e) (λ e. absurd (clash e refl)))

    go : (b : Bool) → Sub (end f ++ (v ++ end b)) (s ++ 32 ∷ [])
    go true = rw (append_assoc (end f) v (32 ∷ [])) at (sub_join inner (sub_self (32 ∷ [])))
    go false = rw (append-nil v) (sub_more (32 ∷ []) inner)

-- an operator o
op_within : (o v w s u : List ℕ) → 0 < length s → 0 < length u → last blank s ≡ true → first blank u ≡ true → Within v s → Within w u
    → Within (v ++ 32 ∷ (o ++ (32 ∷ w))) (s ++ (o ++ u))
unfolding Within end
op_within o v w s u l k e i h g f b hf hb =
    let left : Sub (end f ++ (v ++ 32 ∷ [])) s = h f true (λ t. sym (first_of blank s (o ++ u) l) ∙ hf t) (λ t. e) in
    let right : Sub (32 ∷ (w ++ end b)) u =
    g true b (λ t. i) (λ t. sym (last-of blank o u k) ∙ sym (last-of blank s (o ++ u) (longer o u k)) ∙ hb t) in
    let rest = o ++ (32 ∷ (w ++ end b)) in
    rw (
      append_assoc v (32 ∷ (o ++ (32 ∷ w))) (end b),
      append_assoc o (32 ∷ w) (end b),
      ← (append_assoc v (32 ∷ []) rest),
      ← (append_assoc (end f) (v ++ 32 ∷ []) rest),
    )
    (sub_join left (sub_join (sub_self o) right))

-- ---- every rank
abbrev Stands : Rank → List ℕ → Tree → Type 0
Stands Rank.operand s t = Within (wrap (is_or t) (spell t)) s
Stands Rank.ands s t = Within (wrap (is_or t) (spell t)) s
Stands Rank.ors s t = Within (spell t) s

stands : {r : Rank} {d : ℕ} {s : List ℕ} {t : Tree} → Reads r d s t → spaced_out s ≡ true → Stands r s t
unfolding wrap is_or spell apart
stands (Reads.simple h) e = simple-within h
stands (Reads.with-exc a b h x) e = exc-within a b h x
stands (Reads.group {s = s} {t = t} h) e =
    group-within (is_or t) (spell t) s (stands h (spaced-front s (41 ∷ []) (spaced_back (40 ∷ []) (s ++ 41 ∷ []) e)))
stands (Reads.before {s = s} {t = t} h) e = before-within (wrap (is_or t) (spell t)) s (some h) (stands h (spaced_back (32 ∷ []) s e))
stands (Reads.behind {s = s} {t = t} h) e = behind-within (wrap (is_or t) (spell t)) s (some h) (stands h (spaced-front s (32 ∷ []) e))
stands (Reads.one-and h) e = stands h e
stands (Reads.more-and {s = s} {u = u} {a = a} {t = t} h i k b) e =
    let rest = spaced_back s (and_word ++ u) e in
    op_within and_word (wrap (is_or a) (spell a)) (wrap (is_or t) (spell t)) s u (some h) (some k)
    (blank-last i 65 (78 ∷ 68 ∷ u) refl e) (blank-first b (65 ∷ 78 ∷ []) 68 refl rest)
    (stands h (spaced-front s (and_word ++ u) e)) (stands k (spaced_back and_word u rest))
stands (Reads.one-or {s = s} {t = t} h) e = or-within (is_or t) (spell t) s (stands h e)
stands (Reads.more-or {s = s} {u = u} {a = a} {t = t} h i k b) e =
    let rest = spaced_back s (or_word ++ u) e in
    op_within or_word (spell a) (spell t) s u (some h) (some k)
    (blank-last i 79 (82 ∷ u) refl e) (blank-first b (79 ∷ []) 82 refl rest)
    (stands h (spaced-front s (or_word ++ u) e)) (or-within (is_or t) (spell t) u (stands k (spaced_back or_word u rest)))

pub neat_derived : {d : ℕ} {s : List ℕ} {t : Tree} → Reads ors d s t → same (spell t) s ≡ (spaced_out s && eqb (length (spell t)) (length s))
neat_derived {s = s} {t = t} h = go (same (spell t) s) (spaced_out s && eqb (length (spell t)) (length s)) refl refl
  where
    alike : spell t ≡ s → (spaced_out s && eqb (length (spell t)) (length s)) ≡ true
    alike e =
        and_both (spaced_out s) (eqb (length (spell t)) (length s)) (rw e at (spell-spaced h)) (eq-eqb (length (spell t)) (length s) (ap length e))

    whole : (spaced_out s && eqb (length (spell t)) (length s)) ≡ true → spell t ≡ s
    whole e =
        let spaced = and_left (spaced_out s) (eqb (length (spell t)) (length s)) e in
        let long = and_right (spaced_out s) (eqb (length (spell t)) (length s)) e in
        sub_all (alone (spell t) s (stands h spaced)) (eqb-true (length (spell t)) (length s) long)

    go : (p q : Bool) → same (spell t) s ≡ p → (spaced_out s && eqb (length (spell t)) (length s)) ≡ q
        → same (spell t) s ≡ (spaced_out s && eqb (length (spell t)) (length s))
    go true q i j = i ∙ sym (alike (same_true (spell t) s i))
    go false true i j = absurd (clash (rw (whole j) (same_self s)) i)
    go false false i j = i ∙ sym j
