-- What is written is at most a fifth longer than what was read (`spell-short`, `spell_fits`). An operator wants two blanks, of which the text may
-- have none: then a group stands there, whose parentheses pay for it. `slack` is what a text has left over, by the ends that it opens and shuts.
-- Assumes nothing.
use mathlib.Core.Path.{◌≡◌, refl, sym, ◌∙◌}
use Prim.Native.Nat.{ℕ, ◌+◌, ◌*◌, ◌/◌, ◌≤◌, ◌<◌}
use native.Mathlib.Omega.{arith}
use mathlib.Core.Bool.{Bool, true, false, ◌||◌, cond}
use mathlib.Core.List.{List, [], ◌∷◌, ◌++◌}
use lib.ListN.{length, length-append, length-replicate}
use lib.Dec.{eqb}
use Rattle.rules.specs.Bytes.{within}
use Rattle.expression.specs.Reading.{part, Tree, id_byte, and_word, or_word}
use Rattle.expression.specs.Writing.{spell, spell_part, wrap, is_or}
use Rattle.expression.specs.Annex.{Simple, ExceptionId, Ends, Begins, Rank, ors, Reads, plussed, blanks, excepted}
use Rattle.expression.proofs.WordLaws.{id_not}
use Rattle.expression.proofs.PartLaws.{Strange, shuts, shuts_strange, part-last, ends_last, part-plain, part-exc}
use Rattle.expression_spelling.proofs.EndLaws.{first, last, first_of, last-of, some, plussed-some, part-first, begins_first, longer, clash}

-- ---- an end at which an operator may stand
unfoldable opens : ℕ → Bool
opens x = eqb x 32 || eqb x 40

opens_strange : Strange opens
unfolding opens id_byte within
opens_strange = record { no-id = λ x e. rw (id_not x 32 refl e, id_not x 40 refl e); no_plus = refl }

-- ---- what is left over, of six for each byte read and five for each byte written: by whether an OR is written bare, the text opens, and it shuts
slack : Bool → Bool → Bool → ℕ
slack bare true true = 8
slack bare true false = 7
slack bare false true = 7
slack bare false false = cond bare 6 1

-- blanks and parentheses that are read add to it, an operator takes of it what its sides have for their ends
record Slack (f b : Bool) : Type 0 where
  most : slack false f b ≤ 8
  bare : slack true f b ≤ slack false f b + 5
  front : slack false f b ≤ slack false false b + 6
  back : slack false f b ≤ slack false f false + 6
  at-and : slack false f b + 7 ≤ slack false f true + slack false true b
  at-or : (x y : Bool) → slack true f b + 8 ≤ slack x f true + slack y true b

slacks : (f b : Bool) → Slack f b
unfolding slack
slacks true true = omega arith
slacks true false = omega arith
slacks false true = omega arith
slacks false false = omega arith

-- m bytes are written for s
unfoldable Left : Bool → ℕ → List ℕ → Type 0
Left bare m s = (f b : Bool) → (f ≡ true → first opens s ≡ true) → (b ≡ true → last shuts s ≡ true) → 5 * m + slack bare f b ≤ 6 * length s

-- ---- parts
simple-left : {w : List ℕ} {plus : Bool} → Simple w plus → Left false (length (spell_part (part w plus []))) (plussed w plus)
unfolding Left slack
simple-left {w = w} {plus = plus} h = go
  where
    go : (f b : Bool) → (f ≡ true → first opens (plussed w plus) ≡ true) → (b ≡ true → last shuts (plussed w plus) ≡ true)
        → 5 * length (spell_part (part w plus [])) + slack false f b ≤ 6 * length (plussed w plus)
    go true b hf hb = absurd (clash (hf refl) (part-first opens opens_strange h))
    go false true hf hb = absurd (clash (hb refl) (part-last shuts shuts_strange h 0))
    go false false hf hb = rw (part-plain w plus) (omega (arith, plussed-some h))

exc-length : (w x : List ℕ) (plus : Bool) (a b : ℕ)
    → length (excepted w plus a b x) ≡ length (plussed w plus) + (length x + (a + b + 6))
unfolding excepted blanks
exc-length w x plus a b = simp (length-append, length-replicate) (omega arith)

exc-left : {w x : List ℕ} {plus : Bool} (a b : ℕ) → Simple w plus → ExceptionId x → Left false (length (spell_part (part w plus x))) (excepted w plus a b x)
unfolding Left
exc-left {w} {x} {plus} a b h k f e hf he =
    rw (part-exc w plus x k.string.some, exc-length w x plus 0 0, exc-length w x plus a b)
    (omega (arith, (slacks f e).most, plussed-some h, k.string.some))

-- ---- groups
group-left : (o : Bool) (m s : List ℕ) → Left o (length m) s → Left false (length (wrap o m)) (40 ∷ (s ++ 41 ∷ []))
unfolding Left wrap slack
group-left true m s h f b hf hb =
    let long : length (m ++ 41 ∷ []) ≡ length m + 1 = length-append m (41 ∷ []) in
    let read : length (s ++ 41 ∷ []) ≡ length s + 1 = length-append s (41 ∷ []) in
    let left = h false false (λ e. absurd (clash e refl)) (λ e. absurd (clash e refl)) in
    omega (arith, (slacks f b).most)
group-left false m s h f b hf hb =
    let read : length (s ++ 41 ∷ []) ≡ length s + 1 = length-append s (41 ∷ []) in
    let left = h false false (λ e. absurd (clash e refl)) (λ e. absurd (clash e refl)) in
    omega (arith, (slacks f b).most)

bare-left : (o : Bool) (m s : List ℕ) → Left false (length (wrap o m)) s → Left o (length m) s
unfolding Left wrap
bare-left true m s h f b hf hb =
    let long : length (m ++ 41 ∷ []) ≡ length m + 1 = length-append m (41 ∷ []) in
    let left = h f b hf hb in
    omega (arith, (slacks f b).bare)
bare-left false m s h f b hf hb = h f b hf hb

-- ---- blanks and chains
before-left : (m : ℕ) (s : List ℕ) → 0 < length s → Left false m s → Left false m (32 ∷ s)
unfolding Left
before-left m s l h f b hf hb =
    let left = h false b (λ e. absurd (clash e refl)) (λ e. sym (last-of shuts (32 ∷ []) s l) ∙ hb e) in
    omega (arith, (slacks f b).front)

behind-left : (m : ℕ) (s : List ℕ) → 0 < length s → Left false m s → Left false m (s ++ 32 ∷ [])
unfolding Left
behind-left m s l h f b hf hb =
    let read : length (s ++ 32 ∷ []) ≡ length s + 1 = length-append s (32 ∷ []) in
    let left = h f false (λ e. sym (first_of opens s (32 ∷ []) l) ∙ hf e) (λ e. absurd (clash e refl)) in
    omega (arith, (slacks f b).back)

-- what stands on both sides of an operator o
sides : (x y f b : Bool) (m n : ℕ) (s o u : List ℕ) → 0 < length s → 0 < length u → Ends s → Begins u → Left x m s → Left y n u
    → (f ≡ true → first opens (s ++ (o ++ u)) ≡ true) → (b ≡ true → last shuts (s ++ (o ++ u)) ≡ true)
    → 5 * m + 5 * n + slack x f true + slack y true b + 6 * length o ≤ 6 * length (s ++ (o ++ u))
unfolding Left opens
sides x y f b m n s o u l k e i h g hf hb =
    let left = h f true (λ t. sym (first_of opens s (o ++ u) l) ∙ hf t) (λ t. ends_last e 0) in
    let right = g true b (λ t. begins_first opens refl refl i) (λ t. sym (last-of shuts o u k) ∙ sym (last-of shuts s (o ++ u) (longer o u k)) ∙ hb t) in
    let all : length (s ++ (o ++ u)) ≡ length s + length (o ++ u) = length-append s (o ++ u) in
    let rest : length (o ++ u) ≡ length o + length u = length-append o u in
    omega arith

and_left : (v w s u : List ℕ) → 0 < length s → 0 < length u → Ends s → Begins u → Left false (length v) s → Left false (length w) u
    → Left false (length (v ++ 32 ∷ 65 ∷ 78 ∷ 68 ∷ 32 ∷ w)) (s ++ (and_word ++ u))
unfolding Left
and_left v w s u l k e i h g f b hf hb =
    let long : length (v ++ 32 ∷ 65 ∷ 78 ∷ 68 ∷ 32 ∷ w) ≡ length v + (length w + 5) = length-append v (32 ∷ 65 ∷ 78 ∷ 68 ∷ 32 ∷ w) ∙ omega arith in
    omega (arith, (slacks f b).at-and, sides false false f b (length v) (length w) s and_word u l k e i h g hf hb)

or_left : (x y : Bool) (v w s u : List ℕ) → 0 < length s → 0 < length u → Ends s → Begins u → Left x (length v) s → Left y (length w) u
    → Left true (length (v ++ 32 ∷ 79 ∷ 82 ∷ 32 ∷ w)) (s ++ (or_word ++ u))
unfolding Left
or_left x y v w s u l k e i h g f b hf hb =
    let long : length (v ++ 32 ∷ 79 ∷ 82 ∷ 32 ∷ w) ≡ length v + (length w + 4) = length-append v (32 ∷ 79 ∷ 82 ∷ 32 ∷ w) ∙ omega arith in
    omega (arith, (slacks f b).at-or x y, sides x y f b (length v) (length w) s or_word u l k e i h g hf hb)

-- ---- every rank
abbrev Short : Rank → List ℕ → Tree → Type 0
Short Rank.operand s t = Left false (length (wrap (is_or t) (spell t))) s
Short Rank.ands s t = Left false (length (wrap (is_or t) (spell t))) s
Short Rank.ors s t = Left (is_or t) (length (spell t)) s

short : {r : Rank} {d : ℕ} {s : List ℕ} {t : Tree} → Reads r d s t → Short r s t
unfolding wrap is_or spell
short (Reads.simple h) = simple-left h
short (Reads.with-exc a b h x) = exc-left a b h x
short (Reads.group {s = s} {t = t} h) = group-left (is_or t) (spell t) s (short h)
short (Reads.before {s = s} {t = t} h) = before-left (length (wrap (is_or t) (spell t))) s (some h) (short h)
short (Reads.behind {s = s} {t = t} h) = behind-left (length (wrap (is_or t) (spell t))) s (some h) (short h)
short (Reads.one-and h) = short h
short (Reads.more-and {s = s} {u = u} {a = a} {t = t} h e k b) =
    and_left (wrap (is_or a) (spell a)) (wrap (is_or t) (spell t)) s u (some h) (some k) e b (short h) (short k)
short (Reads.one-or {s = s} {t = t} h) = bare-left (is_or t) (spell t) s (short h)
short (Reads.more-or {s = s} {u = u} {a = a} {t = t} h e k b) =
    or_left (is_or a) (is_or t) (spell a) (spell t) s u (some h) (some k) e b (short h) (bare-left (is_or t) (spell t) u (short k))

pub spell-short : {d : ℕ} {s : List ℕ} {t : Tree} → Reads ors d s t → 5 * length (spell t) ≤ 6 * length s
unfolding Left
spell-short h = let left = short h false false (λ e. absurd (clash e refl)) (λ e. absurd (clash e refl)) in omega arith

-- so a text of n bytes is written in n + n / 5
pub spell_fits : {d : ℕ} {s : List ℕ} {t : Tree} → Reads ors d s t → length (spell t) ≤ length s + length s / 5
spell_fits h = omega (arith, spell-short h)
