-- What `put_body` writes for the table of a text is a table body in shape (`body-shaped`), and a sound one where its words are those of a table
-- (`body-sound`); reading it back gives the table (`body_again`).
-- Assumes nothing.
use mathlib.Core.Path.{◌≡◌, refl, sym, ap, ap₂, subst, ◌∙◌}
use mathlib.Core.Bool.{Bool, true, false, ◌&&◌, ◌||◌, false≢true}
use mathlib.Core.List.{List, [], ◌∷◌, ◌++◌, append_assoc, append-nil}
use mathlib.Core.Option.{some}
use Prim.Native.Nat.{ℕ, ◌+◌, ◌/◌, ◌%◌, ◌^◌, ◌≤◌, ◌<◌, Ordering}
use native.Mathlib.Nat.{not-suc-le-zero}
use native.Mathlib.Omega.{arith}
use lib.Dec.{eqb, ltb}
use lib.ListN.{length, take, drop, length-append}
use lib.Seq.{drop_at, take_at, drop-drop}
use borrow.Author.Tests.{eq-eqb, ne_eqb, le-leb, lt-ltb, eqb-true}
use Rattle.rules.specs.Sizes.{total_most}
use Rattle.rules.specs.Bytes.{within, among, lower, digit, every, rises, order, split}
use Rattle.rules.specs.Points.{taken, points, encoded}
use Rattle.rules.specs.Prefix.{Counted}
use Rattle.rules.specs.Table.{Table, pairs, bigrams, tally, tallied, table_of}
use Rattle.rules.specs.Book.{number, written, Piece, whole, front, also, go_on, pieces, entry_form, entry_of, entries_of, sum, term, two_terms, all_terms, sound_entries, shaped, sound_table, table_in, entries_out, table_out, Above, Rising}
use Rattle.rules.proofs.BoolLaws.{and_left, and_right, and_both}
use Rattle.rules.proofs.DownLaws.{Each}
use Rattle.rules.proofs.PointLaws.{encoded-points, taken-utf8}
use Rattle.rules.proofs.TermLaws.{TableWords}
use Rattle.rules.proofs.Steps.{pieces_step}
use Rattle.rules.proofs.TableLaws.{tallied-rising, tallied-sum}
use Rattle.records.proofs.NumberLaws.{length-written, number_again}
use Rattle.records.proofs.FrontLaws.{number-take, front-end, front-whole}
use Rattle.ngram_body.specs.Bodies.{entry_out}
use Rattle.ngram_table.proofs.BigramLaws.{Free, split-word, bigrams-short}
use Rattle.ngram_body.proofs.BodyLaws.{length-entry}

-- ---- entries read back
-- the count and the length fit four bytes
abbrev pub FitsFour : Counted → Type 0
FitsFour e = (e.count < 256 ^ 4) × (length e.bytes < 256 ^ 4)

module _ (e : Counted) (rest : List ℕ) (f : FitsFour e) where
  abbrev c : List ℕ
  c = written 4 e.count

  abbrev l : List ℕ
  l = written 4 (length e.bytes)

  abbrev s : List ℕ
  s = entry_out e ++ rest

  apart : s ≡ c ++ (l ++ (e.bytes ++ rest))
  unfolding entry_out
  apart = append_assoc (c ++ l) e.bytes rest ∙ append_assoc c l (e.bytes ++ rest)

  past-count : drop 4 s ≡ l ++ (e.bytes ++ rest)
  past-count = ap (drop 4) apart ∙ drop_at c (l ++ (e.bytes ++ rest)) 4 (length-written 4 e.count)

  past_head : drop 8 s ≡ e.bytes ++ rest
  past_head =
      sym (drop-drop 4 4 s) ∙ ap (drop 4) past-count ∙ drop_at l (e.bytes ++ rest) 4 (length-written 4 (length e.bytes))

  the_count : number 4 s ≡ e.count
  the_count = ap (number 4) apart ∙ number_again 4 e.count (l ++ (e.bytes ++ rest)) f.0

  the_length : number 4 (drop 4 s) ≡ length e.bytes
  the_length = ap (number 4) past-count ∙ number_again 4 (length e.bytes) (e.bytes ++ rest) f.1

  long : length s ≡ 8 + length e.bytes + length rest
  long = omega (arith, length-append (entry_out e) rest, length-entry e)

  abbrev cut : Piece
  cut = record { head = take 8 s; body = take (number 4 (drop 4 s)) (drop 8 s) }

  the_entry : entry_of cut ≡ e
  unfolding entry_of
  the_entry =
      let b : take (number 4 (drop 4 s)) (drop 8 s) ≡ e.bytes = rw (the_length, past_head) (take_at e.bytes rest (length e.bytes) refl) in
      let n : number 4 (take 8 s) ≡ e.count = number-take 4 8 s (omega arith) ∙ the_count in
      λ i. record { bytes = b i; count = n i }

  the_rest : drop (8 + number 4 (drop 4 s)) s ≡ rest
  the_rest =
      sym (drop-drop (number 4 (drop 4 s)) 8 s) ∙ rw (the_length, past_head) (drop_at e.bytes rest (length e.bytes) refl)

  pub pieces-entry : pieces entry_form entry_of s ≡ also e (pieces entry_form entry_of rest)
  unfolding go_on
  pieces-entry =
      let q : front entry_form s ≡ whole cut (drop (8 + number 4 (drop 4 s)) s) =
      front-whole entry_form s 0 (omega (arith, long)) (omega (arith, long, the_length)) in
      pieces_step entry_form entry_of (omega arith) s
      ∙ ap (go_on entry_of (pieces entry_form entry_of)) q
      ∙ ap₂ (λ (x : Counted) (t : List ℕ). also x (pieces entry_form entry_of t)) the_entry the_rest

pub pieces_again : (es : List Counted) → Each FitsFour es → pieces entry_form entry_of (entries_out es) ≡ some es
unfolding entries_out entry_out go_on also
pieces_again [] f =
    pieces_step entry_form entry_of (omega arith) [] ∙ ap (go_on entry_of (pieces entry_form entry_of)) (front-end entry_form [] 0 (omega arith))
pieces_again (e ∷ es) f = pieces-entry e (entries_out es) f.0 ∙ ap (also e) (pieces_again es f.1)

-- ---- the body read back
module _ (t : Table) (f : Each FitsFour t.entries) (h : t.total < 256 ^ 4) (d : length t.entries < 256 ^ 4) where
  abbrev out : List ℕ
  out = table_out t

  out-apart : out ≡ written 4 t.total ++ (written 4 (length t.entries) ++ entries_out t.entries)
  unfolding table_out
  out-apart = append_assoc (written 4 t.total) (written 4 (length t.entries)) (entries_out t.entries)

  pub out-total : number 4 out ≡ t.total
  out-total = ap (number 4) out-apart ∙ number_again 4 t.total (written 4 (length t.entries) ++ entries_out t.entries) h

  out_four : drop 4 out ≡ written 4 (length t.entries) ++ entries_out t.entries
  out_four = ap (drop 4) out-apart ∙ drop_at (written 4 t.total) (written 4 (length t.entries) ++ entries_out t.entries) 4 (length-written 4 t.total)

  out_distinct : number 4 (drop 4 out) ≡ length t.entries
  out_distinct = ap (number 4) out_four ∙ number_again 4 (length t.entries) (entries_out t.entries) d

  pub out-entries : entries_of out ≡ some t.entries
  unfolding entries_of
  out-entries =
      let e : drop 8 out ≡ entries_out t.entries =
      sym (drop-drop 4 4 out) ∙ ap (drop 4) out_four ∙ drop_at (written 4 (length t.entries)) (entries_out t.entries) 4 (length-written 4 (length t.entries)) in
      ap (pieces entry_form entry_of) e ∙ pieces_again t.entries f

  out-size : 8 ≤ length out
  out-size =
      omega (
        arith,
        ap length out-apart,
        length-append (written 4 t.total) (written 4 (length t.entries) ++ entries_out t.entries),
        length-append (written 4 (length t.entries)) (entries_out t.entries),
        length-written 4 t.total,
        length-written 4 (length t.entries),
      )

  pub table_again : table_in out (entries_of out) ≡ t
  unfolding table_in
  table_again = rw out-entries (λ i. record { total = out-total i; entries = t.entries })

  pub out-shaped : t.total ≡ sum t.entries → t.total ≤ total_most → sound_entries [] t.entries ≡ true → shaped out (entries_of out) ≡ true
  unfolding shaped
  out-shaped n m q =
      rw (out-entries, le-leb 8 (length out) out-size, eq-eqb (number 4 out) (sum t.entries) (out-total ∙ n), eq-eqb (number 4 (drop 4 out)) (length t.entries) out_distinct, q)
      (le-leb (sum t.entries) total_most (omega arith))

  pub out-sound : (w : Bool) → shaped out (entries_of out) ≡ true → all_terms w t.entries ≡ true → sound_table w out (entries_of out) ≡ true
  unfolding sound_table
  out-sound w k q =
      let h : shaped out (some t.entries) ≡ true = ap (shaped out) (sym out-entries) ∙ k in
      rw (out-entries, h, q)

-- ---- two terms each
abbrev pub Two : Bool → List ℕ → Type 0
Two w g = two_terms w (split 32 g) ≡ true

entries-sound : (last : List ℕ) (es : List Counted) → Above last es → Rising es → sound_entries last es ≡ true
unfolding sound_entries
entries-sound last [] a r = refl
entries-sound last (e ∷ es) a r = rw (lt-ltb 0 e.count r.0, a) (entries-sound e.bytes es r.1 r.2)

entries_terms : (w : Bool) (es : List Counted) → Each (λ (e : Counted). Two w e.bytes) es → all_terms w es ≡ true
unfolding all_terms
entries_terms w [] t = refl
entries_terms w (e ∷ es) t = rw t.0 (entries_terms w es t.1)

-- what is not empty stands above what is
some_above : (g : List ℕ) → 0 < length g → rises [] g ≡ true
unfolding rises order
some_above [] t = absurd (not-suc-le-zero t)
some_above (x ∷ g) t = refl

above_none : (es : List Counted) → Each (λ (e : Counted). 0 < length e.bytes) es → Above [] es
above_none [] t = tt
above_none (e ∷ es) t = some_above e.bytes t.0

-- a bigram has a space
pairs-some : (ws : List (List ℕ)) → Each (λ (g : List ℕ). 0 < length g) (pairs ws)
unfolding pairs
pairs-some [] = tt
pairs-some (a ∷ []) = tt
pairs-some (a ∷ b ∷ ws) = (omega (arith, length-append a (32 ∷ b)), pairs-some (b ∷ ws))

bigrams-some : (s : List ℕ) → Each (λ (g : List ℕ). 0 < length g) (bigrams s)
unfolding bigrams
bigrams-some s = pairs-some (split 32 s)

-- ---- what holds of each bigram holds of each entry
module _ (P : List ℕ → Type 0) where
  tally-each : (g : List ℕ) (es : List Counted) → P g → Each (λ (e : Counted). P e.bytes) es → Each (λ (e : Counted). P e.bytes) (tally g es)
  unfolding tally
  tally-each g [] p q = (p, tt)
  tally-each g (e ∷ es) p q = go (order g e.bytes) (tally-each g es p q.1)
    where
      go : (o : Ordering) → Each (λ (e : Counted). P e.bytes) (tally g es) →
          Each (λ (e : Counted). P e.bytes)
          (elim o [
            | Ordering.lt ↦ record { bytes = g; count = 1 } ∷ e ∷ es
            | Ordering.eq ↦ record { bytes = g; count = e.count + 1 } ∷ es
            | Ordering.gt ↦ e ∷ tally g es
          ])
      go Ordering.lt more = (p, q)
      go Ordering.eq more = (p, q.1)
      go Ordering.gt more = (q.0, more)

  tallied-each : (gs : List (List ℕ)) → Each P gs → Each (λ (e : Counted). P e.bytes) (tallied gs)
  unfolding tallied
  tallied-each [] q = tt
  tallied-each (g ∷ gs) q = tally-each g (tallied gs) q.0 (tallied-each gs q.1)

entries_fit : (es : List Counted) → sum es < 256 ^ 4 → Each (λ (e : Counted). length e.bytes < 256 ^ 4) es → Each FitsFour es
unfolding sum
entries_fit [] h q = tt
entries_fit (e ∷ es) h q = ((omega arith, q.0), entries_fit es (omega arith) q.1)

entries-few : (es : List Counted) → Rising es → length es ≤ sum es
unfolding sum
entries-few [] r = omega arith
entries-few (e ∷ es) r = let h = r.0 in omega (arith, entries-few es r.2)

-- ---- words
space-no : lower 32 || digit 32 || eqb 32 95 ≡ false
unfolding lower digit within among
space-no = refl

-- of code points that are no space, the UTF-8 holds none
encoded-free : (p : List ℕ) → every (λ x. lower x || digit x || eqb x 95) p ≡ true → Free (encoded p)
unfolding every encoded
encoded-free [] h = tt
encoded-free (x ∷ p) h = at (ltb x 128) refl (and_left (lower x || digit x || eqb x 95) (every (λ x. lower x || digit x || eqb x 95) p) h) (encoded-free p (and_right (lower x || digit x || eqb x 95) (every (λ x. lower x || digit x || eqb x 95) p) h))
  where
    no-space : (t : Bool) → eqb x 32 ≡ t → lower x || digit x || eqb x 95 ≡ true → eqb x 32 ≡ false
    no-space true e q =
        let z : lower 32 || digit 32 || eqb 32 95 ≡ true = rw (eqb-true x 32 e) at q in
        absurd (false≢true (sym space-no ∙ z))
    no-space false e q = e

    at : (t : Bool) → ltb x 128 ≡ t → lower x || digit x || eqb x 95 ≡ true → Free (encoded p) → Free (encoded (x ∷ p))
    at true q k more = rw q (no-space (eqb x 32) refl k, more)
    at false q k more = rw q (ne_eqb (192 + x / 64) 32 (λ e. omega arith), (ne_eqb (128 + x % 64) 32 (λ e. omega arith), more))

term-free : (w : Bool) (s : List ℕ) → term w s ≡ true → Free s
unfolding term
term-free w s h =
    let rest = and_right (ltb 0 (length s)) (taken w s && every (λ x. lower x || digit x || eqb x 95) (points s)) h in
    let u = taken-utf8 w s (and_left (taken w s) (every (λ x. lower x || digit x || eqb x 95) (points s)) rest) in
    subst Free (encoded-points s u) (encoded-free (points s) (and_right (taken w s) (every (λ x. lower x || digit x || eqb x 95) (points s)) rest))

split_one : (w : List ℕ) → Free w → split 32 w ≡ w ∷ []
split_one w f = rw append-nil at (split-word w [] [] [] f (unfold split in refl))

split_two : (a b : List ℕ) → Free a → Free b → split 32 (a ++ 32 ∷ b) ≡ a ∷ b ∷ []
split_two a b f g =
    let e : split 32 (32 ∷ b) ≡ [] ∷ b ∷ [] = unfold split in ap (λ (ws : List (List ℕ)). [] ∷ ws) (split_one b g) in
    split-word a (32 ∷ b) [] (b ∷ []) f e ∙ rw append-nil

pairs_two : (w : Bool) (ws : List (List ℕ)) → Each (λ (s : List ℕ). term w s ≡ true) ws → Each (Two w) (pairs ws)
unfolding pairs
pairs_two w [] t = tt
pairs_two w (a ∷ []) t = tt
pairs_two w (a ∷ b ∷ ws) t = (two, pairs_two w (b ∷ ws) t.1)
  where
    two : Two w (a ++ 32 ∷ b)
    two = rw (split_two a b (term-free w a t.0) (term-free w b t.1.0)) (unfold two_terms in and_both (term w a) (term w b) t.0 t.1.0)

bigrams_two : (w : Bool) (s : List ℕ) → TableWords w s → Each (Two w) (bigrams s)
unfolding bigrams split pairs
bigrams_two w [] t = tt
bigrams_two w (x ∷ s) t = pairs_two w (split 32 (x ∷ s)) t

-- ---- the table of a processed text
module _ (s : List ℕ) (h : length s < 256 ^ 4) (n : length (bigrams s) ≤ total_most) where
  rising : Rising (tallied (bigrams s))
  rising = tallied-rising (bigrams s)

  summed : sum (tallied (bigrams s)) ≡ length (bigrams s)
  summed = tallied-sum (bigrams s)

  fit : Each FitsFour (tallied (bigrams s))
  fit =
      entries_fit (tallied (bigrams s)) (omega (arith, summed))
      (tallied-each (λ g. length g < 256 ^ 4) (bigrams s) (bigrams-short s (256 ^ 4) h))

  pub body_again : table_in (table_out (table_of (bigrams s))) (entries_of (table_out (table_of (bigrams s)))) ≡ table_of (bigrams s)
  unfolding table_of
  body_again = table_again (table_of (bigrams s)) fit (omega arith) (omega (arith, entries-few (tallied (bigrams s)) rising, summed))

  pub body-shaped : shaped (table_out (table_of (bigrams s))) (entries_of (table_out (table_of (bigrams s)))) ≡ true
  unfolding table_of
  body-shaped =
      let some = tallied-each (λ g. 0 < length g) (bigrams s) (bigrams-some s) in
      out-shaped (table_of (bigrams s)) fit (omega arith) (omega (arith, entries-few (tallied (bigrams s)) rising, summed)) (sym summed) n
      (entries-sound [] (tallied (bigrams s)) (above_none (tallied (bigrams s)) some) rising)

  pub body-sound : (w : Bool) → TableWords w s → sound_table w (table_out (table_of (bigrams s))) (entries_of (table_out (table_of (bigrams s)))) ≡ true
  unfolding table_of
  body-sound w t =
      out-sound (table_of (bigrams s)) fit (omega arith) (omega (arith, entries-few (tallied (bigrams s)) rising, summed)) w body-shaped
      (entries_terms w (tallied (bigrams s)) (tallied-each (Two w) (bigrams s) (bigrams_two w s t)))
