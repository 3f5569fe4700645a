-- What the functions that read a part answer, from the tests that led there.
-- Assumes nothing.
use mathlib.Core.Path.{◌≡◌, refl, sym, ap, ◌∙◌}
use Prim.Native.Nat.{ℕ, ◌+◌, ◌≤◌, ◌<◌}
use mathlib.Core.Bool.{Bool, true, false}
use mathlib.Core.List.{List, [], ◌∷◌}
use native.Mathlib.Nat.{le_refl}
use native.Mathlib.Omega.{arith}
use lib.Dec.{eqb}
use lib.ListN.{length, drop, take, length-drop}
use lib.Seq.{drop-drop}
use Rattle.rules.specs.Bytes.{lead}
use Rattle.expression.specs.Reading.{id_byte, Tree, leaf, Level, Ctl, to, Verdict, refused, next, stop, run, at_done, at_ended}
use Rattle.expression_bytes.specs.Front.{head_is, spelt, ending}
use Rattle.expression_bytes.proofs.FrontLaws.{drop-one, head-within, head-none, spelt-most, blanks-high, blanks-stop}
use Rattle.expression_bytes.proofs.StateLaws as state
use Rattle.expression_parts.specs.declared.parts.PartAt.{PartAt}
use Rattle.std.specs.Prelude.{Result, Ok, Err}
use Rattle.expression_parts.specs.declared.parts.Bad.{Bad}
use Rattle.expression_parts.specs.Parts.{part_of, Inside, Reads, reads, stuck, Goes, Behind, goes, halts}
use Rattle.expression_parts.proofs.RunLaws.{exc-starts, exc-more}

-- ---- a run over the rest of a text
module _ (text : List ℕ) (at : ℕ) (c : Ctl) (l : Level) (fs : List Level) where
  pub one_on : run (drop 1 (drop at text)) c l fs (at + 1) ≡ run (drop (at + 1) text) c l fs (at + 1)
  one_on = ap (λ (t : List ℕ). run t c l fs (at + 1)) (drop-one at text)

  pub some-on : (k : ℕ) → run (drop k (drop at text)) c l fs (at + k) ≡ run (drop (at + k) text) c l fs (at + k)
  some-on k = ap (λ (t : List ℕ). run t c l fs (at + k)) (drop-drop k at text)

  pub over-blanks : next c l fs 32 ≡ to c l fs → (r : ℕ) → r ≡ at + lead (eqb 32) (drop at text) → run (drop r text) c l fs r ≡ run (drop at text) c l fs at
  over-blanks h r e = rw e (sym (state.blank-run c l fs h (drop at text) at ∙ some-on (lead (eqb 32) (drop at text))))

-- ---- behind an operand
module _ (text : List ℕ) (from : ℕ) where
  pub behind-end : from ≤ length text → length text ≤ from → Behind text from (Ok from)
  behind-end lo h =
      goes record {
        same = λ t l fs. state.ended-end t (drop from text) l fs from (omega (arith, length-drop from text));
        low = le_refl from;
        high = lo;
        stop = head-none text from 32 h;
      }

  pub behind-blank : (n : ℕ) → head_is 32 (drop from text) ≡ true → n ≡ from + 1 + lead (eqb 32) (drop (from + 1) text) → Behind text from (Ok n)
  unfolding next at_done at_ended
  behind-blank n h e =
      let k = head-within text from 32 h in
      goes {n = n} record {
        same = λ t l fs. over-blanks text (from + 1) (Ctl.done t) l fs refl n e ∙ sym (state.ended-blank t (drop from text) l fs from h ∙ one_on text from (Ctl.done t) l fs);
        low = omega (arith, e);
        high = blanks-high text (from + 1) n (omega arith) e;
        stop = blanks-stop text (from + 1) n e;
      }

  pub behind_close : head_is 32 (drop from text) ≡ false → head_is 41 (drop from text) ≡ true → Behind text from (Ok from)
  behind_close f h =
      goes record {
        same = λ t l fs. state.ended_close t (drop from text) l fs from h;
        low = le_refl from;
        high = (let k = head-within text from 41 h in omega arith);
        stop = f;
      }

  pub behind_bad : from < length text → head_is 32 (drop from text) ≡ false → head_is 41 (drop from text) ≡ false → Behind text from (Err (record { place = from }))
  behind_bad k f h = halts (λ t l fs. sym (state.ended_stuck t (drop from text) l fs from (omega (arith, length-drop from text)) f h))

  goes_of : {n : ℕ} → Behind text from (Ok n) → Goes text from n
  goes_of (goes g) = g

  halts-of : {b : Bad} → Behind text from (Err b) → (t : Tree) (l : Level) (fs : List Level) → refused 13 b.place ≡ ending t (drop from text) l fs from
  halts-of (halts h) = h

  -- of an answer that is known to be the one or the other
  pub went : {r : Result ℕ Bad} {n : ℕ} → r ≡ Ok n → Behind text from r → Goes text from n
  went e b = goes_of (rw e at b)

  pub halted : {r : Result ℕ Bad} {b : Bad} → r ≡ Err b → Behind text from r → (t : Tree) (l : Level) (fs : List Level) → refused 13 b.place ≡ ending t (drop from text) l fs from
  halted e b = halts-of (rw e at b)

-- ---- an exception, from WITH's I
module _ (text w : List ℕ) (t : Bool) (from : ℕ) (l : Level) (fs : List Level) where
  pub ith_bad : (k : ℕ) → k ≡ spelt (73 ∷ 84 ∷ 72 ∷ []) (drop from text) → k < 3 → run (drop from text) (Ctl.withs w t (73 ∷ 84 ∷ 72 ∷ [])) l fs from ≡ refused 13 (from + k)
  unfolding next stop
  ith_bad k e h = rw e (state.short_letters (λ r ws. Ctl.withs w t ws) (λ r a ws l' fs' x. refl) (λ r a ws l' fs' p. refl) (73 ∷ 84 ∷ 72 ∷ []) (drop from text) [] l fs from (omega (arith, e)))

  pub ith : (k : ℕ) → k ≡ spelt (73 ∷ 84 ∷ 72 ∷ []) (drop from text) → 3 ≤ k → run (drop from text) (Ctl.withs w t (73 ∷ 84 ∷ 72 ∷ [])) l fs from ≡ run (drop (from + 3) text) (Ctl.withs w t []) l fs (from + 3)
  unfolding next
  ith k e h = state.all_letters (λ r ws. Ctl.withs w t ws) (λ r a ws l' fs' x. refl) (73 ∷ 84 ∷ 72 ∷ []) (drop from text) [] l fs from (omega (arith, e, spelt-most (73 ∷ 84 ∷ 72 ∷ []) (drop from text))) ∙ some-on text from (Ctl.withs w t []) l fs 3

  pub with-on : (x : ℕ) → head_is 32 (drop from text) ≡ true → x ≡ from + 1 + lead (eqb 32) (drop (from + 1) text) → run (drop from text) (Ctl.withs w t []) l fs from ≡ run (drop x text) (Ctl.exc_due w t) l fs x
  unfolding next
  with-on x h e = state.with-blank (drop from text) w t l fs from h ∙ one_on text from (Ctl.exc_due w t) l fs ∙ sym (over-blanks text (from + 1) (Ctl.exc_due w t) l fs refl x e)

  due-at : (x n : ℕ) → n ≡ lead id_byte (drop x text) → 0 < n → run (drop x text) (Ctl.exc_due w t) l fs x ≡ run (drop (x + n) text) (Ctl.exc w t (take n (drop x text))) l fs (x + n)
  due-at x n e k = rw e (state.ids_begin (Ctl.exc_due w t) (Ctl.exc w t) (exc-starts w t) (exc-more w t) (drop x text) l fs x (omega (arith, e, k)) ∙ some-on text x (Ctl.exc w t (take (lead id_byte (drop x text)) (drop x text))) l fs (lead id_byte (drop x text)))

  pub spaced-over : (r : ℕ) → r ≡ from + lead (eqb 32) (drop from text) → run (drop r text) (Ctl.spaced w t) l fs r ≡ run (drop from text) (Ctl.spaced w t) l fs from
  unfolding next
  spaced-over r e = over-blanks text from (Ctl.spaced w t) l fs refl r e

  -- an exception of n bytes that is no word
  pub exc-on : (x n : ℕ) → head_is 32 (drop from text) ≡ true → x ≡ from + 1 + lead (eqb 32) (drop (from + 1) text) → n ≡ lead id_byte (drop x text) → 0 < n → run (drop from text) (Ctl.withs w t []) l fs from ≡ run (drop (x + n) text) (Ctl.exc w t (take n (drop x text))) l fs (x + n)
  exc-on x n h e f k = with-on x h e ∙ due-at x n f k

-- ---- a part that is read
module _ (text : List ℕ) (start : Level → List Level → Verdict) (p : PartAt) (from : ℕ) where
  pub part-reads : ((l : Level) (fs : List Level) → run (drop p.next text) (Ctl.done (leaf (part_of text p))) l fs p.next ≡ start l fs) → Inside text from p → Reads text from start (Ok p)
  part-reads e i = reads {p = p} e i

  -- behind its last byte
  pub part-goes : (least : ℕ) → least ≤ from → p.name.at + p.name.len ≤ length text → p.exception.at + p.exception.len ≤ length text → ((l : Level) (fs : List Level) → ending (leaf (part_of text p)) (drop from text) l fs from ≡ start l fs) → Goes text from p.next → Reads text least start (Ok p)
  part-goes least k a b e g =
      reads {p = p} (λ l fs. g.same (leaf (part_of text p)) l fs ∙ e l fs)
      record { name = a; exc = b; low = (let h = g.low in omega arith); high = g.high; stop = g.stop }

-- ---- a verdict kept is kept from an earlier place too
pub read_back : {text : List ℕ} {m n : ℕ} {v u : Level → List Level → Verdict} {r : Result PartAt Bad} → m ≤ n → ((l : Level) (fs : List Level) → v l fs ≡ u l fs) → Reads text n v r → Reads text m u r
read_back h e (reads {p = p} f i) = reads {p = p} (λ l fs. f l fs ∙ e l fs) record { name = i.name; exc = i.exc; low = (let k = i.low in omega arith); high = i.high; stop = i.stop }
read_back h e (stuck f) = stuck (λ l fs. f l fs ∙ e l fs)
