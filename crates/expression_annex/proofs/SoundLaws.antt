-- A text that the grammar reads as a tree is accepted with that tree: `reads-told`. By induction over the derivation, for each rank what its text's
-- walk does from where it may begin; and so a text is read as one tree only, `reads-one`. One that it reads with any number of parentheses open is accepted,
-- or refused with 14: `reads-deep`.
-- Assumes nothing.
use mathlib.Core.Path.{◌≡◌, refl, sym, ap, ◌∙◌}
use Prim.Native.Nat.{ℕ, suc, ◌+◌}
use mathlib.Core.Bool.{Bool, true, false, false≢true}
use mathlib.Core.List.{List, [], ◌∷◌, ◌++◌, append_assoc, append-nil}
use mathlib.Core.Logic.{◌⊎◌, inl, inr}
use mathlib.Core.Option.{Option, none, some}
use native.Mathlib.Omega.{arith}
use borrow.Author.Tests.{ltb-false}
use lib.Dec.{eqb, ltb}
use lib.ListN.{length}
use Rattle.rules.specs.Bytes.{within}
use Rattle.expression.specs.Reading.{id_byte, is_word, and_word, or_word, with_word, license_ref, document_ref, Kind, kind_of, part, Tree, leaf, and, or}
use Rattle.expression.specs.Reading.{and_of, or_of, Level, fresh, whole, anded, ored, Ctl, depth_most, Move, to, opening, closing, at_ended, at_done, at_simple, leave}
use Rattle.expression.specs.Reading.{next, accepted, finish, of_kind, stop, verdict}
use Rattle.expression.specs.Annex.{Idstring, ExceptionId, LicenseRef, Simple, plussed, blanks, excepted, Ends, Begins, Rank, operand, ands, ors}
use Rattle.expression.specs.Annex.{Reads}
use Rattle.expression.proofs.PartLaws.{last_of, last-append, shuts, shuts_strange, part-last, exc-last, ends_last}
use Rattle.expression_annex.proofs.TextLaws.{front-id, kind-license, kind-reference, kind-document}
use Rattle.expression_annex.proofs.WalkLaws.{walk, walk-on, walk-run, Sinks, walk-deep, Comes, comes_on, comes_low, blanks-walk, colon-walk, name-walk, exc-walk, ref-walk}

-- ---- states behind a simple expression, with no blank yet
data Simply : List ℕ → Bool → Ctl → Type 0 where
  a_license : {w : List ℕ} → kind_of w ≡ Kind.license → Simply w false (Ctl.name w)
  a_reference : {w : List ℕ} → kind_of w ≡ Kind.reference → Simply w false (Ctl.name w)
  a_ref : {w : List ℕ} → Simply w false (Ctl.ref w)
  a_plus : {w : List ℕ} → Simply w true (Ctl.simple w true)

simply_at : {w : List ℕ} {plus : Bool} {c : Ctl} (l : Level) (fs : List Level) (b : ℕ) → Simply w plus c → id_byte b ≡ false → eqb b 43 ≡ false →
    next c l fs b ≡ at_simple w plus l fs b
unfolding next leave
simply_at l fs b (a_license k) h e = rw (h, k, e)
simply_at l fs b (a_reference k) h e = rw (h, k)
simply_at l fs b a_ref h e = rw h
simply_at l fs b a_plus h e = refl

-- ---- states behind an operand, and those of them from which AND and OR lead on
data Loose : Tree → Ctl → Type 0 where
  spaced : (w : List ℕ) (plus : Bool) → Loose (leaf (part w plus [])) (Ctl.spaced w plus)
  done : (t : Tree) → Loose t (Ctl.done t)

data After : Tree → Ctl → Type 0 where
  simply : {w : List ℕ} {plus : Bool} {c : Ctl} → Simply w plus c → After (leaf (part w plus [])) c
  exc : {w x : List ℕ} {plus : Bool} → is_word x ≡ false → After (leaf (part w plus x)) (Ctl.exc w plus x)
  loose : {t : Tree} {c : Ctl} → Loose t c → After t c

after_stop : {t : Tree} {c : Ctl} (l : Level) (fs : List Level) (p : ℕ) → After t c → stop c l fs p ≡ finish (whole l t) fs p
unfolding stop of_kind
after_stop l fs p (simply (a_license k)) = rw k
after_stop l fs p (simply (a_reference k)) = rw k
after_stop l fs p (simply a_ref) = refl
after_stop l fs p (simply a_plus) = refl
after_stop l fs p (exc e) = rw e
after_stop l fs p (loose (spaced w plus)) = refl
after_stop l fs p (loose (done t)) = refl

after_close : {t : Tree} {c : Ctl} (l : Level) (fs : List Level) → After t c → next c l fs 41 ≡ closing (whole l t) fs
unfolding next id_byte within at_done at_ended at_simple
after_close l fs (simply s) = simply_at l fs 41 s refl refl
after_close l fs (exc e) = rw e
after_close l fs (loose (spaced w plus)) = refl
after_close l fs (loose (done t)) = refl

record Blank (t : Tree) (c : Ctl) : Type 0 where
  state : Ctl
  free : Loose t state
  goes : (l : Level) (fs : List Level) → next c l fs 32 ≡ to state l fs

after-blank : {t : Tree} {c : Ctl} → After t c → Blank t c
unfolding next id_byte within at_done at_ended at_simple
after-blank (simply {w} {plus} s) = record { state = Ctl.spaced w plus; free = spaced w plus; goes = λ l fs. simply_at l fs 32 s refl refl }
after-blank {t} (exc e) = record { state = Ctl.done t; free = done t; goes = λ l fs. rw e }
after-blank (loose (spaced w plus)) = record { state = Ctl.spaced w plus; free = spaced w plus; goes = λ l fs. refl }
after-blank (loose (done t)) = record { state = Ctl.done t; free = done t; goes = λ l fs. refl }

and-walk : {t : Tree} {c : Ctl} (l : Level) (fs : List Level) → Loose t c → walk and_word (to c l fs) ≡ to (Ctl.word []) (anded l t) fs
unfolding next at_done
and-walk l fs (spaced w plus) = refl
and-walk l fs (done t) = refl

or-walk : {t : Tree} {c : Ctl} (l : Level) (fs : List Level) → Loose t c → walk or_word (to c l fs) ≡ to (Ctl.word []) (ored l t) fs
unfolding next at_done
or-walk l fs (spaced w plus) = refl
or-walk l fs (done t) = refl

-- behind AND and OR a blank or a parenthesis does what it does where an operand is due
begin_walk : {u : List ℕ} (l : Level) (fs : List Level) → Begins u → walk u (to (Ctl.word []) l fs) ≡ walk u (to Ctl.want l fs)
unfolding next
begin_walk l fs (Begins.blank s) = refl
begin_walk l fs (Begins.paren s) = refl

-- ---- simple expressions
record Simples (w : List ℕ) (plus : Bool) : Type 0 where
  state : Ctl
  simply : Simply w plus state
  goes : (l : Level) (fs : List Level) → walk (plussed w plus) (to Ctl.want l fs) ≡ to state l fs

-- one whose bytes are all of an identifier
simple-name : (w : List ℕ) → Idstring w → Simply w false (Ctl.name w) → Simples w false
unfolding plussed
simple-name w i s =
    record { state = Ctl.name w; simply = s; goes = λ l fs. rw (append-nil w) (name-walk w l fs i) }

document-walk : (v w : List ℕ) (l : Level) (fs : List Level) → Idstring v → Idstring w →
    walk (document_ref ++ (v ++ 58 ∷ (license_ref ++ w))) (to Ctl.want l fs) ≡ to (Ctl.ref (document_ref ++ (v ++ 58 ∷ (license_ref ++ w)))) l fs
unfolding next leave id_byte within
document-walk v w l fs i j =
    let colon : walk (58 ∷ []) (to (Ctl.name (document_ref ++ v)) l fs) ≡ to (Ctl.colon ((document_ref ++ v) ++ 58 ∷ []) license_ref) l fs =
    rw (kind-document v i) in
    let last = walk-on license_ref w (to (Ctl.colon ((document_ref ++ v) ++ 58 ∷ []) license_ref) l fs) _
    (colon-walk license_ref ((document_ref ++ v) ++ 58 ∷ []) l fs) (ref-walk (((document_ref ++ v) ++ 58 ∷ []) ++ license_ref) w l fs j) in
    let all = walk-on (document_ref ++ v) (58 ∷ (license_ref ++ w)) (to Ctl.want l fs) _ (name-walk (document_ref ++ v) l fs (front-id v i).1)
    (walk-on (58 ∷ []) (license_ref ++ w) (to (Ctl.name (document_ref ++ v)) l fs) _ colon last) in
    simp (append_assoc) at all

simples : {w : List ℕ} {plus : Bool} → Simple w plus → Simples w plus
unfolding plussed next leave id_byte within
simples {w} (Simple.id h) = simple-name w h.string (a_license (kind-license w h))
simples {w} (Simple.later h) = record {
  state = Ctl.simple w true;
  simply = a_plus;
  goes = λ l fs. walk-on w (43 ∷ []) (to Ctl.want l fs) _ (name-walk w l fs h.string) (rw (kind-license w h));
}
simples (Simple.ref (LicenseRef.here {w = w} i)) = simple-name (license_ref ++ w) (front-id w i).0 (a_reference (kind-reference w i))
simples (Simple.ref (LicenseRef.there {v = v} {w = w} i j)) =
    let u = document_ref ++ (v ++ 58 ∷ (license_ref ++ w)) in
    record {
      state = Ctl.ref u;
      simply = a_ref;
      goes = λ l fs. rw (append-nil u) (document-walk v w l fs i j);
    }

-- ---- what reading does, rank by rank
-- where the text s of an operand with the tree t leads; if s ends in a blank or a parenthesis, AND and OR lead on from there
record Lands (s : List ℕ) (t : Tree) : Type 0 where
  state : Ctl
  behind : After t state
  free : (z : ℕ) → shuts (last_of z s) ≡ true → Loose t state

level : Option Tree → Option Tree → Level
level x y = record { any = x; all = y }

record Operand (d : ℕ) (s : List ℕ) (t : Tree) : Type 0 where
  lands : Lands s t
  goes : (l : Level) (fs : List Level) → Comes (length fs + d) (walk s (to Ctl.want l fs)) (to lands.state l fs)

-- what AND joins begins where nothing stands since the last OR, and leaves all but its last operand there
record Ands (d : ℕ) (s : List ℕ) (t : Tree) : Type 0 where
  all : Option Tree
  last : Tree
  tree : and_of all last ≡ t
  lands : Lands s last
  goes : (x : Option Tree) (fs : List Level) → Comes (length fs + d) (walk s (to Ctl.want (level x none) fs)) (to lands.state (level x all) fs)

record Ors (d : ℕ) (s : List ℕ) (t : Tree) : Type 0 where
  any : Option Tree
  all : Option Tree
  last : Tree
  tree : or_of any (and_of all last) ≡ t
  lands : Lands s last
  goes : (fs : List Level) → Comes (length fs + d) (walk s (to Ctl.want fresh fs)) (to lands.state (level any all) fs)

abbrev Read : Rank → ℕ → List ℕ → Tree → Type 0
Read operand d s t = Operand d s t
Read ands d s t = Ands d s t
Read ors d s t = Ors d s t

read-simple : (d : ℕ) (w : List ℕ) (plus : Bool) → Simple w plus → Simples w plus → Operand d (plussed w plus) (leaf (part w plus []))
read-simple d w plus h s = record {
  lands = record { state = s.state; behind = simply s.simply; free = λ z e. absurd (false≢true (sym (part-last shuts shuts_strange h z) ∙ e)) };
  goes = λ l fs. inl (s.goes l fs);
}

exc-goes : (a b : ℕ) (w x : List ℕ) (plus : Bool) (l : Level) (fs : List Level) → Simples w plus → Idstring x →
    walk (excepted w plus a b x) (to Ctl.want l fs) ≡ to (Ctl.exc w plus x) l fs
unfolding excepted blanks next at_simple id_byte within
exc-goes a b w x plus l fs s i =
    let due = walk-on (blanks b) x (to (Ctl.exc_due w plus) l fs) _ (blanks-walk (Ctl.exc_due w plus) l fs refl b) (exc-walk w x plus l fs i) in
    let tail = with_word ++ (blanks (suc b) ++ x) in
    let more = walk-on (blanks a) tail (to (Ctl.spaced w plus) l fs) _ (blanks-walk (Ctl.spaced w plus) l fs refl a) due in
    walk-on (plussed w plus) (blanks (suc a) ++ tail) (to Ctl.want l fs) _ (s.goes l fs)
    (ap (walk (blanks a ++ tail)) (simply_at l fs 32 s.simply refl refl) ∙ more)

read-exc : (d a b : ℕ) (w x : List ℕ) (plus : Bool) → Simples w plus → ExceptionId x → Operand d (excepted w plus a b x) (leaf (part w plus x))
read-exc d a b w x plus s i = record {
  lands = record { state = Ctl.exc w plus x; behind = exc i.no_word; free = λ z e. absurd (false≢true (sym (exc-last shuts shuts_strange w plus a b i z) ∙ e)) };
  goes = λ l fs. inl (exc-goes a b w x plus l fs s i.string);
}

open_walk : (d : ℕ) (l : Level) (fs : List Level) → Comes (length fs + suc d) (walk (40 ∷ []) (to Ctl.want l fs)) (to Ctl.want fresh (l ∷ fs))
unfolding next opening
open_walk d l fs = go (ltb (length fs) depth_most) refl where
  go : (b : Bool) → ltb (length fs) depth_most ≡ b → Comes (length fs + suc d) (walk (40 ∷ []) (to Ctl.want l fs)) (to Ctl.want fresh (l ∷ fs))
  go true e = inl (rw e)
  go false e = let h = ltb-false (length fs) depth_most e in inr (omega (arith, h), rw e)

-- a group has one more
one_more : (d : ℕ) (l : Level) (fs : List Level) {m o : Move} → Comes (length (l ∷ fs) + d) m o → Comes (length fs + suc d) m o
one_more d l fs (inl e) = inl e
one_more d l fs (inr f) = inr (omega (arith, f.0), f.1)

read-group : (d : ℕ) (s : List ℕ) (t : Tree) → Ors d s t → Operand (suc d) (40 ∷ (s ++ 41 ∷ [])) t
unfolding closing whole level
read-group d s t o = record {
  lands = record { state = Ctl.done t; behind = loose (done t); free = λ z e. done t };
  goes = λ l fs. comes_on (length fs + suc d) (40 ∷ []) (s ++ 41 ∷ []) (to Ctl.want l fs) _ (open_walk d l fs)
      (comes_on (length fs + suc d) s (41 ∷ []) (to Ctl.want fresh (l ∷ fs)) _ (one_more d l fs (o.goes (l ∷ fs)))
      (inl (after_close (level o.any o.all) (l ∷ fs) o.lands.behind ∙ rw o.tree)));
}

read-before : (d : ℕ) (s : List ℕ) (t : Tree) → Operand d s t → Operand d (32 ∷ s) t
unfolding next
read-before d s t o = record {
  lands = record { state = o.lands.state; behind = o.lands.behind; free = λ z e. o.lands.free 32 e };
  goes = λ l fs. o.goes l fs;
}

read_behind : (d : ℕ) (s : List ℕ) (t : Tree) → Operand d s t → Operand d (s ++ 32 ∷ []) t
read_behind d s t o =
    let b = after-blank o.lands.behind in
    record {
      lands = record { state = b.state; behind = loose b.free; free = λ z e. b.free };
      goes = λ l fs. comes_on (length fs + d) s (32 ∷ []) (to Ctl.want l fs) _ (o.goes l fs) (inl (b.goes l fs));
    }

read-and : (d : ℕ) (s : List ℕ) (t : Tree) → Operand d s t → Ands d s t
unfolding and_of level
read-and d s t o = record { all = none; last = t; tree = refl; lands = o.lands; goes = λ x fs. o.goes (level x none) fs }

read-or : (d : ℕ) (s : List ℕ) (t : Tree) → Ands d s t → Ors d s t
unfolding or_of level fresh
read-or d s t o = record { any = none; all = o.all; last = o.last; tree = o.tree; lands = o.lands; goes = λ fs. o.goes none fs }

-- a landing behind more text
lands_on : (k s : List ℕ) (t : Tree) → Lands s t → Lands (k ++ s) t
lands_on k s t i = record { state = i.state; behind = i.behind; free = λ z e. i.free (last_of z k) (rw (last-append z k s) at e) }

read-ands : (d : ℕ) (s u : List ℕ) (a t : Tree) → Ands d s a → Ends s → Operand d u t → Begins u → Ands d (s ++ (and_word ++ u)) (and a t)
unfolding and_of anded level lands_on
read-ands d s u a t i e o b =
    let from = lands_on s (and_word ++ u) t (lands_on and_word u t o.lands) in
    record {
      all = some a;
      last = t;
      tree = refl;
      lands = from;
      goes = λ x fs. comes_on (length fs + d) s (and_word ++ u) (to Ctl.want (level x none) fs) _ (i.goes x fs)
          (comes_on (length fs + d) and_word u (to i.lands.state (level x i.all) fs) _ (inl (and-walk (level x i.all) fs (i.lands.free 0 (ends_last e 0))))
          (rw (begin_walk (anded (level x i.all) i.last) fs b, i.tree) (o.goes (level x (some a)) fs)));
    }

read-ors : (d : ℕ) (s u : List ℕ) (a t : Tree) → Ors d s a → Ends s → Ands d u t → Begins u → Ors d (s ++ (or_word ++ u)) (or a t)
unfolding or_of ored level whole lands_on
read-ors d s u a t i e o b =
    let from = lands_on s (or_word ++ u) o.last (lands_on or_word u o.last o.lands) in
    record {
      any = some a;
      all = o.all;
      last = o.last;
      tree = rw o.tree;
      lands = from;
      goes = λ fs. comes_on (length fs + d) s (or_word ++ u) (to Ctl.want fresh fs) _ (i.goes fs)
          (comes_on (length fs + d) or_word u (to i.lands.state (level i.any i.all) fs) _
          (inl (or-walk (level i.any i.all) fs (i.lands.free 0 (ends_last e 0))))
          (rw (begin_walk (ored (level i.any i.all) i.last) fs b, i.tree) (o.goes (some a) fs)));
    }

reads : {r : Rank} {d : ℕ} {s : List ℕ} {t : Tree} → Reads r d s t → Read r d s t
reads (Reads.simple {d = d} {w = w} {plus = plus} h) = read-simple d w plus h (simples h)
reads (Reads.with-exc {d = d} {w = w} {x = x} {plus = plus} a b h i) = read-exc d a b w x plus (simples h) i
reads (Reads.group {d = d} {s = s} {t = t} h) = read-group d s t (reads h)
reads (Reads.before {d = d} {s = s} {t = t} h) = read-before d s t (reads h)
reads (Reads.behind {d = d} {s = s} {t = t} h) = read_behind d s t (reads h)
reads (Reads.one-and {d = d} {s = s} {t = t} h) = read-and d s t (reads h)
reads (Reads.more-and {d = d} {s = s} {u = u} {a = a} {t = t} h e k b) = read-ands d s u a t (reads h) e (reads k) b
reads (Reads.one-or {d = d} {s = s} {t = t} h) = read-or d s t (reads h)
reads (Reads.more-or {d = d} {s = s} {u = u} {a = a} {t = t} h e k b) = read-ors d s u a t (reads h) e (reads k) b

told : (d : ℕ) (s : List ℕ) (t : Tree) (o : Ors d s t) → walk s (to Ctl.want fresh []) ≡ to o.lands.state (level o.any o.all) [] → verdict s ≡ accepted t
unfolding verdict finish whole level
told d s t o e =
    walk-run s Ctl.want o.lands.state fresh (level o.any o.all) [] [] 0 e
    ∙ after_stop (level o.any o.all) [] (0 + length s) o.lands.behind
    ∙ rw o.tree

pub reads-told : {s : List ℕ} {t : Tree} → Reads ors depth_most s t → verdict s ≡ accepted t
reads-told {s} {t} h = let o = reads h in told depth_most s t o (comes_low (o.goes []) (omega arith))

deep-told : (d : ℕ) (s : List ℕ) (t : Tree) (o : Ors d s t) → Comes (0 + d) (walk s (to Ctl.want fresh [])) (to o.lands.state (level o.any o.all) [])
    → (verdict s ≡ accepted t) ⊎ Sinks (verdict s)
unfolding verdict
deep-told d s t o (inl e) = inl (told d s t o e)
deep-told d s t o (inr f) = inr (walk-deep s Ctl.want fresh [] 0 f.1)

pub reads-deep : {d : ℕ} {s : List ℕ} {t : Tree} → Reads ors d s t → (verdict s ≡ accepted t) ⊎ Sinks (verdict s)
reads-deep {d} {s} {t} h = let o = reads h in deep-told d s t o (o.goes [])

same_tree : {t u : Tree} → accepted t ≡ accepted u → t ≡ u
same_tree e = cc

pub reads-one : {s : List ℕ} {t u : Tree} → Reads ors depth_most s t → Reads ors depth_most s u → t ≡ u
reads-one h k = same_tree (sym (reads-told h) ∙ reads-told k)
