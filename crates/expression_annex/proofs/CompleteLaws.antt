-- A text that is accepted with a tree is read by the grammar as that tree: `told-reads`. What is read so far `Stands` as derivations: those of the
-- levels outside, of what stands before the operand in this one, and of the operand's beginning, a clause for each state. Every byte that leads on
-- keeps it so.
-- Assumes nothing.
use mathlib.Core.Path.{◌≡◌, refl, sym, ap, ◌∙◌, subst}
use Prim.Native.Nat.{ℕ, zero, suc, ◌+◌}
use mathlib.Core.Bool.{Bool, true, false, cond}
use mathlib.Core.List.{List, [], ◌∷◌, ◌++◌, append_assoc, append-nil}
use mathlib.Core.Option.{Option, none, some}
use native.Mathlib.Omega.{arith}
use borrow.Author.Tests.{eqb-true, ltb-true}
use lib.Dec.{eqb, ltb}
use lib.ListN.{length}
use Rattle.expression.specs.Reading.{id_byte, is_word, and_word, or_word, with_word, license_ref, document_ref, Kind, bare, license, reference, document}
use Rattle.expression.specs.Reading.{kind_of, part, Tree, leaf, and_of, or_of, Level, fresh, whole, anded, ored, Ctl, depth_most, Move, opening, closing, at_ended}
use Rattle.expression.specs.Reading.{at_done, at_simple, leave, next, Verdict, accepted, refused, finish, of_kind, stop, follow, run, verdict}
use Rattle.expression.specs.Annex.{Idstring, LicenseRef, Simple, plussed, blanks, excepted, Ends, Begins, operand, ands, ors, Reads}
use Rattle.expression_annex.proofs.TextLaws.{id-one, id-more, ends-append, ends_back, begins_more, license_back, reference-simple}
use Rattle.expression_annex.proofs.TextLaws.{document_back, blanks-more, three_more}

-- ---- what stands before an operand in its level
-- what OR has joined, and behind its last OR what AND joins
data Chain (d : ℕ) : List ℕ → Option Tree → Tree → Type 0 where
  first : {y : List ℕ} {m : Tree} → Reads ands d y m → Chain d y none m
  later : {x y : List ℕ} {a m : Tree} → Reads ors d x a → Ends x → Reads ands d y m → Begins y → Chain d (x ++ (or_word ++ y)) (some a) m

data Held (d : ℕ) : List ℕ → Option Tree → Option Tree → Type 0 where
  nothing : Held d [] none none
  or-due : {x : List ℕ} {a : Tree} → Reads ors d x a → Ends x → Held d (x ++ or_word) (some a) none
  and-due : {w : List ℕ} {x : Option Tree} {m : Tree} → Chain d w x m → Ends w → Held d (w ++ and_word) x (some m)

-- behind AND and OR an operand begins with a blank or a parenthesis
abbrev Begun : Option Tree → Option Tree → List ℕ → Type 0
Begun none none u = Unit
Begun none (some b) u = Begins u
Begun (some a) y u = Begins u

begun_of : (x y : Option Tree) {u : List ℕ} → Begins u → Begun x y u
begun_of none none b = tt
begun_of none (some a) b = b
begun_of (some a) y b = b

begun_more : (x y : Option Tree) (u v : List ℕ) → Begun x y u → Begun x y (u ++ v)
begun_more none none u v b = tt
begun_more none (some a) u v b = begins_more v b
begun_more (some a) y u v b = begins_more v b

chain_reads : {d : ℕ} {w : List ℕ} {x : Option Tree} {m : Tree} → Chain d w x m → Reads ors d w (or_of x m)
unfolding or_of
chain_reads (first r) = Reads.one-or r
chain_reads (later r e s b) = Reads.more-or r e s b

held_joins : {d : ℕ} {h u : List ℕ} {x y : Option Tree} {t : Tree} → Held d h x y → Reads operand d u t → Begun x y u → Chain d (h ++ u) x (and_of y t)
unfolding and_of
held_joins nothing r b = first (Reads.one-and r)
held_joins {u = u} (or-due {x = x} c e) r b = rw (append_assoc x or_word u) (later c e (Reads.one-and r) b)
held_joins {u = u} (and-due {w = w} (first c) e) r b = rw (append_assoc w and_word u) (first (Reads.more-and c e r b))
held_joins {u = u} (and-due (later {x = x} {y = y} c f s g) e) r b =
    rw (append_assoc (x ++ (or_word ++ y)) and_word u, append_assoc x (or_word ++ y) (and_word ++ u))
    (later c f (Reads.more-and s (ends_back (x ++ or_word) g (rw (← append_assoc x or_word y) at e)) r b) (begins_more (and_word ++ u) g))

-- ---- the levels outside, in the text before the present one; d parentheses may still be opened
data Outer : ℕ → List ℕ → List Level → Type 0 where
  outside : Outer depth_most [] []
  inside : {d : ℕ} {o h : List ℕ} {l : Level} {fs : List Level} (n : ℕ) → Outer (suc d) o fs → Held (suc d) h l.any l.all →
      Outer d (o ++ (h ++ (blanks n ++ 40 ∷ []))) (l ∷ fs)

room : {d : ℕ} {o : List ℕ} {fs : List Level} → Outer d o fs → d + length fs ≡ depth_most
room outside = refl
room (inside n o h) = omega (arith, room o)

-- ---- the beginning of an operand, blanks before it aside: by the state behind it
data Core (d : ℕ) : List ℕ → Ctl → Type 0 where
  want : Core d [] Ctl.want
  name : {w : List ℕ} → Idstring w → Core d w (Ctl.name w)
  colon : {v w : List ℕ} (xs : List ℕ) → Idstring v → w ++ xs ≡ document_ref ++ (v ++ 58 ∷ license_ref) → Core d w (Ctl.colon w xs)
  ref : {u v w : List ℕ} → Idstring v → Idstring w → u ≡ document_ref ++ (v ++ 58 ∷ (license_ref ++ w)) → Core d u (Ctl.ref u)
  simple : {v w : List ℕ} {plus : Bool} → Simple w plus → v ≡ plussed w plus → Core d v (Ctl.simple w plus)
  spaced : {v w : List ℕ} {plus : Bool} (a : ℕ) → Simple w plus → v ≡ plussed w plus ++ blanks (suc a) → Core d v (Ctl.spaced w plus)
  withs : {v w : List ℕ} {plus : Bool} (a : ℕ) (xs : List ℕ) → Simple w plus → v ++ xs ≡ plussed w plus ++ (blanks (suc a) ++ with_word) →
      Core d v (Ctl.withs w plus xs)
  exc_due : {v w : List ℕ} {plus : Bool} (a b : ℕ) → Simple w plus → v ≡ plussed w plus ++ (blanks (suc a) ++ (with_word ++ blanks (suc b))) →
      Core d v (Ctl.exc_due w plus)
  exc : {v w x : List ℕ} {plus : Bool} (a b : ℕ) → Simple w plus → Idstring x → v ≡ excepted w plus a b x → Core d v (Ctl.exc w plus x)
  done : {v : List ℕ} {t : Tree} → Reads operand d v t → Ends v → Core d v (Ctl.done t)

-- where an operand is read, or AND or OR: the text so far, the state, the level and those outside
data Stands : List ℕ → Ctl → Level → List Level → Type 0 where
  in_operand : {d : ℕ} {o h v : List ℕ} {c : Ctl} {l : Level} {fs : List Level} (n : ℕ) → Outer d o fs → Held d h l.any l.all → Core d v c →
      Begun l.any l.all (blanks n ++ v) → Stands (o ++ (h ++ (blanks n ++ v))) c l fs
  in_word : {d : ℕ} {o g : List ℕ} {l : Level} {fs : List Level} (h xs : List ℕ) → Outer d o fs → Held d g l.any l.all → h ++ xs ≡ g →
      Stands (o ++ h) (Ctl.word xs) l fs

-- ---- a byte b behind the text s: where it leads on, all stands
data Holds (s : List ℕ) (b : ℕ) : Move → Type 0 where
  no_way : Holds s b Move.dead
  too_deep : Holds s b Move.deep
  leads : {c : Ctl} {l : Level} {fs : List Level} → Stands (s ++ b ∷ []) c l fs → Holds s b (Move.to c l fs)

leads_as : {s u : List ℕ} {b : ℕ} {c : Ctl} {l : Level} {fs : List Level} → s ++ b ∷ [] ≡ u → Stands u c l fs → Holds s b (Move.to c l fs)
leads_as e h = leads (rw (← e) at h)

branch : {s : List ℕ} {b : ℕ} (t : Bool) {m n : Move} → (t ≡ true → Holds s b m) → (t ≡ false → Holds s b n) → Holds s b (cond t m n)
branch true h k = h refl
branch false h k = k refl

byte : {s : List ℕ} (b k : ℕ) {m n : Move} → Holds s k m → Holds s b n → Holds s b (cond (eqb b k) m n)
byte {s = s} b k {m = m} h i = branch (eqb b k) (λ e. subst (λ x. Holds s x m) (sym (eqb-true b k e)) h) (λ e. i)

-- a place in an operand of which v is read
record Place (d n : ℕ) (o h v : List ℕ) (l : Level) (fs : List Level) : Type 0 where
  outer : Outer d o fs
  held : Held d h l.any l.all
  begun : Begun l.any l.all (blanks n ++ v)

abbrev text : List ℕ → List ℕ → ℕ → List ℕ → List ℕ
text o h n v = o ++ (h ++ (blanks n ++ v))

text-more : (o h : List ℕ) (n : ℕ) (v u : List ℕ) → text o h n v ++ u ≡ text o h n (v ++ u)
text-more o h n v u = rw (three_more o h (blanks n ++ v) u, append_assoc (blanks n) v u)

blanks-end : (n : ℕ) → blanks n ++ 32 ∷ [] ≡ blanks (suc n)
blanks-end n = blanks-more n [] ∙ append-nil (blanks (suc n))

lead : {d : ℕ} {u : List ℕ} {t : Tree} (n : ℕ) → Reads operand d u t → Reads operand d (blanks n ++ u) t
unfolding blanks
lead zero r = r
lead (suc n) r = Reads.before (lead n r)

trail : {d : ℕ} {u : List ℕ} {t : Tree} (n : ℕ) → Reads operand d u t → Reads operand d (u ++ blanks n) t
unfolding blanks
trail {u = u} zero r = rw (append-nil u) r
trail {u = u} (suc n) r = rw (← append_assoc u (32 ∷ []) (blanks n)) (trail n (Reads.behind r))

ends-blanks : (n : ℕ) → Ends (blanks (suc n))
unfolding blanks
ends-blanks zero = Ends.blank []
ends-blanks (suc n) = ends-append (32 ∷ []) (ends-blanks n)

unplussed : {d : ℕ} {w : List ℕ} → Simple w false → Reads operand d w (leaf (part w false []))
unfolding plussed
unplussed {d = d} {w = w} s = subst (λ u. Reads operand d u (leaf (part w false []))) (append-nil w) (Reads.simple s)

-- ---- parentheses
begins_open : (n : ℕ) (u : List ℕ) → Begins (blanks n ++ 40 ∷ u)
unfolding blanks
begins_open zero u = Begins.paren u
begins_open (suc n) u = Begins.blank (blanks n ++ 40 ∷ u)

opens : (d n : ℕ) (o h s : List ℕ) (l : Level) (fs : List Level) → Outer d o fs → Held d h l.any l.all →
    s ++ 40 ∷ [] ≡ text o h n (40 ∷ []) → Holds s 40 (opening l fs)
unfolding opening fresh blanks
opens zero n o h s l fs k g e = branch (ltb (length fs) depth_most) (λ q. absurd (omega (arith, room k, ltb-true (length fs) depth_most q))) (λ q. too_deep)
opens (suc d) n o h s l fs k g e =
    branch (ltb (length fs) depth_most)
    (λ q. leads_as (e ∙ sym (append-nil (text o h n (40 ∷ [])))) (in_operand 0 (inside n k g) nothing want tt))
    (λ q. too_deep)

shuts : {d : ℕ} {o u : List ℕ} {t : Tree} {fs : List Level} → Outer d o fs → Reads ors d u t → Holds (o ++ u) 41 (closing t fs)
unfolding closing
shuts outside r = no_way
shuts {u = u} (inside {o = o} {h = h} {l = l} n k g) r =
    leads_as (append_assoc (text o h n (40 ∷ [])) u (41 ∷ []) ∙ text-more o h n (40 ∷ []) (u ++ 41 ∷ []))
    (in_operand n k g (done (Reads.group r) (Ends.paren (40 ∷ u))) (begun_of l.any l.all (begins_open n (u ++ 41 ∷ []))))

-- ---- behind an operand
module _ {d n : ℕ} {o h v : List ℕ} {l : Level} {fs : List Level} (p : Place d n o h v l fs) where
  -- one more byte of the operand
  stay : (b : ℕ) {c : Ctl} → Core d (v ++ b ∷ []) c → Holds (text o h n v) b (Move.to c l fs)
  stay b k =
      let grown = begun_more l.any l.all (blanks n ++ v) (b ∷ []) p.begun in
      leads_as (text-more o h n v (b ∷ [])) (in_operand n p.outer p.held k (rw (append_assoc (blanks n) v (b ∷ [])) at grown))

  chain : {t : Tree} → Reads operand d v t → Chain d (h ++ (blanks n ++ v)) l.any (and_of l.all t)
  chain r = held_joins p.held (lead n r) p.begun

  -- the level up to here
  level_reads : {t : Tree} → Reads operand d v t → Reads ors d (h ++ (blanks n ++ v)) (whole l t)
  unfolding whole
  level_reads r = chain_reads (chain r)

  at_ended_lem : {t : Tree} (b : ℕ) → Reads operand d v t → Holds (text o h n v) b (at_ended t l fs b)
  unfolding at_ended
  at_ended_lem b r = byte b 32 (stay 32 (done (Reads.behind r) (Ends.blank v))) (byte b 41 (shuts p.outer (level_reads r)) no_way)

  -- AND and OR begin: the level is what stands before them, and the word's rest is due
  ends-here : Ends v → Ends (h ++ (blanks n ++ v))
  ends-here e = ends-append h (ends-append (blanks n) e)

  at-and : {t : Tree} → Reads operand d v t → Ends v → Holds (text o h n v) 65 (Move.to (Ctl.word (78 ∷ 68 ∷ [])) (anded l t) fs)
  unfolding anded
  at-and r e =
      let w = h ++ (blanks n ++ v) in
      leads_as (append_assoc o w (65 ∷ []))
      (in_word (w ++ 65 ∷ []) (78 ∷ 68 ∷ []) p.outer (and-due (chain r) (ends-here e)) (append_assoc w (65 ∷ []) (78 ∷ 68 ∷ [])))

  at-or : {t : Tree} → Reads operand d v t → Ends v → Holds (text o h n v) 79 (Move.to (Ctl.word (82 ∷ [])) (ored l t) fs)
  unfolding ored
  at-or r e =
      let w = h ++ (blanks n ++ v) in
      leads_as (append_assoc o w (79 ∷ []))
      (in_word (w ++ 79 ∷ []) (82 ∷ []) p.outer (or-due (level_reads r) (ends-here e)) (append_assoc w (79 ∷ []) (82 ∷ [])))

  at_done_lem : {t : Tree} (b : ℕ) → Reads operand d v t → Ends v → Holds (text o h n v) b (at_done t l fs b)
  unfolding at_done
  at_done_lem b r e = byte b 65 (at-and r e) (byte b 79 (at-or r e) (at_ended_lem b r))

  at-simple : {w : List ℕ} {plus : Bool} (b : ℕ) → Simple w plus → v ≡ plussed w plus → Holds (text o h n v) b (at_simple w plus l fs b)
  unfolding at_simple blanks
  at-simple b s e = byte b 32 (stay 32 (spaced 0 s (rw e))) (at_ended_lem b (rw e (Reads.simple s)))

  -- ---- one law for each state, in the order of a text
  at-want : (b : ℕ) → v ≡ [] → Holds (text o h n v) b (next Ctl.want l fs b)
  unfolding next blanks
  at-want b e =
      byte b 32
      (leads_as (text-more o h n v (32 ∷ []) ∙ rw e (ap (λ u. o ++ (h ++ u)) (blanks-more n [])))
      (in_operand (suc n) p.outer p.held want (begun_of l.any l.all (Begins.blank (blanks n ++ [])))))
      (byte b 40 (opens d n o h (text o h n v) l fs p.outer p.held (text-more o h n v (40 ∷ []) ∙ rw e))
      (branch (id_byte b) (λ i. stay b (rw e (name (id-one b i)))) (λ i. no_way)))

  leaving : (w : List ℕ) (b : ℕ) → v ≡ w → Idstring w → (k : Kind) → kind_of w ≡ k → Holds (text o h n v) b (leave k w l fs b)
  unfolding leave plussed
  leaving w b e i bare q = no_way
  leaving w b e i license q =
      let s = license_back w i q in
      byte b 43 (stay 43 (simple (Simple.later s) (rw e))) (at-simple b (Simple.id s) (e ∙ sym (append-nil w)))
  leaving w b e i reference q = at-simple b (reference-simple w i q) (e ∙ sym (append-nil w))
  leaving w b e i document q =
      let s = document_back w i q in
      let same = append_assoc w (58 ∷ []) license_ref ∙ ap (λ u. u ++ 58 ∷ license_ref) s.text
      ∙ append_assoc document_ref s.rest (58 ∷ license_ref) in
      byte b 58 (stay 58 (rw e (colon license_ref s.string same))) no_way

  at_name : (w : List ℕ) (b : ℕ) → v ≡ w → Idstring w → Holds (text o h n v) b (next (Ctl.name w) l fs b)
  unfolding next
  at_name w b e i = branch (id_byte b) (λ q. stay b (rw e (name (id-more w b i q)))) (λ q. leaving w b e i (kind_of w) refl)

  at-colon : (u w xs : List ℕ) (b : ℕ) → v ≡ w → Idstring u → w ++ xs ≡ document_ref ++ (u ++ 58 ∷ license_ref) →
      Holds (text o h n v) b (next (Ctl.colon w xs) l fs b)
  unfolding next
  at-colon u w [] b e i q =
      let own = sym (append-nil w) ∙ q in
      let same : w ++ b ∷ [] ≡ document_ref ++ (u ++ 58 ∷ (license_ref ++ b ∷ [])) = rw (own, append_assoc u (58 ∷ license_ref) (b ∷ [])) in
      branch (id_byte b) (λ k. stay b (rw e (ref i (id-one b k) same))) (λ k. no_way)
  at-colon u w (x ∷ xs) b e i q = byte b x (stay x (rw e (colon xs i (append_assoc w (x ∷ []) xs ∙ q)))) no_way

  at_ref : (u w x : List ℕ) (b : ℕ) → v ≡ w → Idstring u → Idstring x → w ≡ document_ref ++ (u ++ 58 ∷ (license_ref ++ x)) →
      Holds (text o h n v) b (next (Ctl.ref w) l fs b)
  unfolding next plussed
  at_ref u w x b e i j q =
      let same : w ++ b ∷ [] ≡ document_ref ++ (u ++ 58 ∷ (license_ref ++ (x ++ b ∷ []))) = rw (q, append_assoc u (58 ∷ (license_ref ++ x)) (b ∷ [])) in
      branch (id_byte b) (λ k. stay b (rw e (ref i (id-more x b j k) same)))
      (λ k. at-simple b (Simple.ref (rw q (LicenseRef.there i j))) (e ∙ sym (append-nil w)))

  at-spaced : (w : List ℕ) (plus : Bool) (a b : ℕ) → Simple w plus → v ≡ plussed w plus ++ blanks (suc a) →
      Holds (text o h n v) b (next (Ctl.spaced w plus) l fs b)
  unfolding next
  at-spaced w plus a b s e =
      let front = plussed w plus in
      let blank = ap (λ u. u ++ 32 ∷ []) e ∙ append_assoc front (blanks (suc a)) (32 ∷ []) ∙ ap (λ u. front ++ u) (blanks-end (suc a)) in
      let with = append_assoc v (87 ∷ []) (73 ∷ 84 ∷ 72 ∷ []) ∙ ap (λ u. u ++ with_word) e ∙ append_assoc front (blanks (suc a)) with_word in
      byte b 32 (stay 32 (spaced (suc a) s blank))
      (byte b 87 (stay 87 (withs a (73 ∷ 84 ∷ 72 ∷ []) s with))
      (at_done_lem b (rw e (trail (suc a) (Reads.simple s))) (rw e (ends-append front (ends-blanks a)))))

  at-withs : (w : List ℕ) (plus : Bool) (a : ℕ) (xs : List ℕ) (b : ℕ) → Simple w plus → v ++ xs ≡ plussed w plus ++ (blanks (suc a) ++ with_word) →
      Holds (text o h n v) b (next (Ctl.withs w plus xs) l fs b)
  unfolding next blanks
  at-withs w plus a [] b s e =
      let same = ap (λ u. u ++ 32 ∷ []) (sym (append-nil v) ∙ e) ∙ three_more (plussed w plus) (blanks (suc a)) with_word (32 ∷ []) in
      byte b 32 (stay 32 (exc_due a 0 s same)) no_way
  at-withs w plus a (x ∷ xs) b s e = byte b x (stay x (withs a xs s (append_assoc v (x ∷ []) xs ∙ e))) no_way

  at-due : (w : List ℕ) (plus : Bool) (a c b : ℕ) → Simple w plus → v ≡ plussed w plus ++ (blanks (suc a) ++ (with_word ++ blanks (suc c))) →
      Holds (text o h n v) b (next (Ctl.exc_due w plus) l fs b)
  unfolding next excepted
  at-due w plus a c b s e =
      let more = three_more (plussed w plus) (blanks (suc a)) (with_word ++ blanks (suc c)) in
      let blank = ap (λ u. u ++ 32 ∷ []) e ∙ more (32 ∷ []) ∙ ap (λ r. plussed w plus ++ (blanks (suc a) ++ (with_word ++ r))) (blanks-end (suc c)) in
      byte b 32 (stay 32 (exc_due a (suc c) s blank))
      (branch (id_byte b) (λ k. stay b (exc a c s (id-one b k) (ap (λ u. u ++ b ∷ []) e ∙ more (b ∷ [])))) (λ k. no_way))

  at-exc : (w x : List ℕ) (plus : Bool) (a c b : ℕ) → Simple w plus → Idstring x → v ≡ excepted w plus a c x →
      Holds (text o h n v) b (next (Ctl.exc w plus x) l fs b)
  unfolding next excepted
  at-exc w x plus a c b s i e =
      let more = three_more (plussed w plus) (blanks (suc a)) (with_word ++ (blanks (suc c) ++ x)) (b ∷ []) in
      let same = ap (λ u. u ++ b ∷ []) e ∙ more
      ∙ ap (λ r. plussed w plus ++ (blanks (suc a) ++ (with_word ++ r))) (append_assoc (blanks (suc c)) x (b ∷ [])) in
      branch (id_byte b) (λ k. stay b (exc a c s (id-more x b i k) same))
      (λ k. branch (is_word x) (λ q. no_way) (λ q. at_ended_lem b (rw e (Reads.with-exc a c s (record { string = i; no_word = q })))))

step : {d n : ℕ} {o h v : List ℕ} {l : Level} {fs : List Level} {c : Ctl} (b : ℕ) → Place d n o h v l fs → Core d v c →
    Holds (text o h n v) b (next c l fs b)
unfolding next
step b p want = at-want p b refl
step b p (name {w = w} i) = at_name p w b refl i
step b p (colon {v = u} {w = w} xs i q) = at-colon p u w xs b refl i q
step b p (ref {u = w} {v = u} {w = x} i j q) = at_ref p u w x b refl i j q
step b p (simple s e) = at-simple p b s e
step b p (spaced {w = w} {plus = plus} a s e) = at-spaced p w plus a b s e
step b p (withs {w = w} {plus = plus} a xs s e) = at-withs p w plus a xs b s e
step b p (exc_due {w = w} {plus = plus} a c s e) = at-due p w plus a c b s e
step b p (exc {w = w} {x = x} {plus = plus} a c s i e) = at-exc p w x plus a c b s i e
step b p (done r e) = at_done_lem p b r e

-- ---- in AND and OR
at-word : {d : ℕ} {o g : List ℕ} {l : Level} {fs : List Level} (h xs : List ℕ) (b : ℕ) → Outer d o fs → Held d g l.any l.all → h ++ xs ≡ g →
    Holds (o ++ h) b (next (Ctl.word xs) l fs b)
unfolding next blanks
at-word {d = d} {o = o} {l = l} {fs = fs} h [] b k g e =
    let here : Held d h l.any l.all = rw (sym (append-nil h) ∙ e) g in
    byte b 32 (leads_as (append_assoc o h (32 ∷ [])) (in_operand 1 k here want (begun_of l.any l.all (Begins.blank []))))
    (byte b 40 (opens d 0 o h (o ++ h) l fs k here (append_assoc o h (40 ∷ []))) no_way)
at-word {o = o} h (x ∷ xs) b k g e =
    byte b x (leads_as (append_assoc o h (x ∷ [])) (in_word (h ++ x ∷ []) xs k g (append_assoc h (x ∷ []) xs ∙ e))) no_way

move : {s : List ℕ} {c : Ctl} {l : Level} {fs : List Level} (b : ℕ) → Stands s c l fs → Holds s b (next c l fs b)
move b (in_operand n k g c u) = step b (record { outer = k; held = g; begun = u }) c
move b (in_word h xs k g e) = at-word h xs b k g e

-- ---- the end of a text
data Given (s : List ℕ) : Verdict → Type 0 where
  given : {t : Tree} → Reads ors depth_most s t → Given s (accepted t)
  not_given : {k p : ℕ} → Given s (refused k p)

given_if : {s : List ℕ} (t : Bool) {v w : Verdict} → (t ≡ true → Given s v) → (t ≡ false → Given s w) → Given s (cond t v w)
given_if true h k = h refl
given_if false h k = k refl

finishes : {d : ℕ} {o u : List ℕ} {t : Tree} {fs : List Level} (p : ℕ) → Outer d o fs → Reads ors d u t → Given (o ++ u) (finish t fs p)
unfolding finish
finishes p outside r = given r
finishes p (inside n k g) r = not_given

at-end : {d n : ℕ} {o h v : List ℕ} {l : Level} {fs : List Level} {t : Tree} (i : ℕ) → Place d n o h v l fs → Reads operand d v t →
    Given (text o h n v) (finish (whole l t) fs i)
at-end i p r = finishes i p.outer (level_reads p r)

name-end : {d n : ℕ} {o h v : List ℕ} {l : Level} {fs : List Level} (i : ℕ) → Place d n o h v l fs → Idstring v → (k : Kind) → kind_of v ≡ k →
    Given (text o h n v) (of_kind k v l fs i)
unfolding of_kind
name-end i p s bare q = not_given
name-end {v = v} i p s license q = at-end i p (unplussed (Simple.id (license_back v s q)))
name-end {v = v} i p s reference q = at-end i p (unplussed (reference-simple v s q))
name-end i p s document q = not_given

ends : {d n : ℕ} {o h v : List ℕ} {l : Level} {fs : List Level} {c : Ctl} (i : ℕ) → Place d n o h v l fs → Core d v c →
    Given (text o h n v) (stop c l fs i)
unfolding stop
ends i p want = not_given
ends i p (name {w = w} s) = name-end i p s (kind_of w) refl
ends i p (colon xs s q) = not_given
ends i p (ref {u = w} s j q) = at-end i p (unplussed (Simple.ref {w = w} (rw q (LicenseRef.there s j))))
ends i p (simple s e) = at-end i p (rw e (Reads.simple s))
ends i p (spaced a s e) = at-end i p (rw e (trail (suc a) (Reads.simple s)))
ends i p (withs a xs s e) = not_given
ends i p (exc_due a c s e) = not_given
ends i p (exc {x = x} a c s j e) =
    given_if (is_word x) (λ q. not_given) (λ q. at-end i p (rw e (Reads.with-exc a c s (record { string = j; no_word = q }))))
ends i p (done r e) = at-end i p r

stops : {s : List ℕ} {c : Ctl} {l : Level} {fs : List Level} (i : ℕ) → Stands s c l fs → Given s (stop c l fs i)
unfolding stop
stops i (in_operand n k g c u) = ends i (record { outer = k; held = g; begun = u }) c
stops i (in_word h xs k g e) = not_given

-- ---- a run over the rest of a text
runs : (bs : List ℕ) {s : List ℕ} {c : Ctl} {l : Level} {fs : List Level} (i : ℕ) → Stands s c l fs → Given (s ++ bs) (run bs c l fs i)
unfolding run follow
runs [] {s = s} i h = rw (append-nil s) (stops i h)
runs (b ∷ bs) {s = s} {c = c} {l = l} {fs = fs} i h = go (λ c' l' fs' k. runs bs (i + 1) k) (move b h) where
  go : {m : Move} → ((c' : Ctl) (l' : Level) (fs' : List Level) → Stands (s ++ b ∷ []) c' l' fs' →
      Given ((s ++ b ∷ []) ++ bs) (run bs c' l' fs' (i + 1))) →
      Holds s b m → Given (s ++ b ∷ bs) (follow i (λ c' l' fs'. run bs c' l' fs' (i + 1)) m)
  go ih no_way = not_given
  go ih too_deep = not_given
  go ih (leads {c = c'} {l = l'} {fs = fs'} k) = rw (← append_assoc s (b ∷ []) bs) (ih c' l' fs' k)

abbrev Said : List ℕ → Verdict → Type 0
Said s (accepted t) = Reads ors depth_most s t
Said s (refused k p) = Unit

given_said : {s : List ℕ} {v : Verdict} → Given s v → Said s v
given_said (given r) = r
given_said not_given = tt

pub told-reads : (s : List ℕ) (t : Tree) → verdict s ≡ accepted t → Reads ors depth_most s t
unfolding verdict fresh blanks
told-reads s t e = subst (Said s) e (given_said (runs s 0 (in_operand 0 outside nothing want tt)))
