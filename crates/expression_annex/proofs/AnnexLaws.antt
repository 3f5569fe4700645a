-- The grammar as the annex writes it and the grammar by precedence are one: `reads_annex` forgets the ranks, `annex_reads` finds them, by joining two
-- chains into one. With soundness and completeness the automaton accepts exactly the annex's texts: `read_annex`. What the annex derives with more
-- parentheses open than 32 is refused with 14, never with 13: `annex_deep`.
-- Assumes nothing.
use mathlib.Core.Path.{◌≡◌}
use Prim.Native.Nat.{ℕ}
use mathlib.Core.List.{List, [], ◌∷◌, ◌++◌, append_assoc}
use mathlib.Core.Logic.{◌↔◌, ◌⊎◌, inl, inr}
use Rattle.expression.specs.Reading.{and_word, or_word, depth_most, Tree, accepted, verdict}
use Rattle.expression.specs.Annex.{Ends, Begins, Annex, Rank, operand, ands, ors, Reads}
use Rattle.expression_annex.proofs.TextLaws.{ends-append, ends_back, begins_more, begins_front, three_more}
use Rattle.expression_annex.proofs.WalkLaws.{Sinks}
use Rattle.expression_annex.proofs.SoundLaws.{reads-told, reads-deep}
use Rattle.expression_annex.proofs.CompleteLaws.{told-reads}

-- ---- ranks forgotten
pub reads_annex : {r : Rank} {d : ℕ} {s : List ℕ} {t : Tree} → Reads r d s t → Annex d s
reads_annex (Reads.simple h) = Annex.simple h
reads_annex (Reads.with-exc a b h i) = Annex.with-exc a b h i
reads_annex (Reads.group h) = Annex.group (reads_annex h)
reads_annex (Reads.before h) = Annex.before (reads_annex h)
reads_annex (Reads.behind h) = Annex.behind (reads_annex h)
reads_annex (Reads.one-and h) = reads_annex h
reads_annex (Reads.more-and h e k b) = Annex.both (reads_annex h) e (reads_annex k) b
reads_annex (Reads.one-or h) = reads_annex h
reads_annex (Reads.more-or h e k b) = Annex.either (reads_annex h) e (reads_annex k) b

-- ---- a blank before or behind is the first or the last operand's
pub front-blank : {r : Rank} {d : ℕ} {s : List ℕ} {t : Tree} → Reads r d s t → Reads r d (32 ∷ s) t
front-blank (Reads.simple h) = Reads.before (Reads.simple h)
front-blank (Reads.with-exc a b h i) = Reads.before (Reads.with-exc a b h i)
front-blank (Reads.group h) = Reads.before (Reads.group h)
front-blank (Reads.before h) = Reads.before (Reads.before h)
front-blank (Reads.behind h) = Reads.before (Reads.behind h)
front-blank (Reads.one-and h) = Reads.one-and (front-blank h)
front-blank (Reads.more-and h e k b) = Reads.more-and (front-blank h) (ends-append (32 ∷ []) e) k b
front-blank (Reads.one-or h) = Reads.one-or (front-blank h)
front-blank (Reads.more-or h e k b) = Reads.more-or (front-blank h) (ends-append (32 ∷ []) e) k b

pub back_blank : {r : Rank} {d : ℕ} {s : List ℕ} {t : Tree} → Reads r d s t → Reads r d (s ++ 32 ∷ []) t
back_blank (Reads.simple h) = Reads.behind (Reads.simple h)
back_blank (Reads.with-exc a b h i) = Reads.behind (Reads.with-exc a b h i)
back_blank (Reads.group h) = Reads.behind (Reads.group h)
back_blank (Reads.before h) = Reads.behind (Reads.before h)
back_blank (Reads.behind h) = Reads.behind (Reads.behind h)
back_blank (Reads.one-and h) = Reads.one-and (back_blank h)
back_blank (Reads.more-and {s = s} {u = u} h e k b) = rw (three_more s and_word u (32 ∷ [])) (Reads.more-and h e (back_blank k) (begins_more (32 ∷ []) b))
back_blank (Reads.one-or h) = Reads.one-or (back_blank h)
back_blank (Reads.more-or {s = s} {u = u} h e k b) = rw (three_more s or_word u (32 ∷ [])) (Reads.more-or h e (back_blank k) (begins_more (32 ∷ []) b))

-- ---- two chains joined into one
pub record Some (r : Rank) (d : ℕ) (s : List ℕ) : Type 0 where
  pub tree : Tree
  pub reads : Reads r d s tree

-- one operand more, or one part more of an OR
and_one : {d : ℕ} {s u : List ℕ} {t : Tree} → Some ands d s → Ends s → Reads operand d u t → Begins u → Some ands d (s ++ (and_word ++ u))
and_one h e k b = record { tree = _; reads = Reads.more-and h.reads e k b }

or-one : {d : ℕ} {s u : List ℕ} {t : Tree} → Some ors d s → Ends s → Reads ands d u t → Begins u → Some ors d (s ++ (or_word ++ u))
or-one h e k b = record { tree = _; reads = Reads.more-or h.reads e k b }

-- AND between two that it has joined already
and-ands : {d : ℕ} {s u : List ℕ} {a t : Tree} → Reads ands d s a → Ends s → Reads ands d u t → Begins u → Some ands d (s ++ (and_word ++ u))
and-ands {a = a} h e (Reads.one-and k) b = and_one (record { tree = a; reads = h }) e k b
and-ands {s = s} h e (Reads.more-and {s = u} {u = v} k f m c) b =
    rw (← three_more s and_word u (and_word ++ v))
    (and_one (and-ands h e k (begins_front u (and_word ++ v) f b)) (ends-append s (ends-append and_word f)) m c)

-- AND between two that OR has joined: the last part of the first takes in the first part of the second
and-part : {d : ℕ} {s u : List ℕ} {a t : Tree} → Reads ors d s a → Ends s → Reads ands d u t → Begins u → Some ors d (s ++ (and_word ++ u))
and-part (Reads.one-or h) e k b = let j = and-ands h e k b in record { tree = j.tree; reads = Reads.one-or j.reads }
and-part {u = u} (Reads.more-or {s = s} {u = v} {a = a} h f m c) e k b =
    let j = and-ands m (ends_back (s ++ or_word) c (rw (← append_assoc s or_word v) at e)) k b in
    rw (three_more s or_word v (and_word ++ u)) (or-one (record { tree = a; reads = h }) f j.reads (begins_more (and_word ++ u) c))

and-ors : {d : ℕ} {s u : List ℕ} {a t : Tree} → Reads ors d s a → Ends s → Reads ors d u t → Begins u → Some ors d (s ++ (and_word ++ u))
and-ors h e (Reads.one-or k) b = and-part h e k b
and-ors {s = s} h e (Reads.more-or {s = u} {u = v} k f m c) b =
    rw (← three_more s and_word u (or_word ++ v))
    (or-one (and-ors h e k (begins_front u (or_word ++ v) f b)) (ends-append s (ends-append and_word f)) m c)

or-ors : {d : ℕ} {s u : List ℕ} {a t : Tree} → Reads ors d s a → Ends s → Reads ors d u t → Begins u → Some ors d (s ++ (or_word ++ u))
or-ors {a = a} h e (Reads.one-or k) b = or-one (record { tree = a; reads = h }) e k b
or-ors {s = s} h e (Reads.more-or {s = u} {u = v} k f m c) b =
    rw (← three_more s or_word u (or_word ++ v))
    (or-one (or-ors h e k (begins_front u (or_word ++ v) f b)) (ends-append s (ends-append or_word f)) m c)

alone : {d : ℕ} {s : List ℕ} {t : Tree} → Reads operand d s t → Some ors d s
alone {t = t} h = record { tree = t; reads = Reads.one-or (Reads.one-and h) }

pub annex_reads : {d : ℕ} {s : List ℕ} → Annex d s → Some ors d s
annex_reads (Annex.simple h) = alone (Reads.simple h)
annex_reads (Annex.with-exc a b h i) = alone (Reads.with-exc a b h i)
annex_reads (Annex.both h e k b) = and-ors (annex_reads h).reads e (annex_reads k).reads b
annex_reads (Annex.either h e k b) = or-ors (annex_reads h).reads e (annex_reads k).reads b
annex_reads (Annex.group h) = alone (Reads.group (annex_reads h).reads)
annex_reads (Annex.before h) = let j = annex_reads h in record { tree = j.tree; reads = front-blank j.reads }
annex_reads (Annex.behind h) = let j = annex_reads h in record { tree = j.tree; reads = back_blank j.reads }

-- ---- what is accepted is the annex's
pub record Accepted (s : List ℕ) : Type 0 where
  pub tree : Tree
  pub told : verdict s ≡ accepted tree

pub read_annex : (s : List ℕ) → Accepted s ↔ Annex depth_most s
read_annex s = (there, back) where
  there : Accepted s → Annex depth_most s
  there a = reads_annex (told-reads s a.tree a.told)

  back : Annex depth_most s → Accepted s
  back h = let j = annex_reads h in record { tree = j.tree; told = reads-told j.reads }

-- ---- and with any number of parentheses open
pub annex_deep : {d : ℕ} {s : List ℕ} → Annex d s → Accepted s ⊎ Sinks (verdict s)
annex_deep {s = s} h = let j = annex_reads h in one j.tree (reads-deep j.reads) where
  one : (t : Tree) → (verdict s ≡ accepted t) ⊎ Sinks (verdict s) → Accepted s ⊎ Sinks (verdict s)
  one t (inl e) = inl record { tree = t; told = e }
  one t (inr k) = inr k
