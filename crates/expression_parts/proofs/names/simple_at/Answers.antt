-- `simple_at`: by the kind of the identifier.
-- Assumes nothing.
use mathlib.Core.Path.{◌≡◌, sym, ap, ◌∙◌}
use mathlib.Core.List.{List}
use Prim.Native.Nat.{ℕ, ◌+◌, ◌≤◌}
use lib.ListN.{length, drop, take}
use lib.Seq.{drop-drop}
use borrow.Author.Tests.{eq-eqb, ne_eqb}
use Rattle.expression.specs.Reading.{Kind, bare, license, reference, document, kind_of}
use Rattle.expression_bytes.proofs.FrontLaws.{ids_in}
use Rattle.expression_parts.specs.Simple.{kind_told, by_kind, behind_ids, simple_at}
use borrow.Author.Rules.{rules}
use Rattle.expression_parts.proofs.names.simple_at.Goals as goal
use Rattle.expression_parts.proofs.names.simple_at.Goals.{After-kind_of}

pub returns-then-len-eq0 : goal.returns-then-len-eq0
unfolding simple_at behind_ids
returns-then-len-eq0 c = rw (← c.ids-len.ensures, eq-eqb c.ids-len.result 0 c.if-len-eq0.true)

-- some bytes of an identifier stand there
module _ (d : After-kind_of) where
  abbrev rest : List ℕ
  rest = drop d.args.at d.args.text.now

  abbrev n : ℕ
  n = d.ids-len.result

  inside : d.args.at + n ≤ length d.args.text.now
  inside = ids_in d.args.text.now d.args.at n d.requires d.ids-len.ensures

  by_kind_lem : (k : Kind) → kind_of (take n rest) ≡ k → simple_at rest ≡ by_kind k n (drop (d.args.at + n) d.args.text.now)
  unfolding simple_at behind_ids
  by_kind_lem k e = rw (← d.ids-len.ensures, ne_eqb n 0 d.if-len-eq0.false, e, drop-drop n d.args.at d.args.text.now)

  kind_of_it : (k : Kind) → kind_told d.kind_of.result ≡ k → simple_at rest ≡ by_kind k n (drop (d.args.at + n) d.args.text.now)
  kind_of_it k e = by_kind_lem k (ap kind_of (sym d.of.ensures) ∙ sym d.kind_of.ensures ∙ e)

pub of-requires : goal.of-requires
of-requires c = ids_in c.args.text.now c.args.at c.ids-len.result c.requires c.ids-len.ensures

pub returns-in-Bare : goal.returns-in-Bare
unfolding by_kind
returns-in-Bare c = sym (kind_of_it (goal.at.returns-in-Bare c).After-kind_of bare (ap kind_told c.in-Bare.is))

pub overflow_add-at : goal.overflow_add-at
overflow_add-at c = let h = inside (goal.at.overflow_add-at c).After-kind_of in search rules

pub returns-in-License : goal.returns-in-License
unfolding by_kind
returns-in-License c = rw c.stands-plus.ensures (sym (kind_of_it (goal.at.returns-in-License c).After-kind_of license (ap kind_told c.in-License.is)))

pub returns-in-Reference : goal.returns-in-Reference
unfolding by_kind
returns-in-Reference c = sym (kind_of_it (goal.at.returns-in-Reference c).After-kind_of reference (ap kind_told c.in-Reference.is))

pub document-requires : goal.document-requires
document-requires c = inside (goal.at.document-requires c).After-kind_of

pub returns-in-Document : goal.returns-in-Document
unfolding by_kind
returns-in-Document c = c.document.ensures ∙ sym (kind_of_it (goal.at.returns-in-Document c).After-kind_of document (ap kind_told c.in-Document.is))
