-- `kind_of`: bare, or by the front that stands there.
-- Assumes nothing.
use mathlib.Core.Path.{sym, ◌∙◌}
use Rattle.expression.specs.Reading.{kind_of, license_ref, document_ref}
use Rattle.expression_bytes.proofs.FrontLaws.{starts_as}
use Rattle.expression_parts.specs.Simple.{is_bare}
use Rattle.expression_parts.proofs.names.kind_of.Goals as goal

pub returns-then-is_bare : goal.returns-then-is_bare
unfolding kind_of is_bare
returns-then-is_bare c = rw (sym c.is_bare.ensures ∙ c.if-is_bare.true)

pub returns-then-starts_with : goal.returns-then-starts_with
unfolding kind_of is_bare
returns-then-starts_with c = rw (sym c.is_bare.ensures ∙ c.if-is_bare.false, sym (starts_as document_ref c.args.name.now) ∙ sym c.starts_with.ensures.value ∙ c.if-starts_with.true)

pub returns-then-starts_with-2 : goal.returns-then-starts_with-2
unfolding kind_of is_bare
returns-then-starts_with-2 c =
    rw (sym c.is_bare.ensures ∙ c.if-is_bare.false, sym (starts_as document_ref c.args.name.now) ∙ sym c.starts_with.ensures.value ∙ c.if-starts_with.false, sym (starts_as license_ref c.args.name.now) ∙ sym c.starts_with-2.ensures.value ∙ c.if-starts_with-2.true)

pub returns : goal.returns
unfolding kind_of is_bare
returns c =
    rw (sym c.is_bare.ensures ∙ c.if-is_bare.false, sym (starts_as document_ref c.args.name.now) ∙ sym c.starts_with.ensures.value ∙ c.if-starts_with.false, sym (starts_as license_ref c.args.name.now) ∙ sym c.starts_with-2.ensures.value ∙ c.if-starts_with-2.false)
