-- `detection_texts::texts::record_ahead` meets its contract: while a text is to come, the records neither end nor break off.
-- Assumes nothing.
use mathlib.Core.Path.{◌≡◌, sym, ap, ◌∙◌}
use Rattle.std.specs.Prelude.{Ok}
use Rattle.rules.specs.Book.{At, record_at}
use Rattle.records.specs.Places.{at_of}
use Rattle.records.proofs.StepLaws.{record-end, record-broken}
use Rattle.detection_texts.proofs.TextLaws.{not_done, not_broken}
use Rattle.detection_texts.proofs.texts.record_ahead.Goals as goal

pub unreachable-requires : goal.unreachable-requires
unreachable-requires c = let book = c.args.reader.book.now in
    let e : record_at book c.args.place.at ≡ At.end =
    ap (record_at book) (sym c.requires.at) ∙ sym c.next.ensures ∙ ap at_of (c.in-Ok-None.is ∙ ap Ok c.in-Ok-None.field-0-is) in
    not_done book c.args.place c.requires.ahead.0 c.requires.ahead.1 (record-end book c.args.place.at e)

pub unreachable-requires-in-Err : goal.unreachable-requires-in-Err
unreachable-requires-in-Err c = let book = c.args.reader.book.now in
    let e : record_at book c.args.place.at ≡ At.broken = ap (record_at book) (sym c.requires.at) ∙ sym c.next.ensures ∙ ap at_of c.in-Err.is in
    not_broken book c.args.place c.requires.ahead.0 (record-broken book c.args.place.at e)
