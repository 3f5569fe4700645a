-- `records::pieces::record_at` meets its contract: a piece of head 6 and length at 0, and its kind.
-- Assumes nothing.
use mathlib.Core.Path.{sym, ap, ◌∙◌}
use Prim.Native.Nat.{ℕ, ◌+◌}
use native.Mathlib.Omega.{arith}
use Rattle.std.specs.Prelude.{Ok}
use Rattle.rules.specs.Book.{record_form, At, placed, record_at}
use Rattle.records.proofs.FrontLaws.{Here, framed-whole, framed-end, framed-broken, at-broken, record-placed}
use Rattle.records.proofs.pieces.record_at.Goals as goal
use Rattle.records.proofs.pieces.record_at.Goals.{In-Some}

-- a whole piece stands there
here : (x : In-Some) → Here record_form x.args.book.now x.args.at x.in-Some.piece.start x.in-Some.piece.len
here x = framed-whole record_form x.args.book.now x.args.at x.in-Some.piece (omega arith) (sym x.piece_at.ensures ∙ x.in_ok-piece.was ∙ ap Ok x.in-Some.is)

pub overflow_add-at : goal.overflow_add-at
overflow_add-at c = let h = here c in
    omega (arith, h.begins, h.fits)

pub read_u16-requires : goal.read_u16-requires
read_u16-requires c = let h = here c in
    omega (arith, h.begins, h.fits)

pub returns : goal.returns
returns c = let a = c.args in
    let h = here (goal.at.returns c).In-Some in
    ap (λ (k : ℕ). At.whole k c.in-Some.piece.start c.in-Some.piece.len) c.read_u16.ensures ∙ sym (record-placed a.book.now a.at _ _ h)

pub returns-in_default : goal.returns-in_default
unfolding record_at placed
returns-in_default c = let a = c.args in
    sym (ap (placed a.at) (framed-end (a.at + 6) _ (sym c.piece_at.ensures ∙ c.in_ok-piece.was ∙ ap Ok c.in_default.is)))

pub returns-in_err-piece : goal.returns-in_err-piece
unfolding record_at placed
returns-in_err-piece c = let a = c.args in
    at-broken c.from_residual.result c.from_residual.ensures.0 ∙ sym (ap (placed a.at) (framed-broken (a.at + 6) _ (sym c.piece_at.ensures ∙ c.in_err-piece.was)))
