-- `records::pieces::entry_at` meets its contract: a piece of head 8 and length at 4, and its count.
-- Assumes nothing.
use mathlib.Core.Path.{sym, ap, ◌∙◌}
use Prim.Native.Nat.{ℕ, ◌+◌}
use native.Mathlib.Omega.{arith}
use Rattle.std.specs.Prelude.{Some, Ok}
use Rattle.rules.specs.Book.{entry_form}
use Rattle.records.specs.Places.{entry_framed}
use Rattle.records.proofs.FrontLaws.{Here, framed-whole, framed-end, framed-broken, broken-alone, entry-framed}
use Rattle.records.proofs.pieces.entry_at.Goals as goal
use Rattle.records.proofs.pieces.entry_at.Goals.{In-Some}

-- a whole piece stands there
here : (x : In-Some) → Here entry_form x.args.body.now x.args.at x.in-Some.piece.start x.in-Some.piece.len
here x = framed-whole entry_form x.args.body.now x.args.at x.in-Some.piece (omega arith) (sym x.piece_at.ensures ∙ x.in_ok-piece.was ∙ ap Ok x.in-Some.is)

pub read_u32-requires : goal.read_u32-requires
read_u32-requires c = let h = here c in
    omega (arith, h.begins, h.fits)

pub returns : goal.returns
returns c = let a = c.args in
    let h = here (goal.at.returns c).In-Some in
    ap (λ (k : ℕ). Ok (Some (record { count = k; start = c.in-Some.piece.start; len = c.in-Some.piece.len }))) c.read_u32.ensures ∙ sym (entry-framed a.body.now a.at _ _ h)

pub returns-in_default : goal.returns-in_default
unfolding entry_framed
returns-in_default c = let a = c.args in
    sym (ap (entry_framed a.at) (framed-end (a.at + 8) _ (sym c.piece_at.ensures ∙ c.in_ok-piece.was ∙ ap Ok c.in_default.is)))

pub returns-in_err-piece : goal.returns-in_err-piece
unfolding entry_framed
returns-in_err-piece c = let a = c.args in
    broken-alone c.from_residual.result c.from_residual.ensures.0 ∙ sym (ap (entry_framed a.at) (framed-broken (a.at + 8) _ (sym c.piece_at.ensures ∙ c.in_err-piece.was)))
