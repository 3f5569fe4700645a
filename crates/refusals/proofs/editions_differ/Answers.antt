-- `refusals::editions_differ` meets its contract: one book alone never differs, and of two the editions are compared.
-- Assumes nothing.
use Rattle.std.proofs.Common.{rules, ◌≡◌, ◌∙◌, option_copied}
use Rattle.refusals.proofs.AdmitLaws.{apart_from, apart-lent}
use Rattle.refusals.proofs.editions_differ.Goals as goal

pub returns : goal.returns
returns c = let e : c.is_some_and.result ≡ apart_from c.args.book.now (option_copied c.args.second) = search rules in
    e ∙ apart-lent _ _
