-- What the public calls yield, as their answers for C: a refusal's number and place, all else zero.
-- Assumes nothing.
use Rattle.std.specs.Prelude.{ℕ, Bool, false, Result, Ok, Err}
use Rattle.rules.specs.Told.{refusal_number}
use Rattle.expression.specs.declared.Refused.{Refused}
use Rattle.expression.specs.declared.Satisfied.{Satisfied}
use Rattle.expression.specs.declared.Spelled.{Spelled}

abbrev pub satisfied_told : Result Bool Refused → Satisfied
satisfied_told (Ok b) = record { refusal = 0; satisfied = b; place = 0 }
satisfied_told (Err r) = record { refusal = refusal_number r.refusal; satisfied = false; place = r.place }

abbrev pub spelled_told : Result ℕ Refused → Spelled
spelled_told (Ok n) = record { refusal = 0; place = 0; len = n }
spelled_told (Err r) = record { refusal = refusal_number r.refusal; place = r.place; len = 0 }
