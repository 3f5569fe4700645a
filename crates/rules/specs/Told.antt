-- The numbers that answers carry, of a refusal and of a stored text's kind; and what the jobs' results are as the answers of the rules.
-- Assumes nothing.
use Rattle.std.specs.Prelude.{ℕ, cond, Option, None, Some, Result, Ok, Err, replicate}
use Rattle.rules.specs.declared.Named.{Named}
use Rattle.rules.specs.declared.Value.{Value}
use Rattle.rules.specs.declared.Checked.{Checked}
use Rattle.rules.specs.declared.Compiled.{Compiled}
use Rattle.rules.specs.declared.Scored.{Scored}
use Rattle.rules.specs.declared.Located.{Located}
use Rattle.rules.specs.declared.Bounded.{Bounded}
use Rattle.rules.specs.declared.Findings.{Findings}
use Rattle.rules.specs.declared.Scanned.{Scanned}
use Rattle.rules.specs.declared.Licence.{Licence}
use Rattle.rules.specs.declared.NamedText.{NamedText}
use Rattle.rules.specs.Sizes.{name_most}
use Rattle.rules.specs.Table.{nought, no_value}
use Rattle.rules.specs.Book.{no_part}
use Rattle.rules.specs.Jobs.{scored_as, bounded_as, no_bounds}
use Rattle.rules.specs.declared.Refusal.{Refusal}
use Rattle.rules.specs.declared.Refusal.TheVariants as refused
use Rattle.rules.specs.declared.Kind.{Kind}
use Rattle.rules.specs.declared.Kind.TheVariants as kind

abbrev pub refusal_number : Refusal → ℕ
refusal_number refused.TextLong = 1
refusal_number refused.TextBytes = 2
refusal_number refused.LinesMany = 3
refusal_number refused.BookUnsound = 4
refusal_number refused.BookEmpty = 5
refusal_number refused.Limit = 6
refusal_number refused.StepZero = 7
refusal_number refused.View = 8
refusal_number refused.Number = 9
refusal_number refused.AreaSmall = 10
refusal_number refused.OutputShort = 11
refusal_number refused.Budget = 12
refusal_number refused.NoExpression = 13
refusal_number refused.TooDeep = 14
refusal_number refused.EditionsDiffer = 15
refusal_number refused.Overdrawn = 17

abbrev pub kind_number : Kind → ℕ
kind_number kind.Original = 2
kind_number kind.Alternate = 3
kind_number kind.Header = 4

-- the number of what is refused, and 0 where nothing is
unfoldable pub number_told : {A : Type 0} → Result A Refusal → ℕ
number_told (Ok x) = 0
number_told (Err r) = refusal_number r

-- ---- the answers, of what a job yields or of its refusal: its number, all else zero
abbrev pub checked_told : Result ℕ Refusal → Checked
checked_told (Ok n) = record { refusal = 0; texts = n }
checked_told (Err r) = record { refusal = refusal_number r; texts = 0 }

abbrev pub compiled_told : Result ℕ Refusal → Compiled
compiled_told (Ok n) = record { refusal = 0; len = n }
compiled_told (Err r) = record { refusal = refusal_number r; len = 0 }

abbrev pub scored_told : Result Value Refusal → Scored
scored_told (Ok x) = scored_as 0 x
scored_told (Err r) = scored_as (refusal_number r) no_value

abbrev pub bounded_told : Result Located Refusal → Bounded
bounded_told (Ok x) = bounded_as 0 (record { first = x.first; after = x.after; value = x.value }) x.count
bounded_told (Err r) = bounded_as (refusal_number r) no_bounds 0

-- the kind of the licence that is named, and where its name stands; of none, 0 and no part
abbrev pub licence_kind : Option Licence → ℕ
licence_kind None = 0
licence_kind (Some x) = kind_number x.kind

abbrev pub licence_part : Option Licence → Named
licence_part None = no_part
licence_part (Some x) = x.part

abbrev pub scanned_told : Result Findings Refusal → Scanned
scanned_told (Ok x) =
    record {
      refusal = cond x.over_budget 12 0;
      name = x.name;
      len = (licence_part x.licence).len;
      kind = licence_kind x.licence;
      score = x.value.score;
      m = x.value.m;
      t = x.value.t;
      count = x.count;
      records = x.records;
      part = licence_part x.licence;
    }
scanned_told (Err r) =
    record { refusal = refusal_number r; name = replicate name_most 0; len = 0; kind = 0; score = nought; m = 0; t = 0; count = 0; records = 0; part = no_part }

abbrev pub named_told : Result Licence Refusal → NamedText
named_told (Ok x) = record { refusal = 0; kind = kind_number x.kind; part = x.part }
named_told (Err r) = record { refusal = refusal_number r; kind = 0; part = no_part }
