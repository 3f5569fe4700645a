-- The answers as C has them, read as the jobs'; a scan's part is as long as the name. And the jobs' answers by what they find.
-- Assumes nothing.
use Rattle.std.specs.Prelude.{ℕ, false, None, replicate}
use Rattle.rules.specs.Sizes.{name_most}
use Rattle.rules.specs.Table.{no_value}
use Rattle.rules.specs.Jobs.{bounded_as}
use Rattle.rules.specs.Told.{licence_kind, licence_part}
use Rattle.rules.specs.declared.Located.{Located}
use Rattle.rules.specs.declared.Findings.{Findings}
use Rattle.rules.specs.declared.Checked.{Checked}
use Rattle.rules.specs.declared.Compiled.{Compiled}
use Rattle.rules.specs.declared.Scored.{Scored}
use Rattle.rules.specs.declared.Bounded.{Bounded}
use Rattle.rules.specs.declared.Scanned.{Scanned}
use Rattle.rules.specs.declared.NamedText.{NamedText}
use Rattle.answers_c.specs.declared.BookChecked.{BookChecked}
use Rattle.answers_c.specs.declared.TextCompiled.{TextCompiled}
use Rattle.answers_c.specs.declared.ViewScored.{ViewScored}
use Rattle.answers_c.specs.declared.BoundsFound.{BoundsFound}
use Rattle.answers_c.specs.declared.NoteScanned.{NoteScanned}
use Rattle.answers_c.specs.declared.TextNamed.{TextNamed}

abbrev pub checked_of : BookChecked → Checked
checked_of r = record { refusal = r.refusal; texts = r.texts }

abbrev pub compiled_of : TextCompiled → Compiled
compiled_of r = record { refusal = r.refusal; len = r.len }

abbrev pub scored_of : ViewScored → Scored
scored_of r = record { refusal = r.refusal; score = r.score; m = r.m; t = r.t }

abbrev pub bounded_of : BoundsFound → Bounded
bounded_of r = record { refusal = r.refusal; first = r.first; after = r.after; score = r.score; m = r.m; t = r.t; count = r.count }

abbrev pub scanned_of : NoteScanned → Scanned
scanned_of r = record {
  refusal = r.refusal;
  name = r.name;
  len = r.len;
  kind = r.kind;
  score = r.score;
  m = r.m;
  t = r.t;
  count = r.count;
  records = r.records;
  part = record { second = r.second; at = r.at; len = r.len };
}

abbrev pub named_of : TextNamed → NamedText
named_of r = record { refusal = r.refusal; kind = r.kind; part = record { second = r.second; at = r.at; len = r.len } }

-- a job's answer under the number of a refusal, 0 for none
abbrev pub located_as : ℕ → Located → Bounded
located_as n x = bounded_as n (record { first = x.first; after = x.after; value = x.value }) x.count

abbrev pub scanned_as : ℕ → Findings → Scanned
scanned_as n x = record {
  refusal = n;
  name = x.name;
  len = (licence_part x.licence).len;
  kind = licence_kind x.licence;
  score = x.value.score;
  m = x.value.m;
  t = x.value.t;
  count = x.count;
  records = x.records;
  part = licence_part x.licence;
}

-- where nothing is found
abbrev pub nothing : Findings
nothing = record { licence = None; name = replicate name_most 0; value = no_value; count = 0; records = 0; over_budget = false }
