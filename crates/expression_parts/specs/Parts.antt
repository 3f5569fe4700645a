-- What the functions that read a part say: the verdict on the text is kept.
-- Assumes nothing.
use Rattle.std.specs.Prelude.{ℕ, ◌+◌, ◌≤◌, ◌≡◌, false, List, length, drop, Result, Ok, Err}
use Rattle.expression.specs.Reading.{Part, part, Tree, leaf, Level, Ctl, Verdict, refused, run}
use Rattle.expression_bytes.specs.Front.{head_is, ending}
use Rattle.rules.specs.declared.Refusal.TheVariants as because
use Rattle.expression.specs.declared.Refused.{Refused}
use Rattle.expression_parts.specs.declared.parts.PartAt.{PartAt}
use Rattle.expression_parts.specs.declared.parts.Bad.{Bad}
use Rattle.expression_parts.specs.Simple.{bytes_of}

unfoldable pub part_of : List ℕ → PartAt → Part
part_of text p = part (bytes_of text p.name) p.plus (bytes_of text p.exception)

-- a part's bytes stand in the text, and the text goes on at or past `from`, with no blank
pub record Inside (text : List ℕ) (from : ℕ) (p : PartAt) : Type 0 where
  pub name : p.name.at + p.name.len ≤ length text
  pub exc : p.exception.at + p.exception.len ≤ length text
  pub low : from ≤ p.next
  pub high : p.next ≤ length text
  pub stop : head_is 32 (drop p.next text) ≡ false

-- `start`: the verdict before it, at every level
pub data Reads (text : List ℕ) (from : ℕ) (start : Level → List Level → Verdict) : Result PartAt Bad → Type 0 where
  reads : {p : PartAt} → ((l : Level) (fs : List Level) → run (drop p.next text) (Ctl.done (leaf (part_of text p))) l fs p.next ≡ start l fs) → Inside text from p → Reads text from start (Ok p)
  stuck : {b : Bad} → ((l : Level) (fs : List Level) → refused 13 b.place ≡ start l fs) → Reads text from start (Err b)

-- from behind an operand to where no blank stands
pub record Goes (text : List ℕ) (from n : ℕ) : Type 0 where
  pub same : (t : Tree) (l : Level) (fs : List Level) → run (drop n text) (Ctl.done t) l fs n ≡ ending t (drop from text) l fs from
  pub low : from ≤ n
  pub high : n ≤ length text
  pub stop : head_is 32 (drop n text) ≡ false

pub data Behind (text : List ℕ) (from : ℕ) : Result ℕ Bad → Type 0 where
  goes : {n : ℕ} → Goes text from n → Behind text from (Ok n)
  halts : {b : Bad} → ((t : Tree) (l : Level) (fs : List Level) → refused 13 b.place ≡ ending t (drop from text) l fs from) → Behind text from (Err b)

-- a byte that cannot go on, as a refusal
abbrev pub no_expression : ℕ → Refused
no_expression p = record { refusal = because.NoExpression; place = p }
