-- What the functions that read a level say: the verdict on the text is kept, the tree's value is told, and the tree is written.
-- Assumes nothing.
use Rattle.std.specs.Prelude.{ℕ, ◌+◌, ◌≤◌, ◌≡◌, false, List, [], ◌∷◌, length, drop, Result, Ok, Err}
use Rattle.std.proofs.Math.Option.{Option, none}
use Rattle.rules.specs.Told.{refusal_number}
use Rattle.expression.specs.declared.Refused.{Refused}
use Rattle.expression.specs.Reading.{Tree, Level, fresh, Ctl, refused, run}
use Rattle.expression.specs.Writing.{is_or, spell, satisfied}
use Rattle.expression_bytes.specs.Front.{head_is}
use Rattle.expression_output.specs.Output.{Put}
use Rattle.expression_joints.specs.declared.Value.{Value}

-- none of ys stands at the front
abbrev pub Stops : List ℕ → List ℕ → Type 0
Stops [] s = Unit
Stops (y ∷ ys) s = (head_is y s ≡ false) × Stops ys s

-- ---- levels
-- the levels at which an operand, what AND joins and what OR joins may begin
abbrev pub only_any : Option Tree → Level
only_any a = record { any = a; all = none }

abbrev pub only_fresh : Unit {0} → Level
only_fresh u = fresh

-- what is told of a tree, and what is written
pub record Valued (list s : List ℕ) (o : ℕ) (t : Tree) (v : Value) (d : List ℕ) : Type 0 where
  pub holds : v.holds ≡ satisfied list t
  pub or : v.or ≡ is_or t
  pub put : Put o (spell t) s d v.end

-- the text goes on past `at`, at a byte that is none of ys
pub record Onward (text : List ℕ) (at : ℕ) (ys : List ℕ) (n : ℕ) : Type 0 where
  pub low : at + 1 ≤ n
  pub high : n ≤ length text
  pub stops : Stops ys (drop n text)

-- at every level that `begins` gives, with d levels outside
pub data Told {X : Type 0} (begins : X → Level) (list text : List ℕ) (at depth : ℕ) (ys : List ℕ) (s : List ℕ) (o : ℕ) : Result Value Refused → List ℕ → Type 0 where
  told : {v : Value} {d : List ℕ} (t : Tree) → ((x : X) (fs : List Level) → length fs ≡ depth → run (drop v.next text) (Ctl.done t) (begins x) fs v.next ≡ run (drop at text) Ctl.want (begins x) fs at) → Onward text at ys v.next → Valued list s o t v d → Told begins list text at depth ys s o (Ok v) d
  no : {r : Refused} {d : List ℕ} → ((x : X) (fs : List Level) → length fs ≡ depth → refused (refusal_number r.refusal) r.place ≡ run (drop at text) Ctl.want (begins x) fs at) → length d ≡ length s → Told begins list text at depth ys s o (Err r) d

-- of a part, which opens no parenthesis
abbrev pub AtAnyDepth : List ℕ → List ℕ → ℕ → List ℕ → ℕ → Result Value Refused → List ℕ → Type 0
AtAnyDepth list text at s o r d = (depth : ℕ) → Told (λ l. l) list text at depth (32 ∷ []) s o r d
