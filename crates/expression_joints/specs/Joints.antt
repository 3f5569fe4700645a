-- What the functions between operands say: the verdict on the text is kept, and an operator is written behind what stands in the output.
-- Assumes nothing.
use Rattle.std.specs.Prelude.{ℕ, ◌+◌, ◌≤◌, ◌≡◌, false, List, [], ◌∷◌, length, drop, Result, Ok, Err}
use Rattle.expression.specs.Reading.{Tree, Level, fresh, Ctl, refused, run}
use Rattle.expression_bytes.specs.Front.{head_is}
use Rattle.expression_parts.specs.declared.parts.Bad.{Bad}
use Rattle.expression_output.specs.Output.{overlay, capped, Put}
use Rattle.expression_joints.specs.declared.Joint.{Joint}

-- ---- operators and parentheses
-- an operator of which ws is due is read: an operand is due
pub data Joined (text : List ℕ) (from : ℕ) (ws : List ℕ) : Result ℕ Bad → Type 0 where
  joined : (n : ℕ) → ((l : Level) (fs : List Level) → run (drop n text) Ctl.want l fs n ≡ run (drop from text) (Ctl.word ws) l fs from) → from ≤ n → n ≤ length text → Joined text from ws (Ok n)
  halted : (b : Bad) → ((l : Level) (fs : List Level) → refused 13 b.place ≡ run (drop from text) (Ctl.word ws) l fs from) → Joined text from ws (Err b)

-- a parenthesis closes behind the tree of all that it holds
pub data Shut (text : List ℕ) (from : ℕ) : Result ℕ Bad → Type 0 where
  shut : (n : ℕ) → ((t : Tree) (l : Level) (fs : List Level) → run (drop n text) (Ctl.done t) l fs n ≡ run (drop from text) (Ctl.done t) fresh (l ∷ fs) from) → from ≤ n → n ≤ length text → head_is 32 (drop n text) ≡ false → Shut text from (Ok n)
  halted : (b : Bad) → ((t : Tree) (l : Level) (fs : List Level) → refused 13 b.place ≡ run (drop from text) (Ctl.done t) fresh (l ∷ fs) from) → Shut text from (Err b)

-- behind an operand stands an operator: the level goes on as `into` says, and the output with `more`, whatever tree stands there
abbrev pub Lays : (List ℕ → List ℕ) → ℕ → ℕ → List ℕ → List ℕ → ℕ → Type 0
Lays more from to s d r = (bs s₀ : List ℕ) → s ≡ overlay from bs s₀ → to ≡ capped (from + length bs) → Put from (more bs) s₀ d r

pub data Jointed (text : List ℕ) (at : ℕ) (into : Level → Tree → Level) (more : List ℕ → List ℕ) (from to : ℕ) (s d : List ℕ) : Result Joint Bad → Type 0 where
  on : (j : Joint) → ((t : Tree) (l : Level) (fs : List Level) → run (drop j.next text) Ctl.want (into l t) fs j.next ≡ run (drop at text) (Ctl.done t) l fs at) → at ≤ j.next → j.next ≤ length text → Lays more from to s d j.end → Jointed text at into more from to s d (Ok j)
  off : (b : Bad) → ((t : Tree) (l : Level) (fs : List Level) → refused 13 b.place ≡ run (drop at text) (Ctl.done t) l fs at) → length d ≡ length s → Jointed text at into more from to s d (Err b)

-- ` AND `, ` OR `
abbrev pub and_text : List ℕ
and_text = 32 ∷ 65 ∷ 78 ∷ 68 ∷ 32 ∷ []

abbrev pub or_text : List ℕ
or_text = 32 ∷ 79 ∷ 82 ∷ 32 ∷ []
