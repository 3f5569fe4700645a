-- The grammar of the SPDX 2.3 annex as it stands, over bytes, and the same by precedence with the tree that it gives: + binds before WITH, WITH before
-- AND, AND before OR. A room d leaves d parentheses to be open at once.
-- Assumes nothing.
use Rattle.std.specs.Prelude.{ℕ, suc, ◌<◌, ◌≡◌, Bool, true, false, cond, List, [], ◌∷◌, ◌++◌, length, replicate}
use Rattle.rules.specs.Bytes.{starts, every}
use Rattle.expression.specs.Reading.{id_byte, and_word, or_word, with_word, is_word, license_ref, document_ref, part, Tree, leaf, and, or}

-- ---- idstring = 1*(ALPHA / DIGIT / "-" / ".")
pub record Idstring (w : List ℕ) : Type 0 where
  pub bytes : every id_byte w ≡ true
  pub some : 0 < length w

-- ---- license-id, by form: an idstring that is no word and has not the front of a license-ref
pub record LicenseId (w : List ℕ) : Type 0 where
  pub string : Idstring w
  pub no_word : is_word w ≡ false
  pub no_ref : starts license_ref w ≡ false
  pub no-document : starts document_ref w ≡ false

-- ---- license-exception-id, by form
pub record ExceptionId (w : List ℕ) : Type 0 where
  pub string : Idstring w
  pub no_word : is_word w ≡ false

-- ---- license-ref = ["DocumentRef-" idstring ":"] "LicenseRef-" idstring
pub data LicenseRef : List ℕ → Type 0 where
  here : {w : List ℕ} → Idstring w → LicenseRef (license_ref ++ w)
  there : {v w : List ℕ} → Idstring v → Idstring w → LicenseRef (document_ref ++ (v ++ 58 ∷ (license_ref ++ w)))

-- ---- simple-expression = license-id / license-id "+" / license-ref; the identifier, and whether + follows
pub data Simple : List ℕ → Bool → Type 0 where
  id : {w : List ℕ} → LicenseId w → Simple w false
  later : {w : List ℕ} → LicenseId w → Simple w true
  ref : {w : List ℕ} → LicenseRef w → Simple w false

unfoldable pub plussed : List ℕ → Bool → List ℕ
plussed w plus = w ++ cond plus (43 ∷ []) []

-- ---- blanks: at least one on each side of WITH; of AND and OR one, or a parenthesis
unfoldable pub blanks : ℕ → List ℕ
blanks n = replicate n 32

unfoldable pub excepted : List ℕ → Bool → ℕ → ℕ → List ℕ → List ℕ
excepted w plus a b x = plussed w plus ++ (blanks (suc a) ++ (with_word ++ (blanks (suc b) ++ x)))

pub data Ends : List ℕ → Type 0 where
  blank : (s : List ℕ) → Ends (s ++ 32 ∷ [])
  paren : (s : List ℕ) → Ends (s ++ 41 ∷ [])

pub data Begins : List ℕ → Type 0 where
  blank : (s : List ℕ) → Begins (32 ∷ s)
  paren : (s : List ℕ) → Begins (40 ∷ s)

-- ---- compound-expression = simple / simple "WITH" exception / compound "AND" compound / compound "OR" compound / "(" compound ")"
pub data Annex : ℕ → List ℕ → Type 0 where
  simple : {d : ℕ} {w : List ℕ} {plus : Bool} → Simple w plus → Annex d (plussed w plus)
  with-exc : {d : ℕ} {w x : List ℕ} {plus : Bool} (a b : ℕ) → Simple w plus → ExceptionId x → Annex d (excepted w plus a b x)
  both : {d : ℕ} {s t : List ℕ} → Annex d s → Ends s → Annex d t → Begins t → Annex d (s ++ (and_word ++ t))
  either : {d : ℕ} {s t : List ℕ} → Annex d s → Ends s → Annex d t → Begins t → Annex d (s ++ (or_word ++ t))
  group : {d : ℕ} {s : List ℕ} → Annex d s → Annex (suc d) (40 ∷ (s ++ 41 ∷ []))
  before : {d : ℕ} {s : List ℕ} → Annex d s → Annex d (32 ∷ s)
  behind : {d : ℕ} {s : List ℕ} → Annex d s → Annex d (s ++ 32 ∷ [])

-- ---- the same by precedence, with the tree: operands, what AND joins, what OR joins
pub data Rank : Type 0 where
  operand : Rank
  ands : Rank
  ors : Rank

pub data Reads : Rank → ℕ → List ℕ → Tree → Type 0 where
  simple : {d : ℕ} {w : List ℕ} {plus : Bool} → Simple w plus → Reads operand d (plussed w plus) (leaf (part w plus []))
  with-exc : {d : ℕ} {w x : List ℕ} {plus : Bool} (a b : ℕ) → Simple w plus → ExceptionId x → Reads operand d (excepted w plus a b x) (leaf (part w plus x))
  group : {d : ℕ} {s : List ℕ} {t : Tree} → Reads ors d s t → Reads operand (suc d) (40 ∷ (s ++ 41 ∷ [])) t
  before : {d : ℕ} {s : List ℕ} {t : Tree} → Reads operand d s t → Reads operand d (32 ∷ s) t
  behind : {d : ℕ} {s : List ℕ} {t : Tree} → Reads operand d s t → Reads operand d (s ++ 32 ∷ []) t
  one-and : {d : ℕ} {s : List ℕ} {t : Tree} → Reads operand d s t → Reads ands d s t
  more-and : {d : ℕ} {s u : List ℕ} {a t : Tree} → Reads ands d s a → Ends s → Reads operand d u t → Begins u → Reads ands d (s ++ (and_word ++ u)) (and a t)
  one-or : {d : ℕ} {s : List ℕ} {t : Tree} → Reads ands d s t → Reads ors d s t
  more-or : {d : ℕ} {s u : List ℕ} {a t : Tree} → Reads ors d s a → Ends s → Reads ands d u t → Begins u → Reads ors d (s ++ (or_word ++ u)) (or a t)
