-- What a text is, read byte by byte as a licence expression of the SPDX 2.3 annex: accepted with its tree, or refused with the place of the first
-- byte that cannot go on. `read_annex` says that this is the annex's grammar, `first_bad` that the place is that byte's.
-- Assumes nothing.
use Rattle.std.specs.Prelude.{ℕ, ◌+◌, Bool, true, false, ◌||◌, cond, List, [], ◌∷◌, ◌++◌, ltb, eqb, length}
use Rattle.std.proofs.Math.Option.{Option, none, some}
use Rattle.rules.specs.Bytes.{within, starts, same}

-- ---- identifiers, judged by form
-- a byte of an identifier: A-Z a-z 0-9 - .
unfoldable pub id_byte : ℕ → Bool
id_byte x = within 65 90 x || within 97 122 x || within 48 57 x || eqb x 45 || eqb x 46

-- AND, OR, WITH, of which none is an identifier
abbrev pub and_word : List ℕ
and_word = 65 ∷ 78 ∷ 68 ∷ []

abbrev pub or_word : List ℕ
or_word = 79 ∷ 82 ∷ []

abbrev pub with_word : List ℕ
with_word = 87 ∷ 73 ∷ 84 ∷ 72 ∷ []

unfoldable pub is_word : List ℕ → Bool
is_word w = same and_word w || same or_word w || same with_word w

-- LicenseRef-, DocumentRef-
abbrev pub license_ref : List ℕ
license_ref = 76 ∷ 105 ∷ 99 ∷ 101 ∷ 110 ∷ 115 ∷ 101 ∷ 82 ∷ 101 ∷ 102 ∷ 45 ∷ []

abbrev pub document_ref : List ℕ
document_ref = 68 ∷ 111 ∷ 99 ∷ 117 ∷ 109 ∷ 101 ∷ 110 ∷ 116 ∷ 82 ∷ 101 ∷ 102 ∷ 45 ∷ []

-- what identifier bytes amount to
pub data Kind : Type 0 where
  bare : Kind  -- a word, or a front with nothing behind it: only more of it can follow
  license : Kind  -- a license-id
  reference : Kind  -- LicenseRef- and an idstring
  document : Kind  -- DocumentRef- and an idstring: a colon is due

unfoldable pub kind_of : List ℕ → Kind
kind_of w =
    cond (same document_ref w || same license_ref w || is_word w) bare
    (cond (starts document_ref w) document (cond (starts license_ref w) reference license))

-- ---- trees
-- identifier, whether `+` follows, exception (none: empty)
pub data Part : Type 0 where
  part : List ℕ → Bool → List ℕ → Part

pub data Tree : Type 0 where
  leaf : Part → Tree
  and : Tree → Tree → Tree
  or : Tree → Tree → Tree

-- a tree joined to what stands before it, if anything does
unfoldable pub and_of : Option Tree → Tree → Tree
and_of none t = t
and_of (some a) t = and a t

unfoldable pub or_of : Option Tree → Tree → Tree
or_of none t = t
or_of (some a) t = or a t

-- inside a parenthesis, or outside all: what stands before the last OR, and from there on before the last AND
pub record Level : Type 0 where
  pub any : Option Tree
  pub all : Option Tree

-- nothing stands there yet
unfoldable pub fresh : Level
fresh = record { any = none; all = none }

-- what a level amounts to behind its last operand t
unfoldable pub whole : Level → Tree → Tree
whole l t = or_of l.any (and_of l.all t)

unfoldable pub anded : Level → Tree → Level
anded l t = record { any = l.any; all = some (and_of l.all t) }

unfoldable pub ored : Level → Tree → Level
ored l t = record { any = some (whole l t); all = none }

-- ---- where a reader stands
pub data Ctl : Type 0 where
  want : Ctl  -- an operand is due
  name : List ℕ → Ctl  -- in an identifier, of which these bytes are read
  colon : List ℕ → List ℕ → Ctl  -- after a document's colon: read, still to come of LicenseRef-
  ref : List ℕ → Ctl  -- in the last idstring of such a license-ref
  simple : List ℕ → Bool → Ctl  -- behind a simple expression
  spaced : List ℕ → Bool → Ctl  -- and behind a blank
  withs : List ℕ → Bool → List ℕ → Ctl  -- in WITH, of which these bytes are to come
  exc_due : List ℕ → Bool → Ctl  -- an exception is due
  exc : List ℕ → Bool → List ℕ → Ctl  -- in an exception
  done : Tree → Ctl  -- behind an operand, and a blank or a parenthesis
  word : List ℕ → Ctl  -- in AND or OR, of which these bytes are to come

-- a byte that cannot go on; a parenthesis too deep; a byte that leads on, with the level and those outside it
pub data Move : Type 0 where
  dead : Move
  deep : Move
  to : Ctl → Level → List Level → Move

-- parentheses that may be open at once
abbrev pub depth_most : ℕ
depth_most = 32

unfoldable pub opening : Level → List Level → Move
opening l fs = cond (ltb (length fs) depth_most) (to want fresh (l ∷ fs)) deep

unfoldable pub closing : Tree → List Level → Move
closing t [] = dead
closing t (f ∷ fs) = to (done t) f fs

-- behind an operand
unfoldable pub at_ended : Tree → Level → List Level → ℕ → Move
at_ended t l fs b = cond (eqb b 32) (to (done t) l fs) (cond (eqb b 41) (closing (whole l t) fs) dead)

-- and a blank or a parenthesis: A or O too, of which the rest is due
unfoldable pub at_done : Tree → Level → List Level → ℕ → Move
at_done t l fs b =
    cond (eqb b 65) (to (word (78 ∷ 68 ∷ [])) (anded l t) fs)
    (cond (eqb b 79) (to (word (82 ∷ [])) (ored l t) fs) (at_ended t l fs b))

unfoldable pub at_simple : List ℕ → Bool → Level → List Level → ℕ → Move
at_simple w plus l fs b = cond (eqb b 32) (to (spaced w plus) l fs) (at_ended (leaf (part w plus [])) l fs b)

unfoldable pub leave : Kind → List ℕ → Level → List Level → ℕ → Move
leave bare w l fs b = dead
leave license w l fs b = cond (eqb b 43) (to (simple w true) l fs) (at_simple w false l fs b)
leave reference w l fs b = at_simple w false l fs b
leave document w l fs b = cond (eqb b 58) (to (colon (w ++ 58 ∷ []) license_ref) l fs) dead

unfoldable pub next : Ctl → Level → List Level → ℕ → Move
next want l fs b = cond (eqb b 32) (to want l fs) (cond (eqb b 40) (opening l fs) (cond (id_byte b) (to (name (b ∷ [])) l fs) dead))
next (name w) l fs b = cond (id_byte b) (to (name (w ++ b ∷ [])) l fs) (leave (kind_of w) w l fs b)
next (colon w []) l fs b = cond (id_byte b) (to (ref (w ++ b ∷ [])) l fs) dead
next (colon w (x ∷ xs)) l fs b = cond (eqb b x) (to (colon (w ++ x ∷ []) xs) l fs) dead
next (ref w) l fs b = cond (id_byte b) (to (ref (w ++ b ∷ [])) l fs) (at_simple w false l fs b)
next (simple w plus) l fs b = at_simple w plus l fs b
next (spaced w plus) l fs b =
    cond (eqb b 32) (to (spaced w plus) l fs)
    (cond (eqb b 87) (to (withs w plus (73 ∷ 84 ∷ 72 ∷ [])) l fs) (at_done (leaf (part w plus [])) l fs b))
next (withs w plus []) l fs b = cond (eqb b 32) (to (exc_due w plus) l fs) dead
next (withs w plus (x ∷ xs)) l fs b = cond (eqb b x) (to (withs w plus xs) l fs) dead
next (exc_due w plus) l fs b =
    cond (eqb b 32) (to (exc_due w plus) l fs) (cond (id_byte b) (to (exc w plus (b ∷ [])) l fs) dead)
next (exc w plus x) l fs b =
    cond (id_byte b) (to (exc w plus (x ++ b ∷ [])) l fs) (cond (is_word x) dead (at_ended (leaf (part w plus x)) l fs b))
next (done t) l fs b = at_done t l fs b
next (word []) l fs b = cond (eqb b 32) (to want l fs) (cond (eqb b 40) (opening l fs) dead)
next (word (x ∷ xs)) l fs b = cond (eqb b x) (to (word xs) l fs) dead

-- ---- the verdict
pub data Verdict : Type 0 where
  accepted : Tree → Verdict
  refused : ℕ → ℕ → Verdict  -- the refusal, and its place

-- a text that ends at p behind an operand, with these levels outside
unfoldable pub finish : Tree → List Level → ℕ → Verdict
finish t [] p = accepted t
finish t (f ∷ fs) p = refused 13 p

unfoldable pub of_kind : Kind → List ℕ → Level → List Level → ℕ → Verdict
of_kind bare w l fs p = refused 13 p
of_kind license w l fs p = finish (whole l (leaf (part w false []))) fs p
of_kind reference w l fs p = finish (whole l (leaf (part w false []))) fs p
of_kind document w l fs p = refused 13 p

unfoldable pub stop : Ctl → Level → List Level → ℕ → Verdict
stop want l fs p = refused 13 p
stop (name w) l fs p = of_kind (kind_of w) w l fs p
stop (colon w xs) l fs p = refused 13 p
stop (ref w) l fs p = finish (whole l (leaf (part w false []))) fs p
stop (simple w plus) l fs p = finish (whole l (leaf (part w plus []))) fs p
stop (spaced w plus) l fs p = finish (whole l (leaf (part w plus []))) fs p
stop (withs w plus xs) l fs p = refused 13 p
stop (exc_due w plus) l fs p = refused 13 p
stop (exc w plus x) l fs p = cond (is_word x) (refused 13 p) (finish (whole l (leaf (part w plus x))) fs p)
stop (done t) l fs p = finish (whole l t) fs p
stop (word xs) l fs p = refused 13 p

unfoldable pub follow : ℕ → (Ctl → Level → List Level → Verdict) → Move → Verdict
follow p go dead = refused 13 p
follow p go deep = refused 14 p
follow p go (to c l fs) = go c l fs

unfoldable pub run : List ℕ → Ctl → Level → List Level → ℕ → Verdict
run [] c l fs p = stop c l fs p
run (b ∷ bs) c l fs p = follow p (λ c' l' fs'. run bs c' l' fs' (p + 1)) (next c l fs b)

unfoldable pub verdict : List ℕ → Verdict
verdict s = run s want fresh [] 0

unfoldable pub opened : Unit {0}
unfolding id_byte is_word kind_of and_of or_of fresh whole anded ored opening closing at_ended at_done at_simple leave next finish of_kind stop follow run verdict
opened = tt
