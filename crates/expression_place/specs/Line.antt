-- The part that a line of a list of accepted parts is, read without the automaton: in the writer's own spelling, or none. A line ends at a byte
-- 10 or where the list ends. `line-met` says that this is the part that the definition of `met` speaks of.
-- Assumes nothing.
use Rattle.std.specs.Prelude.{ℕ, ◌+◌, Bool, true, false, not, ◌&&◌, cond, List, [], ◌∷◌, ltb, eqb, take, drop}
use Rattle.std.proofs.Math.Option.{Option, none, some}
use Rattle.rules.specs.Bytes.{lead, starts}
use Rattle.expression.specs.Reading.{id_byte, license_ref, is_word, Kind, bare, license, reference, document, kind_of, Part, part}
use Rattle.expression.specs.Writing.{meets}

unfoldable pub ends : List ℕ → Bool
ends [] = true
ends (x ∷ xs) = eqb x 10

-- ` WITH `, `:LicenseRef-`
abbrev pub with_text : List ℕ
with_text = 32 ∷ 87 ∷ 73 ∷ 84 ∷ 72 ∷ 32 ∷ []

abbrev pub colon_ref : List ℕ
colon_ref = 58 ∷ license_ref

-- ---- s stands behind ` WITH `: k identifier bytes that are no word, and the end
unfoldable pub exc_here : List ℕ → Bool → List ℕ → ℕ → Option Part
exc_here w plus s k =
    let it = some (part w plus (take k s)) in
    cond (ltb 0 k && not (is_word (take k s)) && ends (drop k s)) it none

unfoldable pub exc_at : List ℕ → Bool → List ℕ → Option Part
exc_at w plus s = exc_here w plus s (lead id_byte s)

-- ---- s stands behind the identifier w and its +
unfoldable pub rest_at : List ℕ → Bool → List ℕ → Option Part
rest_at w plus s =
    let more = cond (starts with_text s) (exc_at w plus (drop 6 s)) none in
    cond (ends s) (some (part w plus [])) more

-- ---- by the kind of the n identifier bytes at the front of s
unfoldable pub license_at : List ℕ → ℕ → Option Part
license_at s n =
    let later = rest_at (take n s) true (drop (n + 1) s) in
    let only = rest_at (take n s) false (drop n s) in
    cond (starts (43 ∷ []) (drop n s)) later only

-- m identifier bytes stand behind the first n, which end in a document's colon and LicenseRef-
unfoldable pub ref_here : List ℕ → ℕ → ℕ → Option Part
ref_here s n m =
    let it = rest_at (take (n + m) s) false (drop (n + m) s) in
    cond (ltb 0 m) it none

unfoldable pub document_at : List ℕ → ℕ → Option Part
document_at s n =
    let it = ref_here s (n + 12) (lead id_byte (drop (n + 12) s)) in
    cond (starts colon_ref (drop n s)) it none

unfoldable pub kind_at : Kind → List ℕ → ℕ → Option Part
kind_at bare s n = none
kind_at license s n = license_at s n
kind_at reference s n = rest_at (take n s) false (drop n s)
kind_at document s n = document_at s n

unfoldable pub front_at : List ℕ → ℕ → Option Part
front_at s n =
    let it = kind_at (kind_of (take n s)) s n in
    cond (eqb n 0) none it

unfoldable pub line_at : List ℕ → Option Part
line_at s = front_at s (lead id_byte s)

-- ---- a part is met by the line's
unfoldable pub met_by : Part → Option Part → Bool
met_by p none = false
met_by p (some q) = meets p q

unfoldable pub opened : Unit {0}
unfolding ends exc_here exc_at rest_at license_at ref_here document_at kind_at front_at line_at met_by
opened = tt
