-- What is sound with words of ASCII is sound with words of UTF-8: a word, a table, a record's body, and all records (`any-records`). And words of
-- ASCII are what they were before there was UTF-8: runs of a-z, 0-9 and `_` (`old_term_lem`).
-- Assumes nothing.
use mathlib.Core.Path.{◌≡◌, refl, ap, ◌∙◌}
use mathlib.Core.Bool.{Bool, true, false, not, ◌&&◌, ◌||◌, cond}
use mathlib.Core.List.{List, [], ◌∷◌}
use mathlib.Core.Option.{Option, none, some}
use Prim.Native.Nat.{ℕ}
use lib.Dec.{ltb, eqb}
use lib.ListN.{length}
use Rattle.rules.specs.Bytes.{lower, digit, every, rises, split}
use Rattle.rules.specs.Points.{ascii, taken, points_on, points}
use Rattle.rules.specs.Prefix.{Counted}
use Rattle.rules.specs.Book.{Record, entries_of, term, two_terms, all_terms, shaped, sound_table, stored_kind, sound_body, follows, sound_records}
use Rattle.rules.proofs.BoolLaws.{and_left, and_right, and_both}
use Rattle.rules.proofs.PointLaws.{ascii-taken, low-opens}
use Rattle.detection_terms.specs.Terms.{term_point}
use Rattle.detection_terms.proofs.TermLaws.{plain_point, low_point, high_point}

-- ---- in any edition
any-term : (w : Bool) (s : List ℕ) → term false s ≡ true → term w s ≡ true
unfolding term taken
any-term w s h =
    let n = ltb 0 (length s) in
    let p = every (λ x. lower x || digit x || eqb x 95) (points s) in
    let rest = and_right n (taken false s && p) h in
    and_both n (taken w s && p) (and_left n (taken false s && p) h)
    (and_both (taken w s) p (ascii-taken w s (and_left (taken false s) p rest)) (and_right (taken false s) p rest))

any_two : (w : Bool) (ws : List (List ℕ)) → two_terms false ws ≡ true → two_terms w ws ≡ true
unfolding two_terms
any_two w [] h = h
any_two w (a ∷ []) h = h
any_two w (a ∷ b ∷ []) h = and_both (term w a) (term w b) (any-term w a (and_left (term false a) (term false b) h)) (any-term w b (and_right (term false a) (term false b) h))
any_two w (a ∷ b ∷ c ∷ ws) h = h

any_terms : (w : Bool) (es : List Counted) → all_terms false es ≡ true → all_terms w es ≡ true
unfolding all_terms
any_terms w [] h = refl
any_terms w (e ∷ es) h =
    let a = two_terms false (split 32 e.bytes) in
    let b = all_terms false es in
    and_both (two_terms w (split 32 e.bytes)) (all_terms w es) (any_two w (split 32 e.bytes) (and_left a b h)) (any_terms w es (and_right a b h))

any-table : (w : Bool) (body : List ℕ) (o : Option (List Counted)) → sound_table false body o ≡ true → sound_table w body o ≡ true
unfolding sound_table
any-table w body none h = h
any-table w body (some es) h =
    let s = shaped body (some es) in
    and_both s (all_terms w es) (and_left s (all_terms false es) h) (any_terms w es (and_right s (all_terms false es) h))

pub any-body : (w : Bool) (r : Record) → sound_body false r ≡ true → sound_body w r ≡ true
unfolding sound_body
any-body w r h = at (stored_kind r.kind) refl
  where
    at : (t : Bool) → stored_kind r.kind ≡ t → sound_body w r ≡ true
    at true q = rw q (any-table w r.body (entries_of r.body) (rw q at h))
    at false q = rw q (rw q at h)

pub any-records : (w : Bool) (a : ℕ) (name : List ℕ) (rs : List Record) → sound_records false a name rs ≡ true → sound_records w a name rs ≡ true
unfolding sound_records
any-records w a name [] h = h
any-records w a name (r ∷ rs) h =
    let first = eqb r.kind 1 in
    let under = cond first r.body name in
    let f = follows a r.kind in
    let b = sound_body false r in
    let o = not first || rises name r.body in
    let m = sound_records false r.kind under rs in
    let front = and_left (f && b && o) m h in
    let both = and_left (f && b) o front in
    and_both (f && sound_body w r && o) (sound_records w r.kind under rs)
    (and_both (f && sound_body w r) o (and_both f (sound_body w r) (and_left f b both) (any-body w r (and_right f b both))) (and_right (f && b) o front))
    (any-records w r.kind under rs (and_right (f && b && o) m h))

-- ---- words of ASCII
pub old_term : List ℕ → Bool
old_term s = ltb 0 (length s) && every plain_point s

old_points : (s : List ℕ) → (ascii s && every term_point (points s)) ≡ every plain_point s
unfolding ascii every points points_on
old_points [] = refl
old_points (x ∷ xs) = at (ltb x 128) refl (old_points xs)
  where
    swap : (u p e : Bool) → (u && (p && e)) ≡ (p && (u && e))
    swap true p e = refl
    swap false true e = refl
    swap false false e = refl

    at : (t : Bool) → ltb x 128 ≡ t → (ascii xs && every term_point (points xs)) ≡ every plain_point xs →
        (ascii (x ∷ xs) && every term_point (points (x ∷ xs))) ≡ every plain_point (x ∷ xs)
    at true q e =
        rw (q, low-opens x q)
        (swap (ascii xs) (term_point x) (every term_point (points_on 0 xs)) ∙
        ap (λ (b : Bool). term_point x && b) e ∙ ap (λ (b : Bool). b && every plain_point xs) (low_point x q))
    at false q e = rw (q, high_point x q)

pub old_term_lem : (s : List ℕ) → term false s ≡ old_term s
unfolding term taken term_point old_term
old_term_lem s = ap (λ (b : Bool). ltb 0 (length s) && b) (old_points s)
