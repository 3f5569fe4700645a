-- What `urls` makes of a list that begins with b; and what does not begin a URL.
-- Assumes nothing.
use mathlib.Core.Path.{◌≡◌, refl, sym}
use mathlib.Core.Bool.{Bool, true, false, not, ◌&&◌}
use mathlib.Core.List.{List, [], ◌∷◌, ◌++◌}
use Prim.Native.Nat.{ℕ}
use native.Mathlib.Omega.{arith}
use lib.ListN.{length, get_or}
use borrow.Author.Tests.{ne_eqb}
use Rattle.rules.specs.Bytes.{text, space, starts}
use Rattle.rules.specs.Lines.{url, urls}
use Rattle.rules.proofs.BoolLaws.{and_left}

module _ (b : ℕ) (inside : Bool) {l l' : List ℕ} where
  pub urls-on : l ≡ b ∷ l' → (inside && not (space b)) ≡ true → urls inside l ≡ urls inside l'
  unfolding urls
  urls-on h e = rw (h, e, and_left inside (not (space b)) e)

  pub urls-hit : l ≡ b ∷ l' → (inside && not (space b)) ≡ false → url l ≡ true → urls inside l ≡ text "http://blackboxed/url" ++ urls true l'
  unfolding urls
  urls-hit h e u = rw (h, e, rw h at u)

  pub urls_miss : l ≡ b ∷ l' → (inside && not (space b)) ≡ false → url l ≡ false → urls inside l ≡ b ∷ urls false l'
  unfolding urls
  urls_miss h e u = rw (h, e, rw h at u)

pub urls-end : (inside : Bool) {l : List ℕ} → l ≡ [] → urls inside l ≡ []
unfolding urls
urls-end inside h = rw h

-- a URL's first byte
pub url-none : (s : List ℕ) → length s ≡ 0 → url s ≡ false
unfolding url text starts
url-none [] e = refl
url-none (x ∷ xs) e = absurd (omega arith)

pub url-first : (s : List ℕ) → (get_or s 0 0 ≡ 104 → ⊥) → url s ≡ false
unfolding url text starts
url-first [] n = refl
url-first (x ∷ xs) n = rw (ne_eqb 104 x (λ e. n (sym e)))
