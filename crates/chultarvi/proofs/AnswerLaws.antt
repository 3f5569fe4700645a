-- A job's answer that is known to be another: the promise holds of that one too. And how the books of a scan that is charged to an allowance are read.
-- Assumes nothing.
use mathlib.Core.Path.{◌≡◌, subst}
use mathlib.Core.Bool.{Bool, true, false, cond}
use mathlib.Core.List.{List, []}
use Prim.Native.Nat.{ℕ}
use Rattle.rules.specs.declared.Limits.{Limits}
use Rattle.rules.specs.declared.Mode.{Mode}
use Rattle.rules.specs.declared.View.{View}
use Rattle.rules.specs.declared.Compiled.{Compiled}
use Rattle.rules.specs.declared.Scored.{Scored}
use Rattle.rules.specs.declared.Bounded.{Bounded}
use Rattle.rules.specs.declared.Scanned.{Scanned}
use Rattle.rules.specs.declared.NamedText.{NamedText}
use Rattle.rules.specs.Book.{ReadAs}
use Rattle.rules.specs.Jobs.{CompileDone, ScoreDone, BoundsDone, NameDone, ScanDone}
use Rattle.rules.proofs.NameLaws.{read_one, read_two}
use Rattle.detection_shelf.specs.Shelves.{shelf, books_of}
use Rattle.allowance.specs.declared.Allowance.{Allowance}
use Rattle.allowance.specs.Allowed.{AllowedDone}

pub compile_as : {e : ℕ} {t b₀ b w₀ w o₀ o : List ℕ} {x y : Compiled} → x ≡ y → CompileDone e t b₀ b w₀ w o₀ o x → CompileDone e t b₀ b w₀ w o₀ o y
compile_as {e} {t} {b₀} {b} {w₀} {w} {o₀} {o} q d = subst (λ (z : Compiled). CompileDone e t b₀ b w₀ w o₀ o z) q d

pub score_as : {t : List ℕ} {bs : List (List ℕ)} {v : View} {k : ℕ} {b₀ b w₀ w : List ℕ} {x y : Scored} → x ≡ y → ScoreDone t bs v k b₀ b w₀ w x →
    ScoreDone t bs v k b₀ b w₀ w y
score_as {t} {bs} {v} {k} {b₀} {b} {w₀} {w} e d = subst (λ (z : Scored). ScoreDone t bs v k b₀ b w₀ w z) e d

pub bounds_as : {t : List ℕ} {bs : List (List ℕ)} {v : View} {k : ℕ} {b₀ b w₀ w : List ℕ} {x y : Bounded} → x ≡ y → BoundsDone t bs v k b₀ b w₀ w x →
    BoundsDone t bs v k b₀ b w₀ w y
bounds_as {t} {bs} {v} {k} {b₀} {b} {w₀} {w} e d = subst (λ (z : Bounded). BoundsDone t bs v k b₀ b w₀ w z) e d

pub name_as : {bs : List (List ℕ)} {k : ℕ} {x y : NamedText} → x ≡ y → NameDone bs k x → NameDone bs k y
name_as {bs} {k} e d = subst (λ (z : NamedText). NameDone bs k z) e d

pub scan_as : {t : List ℕ} {bs : List (List ℕ)} {lim : Limits} {mode : Mode} {budget : ℕ} {b₀ b w₀ w r₀ r : List ℕ} {x y : Scanned} → x ≡ y →
    ScanDone t bs lim mode budget b₀ b w₀ w r₀ r x → ScanDone t bs lim mode budget b₀ b w₀ w r₀ r y
scan_as {t} {bs} {lim} {mode} {budget} {b₀} {b} {w₀} {w} {r₀} {r} {x} {y} e d =
    subst (λ (z : Scanned). ScanDone t bs lim mode budget b₀ b w₀ w r₀ r z) e d

pub allowed_as : {t : List ℕ} {bs : List (List ℕ)} {lim : Limits} {m n : Mode} {x₀ x : Allowance} {b₀ b w₀ w r₀ r : List ℕ} {a c : Scanned} → m ≡ n → a ≡ c →
    AllowedDone t bs lim m x₀ x b₀ b w₀ w r₀ r a → AllowedDone t bs lim n x₀ x b₀ b w₀ w r₀ r c
allowed_as {t} {bs} {lim} {m} {n} {x₀} {x} {b₀} {b} {w₀} {w} {r₀} {r} {a} p q d =
    subst (λ (z : Scanned). AllowedDone t bs lim n x₀ x b₀ b w₀ w r₀ r z) q (subst (λ (y : Mode). AllowedDone t bs lim y x₀ x b₀ b w₀ w r₀ r a) p d)

pub books_read : (book second : List ℕ) (two : Bool) → ReadAs book (cond two second []) (books_of (shelf book second) two)
books_read book second true = read_two book second
books_read book second false = read_one book
