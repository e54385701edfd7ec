-- What every call leaves unchanged on a shelf.
use Rattle.std.specs.Prelude.{◌≡◌, ◌≤◌, ℕ, List, Option}

-- names that weren't there still aren't, the contents are unchanged, and no count of faults has decreased
pub record StaysAs {H : Type 0} (text : H → List ℕ → Option (List ℕ)) (Lacks : H → List ℕ → Type 0)
    (faults : H → List ℕ → ℕ) (old new : H) : Type 0 where
  pub lacks : (n : List ℕ) → Lacks old n → Lacks new n
  pub texts : (n : List ℕ) → text new n ≡ text old n
  pub later : (n : List ℕ) → faults old n ≤ faults new n
