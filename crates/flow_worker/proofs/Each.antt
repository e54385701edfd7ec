-- Values that stand each in a relation to its number.
use Rattle.std.proofs.Common.{◌≡◌, ◌≤◌, ◌<◌, ◌+◌, ℕ, zero, suc, List, [], ◌∷◌, ◌++◌, length, get_or, set, sym, subst, arith}
use Rattle.flow_worker.specs.Judging.{EachFrom}

-- one value more
pub each-push : {X : Type 0} (P : ℕ → X → Type 0) (k : ℕ) (xs : List X) (x : X) → EachFrom P k xs → P (k + length xs) x → EachFrom P k (xs ++ x ∷ [])
each-push P k [] x h is =
    let z : k + 0 ≡ k = omega arith in
    (subst (λ (n : ℕ). P n x) z is, tt)
each-push P k (y ∷ ys) x h is =
    let z : k + length (y ∷ ys) ≡ k + 1 + length ys = omega arith in
    (h.0, each-push P (k + 1) ys x h.1 (subst (λ (n : ℕ). P n x) z is))

-- the value at a place
pub each-at : {X : Type 0} (P : ℕ → X → Type 0) (k : ℕ) (xs : List X) (i : ℕ) (d : X) → i < length xs → EachFrom P k xs → P (k + i) (get_or xs i d)
each-at P k [] i d within h = absurd (omega arith)
each-at P k (x ∷ xs) zero d within h =
    let z : k ≡ k + 0 = omega arith in
    subst (λ (n : ℕ). P n x) z h.0
each-at P k (x ∷ xs) (suc i) d within h =
    let z : k + 1 + i ≡ k + suc i = omega arith in
    subst (λ (n : ℕ). P n (get_or xs i d)) z (each-at P (k + 1) xs i d (omega arith) h.1)

-- what follows of each
pub each-weaker : {X : Type 0} (P Q : ℕ → X → Type 0) (k : ℕ) (xs : List X) → ((n : ℕ) (x : X) → k ≤ n → n < k + length xs → P n x → Q n x)
    → EachFrom P k xs → EachFrom Q k xs
each-weaker P Q k [] f h = tt
each-weaker P Q k (x ∷ xs) f h = (
  f k x (omega arith) (omega arith) h.0,
  each-weaker P Q (k + 1) xs (λ n y low high. f n y (omega (arith, low)) (omega (arith, high))) h.1,
)

-- one value is another, and what follows of each of the others
pub each-set : {X : Type 0} (P Q : ℕ → X → Type 0) (k : ℕ) (xs : List X) (i : ℕ) (y : X)
    → ((n : ℕ) (x : X) → (n ≡ k + i → ⊥) → n < k + length xs → P n x → Q n x) → Q (k + i) y
    → EachFrom P k xs → EachFrom Q k (set xs i y)
each-set P Q k [] i y f is h = tt
each-set P Q k (x ∷ xs) zero y f is h =
    let z : k + 0 ≡ k = omega arith in
    (subst (λ (n : ℕ). Q n y) z is, each-weaker P Q (k + 1) xs (λ n x low high. f n x (λ e. absurd (omega (arith, low, e))) (omega (arith, high))) h.1)
each-set P Q k (x ∷ xs) (suc i) y f is h =
    let z : k + suc i ≡ k + 1 + i = omega arith in (
      f k x (λ e. absurd (omega (arith, e))) (omega arith) h.0,
      each-set P Q (k + 1) xs i y (λ n x other high. f n x (λ e. other (omega (arith, e))) (omega (arith, high))) (subst (λ (n : ℕ). Q n y) z is) h.1,
    )

-- one value more, under its number
pub each-push-at : {X : Type 0} (P : ℕ → X → Type 0) (n : ℕ) (xs more : List X) (x : X) → length xs ≡ n → more ≡ xs ++ x ∷ [] → EachFrom P 0 xs → P n x
    → EachFrom P 0 more
each-push-at P n xs more x count e h is =
    let z : n ≡ 0 + length xs = omega (arith, count) in
    subst (EachFrom P 0) (sym e) (each-push P 0 xs x h (subst (λ (k : ℕ). P k x) z is))
