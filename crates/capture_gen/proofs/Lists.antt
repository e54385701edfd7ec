-- Lists that are joined from the values of a function.
use Rattle.std.proofs.Common.{◌≡◌, ◌+◌, ◌-◌, ◌≤◌, ℕ, zero, suc, Bool, true, false, not, if◌then◌else◌, List, [], ◌∷◌, ◌++◌, map, refl, sym, ap, ◌∙◌, append-nil}
use Rattle.std.proofs.Common.{arith}
use Rattle.std.specs.List.{filter, flat_map, range_with_len}
use Rattle.std.proofs.lemmas.List.Concat.{flat_map-append}

-- the joined values of the joined values
pub flat_map-flat_map : {X Y A : Type 0} (h : Y → List A) (g : X → List Y) (xs : List X)
    → flat_map h (flat_map g xs) ≡ flat_map (λ x. flat_map h (g x)) xs
flat_map-flat_map h g [] = refl
flat_map-flat_map h g (x ∷ xs) = flat_map-append h (g x) (flat_map g xs) ∙ ap (λ l. flat_map h (g x) ++ l) (flat_map-flat_map h g xs)

-- what is left out gives nothing
pub flat_map-map-filter : {Y A : Type 0} (h : Y → List A) (g : ℕ → Y) (left_out : ℕ → Bool) (xs : List ℕ)
    → flat_map h (map g (filter (λ j. not (left_out j)) xs)) ≡ flat_map (λ j. if left_out j then [] else h (g j)) xs
flat_map-map-filter h g left_out [] = refl
flat_map-map-filter {A = A} h g left_out (x ∷ xs) =
    let rest = flat_map-map-filter h g left_out xs in
    let all = flat_map (λ j. if left_out j then [] else h (g j)) xs in
    let P : Bool → Type 0 = λ b. flat_map h (map g (if not b then x ∷ filter (λ j. not (left_out j)) xs else filter (λ j. not (left_out j)) xs))
    ≡ (if b then [] else h (g x)) ++ all in
    elim (left_out x) as P [ true ↦ rest | false ↦ ap (λ l. h (g x) ++ l) rest ]

-- the numbers from a on, cut in two
pub range_with_len-add : (a m n : ℕ) → range_with_len a (m + n) ≡ range_with_len a m ++ range_with_len (a + m) n
range_with_len-add a zero n = grind arith
range_with_len-add a (suc m) n =
    let e : suc m + n ≡ suc (m + n) = omega arith in
    let f : (a + 1) + m ≡ a + suc m = omega arith in
    ap (range_with_len a) e ∙ ap (λ l. a ∷ l) (range_with_len-add (a + 1) m n ∙ ap (λ k. range_with_len (a + 1) m ++ range_with_len k n) f)

-- one number more
pub flat_map-range_more : {A : Type 0} (f : ℕ → List A) (k : ℕ)
    → flat_map f (range_with_len 0 (k + 1)) ≡ flat_map f (range_with_len 0 k) ++ f k
flat_map-range_more f k =
    let z : 0 + k ≡ k = omega arith in
    ap (flat_map f) (range_with_len-add 0 k 1) ∙ flat_map-append f (range_with_len 0 k) (range_with_len (0 + k) 1)
    ∙ ap (λ l. flat_map f (range_with_len 0 k) ++ l) (append-nil (f (0 + k)) ∙ ap f z)

-- the first k of n numbers, and the others
pub flat_map-range_cut : {A : Type 0} (f : ℕ → List A) (k n : ℕ) → k ≤ n
    → flat_map f (range_with_len 0 n) ≡ flat_map f (range_with_len 0 k) ++ flat_map f (range_with_len k (n - k))
flat_map-range_cut f k n h =
    let e : k + (n - k) ≡ n = omega arith in
    let z : 0 + k ≡ k = omega arith in
    ap (λ m. flat_map f (range_with_len 0 m)) (sym e) ∙ ap (flat_map f) (range_with_len-add 0 k (n - k))
    ∙ flat_map-append f (range_with_len 0 k) (range_with_len (0 + k) (n - k))
    ∙ ap (λ m. flat_map f (range_with_len 0 k) ++ flat_map f (range_with_len m (n - k))) z
