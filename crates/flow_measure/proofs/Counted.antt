-- Counts of one number more, and their sums.
use Rattle.std.proofs.Common.{◌≡◌, ◌<◌, ◌≤◌, ◌+◌, ℕ, zero, suc, ℤ, pos, negsuc, ◌≤ℤ◌, Bool, true, false, cond}
use Rattle.std.proofs.Common.{List, [], ◌∷◌, get_or, replicate, sum, take, ◌↔◌, ap, ◌∙◌, sym, refl, inl, inr, arith}
use Rattle.std.proofs.lemmas.Bool.{cases_Bool, cases_eq, cond-false, cond-true, le-ltb, ltb-false}
use Rattle.std.proofs.lemmas.Int.{ints}
use Rattle.std.proofs.lemmas.List.Sums.{sum_by-cons}
use Rattle.std.specs.Int.{from_bool}
use Rattle.flow_measure.specs.Bins.{above_limit, below_zero, is_above, is_below}
use Rattle.flow_measure.specs.Counts.{count_of}

-- how many pass of one place more
pub count_of-more : (test : ℕ → Bool) (count : ℕ) → count_of test (count + 1) ≡ count_of test count + cond (test count) 1 0
count_of-more test count = let next : count + 1 ≡ suc count = omega arith in ap (count_of test) next

-- where it is known whether that place passes
pub count_of-yes : (test : ℕ → Bool) (count : ℕ) → test count ≡ true → count_of test (count + 1) ≡ count_of test count + 1
count_of-yes test count e = count_of-more test count ∙ ap (λ b. count_of test count + cond b 1 0) e

pub count_of-no : (test : ℕ → Bool) (count : ℕ) → test count ≡ false → count_of test (count + 1) ≡ count_of test count
count_of-no test count e =
    let same = count_of-more test count ∙ ap (λ b. count_of test count + cond b 1 0) e in
    omega (arith, same)

cond-same : (b : Bool) (x : ℕ) → cond b x x ≡ x
cond-same true x = refl
cond-same false x = refl

-- a count with so many places more, of which each passes or none does
pub count_of-times : (test : ℕ → Bool) (count times : ℕ) (passes : Bool)
    → ((j : ℕ) → j < times → test (count + j) ≡ passes)
    → count_of test (count + times) ≡ count_of test count + cond passes times 0
count_of-times test count zero passes h =
    let same : count + zero ≡ count = omega arith in
    let none : cond {A = ℕ} passes 0 0 ≡ 0 = cond-same passes 0 in
    let e = ap (count_of test) same in
    omega (arith, e, none)
count_of-times test count (suc k) true h =
    let next : count + suc k ≡ (count + k) + 1 = omega arith in
    let before : count_of test (count + k) ≡ count_of test count + k = count_of-times test count k true (λ j few. h j (omega (arith, few))) in
    let last = count_of-yes test (count + k) (h k (omega arith)) in
    let e = ap (count_of test) next in
    let all : count_of test (count + suc k) ≡ count_of test count + suc k = omega (arith, e, before, last) in
    all
count_of-times test count (suc k) false h =
    let next : count + suc k ≡ (count + k) + 1 = omega arith in
    let before : count_of test (count + k) ≡ count_of test count + 0 = count_of-times test count k false (λ j few. h j (omega (arith, few))) in
    let last = count_of-no test (count + k) (h k (omega arith)) in
    let e = ap (count_of test) next in
    let all : count_of test (count + suc k) ≡ count_of test count + 0 = omega (arith, e, before, last) in
    all

-- what one place adds
cond-one : (b : Bool) → b ≡ true → let one : ℕ = 1 in let none : ℕ = 0 in cond b one none ≡ one
cond-one b e = cond-true b 1 0 e

cond-none : (b : Bool) → b ≡ false → let one : ℕ = 1 in let none : ℕ = 0 in cond b one none ≡ none
cond-none b e = cond-false b 1 0 e

-- a place that passes is counted
pub count_of-some : (test : ℕ → Bool) (count i : ℕ) → i < count → test i ≡ true → 0 < count_of test count
count_of-some test zero i few e = absurd (omega (arith, few))
count_of-some test (suc count) i few e = elim (cases_eq i count) as (λ _. 0 < count_of test count + cond (test count) 1 0) [
  | inl same ↦ let here = cond-one (test count) (ap test (sym same) ∙ e) in omega (arith, here)
  | inr other ↦ let before = count_of-some test count i (omega (arith, few, other)) e in omega (arith, before)
]

-- nothing sums up to 0
take-none : (xs : List ℕ) → sum (take 0 xs) ≡ 0
take-none [] = refl
take-none (x ∷ xs) = refl

-- a list sums up to what its front does, where the rest is zeros
pub sum-take : (xs : List ℕ) (m : ℕ) → ((k : ℕ) → m ≤ k → get_or xs k 0 ≡ 0) → sum (take m xs) ≡ sum xs
sum-take [] zero h = refl
sum-take [] (suc m) h = refl
sum-take (x ∷ xs) zero h =
    let here : x ≡ 0 = h 0 (omega arith) in
    let rest : sum (take 0 xs) ≡ sum xs = sum-take xs zero (λ k _. h (suc k) (omega arith)) in
    let none : sum (take 0 xs) ≡ 0 = take-none xs in
    let whole : sum (x ∷ xs) ≡ x + sum xs = sum_by-cons (λ y. y) x xs in
    let front : sum (take 0 (x ∷ xs)) ≡ 0 = refl in
    omega (arith, here, rest, none, whole, front)
sum-take (x ∷ xs) (suc m) h =
    let rest : sum (take m xs) ≡ sum xs = sum-take xs m (λ k more. h (suc k) (omega (arith, more))) in
    let whole : sum (x ∷ xs) ≡ x + sum xs = sum_by-cons (λ y. y) x xs in
    let front : sum (take (suc m) (x ∷ xs)) ≡ x + sum (take m xs) = sum_by-cons (λ y. y) x (take m xs) in
    omega (arith, rest, whole, front)

-- none passes exactly where no place does
pub count_of-none : (test : ℕ → Bool) (count : ℕ) → count_of test count ≡ 0 → (i : ℕ) → i < count → test i ≡ false
count_of-none test count e i few = elim (cases_Bool (test i)) as (λ _. test i ≡ false) [
  | inl passes ↦ absurd (omega (arith, e, count_of-some test count i few passes))
  | inr fails ↦ fails
]

pub none-count_of : (test : ℕ → Bool) (count : ℕ) → ((i : ℕ) → i < count → test i ≡ false) → count_of test count ≡ 0
none-count_of test zero h = refl
none-count_of test (suc count) h =
    let before = none-count_of test count (λ i few. h i (omega (arith, few))) in
    let here = cond-none (test count) (h count (omega arith)) in
    omega (arith, before, here)

-- what the tests of a number say
not-above : (limit : ℕ) (x : ℤ) → is_above limit x ≡ false → x ≤ℤ pos limit
not-above limit (pos x) e = omega (arith, ints, ltb-false limit x e)
not-above limit (negsuc x) e = omega (arith, ints)

above-not : (limit : ℕ) (x : ℤ) → x ≤ℤ pos limit → is_above limit x ≡ false
above-not limit (pos x) h = le-ltb limit x (omega (arith, ints, h))
above-not limit (negsuc x) h = refl

not-below : (x : ℤ) → is_below x ≡ false → pos 0 ≤ℤ x
not-below (pos x) e = omega (arith, ints)
not-below (negsuc x) e = absurd (cc)

below-not : (x : ℤ) → pos 0 ≤ℤ x → is_below x ≡ false
below-not (pos x) h = refl
below-not (negsuc x) h = absurd (omega (arith, ints, h))

-- nothing is counted above the limit exactly where no number is above it
pub none-above : (limit : ℕ) (numbers : ℕ → ℤ) (count : ℕ)
    → (above_limit limit numbers count ≡ 0) ↔ ((i : ℕ) → i < count → numbers i ≤ℤ pos limit)
none-above limit numbers count = (
  λ e i few. not-above limit (numbers i) (count_of-none (λ k. is_above limit (numbers k)) count e i few),
  λ h. none-count_of (λ k. is_above limit (numbers k)) count (λ i few. above-not limit (numbers i) (h i few)),
)

-- nor below 0
pub none-below : (numbers : ℕ → ℤ) (count : ℕ)
    → (below_zero numbers count ≡ 0) ↔ ((i : ℕ) → i < count → pos 0 ≤ℤ numbers i)
none-below numbers count = (
  λ e i few. not-below (numbers i) (count_of-none (λ k. is_below (numbers k)) count e i few),
  λ h. none-count_of (λ k. is_below (numbers k)) count (λ i few. below-not (numbers i) (h i few)),
)

-- a count with one place more, which passes or doesn't
pub count-next : (test : ℕ → Bool) (count x : ℕ) → x ≡ count_of test count → test count ≡ true → x + 1 ≡ count_of test (count + 1)
count-next test count x h e = omega (arith, h, count_of-yes test count e)

pub count-same : (test : ℕ → Bool) (count x : ℕ) → x ≡ count_of test count → test count ≡ false → x ≡ count_of test (count + 1)
count-same test count x h e = h ∙ sym (count_of-no test count e)

-- a list of one number
pub replicate-at : (x n k : ℕ) → get_or (replicate n x) k x ≡ x
replicate-at x zero k = refl
replicate-at x (suc n) zero = refl
replicate-at x (suc n) (suc k) = replicate-at x n k

-- a count of tests that are the same at those places
pub count_of-same : (test other : ℕ → Bool) (count : ℕ) → ((i : ℕ) → i < count → other i ≡ test i) → count_of other count ≡ count_of test count
count_of-same test other zero same = refl
count_of-same test other (suc count) same =
    let before = count_of-same test other count (λ i few. same i (omega (arith, few))) in
    ap (λ k. k + cond (other count) 1 0) before ∙ ap (λ (b : Bool). count_of test count + cond b 1 0) (same count (omega arith))

-- a test as a number
pub number-of : (b : Bool) → from_bool b ≡ cond b 1 0
number-of true = refl
number-of false = refl
