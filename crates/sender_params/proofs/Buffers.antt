-- Packets that come at once, before their reads.
use Rattle.std.proofs.Common.{◌≡◌, ◌≤◌, ◌*◌, ℕ, Bool, true, false, cond, List, [], ◌∷◌, length, refl, arith, pos, ◌≤ℤ◌, ◌-ℤ◌, subst}
use Rattle.std.specs.List.{count_by, range_with_len}
use Rattle.std.proofs.lemmas.Int.{ints}
use Rattle.std.proofs.lemmas.List.Folds.{sum_by-replicate}
use Rattle.std.proofs.lemmas.List.FromFn.{length-range_with_len}
use Rattle.std.proofs.lemmas.List.Sums.{count_by-le-length, sum_by-cons}
use Rattle.fraction128.specs.Fractions.{Fraction, at_most, whole}
use Rattle.sender_params.specs.Reads.{read_of}
use Rattle.sender_params.specs.Keeps.{arrived, due_among}
use Rattle.sender_params.specs.Worked.{at_once, hd_50}

-- a count of what holds only where a test does
pub count_by-guarded : (b : Bool) (p : ℕ → Bool) (xs : List ℕ) → ((x : ℕ) → b ≡ false → p x ≡ true → ⊥) → count_by p xs ≤ cond b (length xs) 0
count_by-guarded true p xs h = count_by-le-length p xs
count_by-guarded false p [] h = omega arith
count_by-guarded false p (x ∷ xs) h =
    let rest : count_by p xs ≤ 0 = count_by-guarded false p xs h in
    let none : cond (p x) 1 0 ≤ 0 = (elim (p x) as (λ y. p x ≡ y → cond y 1 0 ≤ 0) [
      | true ↦ λ e. absurd (h x refl e)
      | false ↦ λ e. omega arith
    ]) refl in
    omega (arith, sum_by-cons (λ y. cond (p y) 1 0) x xs, rest, none)

-- no read comes before the packets do
pub reads-after : (t : Fraction) (x : ℕ) → at_most (whole 1600000000000764000) t ≡ false → at_most (read_of hd_50 20 (pos 80000000000) true x) t ≡ true → ⊥
reads-after t x before due = omega (arith, ints, before, due)

-- the packets that came are all of them or none
pub arrived-at_once : (count : ℕ) (t : Fraction) → arrived (at_once count) t ≡ cond (at_most (whole 1600000000000764000) t) count 0
arrived-at_once count t =
    let sum : arrived (at_once count) t ≡ count * cond (at_most (whole 1600000000000764000) t) 1 0 =
    sum_by-replicate (λ at. cond (at_most (whole at) t) 1 0) count 1600000000000764000 in
    (elim (at_most (whole 1600000000000764000) t) as (λ b. arrived (at_once count) t ≡ count * cond b 1 0 → arrived (at_once count) t ≡ cond b count 0) [
      | true ↦ λ e. omega (arith, e)
      | false ↦ λ e. omega (arith, e)
    ]) sum

-- the buffer holds between none and all of them
pub held-at_once : (count : ℕ) (t : Fraction)
    → (pos 0 ≤ℤ (pos (arrived (at_once count) t) -ℤ pos (due_among hd_50 20 (pos 80000000000) true count t)))
    × ((pos (arrived (at_once count) t) -ℤ pos (due_among hd_50 20 (pos 80000000000) true count t)) ≤ℤ pos count)
held-at_once count t =
    let b = at_most (whole 1600000000000764000) t in
    let came = arrived-at_once count t in
    let reads = range_with_len 0 count in
    let few : due_among hd_50 20 (pos 80000000000) true count t ≤ cond b (length reads) 0 =
    count_by-guarded b (λ x. at_most (read_of hd_50 20 (pos 80000000000) true x) t) reads (reads-after t) in
    let size : length reads ≡ count = length-range_with_len 0 count in
    let most : cond b count 0 ≤ count = elim b as (λ b. cond b count 0 ≤ count) [ true ↦ omega arith | false ↦ omega arith ] in
    let due : due_among hd_50 20 (pos 80000000000) true count t ≤ cond b count 0 =
    subst (λ k. due_among hd_50 20 (pos 80000000000) true count t ≤ cond b k 0) size few in
    (omega (arith, ints, came, due), omega (arith, ints, came, due, most))
