-- A judged run of whole groups has its numbers, where all stamps are below 2^63.
use Rattle.std.proofs.Common.{◌≡◌, ◌<◌, ◌≤◌, ◌+◌, ◌*◌, ◌^◌, ℕ, List, length, slice_index, Option, arith}
use Rattle.std.proofs.Math.Nat.{one-le-mul}
use Rattle.timing_base.specs.Media.{IsMedia, Media}
use Rattle.flow_measure.specs.Run.{IsMeasured}
use Rattle.flow_measure.specs.declared.numbers.RunNumbers.{RunNumbers}
use Rattle.flow_measure.proofs.Existing.{numbers-some}

-- a run of whole groups has its numbers
pub some-measure : (m : Media) (n groups : ℕ) (stamps records timestamps : List ℕ) (named : List (Option ℕ)) → IsMedia m → 1 ≤ n → 1 ≤ groups
    → length stamps ≡ n * groups → length stamps ≤ 2 ^ 41 → ((i : ℕ) → i < length stamps → slice_index stamps i < 2 ^ 63)
    → (x : RunNumbers) × IsMeasured m n groups stamps records timestamps named x
some-measure m n groups stamps records timestamps named is some some_groups size few low =
    let product : 1 ≤ n * groups = one-le-mul some some_groups in
    numbers-some m n groups stamps records timestamps named is some some_groups size (omega (arith, size, product)) few
    (λ i before. omega (arith, low (i + 1) (omega (arith, before))))
