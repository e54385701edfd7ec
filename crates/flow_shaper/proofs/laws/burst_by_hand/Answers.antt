use Rattle.std.proofs.Common.{◌≤◌, ◌<◌, ◌+◌, ℕ, zero, suc, List, slice_index, arith}
use Rattle.sender_params.specs.Ticks.{NeverFall}
use Rattle.sender_params.specs.Worked.{at_once}
use Rattle.flow_shaper.specs.Plan.{IsPlan, load}
use Rattle.flow_shaper.specs.Worked.{burst_shaped, first, narrow}
use Rattle.flow_shaper.proofs.ByHand.{five}
use Rattle.flow_shaper.proofs.laws.burst_by_hand.Goals as goal

-- the first four leave when they come
low : (j : ℕ) → j ≤ 3 → slice_index burst_shaped j ≤ first
low zero few = omega arith
low (suc zero) few = omega arith
low (suc (suc zero)) few = omega arith
low (suc (suc (suc zero))) few = omega arith
low (suc (suc (suc (suc i)))) few = absurd (omega (arith, few))

-- and the fifth after them
ordered : NeverFall burst_shaped
ordered j i order few =
    five (λ i. j ≤ i → slice_index burst_shaped j ≤ slice_index burst_shaped i)
    (λ order. low j (omega (arith, order))) (λ order. low j (omega (arith, order))) (λ order. low j (omega (arith, order)))
    (λ order. low j (omega (arith, order)))
    (λ order. five (λ j. slice_index burst_shaped j ≤ first + 909091) (omega arith) (omega arith) (omega arith) (omega arith)
    (omega arith) j (omega (arith, order)))
    i few order

plan : IsPlan narrow (at_once 5) burst_shaped
plan = record {
  each = omega arith;
  after = five (λ i. slice_index (at_once 5) i ≤ slice_index burst_shaped i) (omega arith) (omega arith) (omega arith) (omega arith) (omega arith);
  ordered = ordered;
  bucket = λ j i order few.
      five (λ i. j ≤ i → load narrow burst_shaped j i (slice_index burst_shaped i) ≤ 4)
      (λ order. omega (arith, order)) (λ order. omega (arith, order)) (λ order. omega (arith, order)) (λ order. omega (arith, order))
      (λ order. five (λ j. load narrow burst_shaped j 4 (first + 909091) ≤ 4) (omega arith) (omega arith) (omega arith) (omega arith)
      (omega arith) j (omega (arith, order)))
      i few order;
  buffer = five (λ i. narrow.held i (slice_index burst_shaped i) ≤ 8) (omega arith) (omega arith) (omega arith) (omega arith) (omega arith);
}

-- in each plan the last one leaves after a tick
later : (others : List ℕ) → IsPlan narrow (at_once 5) others → (i : ℕ) → i < 5 → slice_index burst_shaped i ≤ slice_index others i
later others p = five (λ i. slice_index burst_shaped i ≤ slice_index others i)
    (omega (arith, p.after 0 (omega arith)))
    (omega (arith, p.after 1 (omega arith)))
    (omega (arith, p.after 2 (omega arith)))
    (omega (arith, p.after 3 (omega arith)))
    (omega (arith, p.after 0 (omega arith), p.after 4 (omega arith), p.bucket 0 4 (omega arith) (omega (arith, p.each))))

pub returns-clause-shaped : goal.returns-clause-shaped
returns-clause-shaped c = record { plan = plan; least = later }
