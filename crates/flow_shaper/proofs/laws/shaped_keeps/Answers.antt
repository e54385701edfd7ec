use Rattle.std.proofs.Common.{◌≤◌, ◌+◌, ◌-◌, slice_index, arith, sym, subst}
use Rattle.fraction128.specs.Fractions.{whole}
use Rattle.sender_params.specs.Keeps.{due_among}
use Rattle.sender_params.specs.Limits.{c_max_of, gapped_of, vrx_full_of}
use Rattle.sender_params.specs.Reads.{anchor_of}
use Rattle.sender_params.specs.Ticks.{ticks_of}
use Rattle.flow_shaper.proofs.Exists.{first-leaves}
use Rattle.flow_shaper.proofs.laws.shaped_keeps.Goals as goal

-- the ticks and the reads of the first arrival are those of the first departure
pub returns-clause-bucket : goal.returns-clause-bucket
returns-clause-bucket c = λ m n kind arrivals departures media some shaped j i order few.
    subst (λ a0. (i - j + 1) - (ticks_of m n a0 (slice_index departures i) - ticks_of m n a0 (slice_index departures j)) ≤ c_max_of m n kind)
    (sym (first-leaves m n kind arrivals departures media some shaped (omega (arith, few, shaped.plan.each))))
    (shaped.plan.bucket j i order few)

pub returns-clause-buffer : goal.returns-clause-buffer
returns-clause-buffer c = λ m n kind arrivals departures i media some shaped few.
    subst (λ a0. (i + 1) - due_among m n (anchor_of m a0) (gapped_of kind) (i + 1) (whole (slice_index departures i)) ≤ vrx_full_of m n kind)
    (sym (first-leaves m n kind arrivals departures media some shaped (omega (arith, few, shaped.plan.each))))
    (shaped.plan.buffer i few)
