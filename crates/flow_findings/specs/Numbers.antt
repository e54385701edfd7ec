-- The numbers of the judged run that is shown, for the sender type that its findings are of (SMPTE ST 2110-21). Units
-- and meanings are those of the fields of `ShownNumbers`: times are nanoseconds, steps and offsets ticks of 90 kHz, and
-- the others packets, frames or fields, or counts of them. The times are those of `sender_params`, rounded down.
use Rattle.std.specs.Prelude.{ℕ, ℤ, pos, neg_ℤ, ◌-◌, ◌/◌, ◌^◌, max, nat_lt, int_lt, if◌then◌else◌}
use Rattle.std.specs.Prelude.{List, map, slice_index_or, Option, Some, None}
use Rattle.std.specs.Option.{unwrap_or}
use Rattle.timing_base.specs.Media.{Media}
use Rattle.timing_base.specs.Verdicts.{Judged}
use Rattle.timing_base.specs.declared.media.Kind.{Kind}
use Rattle.timing_base.specs.declared.media.Kind.TheVariants.{N, NL, W}
use Rattle.sender_params.specs.Times.{drain_time, group_time}
use Rattle.timing_report.specs.Outcomes.{buffer_peak, first_passing, place_of, verdict_on}
use Rattle.flow_measure.specs.declared.margin.Margins.{Margins}
use Rattle.flow_measure.specs.declared.numbers.KindNumbers.{KindNumbers}
use Rattle.flow_measure.specs.declared.numbers.RunNumbers.{RunNumbers}
use Rattle.flow_measure.specs.declared.summary.Summary.{Summary}
use Rattle.flow_measure.specs.Told.{micros_of}
use Rattle.flow_findings.specs.declared.finding.Offsets.{Offsets}
use Rattle.flow_findings.specs.declared.finding.Steps.{Steps}
use Rattle.flow_findings.specs.declared.inputs.Overfull.{Overfull}
use Rattle.flow_findings.specs.declared.inputs.RunDetails.{RunDetails}
use Rattle.flow_findings.specs.declared.inputs.ShownRun.{ShownRun}
use Rattle.flow_findings.specs.declared.numbers.LimitNumbers.{LimitNumbers}
use Rattle.flow_findings.specs.declared.numbers.ShownNumbers.{ShownNumbers}

-- K, the sender type that the findings are of: the declared one; if none is declared, the first that passes, and W if
-- none does
abbrev pub kind_of : Option Kind → Judged → Kind
kind_of (Some kind) judged = kind
kind_of None judged = unwrap_or (first_passing judged) W

-- a number with 64 bits and a sign: the nearest to this one
abbrev pub narrowed : ℤ → ℤ
narrowed x =
    if int_lt x (neg_ℤ (pos (2 ^ 63))) then neg_ℤ (pos (2 ^ 63))
    else (if int_lt (pos (2 ^ 63 - 1)) x then pos (2 ^ 63 - 1) else x)

-- the limits in the measurements for a type, and the packets against them
abbrev pub limits_of : KindNumbers → LimitNumbers
limits_of k = record {
  c_max = k.bucket.limit;
  vrx_full = k.buffer.limit;
  above_bucket = k.bucket.above;
  above_buffer = k.buffer.above;
  groups_broken = k.groups_broken;
  offsets = record { least = micros_of k.troff.lower; greatest = micros_of k.troff.upper };
}

-- no offset serves
abbrev pub no_offsets : Offsets
no_offsets = record { least = None; greatest = None }

-- nothing is counted
abbrev pub no_limits : LimitNumbers
no_limits = record {
  c_max = 0;
  vrx_full = 0;
  above_bucket = 0;
  above_buffer = 0;
  groups_broken = 0;
  offsets = no_offsets;
}

-- the limits of a type, and the packets against them
abbrev pub limits_for : RunNumbers → Kind → LimitNumbers
limits_for numbers kind = slice_index_or (map limits_of numbers.kinds) (place_of kind) no_limits

-- the bucket never exceeds C_MAX
abbrev pub none_overfull : Overfull
none_overfull = record { groups = 0; first = None }

-- the packets after which the bucket exceeds C_MAX of a type
abbrev pub overfull_for : List Overfull → Kind → Overfull
overfull_for types kind = slice_index_or types (place_of kind) none_overfull

-- the margins by the reads of a type: those of N are gapped, those of NL and W linear
abbrev pub margins_for : RunNumbers → Kind → Margins
margins_for numbers N = numbers.gapped.margins
margins_for numbers NL = numbers.linear.margins
margins_for numbers W = numbers.linear.margins

-- the least and the greatest step, if there is a step
abbrev pub steps_in : Option Summary → Option Steps
steps_in None = None
steps_in (Some s) = Some (record { least = narrowed s.least; greatest = narrowed s.greatest })

-- T_GROUP
abbrev pub period_ns : Media → ℕ
period_ns m = (group_time m).0 / max 1 (group_time m).1

-- T_DRAIN
abbrev pub drain_ns : Media → (n : ℕ) → ℕ
drain_ns m n = (drain_time m n).0 / max 1 (drain_time m n).1

-- the mean time from one frame or field to the next, between the first packets of the first and the last one
abbrev pub period_between : (first_at last_group_at groups : ℕ) → Option ℕ
period_between first_at last_group_at groups =
    if nat_lt groups 2 then None else Some ((last_group_at - first_at) / (groups - 1))

-- the numbers for one type, with this verdict and these measurements of the run
abbrev pub numbers_for : Media → Judged → RunNumbers → RunDetails → Kind → ShownNumbers
numbers_for m judged numbers d kind = record {
  kind = kind;
  verdict = verdict_on judged kind;
  n = judged.n;
  groups = judged.frames;
  packets = judged.packets;
  bucket_peak = judged.bucket_peak;
  buffer_peak = buffer_peak judged kind;
  limits = limits_for numbers kind;
  overfull = overfull_for d.overfull kind;
  late = (margins_for numbers kind).late;
  slack = narrowed (margins_for numbers kind).slack;
  target = numbers.target;
  span = d.span;
  period = period_ns m;
  drain = drain_ns m judged.n;
  steps = steps_in numbers.step;
  mean_period = period_between d.first_at d.last_group_at judged.frames;
  slope = d.slope;
  offset = narrowed numbers.offset.first;
}

-- the numbers for K
abbrev pub numbers_of : Media → ShownRun → ShownNumbers
numbers_of m s = numbers_for m s.run.judged s.run.numbers s.details (kind_of m.declared s.run.judged)
