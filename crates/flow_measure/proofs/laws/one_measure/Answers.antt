use Rattle.std.proofs.Common.{◌-◌, length, slice_index, ◌∙◌, sym}
use Rattle.sender_params.specs.Limits.{c_max_of, vrx_full_of}
use Rattle.offset_window.proofs.Unique.{window-once}
use Rattle.flow_measure.specs.Groups.{firsts_of, lasts_of, latency_at, offset_at, since_at, step_after}
use Rattle.flow_measure.specs.Occupancy.{buckets_of}
use Rattle.flow_measure.specs.Run.{anchor_in, packets_of}
use Rattle.flow_measure.proofs.Measured.{above-is, below-is, bins-once, buffer-once, classes-once, first-once, kind-same, option-once}
use Rattle.flow_measure.proofs.Unique.{summary-once}
use Rattle.flow_measure.proofs.laws.one_measure.Goals as goal

pub returns-clause-bucket : goal.returns-clause-bucket
returns-clause-bucket c = λ m n groups stamps records timestamps named x other h k.
    summary-once (buckets_of m n stamps) (length stamps) x.bucket other.bucket h.bucket k.bucket

pub returns-clause-groups : goal.returns-clause-groups
returns-clause-groups c = λ m n groups stamps records timestamps named x other h k.
    let stamp = slice_index stamps in
    let timestamp = slice_index timestamps in
    let anchor = anchor_in m stamps in (
      summary-once (since_at m anchor (firsts_of n stamp)) groups x.first other.first h.first k.first,
      summary-once (since_at m anchor (lasts_of n stamp)) groups x.last other.last h.last k.last,
      h.target ∙ sym k.target,
      option-once (step_after (firsts_of n timestamp)) (groups - 1) x.step other.step h.step k.step,
      summary-once (offset_at m anchor (firsts_of n timestamp)) groups x.offset other.offset h.offset k.offset,
      summary-once (latency_at (firsts_of n stamp) (firsts_of n timestamp)) groups x.latency other.latency h.latency k.latency,
    )

pub returns-clause-buffer : goal.returns-clause-buffer
returns-clause-buffer c = buffer-once

pub returns-clause-bins : goal.returns-clause-bins
returns-clause-bins c = bins-once

pub returns-clause-classes : goal.returns-clause-classes
returns-clause-classes c = classes-once

pub returns-clause-kind : goal.returns-clause-kind
returns-clause-kind c = λ m n groups stamps records occupancy others kind named k other are be h there.
    let i = kind-same m n groups stamps records others occupancy kind named other be are there in
    let a = h.numbers in
    let b = i.numbers in
    let p = packets_of m n stamps records occupancy kind in
    let count = length stamps in
    let c_max = c_max_of m n kind in
    let full = vrx_full_of m n kind in (
      a.groups_broken ∙ sym b.groups_broken,
      first-once p.overfull count k.first_bucket other.first_bucket a.first_bucket b.first_bucket,
      first-once p.over count k.first_over other.first_over a.first_over b.first_over,
      first-once p.empty count k.first_empty other.first_empty a.first_empty b.first_empty,
      a.named_is ∙ sym b.named_is,
      above-is c_max count p.bucket k.bucket a.bucket ∙ sym (above-is c_max count p.bucket other.bucket b.bucket),
      above-is full count p.occupancy k.buffer a.buffer ∙ sym (above-is full count p.occupancy other.buffer b.buffer),
      below-is full count p.occupancy k.buffer a.buffer ∙ sym (below-is full count p.occupancy other.buffer b.buffer),
      window-once m n stamps kind k.troff other.troff h.troff there.troff,
    )
