use Rattle.std.proofs.Common.{FitsSigned, ap, ◌∙◌, refl, rules, arith}
use Rattle.std.proofs.lemmas.Int.{ints, to_z-of_z}
use Rattle.std.specs.Int.{w128}
use Rattle.flow_measure.specs.Groups.{latency_at, offset_at, since_at}
use Rattle.flow_measure.proofs.Grouped.{latency-first, offset-first, since-first}
use Rattle.flow_measure.proofs.group_meter.GroupMeter.feed.Goals as goal

pub feed-requires-3-clause-low : goal.feed-requires-3-clause-low
feed-requires-3-clause-low c =
    let fits : FitsSigned w128 c.offset_of.result = search rules in
    omega (arith, ints, to_z-of_z w128 c.offset_of.result fits, c.offset_of.ensures.low)

pub feed-requires-4-clause-low : goal.feed-requires-4-clause-low
feed-requires-4-clause-low c =
    let fits : FitsSigned w128 c.latency_of.result = search rules in
    omega (arith, ints, to_z-of_z w128 c.latency_of.result fits, c.latency_of.ensures.low)

pub returns-clause-stands : goal.returns-clause-stands
returns-clause-stands c = λ first last timestamp h first_is last_is ticks_is.
    let s = c.args.self.now in
    let m = c.args.params.now.media in
    let n0 = c.args.n0 in
    let g = c.args.group in
    let anchor = to_z-of_z w128 n0 (search rules) in
    record {
      first_is = c.feed.ensures.stands (since_at m n0 first) h.first_is
          (since-first m n0 _ first s.first.seen s.first.seen g.first c.since_start.result _ refl first_is anchor c.since_start.ensures.value
          (to_z-of_z w128 c.since_start.result (search rules)));
      last_is = c.feed-2.ensures.stands (since_at m n0 last) h.last_is
          (since-first m n0 _ last s.last.seen s.first.seen g.last c.since_start-2.result _ s.last_is last_is anchor c.since_start-2.ensures.value
          (to_z-of_z w128 c.since_start-2.result (search rules)));
      offset = c.feed-3.ensures.stands (offset_at m n0 timestamp) h.offset
          (offset-first m n0 _ timestamp s.offset.seen s.first.seen g.timestamp c.offset_of.result _ s.offset_is ticks_is anchor
          c.offset_of.ensures.value (to_z-of_z w128 c.offset_of.result (search rules)));
      latency = c.feed-4.ensures.stands (latency_at first timestamp) h.latency
          (latency-first first timestamp s.latency.seen s.first.seen g.first g.timestamp c.latency_of.result _ s.latency_is first_is ticks_is
          c.latency_of.ensures.value (to_z-of_z w128 c.latency_of.result (search rules)));
      step = c.feed-5.ensures.stands timestamp h.step (ap timestamp s.step_is ∙ ticks_is);
    }
