use Rattle.std.proofs.Common.{rules}
use Rattle.std.proofs.lemmas.Int.{to_z-of_z}
use Rattle.std.specs.Int.{w128}
use Rattle.flow_measure.specs.Groups.{latency_at, offset_at, since_at}
use Rattle.flow_measure.proofs.Grouped.{latency-first, offset-first, since-first}
use Rattle.flow_page.proofs.drawing.groups.GroupCurves.feed.Goals as goal

pub returns-clause-draws : goal.returns-clause-draws
returns-clause-draws c = λ first last timestamp h first_is last_is ticks_is.
    let s = c.args.self.now in
    let m = c.args.params.now.media in
    let n0 = c.args.n0 in
    let g = c.args.group in
    let anchor = to_z-of_z w128 n0 (search rules) in
    record {
      first_draws = c.feed.ensures.draws (since_at m n0 first) h.first_draws
          (since-first m n0 _ first s.first.seen s.seen g.first c.since_start-first.result _ s.first_is first_is anchor
          c.since_start-first.ensures.value (to_z-of_z w128 c.since_start-first.result (search rules)));
      drift_draws = c.feed-2.ensures.draws (since_at m n0 first) h.drift_draws
          (since-first m n0 _ first s.drift.seen s.seen g.first c.since_start-first.result _ s.drift_is first_is anchor
          c.since_start-first.ensures.value (to_z-of_z w128 c.since_start-first.result (search rules)));
      last_draws = c.feed-3.ensures.draws (since_at m n0 last) h.last_draws
          (since-first m n0 _ last s.last.seen s.seen c.args.at c.since_start.result _ s.last_is last_is anchor c.since_start.ensures.value
          (to_z-of_z w128 c.since_start.result (search rules)));
      offset_draws = c.feed-4.ensures.draws (offset_at m n0 timestamp) h.offset_draws
          (offset-first m n0 _ timestamp s.offset.seen s.seen g.timestamp c.offset_of.result _ s.offset_is ticks_is anchor c.offset_of.ensures.value
          (to_z-of_z w128 c.offset_of.result (search rules)));
      latency_draws = c.feed-5.ensures.draws (latency_at first timestamp) h.latency_draws
          (latency-first first timestamp s.latency.seen s.seen g.first g.timestamp c.latency_of.result _ s.latency_is first_is ticks_is
          c.latency_of.ensures.value (to_z-of_z w128 c.latency_of.result (search rules)));
    }
