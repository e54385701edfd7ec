use Rattle.std.proofs.Common.{arith}
use Rattle.flow_page.proofs.drawing.groups.GroupCurves.keep.Goals as goal

pub returns-clause-draws : goal.returns-clause-draws
returns-clause-draws c = λ m anchor first last timestamp more h k.
    let s = c.args.self.now in
    let o = c.args.other.now in
    record {
      first_draws = c.keep.ensures.draws _ h.first_draws (omega (arith, more, s.first_is, o.first_is)) k.first_draws;
      drift_draws = c.keep-2.ensures.draws _ h.drift_draws (omega (arith, more, s.drift_is, o.drift_is)) k.drift_draws;
      last_draws = c.keep-3.ensures.draws _ h.last_draws (omega (arith, more, s.last_is, o.last_is)) k.last_draws;
      offset_draws = c.keep-4.ensures.draws _ h.offset_draws (omega (arith, more, s.offset_is, o.offset_is)) k.offset_draws;
      latency_draws = c.keep-5.ensures.draws _ h.latency_draws (omega (arith, more, s.latency_is, o.latency_is)) k.latency_draws;
    }
