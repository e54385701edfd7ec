use Rattle.std.proofs.Common.{ap}
use Rattle.timing_base.specs.Keys.{key_of}
use Rattle.timing_base.specs.declared.row.Row.{Row}
use Rattle.timing_measure.proofs.flows.flow.FlowMeter.finish.Goals as goal

pub returns : goal.returns
returns g c = λ wants past m number options packets h.
    let key = key_of 0 number in
    let row = c.in_ok-row.ensures.row m key options packets h.metered_is.judge_is in
    record {
      media = ap (λ (r : Row). r.key.media) row;
      count = c.fed-packets.ensures.count m key options packets h.metered_is.judge_is;
      source = h.source_is;
      verdict_is = ap (λ (r : Row). r.verdict) row;
      told = c.in_ok-row.ensures.tells wants past m key options packets h.metered_is;
    }
