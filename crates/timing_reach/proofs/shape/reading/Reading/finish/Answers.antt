use Rattle.std.proofs.Common.{arith, ap, ◌<◌, ◌^◌, length}
use Rattle.timing_base.proofs.Grouped.{judged-grouped}
use Rattle.timing_base.specs.declared.row.Row.{Row}
use Rattle.udp_rtp.specs.Flow.{flow}
use Rattle.timing_reach.proofs.shape.reading.Reading.finish.Goals as goal

pub returns : goal.returns
returns c = λ m key options list items are h.
    let few : length (flow items m) < 2 ^ 41 = omega (arith, h.judge.fed, c.requires) in
    record {
      verdict_is = ap (λ (r : Row). r.verdict) (c.in_ok-row.ensures.row m key options (flow items m) h.judge);
      packets = h.packets;
      grouped = judged-grouped (flow items m) m.pt options few are h.judge.stamped;
    }
