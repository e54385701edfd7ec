use Rattle.std.proofs.Common.{◌≡◌, length, rules}
use Rattle.flow_measure.specs.report.Told.{gaps_told}
use Rattle.measure_reader.specs.Fits.{FitsGaps}
use Rattle.measure_reader.proofs.Options.{IfSome-map, three_fit, three_long}
use Rattle.measure_reader.proofs.limits.numbers_fit.Goals as goal

pub returns : goal.returns
returns c =
    let long : length c.args.numbers.kinds ≡ 3 = search rules in
    record {
      bucket = c.summaries_fit.ensures;
      gapped = c.buffers_fit.ensures;
      linear = c.buffers_fit-2.ensures;
      kinds = three_fit c.args.numbers.kinds long _ _ _ c.kinds_fit.ensures c.kinds_fit-2.ensures c.kinds_fit-3.ensures;
      three = three_long c.args.numbers.kinds long;
      first = c.summaries_fit-2.ensures;
      last = c.summaries_fit-3.ensures;
      target = search rules;
      step = c.steps_fit.ensures;
      offset = c.summaries_fit-4.ensures;
      latency = c.summaries_fit-5.ensures;
      gap = IfSome-map gaps_told FitsGaps c.args.numbers.gap c.maybe_gaps_fit.ensures;
    }
