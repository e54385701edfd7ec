use Rattle.std.proofs.Common.{rules, subst}
use Rattle.std.specs.Prelude.{All, map}
use Rattle.flow_measure.specs.report.Told.{run_told}
use Rattle.measure_reader.specs.Fits.{FitsRun}
use Rattle.measure_reader.proofs.limits.flows_fit.Goals as goal

pub returns : goal.returns
returns c = record {
  media = search rules;
  packets = search rules;
  ssrc = c.ssrcs_fit.ensures;
  runs = subst (λ runs. All FitsRun (map run_told runs)) c.as_slice.ensures c.all_runs_fit.ensures;
}
