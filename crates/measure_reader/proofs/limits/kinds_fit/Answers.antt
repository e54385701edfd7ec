use Rattle.std.proofs.Common.{rules}
use Rattle.flow_measure.specs.report.Told.{place_told}
use Rattle.measure_reader.specs.Fits.{FitsPlace}
use Rattle.measure_reader.proofs.Options.{IfSome-map}
use Rattle.measure_reader.proofs.limits.kinds_fit.Goals as goal

pub returns : goal.returns
returns c = record {
  groups_broken = search rules;
  bucket = c.bins_fit.ensures;
  buffer = c.bins_fit-2.ensures;
  first_bucket = search rules;
  first_over = search rules;
  first_empty = search rules;
  named = IfSome-map place_told FitsPlace c.args.kind.named c.named_fit.ensures;
  troff = c.windows_fit.ensures;
}
