use Rattle.std.proofs.Common.{ap, ◌∙◌}
use Rattle.serde_json.specs.Written.{has_float}
use Rattle.flow_measure.specs.report.Told.{flow_told}
use Rattle.flow_measure.proofs.lemmas.report.Floatless.{flow-floatless}
use Rattle.flow_measure.proofs.report.flow.add_unjudged.Goals as goal

pub add_value-requires : goal.add_value-requires
add_value-requires c =
    ap has_float c.in_ok-value.ensures ∙ flow-floatless c.args.media.now (flow_told c.args.flow.now) c.args.unjudged
