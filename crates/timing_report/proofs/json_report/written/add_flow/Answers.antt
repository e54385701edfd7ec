use Rattle.std.proofs.Common.{ap, ◌∙◌}
use Rattle.serde_json.specs.Written.{has_float}
use Rattle.timing_report.proofs.lemmas.json_report.Floatless.{flow-floatless}
use Rattle.timing_report.proofs.json_report.written.add_flow.Goals as goal

pub add_value-requires : goal.add_value-requires
add_value-requires c = ap has_float c.in_ok-flow.ensures ∙ flow-floatless c.args.media.now c.args.row.now
