use Rattle.std.proofs.Common.{ap, ◌∙◌}
use Rattle.serde_json.specs.Written.{has_float}
use Rattle.timing_report.proofs.lemmas.json_report.Floatless.{files-floatless}
use Rattle.timing_report.proofs.json_report.written.add_files.Goals as goal

pub add_value-requires : goal.add_value-requires
add_value-requires c = ap has_float c.in_ok-files.ensures ∙ files-floatless c.args.captures.now c.args.notes.now
