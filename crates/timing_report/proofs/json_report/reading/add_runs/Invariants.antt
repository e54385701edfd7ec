use Rattle.std.proofs.Common.{◌≡◌, ◌++◌, drop}
use Rattle.std.specs.Prelude.{option_map}
use Rattle.serde_json.specs.View.{items_view}
use Rattle.timing_report.specs.json_report.Reading.{runs_from}
use Rattle.timing_report.proofs.json_report.reading.add_runs.Given as goal

abbrev pub invariant-loop-run : goal.invariant-loop-run
invariant-loop-run l =
    option_map (λ more. l.proofs.items ++ more) (runs_from l.key l.run (items_view (drop l.run l.runs)))
    ≡ option_map (λ more. l.fn.proofs.items ++ more) (runs_from l.key 0 (items_view l.runs))
