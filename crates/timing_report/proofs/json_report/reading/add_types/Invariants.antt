use Rattle.std.proofs.Common.{◌≡◌, ◌++◌, drop}
use Rattle.std.specs.Prelude.{option_map}
use Rattle.serde_json.specs.View.{items_view}
use Rattle.timing_report.specs.json_report.Reading.{types_from}
use Rattle.timing_report.proofs.json_report.reading.add_types.Given as goal

abbrev pub invariant-loop-value : goal.invariant-loop-value
invariant-loop-value l =
    option_map (λ more. l.proofs.items ++ more) (types_from l.key l.run (items_view (drop l.value-index l.types)))
    ≡ option_map (λ more. l.fn.proofs.items ++ more) (types_from l.key l.run (items_view l.types))
