use Rattle.std.proofs.Common.{◌≡◌, ◌++◌, drop}
use Rattle.std.specs.Prelude.{option_map}
use Rattle.serde_json.specs.View.{items_view}
use Rattle.timing_report.specs.json_report.Reading.{flows_from}
use Rattle.timing_report.proofs.json_report.reading.add_flows.Given as goal

abbrev pub invariant-loop-flow : goal.invariant-loop-flow
invariant-loop-flow l =
    option_map (λ more. l.proofs.items ++ more) (flows_from (items_view (drop l.flow-index l.flows)))
    ≡ option_map (λ more. l.fn.proofs.items ++ more) (flows_from (items_view l.flows))
