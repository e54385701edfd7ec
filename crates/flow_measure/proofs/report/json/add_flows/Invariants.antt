use Rattle.std.proofs.Common.{◌≡◌, ◌++◌, drop, false}
use Rattle.std.specs.Prelude.{string_bytes, map, nat_lt}
use Rattle.flow_measure.specs.report.Json.{flow_text, items_text}
use Rattle.flow_measure.specs.report.Told.{flow_told}
use Rattle.flow_measure.proofs.report.json.add_flows.Given as goal

abbrev pub invariant-loop-index : goal.invariant-loop-index
invariant-loop-index l =
    string_bytes l.text ++ items_text (flow_text l.session) (nat_lt 0 l.index) (map flow_told (drop l.index l.flows))
    ≡ string_bytes l.fn.text ++ items_text (flow_text l.session) false (map flow_told l.flows)
