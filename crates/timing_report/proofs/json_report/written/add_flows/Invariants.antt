use Rattle.std.proofs.Common.{◌≡◌, ◌++◌, drop, false}
use Rattle.std.specs.Prelude.{string_bytes, map, nat_lt}
use Rattle.serde_json.specs.View.{items_of}
use Rattle.serde_json.specs.Written.{items_text}
use Rattle.timing_report.specs.json_report.Json.{row_data}
use Rattle.timing_report.proofs.json_report.written.add_flows.Given as goal

abbrev pub invariant-loop-index : goal.invariant-loop-index
invariant-loop-index l =
    string_bytes l.text ++ items_text (nat_lt 0 l.index) (items_of (map (row_data l.session) (drop l.index l.rows)))
    ≡ string_bytes l.fn.text ++ items_text false (items_of (map (row_data l.session) l.rows))
