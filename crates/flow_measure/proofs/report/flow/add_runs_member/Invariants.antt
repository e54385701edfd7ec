use Rattle.std.proofs.Common.{◌≡◌, ◌++◌, drop, false}
use Rattle.std.specs.Prelude.{codes, string_bytes, map, nat_lt}
use Rattle.flow_measure.specs.report.Json.{items_text, run_text}
use Rattle.flow_measure.specs.report.Told.{run_told}
use Rattle.flow_measure.proofs.report.flow.add_runs_member.Given as goal

abbrev pub invariant-loop-index : goal.invariant-loop-index
invariant-loop-index l =
    string_bytes l.text ++ items_text (run_text l.media) (nat_lt 0 l.index) (map run_told (drop l.index l.runs))
    ≡ (string_bytes l.fn.text ++ codes "\"runs\":[") ++ items_text (run_text l.media) false (map run_told l.runs)
