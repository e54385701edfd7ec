use Rattle.std.proofs.Common.{◌≡◌, ◌++◌, drop}
use Rattle.std.specs.Prelude.{string_bytes}
use Rattle.std.specs.List.{flat_map}
use Rattle.flow_page.specs.Numbers.{run_row}
use Rattle.flow_page.proofs.numbers.add_run_rows.Given as goal

abbrev pub invariant-loop-run : goal.invariant-loop-run
invariant-loop-run l =
    string_bytes l.text ++ flat_map run_row (drop l.run-index l.runs) ≡ string_bytes l.fn.text ++ flat_map run_row l.runs
