use Rattle.std.proofs.Common.{ℕ, List, ◌++◌}
use Rattle.std.specs.Prelude.{string_bytes}
use Rattle.timing_report.proofs.Appends.{two_ok}
use Rattle.flow_measure.specs.report.Json.{run_end, run_front, run_middle, run_rest, run_text}
use Rattle.flow_measure.specs.report.Told.{run_told}
use Rattle.flow_measure.proofs.report.run.add_run.Goals as goal

pub returns : goal.returns
unfolding run_text
returns c =
    let run = run_told c.args.run.now in
    let r = c.add_end.result in
    let front : List ℕ = run_front run.judged run.numbers in
    let middle : List ℕ = run_middle c.args.media.now run.judged run.numbers in
    let rest : List ℕ = run_rest run.judged run in
    let end : List ℕ = run_end run.judged run in
    two_ok r (string_bytes c.args.text.now) front (middle ++ (rest ++ end)) _ _ c.in_ok-add_front.ensures
    (two_ok r _ middle (rest ++ end) _ _ c.in_ok-add_middle.ensures
    (two_ok r _ rest end _ _ c.in_ok-add_rest.ensures c.add_end.ensures))
