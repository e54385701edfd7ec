use Rattle.std.proofs.Common.{List, ℕ, ◌++◌}
use Rattle.std.specs.Prelude.{string_bytes}
use Rattle.timing_report.proofs.Appends.{two_ok}
use Rattle.flow_page.specs.Numbers.{numbers_table, runs_table, types_table}
use Rattle.flow_page.specs.Page.{run_tables}
use Rattle.flow_page.proofs.page.add_run_tables.Goals as goal

pub returns : goal.returns
unfolding run_tables
returns c =
    let r = c.add_runs_table.result in
    let m = c.args.media.now in
    let a : List ℕ = numbers_table m c.args.shown.now.run.numbers in
    let b : List ℕ = types_table m c.args.types.now in
    let d : List ℕ = runs_table m c.args.runs.now in
    two_ok r (string_bytes c.args.text.now) a (b ++ d) _ _ c.in_ok-add_numbers_table.ensures
    (two_ok r _ b d _ _ c.in_ok-add_types_table.ensures c.add_runs_table.ensures)
