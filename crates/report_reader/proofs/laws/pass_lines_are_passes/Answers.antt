use Rattle.report_reader.proofs.PassLines.{flow_pass, run_pass}
use Rattle.report_reader.proofs.laws.pass_lines_are_passes.Goals as goal

pub returns-clause-flow : goal.returns-clause-flow
returns-clause-flow c = flow_pass

pub returns-clause-run : goal.returns-clause-run
returns-clause-run c = run_pass
