use Rattle.timing_top.proofs.Reports.{only-report, some-report}
use Rattle.timing_top.proofs.laws.one_report.Goals as goal

pub returns-clause-some : goal.returns-clause-some
returns-clause-some c = some-report

pub returns-clause-once : goal.returns-clause-once
returns-clause-once c = only-report
