use Rattle.timing_reach.proofs.Scannings.{once-scan, some-scan}
use Rattle.timing_reach.proofs.laws.one_scan_answer.Goals as goal

pub returns-clause-some : goal.returns-clause-some
returns-clause-some c = some-scan

pub returns-clause-once : goal.returns-clause-once
returns-clause-once c = once-scan
