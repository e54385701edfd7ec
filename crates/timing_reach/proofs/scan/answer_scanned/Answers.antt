use Rattle.capture_scan.specs.report.Contents.{contents_of}
use Rattle.timing_reach.proofs.Scannings.{scan-ends}
use Rattle.timing_reach.proofs.scan.answer_scanned.Goals as goal

pub returns-clause-answered : goal.returns-clause-answered
returns-clause-answered c =
    scan-ends c.args.job.now.form c.args.job.now.capture c.args.read.now.note (contents_of c.args.read.now.found) c.in_ok-scanned.field-0
    c.in_ok-scanned.ensures
