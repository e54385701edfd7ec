use Rattle.timing_steps.specs.Answers.{seen_of}
use Rattle.timing_steps.proofs.Capturing.{captures-cause}
use Rattle.timing_reach.specs.Scanned.{HasScan}
use Rattle.timing_reach.specs.scan.Scanning.{IsScannedIn}
use Rattle.timing_reach.proofs.Scannings.{has-scan, reads-twice, scan-cause}
use Rattle.timing_reach.proofs.Takings.{if-ok}
use Rattle.timing_reach.proofs.scan.answer_scan.Goals as goal

pub returns-clause-follows : goal.returns-clause-follows
returns-clause-follows g c =
    let i = seen_of g.H.Shelf c.args.shelf.now c.read_capture.new.shelf in
    reads-twice i (g.H.Shelf.text c.read_capture.new.shelf) (g.H.Shelf.faults c.read_capture.new.shelf) c.answer_scanned.result c.args.job.now.capture
    (λ text. IsScannedIn text c.in_ok-read.read)
    (HasScan c.args.job.now)
    c.read_capture.ensures.stays.texts c.read_capture.ensures.stays.later c.in_ok-read.ensures.told c.in_ok-read.ensures.there
    (if-ok c.answer_scanned.result (λ answer is text whole h. has-scan c.args.job.now text c.in_ok-read.read answer h is) c.answer_scanned.ensures.answers)
    (captures-cause c.answer_scanned.result _ c.answer_scanned.ensures.cause)

pub returns-clause-cause : goal.returns-clause-cause
returns-clause-cause g c =
    let i = seen_of g.H.Shelf c.args.shelf.now c.read_capture.new.shelf in
    scan-cause i c.args.job.now c.answer_scanned.result c.answer_scanned.ensures.answered
    (captures-cause c.answer_scanned.result _ c.answer_scanned.ensures.cause)
