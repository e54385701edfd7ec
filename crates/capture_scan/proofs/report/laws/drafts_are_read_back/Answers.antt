use Rattle.capture_scan.proofs.lemmas.report.DraftFaults.{draft-reads}
use Rattle.capture_scan.proofs.report.laws.drafts_are_read_back.Goals as goal

pub returns : goal.returns
returns c = draft-reads
