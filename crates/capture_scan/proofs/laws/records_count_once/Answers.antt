use Rattle.capture_scan.proofs.Parts.{records-counted}
use Rattle.capture_scan.proofs.laws.records_count_once.Goals as goal

pub returns : goal.returns
returns c = records-counted
