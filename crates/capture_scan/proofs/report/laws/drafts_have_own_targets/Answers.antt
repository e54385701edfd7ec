use Rattle.capture_scan.proofs.lemmas.report.Drafted.{drafts-apart}
use Rattle.capture_scan.proofs.report.laws.drafts_have_own_targets.Goals as goal

pub returns-clause-own : goal.returns-clause-own
returns-clause-own c = λ streams. (drafts-apart streams).own

pub returns-clause-few : goal.returns-clause-few
returns-clause-few c = λ streams. (drafts-apart streams).few
