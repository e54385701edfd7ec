use Rattle.capture_scan.proofs.lemmas.report.Guesses.{height-seen, rate-guessed}
use Rattle.capture_scan.proofs.report.laws.guesses_are_exact.Goals as goal

pub returns-clause-rate : goal.returns-clause-rate
returns-clause-rate c = rate-guessed

pub returns-clause-seen : goal.returns-clause-seen
returns-clause-seen c = height-seen
