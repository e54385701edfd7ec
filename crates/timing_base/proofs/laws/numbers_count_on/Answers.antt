use Rattle.timing_base.proofs.Counting.{cuts-alike, gap-at, missing-at, sequence-at}
use Rattle.timing_base.proofs.laws.numbers_count_on.Goals as goal

pub returns-clause-sequences : goal.returns-clause-sequences
returns-clause-sequences c = sequence-at

pub returns-clause-gaps : goal.returns-clause-gaps
returns-clause-gaps c = gap-at

pub returns-clause-missing : goal.returns-clause-missing
returns-clause-missing c = missing-at

pub returns-clause-alike : goal.returns-clause-alike
returns-clause-alike c = cuts-alike
