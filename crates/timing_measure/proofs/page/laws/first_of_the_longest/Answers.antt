use Rattle.timing_measure.specs.page.Worked.{part_of}
use Rattle.timing_measure.proofs.lemmas.page.Once.{longest-once, second-longest}
use Rattle.timing_measure.proofs.page.laws.first_of_the_longest.Goals as goal

pub returns-clause-one : goal.returns-clause-one
returns-clause-one c = λ part h. longest-once _ part (part_of 2 4) h second-longest

pub returns-clause-there : goal.returns-clause-there
returns-clause-there c = second-longest
