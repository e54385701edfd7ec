use Rattle.timing_steps.specs.Answers.{seen_of}
use Rattle.timing_top.proofs.Headlines.{same-follows, same-report}
use Rattle.timing_top.proofs.laws.same_for_all_workers.Goals as goal

pub returns-clause-report : goal.returns-clause-report
returns-clause-report g c = same-report

pub returns-clause-follows : goal.returns-clause-follows
returns-clause-follows g c = λ job workers old new. same-follows job workers (seen_of g.H.Shelf old new)
