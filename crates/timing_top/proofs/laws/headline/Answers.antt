use Rattle.timing_steps.specs.Answers.{seen_of}
use Rattle.timing_top.proofs.Headlines.{headline, no-request}
use Rattle.timing_top.proofs.laws.headline.Goals as goal

pub returns-clause-check : goal.returns-clause-check
returns-clause-check g c = λ words job sdp captures old new. headline words job sdp captures (seen_of g.H.Shelf old new)

pub returns-clause-no_request : goal.returns-clause-no_request
returns-clause-no_request g c = λ words old new. no-request words (seen_of g.H.Shelf old new)
