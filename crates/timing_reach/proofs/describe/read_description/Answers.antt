use Rattle.std.proofs.Common.{ap, ◌∙◌, rules}
use Rattle.sdp_notes.specs.Described.{described}
use Rattle.sdp_notes.proofs.Front.{described-take}
use Rattle.timing_reach.proofs.describe.read_description.Goals as goal

pub returns-in-Ok-clause-text : goal.returns-in-Ok-clause-text
returns-in-Ok-clause-text g c = λ text told. ap described (c.in-Ok.ensures.text text (search rules)) ∙ described-take text
