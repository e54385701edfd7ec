use Rattle.std.proofs.Common.{map}
use Rattle.sdp_reader.specs.Plain.{plain}
use Rattle.sdp_reader.proofs.Targets.{told-own}
use Rattle.sdp_reader.proofs.session.read_sdp.Goals as goal

pub returns-clause-targets : goal.returns-clause-targets
returns-clause-targets c = told-own (map plain c.as_slice-list.result.now) c.answer.result c.answer.ensures
