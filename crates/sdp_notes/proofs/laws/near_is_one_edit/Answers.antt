use Rattle.sdp_notes.proofs.Edits.{differ-edit, edit-differ}
use Rattle.sdp_notes.proofs.laws.near_is_one_edit.Goals as goal

pub returns-clause-differ : goal.returns-clause-differ
returns-clause-differ c = edit-differ

pub returns-clause-edit : goal.returns-clause-edit
returns-clause-edit c = differ-edit
