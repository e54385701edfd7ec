use Rattle.std.proofs.Common.{◌≡◌, length}
use Rattle.sdp_notes.specs.Near.{is_within_an_edit}
use Rattle.sdp_notes.proofs.near.is_within_an_edit.Given as goal

abbrev pub invariant-loop-one : goal.invariant-loop-one
invariant-loop-one l = is_within_an_edit l.one l.other ≡ is_within_an_edit l.fn.one l.fn.other

abbrev pub decreases-loop-one : goal.decreases-loop-one
decreases-loop-one l = length l.one
