use Rattle.std.proofs.Common.{refl, slice_index, sym}
use Rattle.sender_params.specs.Reads.{anchor_of}
use Rattle.vrx_buffer.proofs.Lateness.{late-at}
use Rattle.vrx_buffer.proofs.held.Held.after.Goals as goal

pub returns-clause-late : goal.returns-clause-late
returns-clause-late c = λ m n stamps gapped is some due.
    let e = c.comes_late.ensures in
    let at = slice_index stamps c.args.packet in
    sym (late-at m n (anchor_of m (slice_index stamps 0)) gapped at c.args.packet c.args.packet c.args.due c.comes_late.result refl is some due
    e.last e.more e.fewer)
