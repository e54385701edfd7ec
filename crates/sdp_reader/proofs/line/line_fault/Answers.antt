use Rattle.std.proofs.Common.{◌∙◌, arith}
use Rattle.sdp_reader.specs.Lines.{line_faults}
use Rattle.sdp_reader.specs.Plain.{plain}
use Rattle.sdp_reader.proofs.Least.{least-step}
use Rattle.sdp_reader.proofs.line.line_fault.Goals as goal

pub loop-line-preserved : goal.loop-line-preserved
loop-line-preserved c =
    least-step line_faults plain c.loop-line.fault _ _ c.args.lines.now c.loop-line.line-index _ c.first_of-fault.ensures c.fault.ensures (omega arith)
    ∙ c.loop-line.invariant
