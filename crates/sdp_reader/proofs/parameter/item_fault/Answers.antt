use Rattle.std.proofs.Common.{◌∙◌, arith}
use Rattle.sdp_reader.specs.Parameters.{item_faults}
use Rattle.sdp_reader.specs.Plain.{plain_item}
use Rattle.sdp_reader.proofs.Least.{least-step}
use Rattle.sdp_reader.proofs.parameter.item_fault.Goals as goal

pub loop-item-preserved : goal.loop-item-preserved
loop-item-preserved c =
    least-step item_faults plain_item c.loop-item.fault _ _ c.args.items.now c.loop-item.item-index _ c.first_of-fault.ensures c.fault.ensures (omega arith)
    ∙ c.loop-item.invariant
