use Rattle.std.proofs.Common.{◌∙◌}
use Rattle.sdp_reader.specs.Parameters.{item_at}
use Rattle.sdp_reader.proofs.Items.{items-step}
use Rattle.sdp_reader.proofs.parameter.add_items.Goals as goal

pub loop-piece-preserved : goal.loop-piece-preserved
loop-piece-preserved c =
    items-step (item_at c.args.line) 59 _ _ _ c.loop-piece.rest.now c.in-Some.piece.now c.in-Some.after.now c.in_ok-add_item.ensures c.item_at.ensures
    c.in-Some.ensures.pieces
    ∙ c.loop-piece.invariant
