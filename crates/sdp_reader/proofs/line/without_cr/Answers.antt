use Rattle.std.proofs.Common.{arith}
use Rattle.std.proofs.lemmas.Grind.{common_steps}
use Rattle.sdp_reader.proofs.Numbering.{without_cr-cr, without_cr-other, without_cr-empty}
use Rattle.sdp_reader.proofs.line.without_cr.Goals as goal
use Rattle.sdp_reader.proofs.line.without_cr.Goals.{else-not-is_empty-via-then-not-is_empty+else-piece-eq13, else-not-is_empty-via-else-not-is_empty}

pub returns-then-piece-eq13-clause-value : goal.returns-then-piece-eq13-clause-value
returns-then-piece-eq13-clause-value c = without_cr-cr c.args.piece.now (grind (arith, common_steps)) c.if-piece-eq13.true

pub returns-else-not-is_empty-clause-value : goal.returns-else-not-is_empty-clause-value
returns-else-not-is_empty-clause-value c =
    elim c.else-not-is_empty.branch [
      | else-not-is_empty-via-then-not-is_empty+else-piece-eq13 w ↦ without_cr-other c.args.piece.now (grind (arith, common_steps)) w.if-piece-eq13.false
      | else-not-is_empty-via-else-not-is_empty w ↦ without_cr-empty c.args.piece.now (grind (arith, common_steps))
    ]
