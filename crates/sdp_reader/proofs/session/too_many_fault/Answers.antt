use Rattle.std.proofs.Common.{◌∙◌, arith}
use Rattle.sdp_reader.proofs.Sessions.{too_many-some, too_many-none}
use Rattle.sdp_reader.proofs.session.too_many_fault.Goals as goal

pub returns-then-parts-gt64 : goal.returns-then-parts-gt64
returns-then-parts-gt64 c = c.at.ensures ∙ too_many-some c.args.parts.now _ (omega arith)

pub returns-else-parts-gt64 : goal.returns-else-parts-gt64
returns-else-parts-gt64 c = too_many-none c.args.parts.now (omega arith)
