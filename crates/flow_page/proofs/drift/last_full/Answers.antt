use Rattle.std.proofs.Common.{arith}
use Rattle.flow_measure.proofs.Widths.{width-some}
use Rattle.flow_page.proofs.drift.last_full.Goals as goal

pub nonzero_div-groups : goal.nonzero_div-groups
nonzero_div-groups c = omega (arith, c.width_of.ensures, width-some c.args.groups 8)
