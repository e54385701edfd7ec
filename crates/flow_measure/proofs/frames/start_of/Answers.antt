use Rattle.std.proofs.Common.{◌∙◌, refl, arith}
use Rattle.std.proofs.lemmas.Int.{ints}
use Rattle.sender_params.specs.Times.{group_time}
use Rattle.flow_measure.proofs.Epoch.{start-num, start-small}
use Rattle.flow_measure.proofs.frames.start_of.Goals as goal

pub returns-clause-num : goal.returns-clause-num
returns-clause-num c =
    start-num c.lifted.result c.args.k (group_time c.args.params.now.media).0 c.args.n0 (omega (arith, ints, c.lifted.ensures.value))
    ∙ rw (c.group-num.ensures.num, c.from.ensures, c.from-2.ensures) refl

pub returns-clause-num_small : goal.returns-clause-num_small
returns-clause-num_small c =
    start-small c.lifted.result c.from.result c.group-num.result.0 c.lifted.ensures.small (omega (arith, c.from.ensures)) c.group-num.ensures.num_small
