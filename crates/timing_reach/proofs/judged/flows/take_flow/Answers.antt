use Rattle.timing_reach.proofs.Takings.{flow-few-taken, flow-taken}
use Rattle.timing_reach.proofs.judged.flows.take_flow.Goals as goal

pub returns-clause-told : goal.returns-clause-told
returns-clause-told g c = λ texts whole.
    flow-taken g.F.FlowTaker.takes texts c.args.media.now c.args.taker _ _ c.in_ok-take_captures.field-0 c.new-flow.ensures.media c.new-flow.ensures.taker
    (c.in_ok-take_captures.ensures.told texts whole)

pub returns-clause-fed : goal.returns-clause-fed
returns-clause-fed g c =
    flow-few-taken g.F.FlowTaker.takes _ c.args.media.now c.args.taker _ _ c.new-flow.ensures.media c.new-flow.ensures.taker
    c.in_ok-take_captures.ensures.fed
