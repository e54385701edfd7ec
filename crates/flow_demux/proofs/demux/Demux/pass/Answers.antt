use Rattle.std.proofs.Common.{refl}
use Rattle.flow_demux.proofs.Readying.{order-learned, ready-of}
use Rattle.flow_demux.proofs.demux.Demux.pass.Goals as goal

-- the order passes on, and the flows are as they were
pub returns-then-len-gt1-clause-ready : goal.returns-then-len-gt1-clause-ready
returns-then-len-gt1-clause-ready g c =
    let flows = c.args.self.now.flows.items in
    ready-of g.F.FlowTaker.expects _ flows refl c.requires.ready.awaits
    (order-learned c.args.self.now.order c.pass_in.new.order flows flows c.pass_in.ensures.same c.pass_in.ensures.count refl c.requires.ready.ordered)
