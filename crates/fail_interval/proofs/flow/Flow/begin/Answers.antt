use Rattle.std.proofs.Common.{◌+◌, ◌∙◌, arith, refl}
use Rattle.fail_interval.proofs.Flows.{begins-as}
use Rattle.fail_interval.proofs.FlowTold.{begins-told-as}
use Rattle.fail_interval.proofs.flow.Flow.begin.Goals as goal

pub returns-clause-begins : goal.returns-clause-begins
returns-clause-begins g c = λ packets i so_far rtp next number marker expects starts o.
    let run = c.in_ok-open.ensures in
    begins-as _ _ packets _ _ i _ _ rtp _ _ so_far _ _ _ _ c.close.ensures.media c.close.ensures.shift next expects starts
    run.rec (run.number ∙ number) run.expected marker run.judge (c.in_ok-close.ensures.done _) o

pub returns-clause-tells : goal.returns-clause-tells
returns-clause-tells g c = λ wants past packets i so_far rtp next number marker timestamp starts o sound t.
    let run = c.in_ok-open.ensures in
    let closed = c.in_ok-close.ensures in
    begins-told-as g.M.RunMeter.stands g.M.RunMeter.tells past c.args.self.now.media c.close.new.self.media packets c.args.self.now.shift c.close.new.self.shift
    i
    c.args.self.now.media.pt rtp c.args.marker so_far c.args.self.now.done.items c.close.new.self.done.items c.args.self.now.open c.in_ok-open.open
    (record { run = c.len.result + 1; rec = c.args.packet.rec; number = c.args.number }) c.args.packet c.args.out.now c.close.new.out c.start.new.out
    c.close.ensures.media c.close.ensures.shift marker next timestamp starts o sound (omega (arith, c.len.ensures, c.close.new.self.done.ok.0)) refl number
    (closed.done _)
    closed.tells run.judge (run.tells wants) t
