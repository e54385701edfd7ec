use Rattle.std.proofs.Common.{ap, ◌∙◌, sym}
use Rattle.timing_base.specs.declared.packet.Rtp.{Rtp}
use Rattle.frame_group.proofs.Faults.{fault-earlier, fault-size, rtp-is}
use Rattle.frame_group.proofs.grouper.Grouper.fault_at.Goals as goal

pub returns-in-Some-clause-is : goal.returns-in-Some-clause-is
returns-in-Some-clause-is c = λ packets i kept read cut in_group.
    sym (fault-earlier packets c.args.self.now.pt i c.args.at c.args.rtp c.in-Some.fault read c.if-rtp-self.false
    (sym (c.earlier_fault.ensures packets i kept read cut) ∙ c.in-Some.is))

pub returns-clause-is : goal.returns-clause-is
returns-clause-is c = λ packets i kept read cut in_group.
    c.fault_in.ensures.is packets i in_group (ap (λ (r : Rtp). r.marker) (rtp-is packets i c.args.at c.args.rtp read))
    ∙ sym (fault-size packets c.args.self.now.pt i c.args.at c.args.rtp read c.if-rtp-self.false
    (sym (c.earlier_fault.ensures packets i kept read cut) ∙ c.in_default.is))
