use Rattle.std.proofs.Common.{◌≡◌, false, ◌∙◌, ap, sym}
use Rattle.timing_base.specs.Flows.{fault_if, first_of, is_second_source, order_fault}
use Rattle.timing_base.specs.declared.packet.PacketFault.TheVariants.{SecondSource}
use Rattle.frame_group.proofs.before.Before.fault.Goals as goal

pub returns : goal.returns
returns c = λ packets i after read cut counted.
    let one : is_second_source packets i ≡ false = sym (c.is_second_source.ensures packets i c.args.at after read) ∙ c.if-is_second_source.false in
    c.order_fault.ensures packets i after read cut counted
    ∙ sym (ap (λ other. first_of (fault_if other SecondSource) (order_fault 1024 packets i)) one)
