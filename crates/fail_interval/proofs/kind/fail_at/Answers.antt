use Rattle.std.proofs.Common.{Some, ap, ◌∙◌, sym}
use Rattle.fail_interval.proofs.SenderTypes.{empty-is, full-is, none-is, over-is}
use Rattle.fail_interval.proofs.kind.fail_at.Goals as goal

pub returns-then-bucket-c_max : goal.returns-then-bucket-c_max
returns-then-bucket-c_max c = λ stamps after fault. full-is _ _ stamps _ _ _ after c.c_max-c_max.ensures c.if-bucket-c_max.true

pub returns-in_err-held : goal.returns-in_err-held
returns-in_err-held c = λ stamps after fault.
    c.from_residual.ensures ∙ none-is _ _ stamps _ _ _ after c.c_max-c_max.ensures c.if-bucket-c_max.false (sym c.in_err-held.was ∙ fault)

pub returns-in-Over : goal.returns-in-Over
returns-in-Over c = λ stamps after fault.
    over-is _ _ stamps _ _ _ _ _ _ after c.c_max-c_max.ensures c.if-bucket-c_max.false (sym (c.in_ok-held.was ∙ ap Some c.in-Over.is) ∙ fault)
    c.vrx_full.ensures

pub returns-in-Empty : goal.returns-in-Empty
returns-in-Empty c = λ stamps after fault.
    empty-is _ _ stamps _ _ _ _ after c.c_max-c_max.ensures c.if-bucket-c_max.false (sym (c.in_ok-held.was ∙ ap Some c.in-Empty.is) ∙ fault)
