use Rattle.std.proofs.Common.{sym, ap, ◌∙◌}
use Rattle.timing_base.specs.Flows.{first_of, size_fault}
use Rattle.timing_base.specs.declared.packet.Rtp.{Rtp}
use Rattle.interval_checker.proofs.Faults.{fault-split, rtp-is}
use Rattle.interval_checker.proofs.walk.Walk.step.Goals as goal

pub returns-in-Some-clause-ends : goal.returns-in-Some-clause-ends
returns-in-Some-clause-ends c = λ shift packets i k read within.
    let cut = c.is_cut-cut.ensures.is c.args.pt shift packets i c.args.at k read in
    let split = fault-split packets c.args.pt i c.args.at c.args.rtp c.fault.result read (c.fault.ensures.is shift packets i k read cut) in
    sym (split ∙ ap (λ f. first_of f (size_fault 262144 packets i)) c.in-Some.is)

pub returns-in-Some-group_fault-clause-ends : goal.returns-in-Some-group_fault-clause-ends
returns-in-Some-group_fault-clause-ends c = λ shift packets i k read within.
    let cut = c.is_cut-cut.ensures.is c.args.pt shift packets i c.args.at k read in
    let entered = c.enter.ensures.keeps c.args.pt shift packets i k cut in
    let marker = ap (λ (r : Rtp). r.marker) (rtp-is packets i c.args.at c.args.rtp read) in
    let split = fault-split packets c.args.pt i c.args.at c.args.rtp c.fault.result read (c.fault.ensures.is shift packets i k read cut) in
    sym (split ∙ (ap (λ f. first_of f (size_fault 262144 packets i)) c.in_default.is
    ∙ (sym (c.group_fault.ensures.is c.args.pt shift packets i entered marker) ∙ c.in-Some-group_fault.is)))

pub returns-clause-ends : goal.returns-clause-ends
returns-clause-ends c = λ shift packets i k read within.
    let cut = c.is_cut-cut.ensures.is c.args.pt shift packets i c.args.at k read in
    let entered = c.enter.ensures.keeps c.args.pt shift packets i k cut in
    let marker = ap (λ (r : Rtp). r.marker) (rtp-is packets i c.args.at c.args.rtp read) in
    let split = fault-split packets c.args.pt i c.args.at c.args.rtp c.fault.result read (c.fault.ensures.is shift packets i k read cut) in
    sym (split ∙ (ap (λ f. first_of f (size_fault 262144 packets i)) c.in_default.is
    ∙ (sym (c.group_fault.ensures.is c.args.pt shift packets i entered marker) ∙ c.in_default-group_fault.is)))

pub returns-clause-goes_on : goal.returns-clause-goes_on
returns-clause-goes_on c = λ shift packets i k read within none.
    let cut = c.is_cut-cut.ensures.is c.args.pt shift packets i c.args.at k read in
    let entered = c.enter.ensures.keeps c.args.pt shift packets i k cut in
    let marker = ap (λ (r : Rtp). r.marker) (rtp-is packets i c.args.at c.args.rtp read) in
    let split = fault-split packets c.args.pt i c.args.at c.args.rtp c.fault.result read (c.fault.ensures.is shift packets i k read cut) in
    c.pass.ensures.keeps c.args.pt shift packets i entered read within (split ∙ (ap (λ f. first_of f (size_fault 262144 packets i)) c.in_default.is
    ∙ (sym (c.group_fault.ensures.is c.args.pt shift packets i entered marker) ∙ c.in_default-group_fault.is)))
