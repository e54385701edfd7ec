use Rattle.std.proofs.Common.{◌≡◌, ◌+◌, ◌-◌, max, subst}
use Rattle.vrx_buffer.proofs.Fed.{after-stands}
use Rattle.vrx_buffer.proofs.vrx.Vrx.pass_due.Goals as goal

pub returns-in-Some-clause-stands : goal.returns-in-Some-clause-stands
returns-in-Some-clause-stands c = λ stamps at number s are.
    let e = c.go_on.ensures in
    after-stands c.args.params.now c.args.self.now c.go_on.new.self stamps at c.args.due.count _ s are.count c.in-Some.is e.kind
    (subst (λ i. c.go_on.new.self.peak ≡ max c.args.self.now.peak ((i + 1) - c.args.due.count)) number e.peak) e.fault
