use Rattle.std.proofs.Common.{ap, arith, ◌<◌, ◌-◌, ◌∙◌, ◌++◌, ◌∷◌, []}
use Rattle.std.proofs.lemmas.Bool.Decides.{nat_tests}
use Rattle.vrx_buffer.specs.Faults.{fault_at}
use Rattle.vrx_buffer.proofs.Fed.{quiet-at, quiet-stands}
use Rattle.vrx_buffer.proofs.vrx.Vrx.is_quiet_at.Goals as goal

pub returns-then-due-packet-clause-fault : goal.returns-then-due-packet-clause-fault
returns-then-due-packet-clause-fault c = λ params stamps at number s are nowhere yes.
    let low : c.args.packet - c.args.due.count < c.args.self.now.peak = grind (arith, nat_tests, yes) in
    ap (fault_at params.media params.n (stamps ++ at ∷ []) c.args.self.now.kind) number
    ∙ quiet-at params c.args.self.now stamps at c.args.due s are nowhere (omega (arith, number, c.if-due-packet.true)) (omega (arith, number, low))

pub returns-then-due-packet-clause-stands : goal.returns-then-due-packet-clause-stands
returns-then-due-packet-clause-stands c = λ params stamps at number s are yes.
    let low : c.args.packet - c.args.due.count < c.args.self.now.peak = grind (arith, nat_tests, yes) in
    quiet-stands params c.args.self.now stamps at c.args.due s are (omega (arith, number, c.if-due-packet.true)) (omega (arith, number, low))
