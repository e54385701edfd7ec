use Rattle.std.proofs.Common.{ap, subst, sym, ◌∙◌, ◌++◌, ◌∷◌, []}
use Rattle.vrx_buffer.specs.Faults.{fault_at}
use Rattle.vrx_buffer.specs.Taking.{Took}
use Rattle.vrx_buffer.proofs.Fed.{stands-within, took-fault, took-stands}
use Rattle.vrx_buffer.proofs.Lateness.{late-at}
use Rattle.vrx_buffer.proofs.vrx.Vrx.feed_due.Goals as goal

pub returns-clause-fault : goal.returns-clause-fault
returns-clause-fault c = λ stamps at number s are.
    let p = c.args.params.now in
    let v = c.args.self.now in
    let e = c.comes_late-late.ensures in
    took-fault p v c.take.new.self stamps at c.args.due.count c.comes_late-late.result c.take.result s are.count
    (late-at _ _ _ _ at _ c.args.packet c.args.due c.comes_late-late.result number p.media_is p.n_some are e.last e.more e.fewer)
    (subst (λ i. Took p v c.take.new.self i c.args.due.count c.comes_late-late.result c.take.result) number
    (c.take.ensures.took (stands-within p v stamps s)))
    ∙ ap (fault_at p.media p.n (stamps ++ at ∷ []) v.kind) (sym number)

pub returns-clause-stands : goal.returns-clause-stands
returns-clause-stands c = λ stamps at number s are.
    let p = c.args.params.now in
    let v = c.args.self.now in
    let e = c.comes_late-late.ensures in
    took-stands p v c.take.new.self stamps at c.args.due.count c.comes_late-late.result c.take.result s are.count
    (late-at _ _ _ _ at _ c.args.packet c.args.due c.comes_late-late.result number p.media_is p.n_some are e.last e.more e.fewer)
    (subst (λ i. Took p v c.take.new.self i c.args.due.count c.comes_late-late.result c.take.result) number
    (c.take.ensures.took (stands-within p v stamps s)))
