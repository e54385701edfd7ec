use Rattle.std.proofs.Common.{sym, ◌++◌, ◌∷◌, []}
use Rattle.fail_interval.proofs.SenderTypes.{fault-number, found-verdict, kind-more, next-number, unbroken-verdict}
use Rattle.fail_interval.proofs.kind.KindMeter.feed_passing.Goals as goal

pub returns-then-bucket-self-clause-stands : goal.returns-then-bucket-self-clause-stands
returns-then-bucket-self-clause-stands c = λ stamps at s next.
    let number = next-number _ _ _ _ stamps at next in
    let p = c.args.params.now in
    let e = c.feed_due-fault.ensures in
    let fault = fault-number p.media p.n (stamps ++ at ∷ []) c.args.self.now.vrx.kind _ _ _ number (e.fault stamps at number s.vrx next.due_is) in
    kind-more _ _ _ _ _ _ stamps at s next e.kind (e.stands stamps at number s.vrx next.due_is)
    (found-verdict _ _ _ _ stamps at _ _ _ _ c.requires.passes number next fault c.verdict_at-self.ensures)

pub returns-else-is_some-clause-stands : goal.returns-else-is_some-clause-stands
returns-else-is_some-clause-stands c = λ stamps at s next.
    let number = next-number _ _ _ _ stamps at next in
    let p = c.args.params.now in
    let e = c.feed_due-fault.ensures in
    let fault = fault-number p.media p.n (stamps ++ at ∷ []) c.args.self.now.vrx.kind _ _ _ number (e.fault stamps at number s.vrx next.due_is) in
    kind-more _ _ _ _ _ _ stamps at s next e.kind (e.stands stamps at number s.vrx next.due_is)
    (unbroken-verdict _ _ _ _ stamps at _ _ _ c.requires.passes next fault s.c_max c.if-bucket-self.false (sym c.if-is_some.ensures))
