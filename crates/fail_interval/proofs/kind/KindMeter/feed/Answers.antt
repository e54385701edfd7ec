use Rattle.std.proofs.Common.{refl, ◌++◌, ◌∷◌, []}
use Rattle.fail_interval.proofs.SenderTypes.{filled-more, filled-verdict, kind-more, next-kept, next-number, pass-nowhere, quiet-none, quiet-verdict}
use Rattle.fail_interval.proofs.kind.KindMeter.feed.Goals as goal

pub returns-then-bucket-self-clause-stands : goal.returns-then-bucket-self-clause-stands
returns-then-bucket-self-clause-stands c = λ stamps at s next.
    let p = c.args.params.now in
    let e = c.is_quiet_at.ensures in
    let quiet = c.if-is_quiet_at.true in
    let number = next-number _ _ _ _ stamps at next in
    filled-more p c.args.self.now c.overfill.new.self _ _ _ stamps at s next refl (e.stands p stamps at number s.vrx next.due_is quiet)
    c.overfill.ensures.vrx c.overfill.ensures.c_max
    (filled-verdict _ _ _ _ stamps at _ _ _ number next
    (λ pass. quiet-none p.media p.n (stamps ++ at ∷ []) c.args.self.now.vrx.kind _ _ number
    (e.fault p stamps at number s.vrx next.due_is (pass-nowhere p c.args.self.now stamps s pass) quiet))
    c.overfill.ensures.verdict)

pub returns-else-bucket-self-clause-stands : goal.returns-else-bucket-self-clause-stands
returns-else-bucket-self-clause-stands c = λ stamps at s next.
    let p = c.args.params.now in
    let e = c.is_quiet_at.ensures in
    let quiet = c.if-is_quiet_at.true in
    let number = next-number _ _ _ _ stamps at next in
    kind-more _ _ _ _ _ _ stamps at s next refl (e.stands p stamps at number s.vrx next.due_is quiet)
    (quiet-verdict _ _ _ _ stamps at _ _ next s.c_max c.if-bucket-self.false
    (λ pass. quiet-none p.media p.n (stamps ++ at ∷ []) c.args.self.now.vrx.kind _ _ number
    (e.fault p stamps at number s.vrx next.due_is (pass-nowhere p c.args.self.now stamps s pass) quiet)))

pub returns-clause-stands : goal.returns-clause-stands
returns-clause-stands c = λ stamps at s next.
    kind-more _ _ _ _ _ _ stamps at s next c.pass_due.ensures.kind
    (c.pass_due.ensures.stands stamps at (next-number _ _ _ _ stamps at next) s.vrx next.due_is)
    (next-kept _ _ c.in_default.not-Pass)
