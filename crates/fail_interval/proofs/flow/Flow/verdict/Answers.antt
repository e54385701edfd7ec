use Rattle.std.proofs.Common.{◌∙◌, refl}
use Rattle.fail_interval.proofs.FlowTold.{absent-tells, over-tells}
use Rattle.fail_interval.proofs.Rows.{are-runs-known, none-there, pushed, room-known, some-there, verdict-absent, verdict-many, verdict-one, verdict-told}
use Rattle.fail_interval.proofs.flow.Flow.verdict.Goals as goal

pub returns-in-None-clause-verdict : goal.returns-in-None-clause-verdict
returns-in-None-clause-verdict g c = λ packets s. verdict-absent c.args.self packets c.in-None.is s

pub returns-then-is_empty-clause-verdict : goal.returns-then-is_empty-clause-verdict
returns-then-is_empty-clause-verdict g c = λ packets s.
    verdict-one c.args.self packets c.in-Some.open c.in_ok-over.over.verdict _ c.in-Some.is
    (none-there _ _ c.args.self.done.ok.0 c.if-is_empty.ensures) (verdict-told c.in-Some.open c.in_ok-over.over c.in_ok-over.ensures.run) c.one_run.ensures s

pub invariant_of-result : goal.invariant_of-result
invariant_of-result g c =
    let some = some-there _ _ c.args.self.done.ok.0 c.if-is_empty.ensures in
    let room = room-known _ c.requires (some-there _ _ refl c.if-is_empty.ensures) in
    are-runs-known c.args.self c.in-Some.open c.in_ok-over.over _ c.in-Some.is some c.in_ok-over.ensures.run
    (c.from_vec.ensures ∙ pushed _ _ _ _ (c.push.ensures.succeeds room) c.push.ensures.items) c.requires

pub returns-clause-verdict : goal.returns-clause-verdict
returns-clause-verdict g c = λ packets s.
    let some = some-there _ _ c.args.self.done.ok.0 c.if-is_empty.ensures in
    let room = room-known _ c.requires (some-there _ _ refl c.if-is_empty.ensures) in
    verdict-many c.args.self packets c.in-Some.open c.in_ok-over.over _ c.in-Some.is some c.in_ok-over.ensures.run
    (c.from_vec.ensures ∙ pushed _ _ _ _ (c.push.ensures.succeeds room) c.push.ensures.items) s

pub returns-in-None-clause-tells : goal.returns-in-None-clause-tells
returns-in-None-clause-tells g c = λ past packets s t.
    absent-tells g.M.RunMeter.stands g.M.RunMeter.tells past c.args.self packets c.args.out.now c.in-None.is s t

pub returns-then-is_empty-clause-tells : goal.returns-then-is_empty-clause-tells
returns-then-is_empty-clause-tells g c = λ past packets s t.
    over-tells g.M.RunMeter.stands g.M.RunMeter.tells past c.args.self packets c.in-Some.open c.args.out.now c.close.new.out c.in-Some.is
    c.in_ok-over.ensures.tells s t

pub returns-clause-tells : goal.returns-clause-tells
returns-clause-tells g c = λ past packets s t.
    over-tells g.M.RunMeter.stands g.M.RunMeter.tells past c.args.self packets c.in-Some.open c.args.out.now c.close.new.out c.in-Some.is
    c.in_ok-over.ensures.tells s t
