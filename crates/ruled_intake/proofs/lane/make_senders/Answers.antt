use Rattle.std.proofs.Common.{◌≡◌, [], sym, ap, ◌∙◌, subst, arith}
use Rattle.crossbeam_queue.specs.Fifo.{Forks}
use Rattle.ruled_intake.specs.declared.rule.View.{View}
use Rattle.ruled_intake.specs.Rule.{Delivers, new_sender, with_one_more}
use Rattle.ruled_intake.proofs.Rules.{makes}
use Rattle.ruled_intake.proofs.Steps.{senders_more}
use Rattle.ruled_intake.proofs.lane.make_senders.Goals as goal

pub another-seat-requires-clause-rule : goal.another-seat-requires-clause-rule
another-seat-requires-clause-rule c =
    let loop = c.loop-from in
    subst (λ (v : View). Forks Delivers loop.pass.id v (with_one_more v) (new_sender v)) (sym loop.invariant.taker_is)
    (makes loop.pass.id loop.from [] [] (omega (arith, c.loop-from-test.true, c.requires.few)))

pub loop-from-preserved : goal.loop-from-preserved
loop-from-preserved c =
    let kept = c.loop-from.invariant in
    let told = c.another-seat.ensures in
    let seat = c.another-seat.result in
    let lane : record { web = seat.web; heap = seat.heap } ≡ c.args.queue.now = λ i. record { web = told.queue.2.0.0 i; heap = told.queue.2.0.1 i } in
    let more = senders_more c.args.queue.now c.loop-from.passes.items c.push.new.self.items c.loop-from.from (record { web = seat.web; heap = seat.heap })
    seat.me.view.client
    kept.long kept.each kept.none lane (told.rule.1 ∙ ap new_sender kept.taker_is) c.in_ok-push.ensures.items in
    record { long = more.0; each = more.1; none = more.2; ours = told.queue.0; taker_is = told.rule.0 ∙ ap with_one_more kept.taker_is }
