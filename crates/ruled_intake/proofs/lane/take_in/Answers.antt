use Rattle.std.proofs.Common.{◌≡◌, sym, ap, ◌∙◌, subst, length}
use Rattle.std.proofs.lemmas.List.{length-map}
use Rattle.crossbeam_queue.specs.Fifo.{Merges}
use Rattle.ruled_intake.specs.declared.rule.View.{View}
use Rattle.ruled_intake.specs.declared.rule.View.TheVariants.{Spent, Takes}
use Rattle.ruled_intake.specs.Knows.{got_by, made_by, put_by}
use Rattle.ruled_intake.specs.Lanes.{Sender, all_sent}
use Rattle.ruled_intake.specs.Rule.{Delivers, with_known}
use Rattle.ruled_intake.proofs.Rules.{takes_in}
use Rattle.ruled_intake.proofs.Steps.{next_sender}
use Rattle.ruled_intake.proofs.lane.take_in.Goals as goal

pub absorb-requires-clause-rule : goal.absorb-requires-clause-rule
absorb-requires-clause-rule c =
    let loop = c.loop-each in
    let old = c.args.taker.now.me.view.client in
    let other = c.each.inside.pass in
    let next = next_sender c.args.queue.now c.args.senders.items loop.yielded loop.each-iterator.rest.items c.next.new.self.rest.items c.in-Some.each
    c.requires.senders loop.invariant.whole c.in-Some.ensures.steps.0 in
    let turn : c.each.inside.from ≡ length (all_sent loop.yielded) = ap (λ (s : Sender). s.from) c.each.view_is ∙ next.from_is ∙ sym
    (length-map loop.yielded (λ (s : Sender). s.sent)) in
    let put = put_by other.me.view.client in
    subst (λ (v : View). Merges Delivers loop.taker.id v other.id other.me.view.client (with_known v other.me.view.client) Spent) (sym loop.invariant.knows)
    (subst (λ (w : View). Merges Delivers loop.taker.id (Takes (got_by old) (made_by old) (all_sent loop.yielded)) other.id w
    (with_known (Takes (got_by old) (made_by old) (all_sent loop.yielded)) w) Spent) (sym c.each.invariant.2.view_is)
    (takes_in loop.taker.id (made_by old) (got_by old) (all_sent loop.yielded) other.id c.each.inside.from put turn))
