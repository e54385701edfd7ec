use Rattle.std.proofs.Common.{◌≡◌, length, sym, ap, ◌∙◌, subst}
use Rattle.crossbeam_queue.specs.Fifo.{Learns}
use Rattle.ruled_intake.specs.declared.rule.View.{View}
use Rattle.ruled_intake.specs.Knows.{got_by, made_by}
use Rattle.ruled_intake.specs.Lanes.{Taker, all_sent}
use Rattle.ruled_intake.specs.Rule.{Delivers, HasCompared}
use Rattle.ruled_intake.proofs.Rules.{compares}
use Rattle.ruled_intake.proofs.Steps.{all_taken, closed, prefixes}
use Rattle.ruled_intake.proofs.lane.Lane.close.Goals as goal

pub len_as-left-requires-clause-rule : goal.len_as-left-requires-clause-rule
len_as-left-requires-clause-rule g c =
    let taker = c.take_in-sent.new.taker in
    let was = c.taker.inside.pass.me.view.client in
    subst (λ (v : View). Learns Delivers taker.id v (HasCompared v)) (sym c.take_in-sent.ensures.view)
    (compares taker.id (made_by was) (got_by was) (all_sent c.args.senders.items))

pub returns-clause-prefix : goal.returns-clause-prefix
returns-clause-prefix g c =
    let told = c.len_as-left.ensures.rule in
    prefixes c.args.taker.taken told.0 c.args.senders.items
    (closed c.args.senders.items c.args.taker c.taker.inside.pass.me.view.client c.take_in-sent.new.taker.me.view.client told.0
    (ap (λ (t : Taker). t.senders) c.taker.view_is) (ap (λ (t : Taker). t.taken) c.taker.view_is) c.take_in-sent.ensures.view c.requires.senders.1 told.2)

pub returns-clause-all : goal.returns-clause-all
returns-clause-all g c =
    let told = c.len_as-left.ensures.rule in
    λ same. all_taken c.args.taker.taken told.0 c.args.senders.items
    (closed c.args.senders.items c.args.taker c.taker.inside.pass.me.view.client c.take_in-sent.new.taker.me.view.client told.0
    (ap (λ (t : Taker). t.senders) c.taker.view_is) (ap (λ (t : Taker). t.taken) c.taker.view_is) c.take_in-sent.ensures.view c.requires.senders.1 told.2)
    (sym c.take_in-sent.ensures.sent ∙ same ∙ c.taker.invariant.2.taken_is ∙ ap length (ap (λ (t : Taker). t.taken) c.taker.view_is))
