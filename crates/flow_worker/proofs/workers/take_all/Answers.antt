use Rattle.std.proofs.Common.{rules, List, sym, ◌∙◌, subst}
use Rattle.ruled_intake.specs.Lanes.{messages}
use Rattle.ruled_intake.specs.declared.message.Message.{Message}
use Rattle.flow_worker.specs.Standing.{StandsFor}
use Rattle.flow_worker.proofs.TakerPasses.{taken-few, taken-lane, taken-more, taken-senders}
use Rattle.flow_worker.proofs.workers.take_all.Goals.{in-None, in-Some+then-has_ended}
use Rattle.flow_worker.proofs.workers.take_all.Goals as goal

pub loop-preserved : goal.loop-preserved
loop-preserved g c =
    let old = c.loop.pass in
    let new = c.next_message.new.pass in
    let message = c.in_ok-message.message in
    let took = c.in_ok-message.ensures.taken in (
      tt,
      tt,
      record {
        lane = taken-lane old new message took ∙ c.loop.invariant.2.lane;
        senders = taken-senders old new message took ∙ c.loop.invariant.2.senders;
        stands = λ s files worker h.
            subst (λ (l : List Message). StandsFor s files worker l c.take.new.self) (sym (taken-more old new message took))
            (c.in_ok-take.ensures.stands s files worker (messages old.taken) (c.loop.invariant.2.stands s files worker h));
      },
    )

pub take-requires : goal.take-requires
take-requires g c =
    let has = c.requires.stands in
    let old = c.loop.pass in
    let new = c.next_message.new.pass in
    let message = c.in_ok-message.message in
    let took = c.in_ok-message.ensures.taken in
    record {
      few = (
        has.0,
        has.1,
        has.2,
        messages old.taken,
        c.loop.invariant.2.stands has.0 has.1 has.2 has.3,
        taken-few old new message took c.in_ok-message.ensures.few,
      );
    }

pub returns-clause-stands : goal.returns-clause-stands
returns-clause-stands g c =
    elim c.match-next.branch [
      | in-None w ↦ absurd (search rules)
      | in-Some+then-has_ended w ↦
          λ s files worker h.
          let stands = c.loop.invariant.2.stands s files worker h in
          (stands, sym (w.has_ended.ensures s files worker (messages c.loop.pass.taken) stands) ∙ w.if-has_ended.true)
    ]
