use Rattle.std.proofs.Common.{ap, sym, ◌∙◌}
use Rattle.interval_checker.specs.declared.reading.Reading.{Reading}
use Rattle.interval_checker.proofs.Takings.{reads-inside, reads-refused}
use Rattle.interval_checker.proofs.reading.Reading.feed.Goals as goal

pub returns-in-Some-clause-reads : goal.returns-in-Some-clause-reads
returns-in-Some-clause-reads c = λ r e. reads-refused c.args.self.now r _ (sym (ap (λ (q : Reading). q.refused) c.self.view_is) ∙ c.in-Some.is)

pub returns-in-None-clause-reads : goal.returns-in-None-clause-reads
returns-in-None-clause-reads c = λ r e.
    let number = c.number-packet.ensures in
    reads-inside c.feed.result c.args.self.now _ r c.args.packet c.number-packet.result _ _ _
    (ap (λ (q : Reading). q.walk) c.self.view_is) (ap (λ (q : Reading). q.media.pt) c.self.view_is) (ap (λ (q : Reading). q.numbers) c.self.view_is)
    e (sym (ap (λ (q : Reading). q.refused) c.self.view_is) ∙ c.in-None.is) c.err-self-inside.ensures.value (ap (λ (q : Reading). q.media) c.self.view_is)
    (ap (λ (q : Reading). q.shift) c.self.view_is) number.seq16 number.last number.number c.feed.ensures.asked
    record { goes_on = c.feed.ensures.goes_on; ends = c.feed.ensures.ends }
