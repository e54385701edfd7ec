use Rattle.std.proofs.Common.{◌≡◌, ◌++◌, ◌∷◌, [], None, Ok, Some, ap, length, subst, sym, ◌∙◌}
use Rattle.timing_base.specs.declared.packet.Rtp.{Rtp}
use Rattle.frame_group.specs.Cuts.{answer_at}
use Rattle.frame_group.specs.Stands.{StandsFor}
use Rattle.frame_group.proofs.Expecting.{expected-after, expected-goes}
use Rattle.frame_group.proofs.grouper.Grouper.feed_expected.Goals as goal

pub returns-clause-expects : goal.returns-clause-expects
returns-clause-expects c = λ _ pt packets s.
    let e = c.in-Some.ensures.follows pt packets s in
    sym e ∙ ap (λ (r : Rtp). Some r) (expected-goes packets pt c.in-Some.expected e)

pub returns-clause-next : goal.returns-clause-next
returns-clause-next c = λ went. c.feed_on.ensures.next went ∙ expected-after c.in-Some.expected _ c.in-Some.ensures.is

pub returns-clause-answer : goal.returns-clause-answer
returns-clause-answer c = λ went pt packets rest rec s.
    subst (λ (r : Rtp). Ok None ≡ answer_at (packets ++ record { rec = rec; at = c.args.at; rtp = Ok r } ∷ rest) pt (length packets))
    (expected-goes packets pt c.in-Some.expected (c.in-Some.ensures.follows pt packets s))
    (c.feed_on.ensures.answer went pt packets rest rec s)

pub returns-clause-stands : goal.returns-clause-stands
returns-clause-stands c = λ went pt packets rec s.
    subst (λ (r : Rtp). StandsFor pt c.feed_on.new.self (packets ++ record { rec = rec; at = c.args.at; rtp = Ok r } ∷ []))
    (expected-goes packets pt c.in-Some.expected (c.in-Some.ensures.follows pt packets s))
    (c.feed_on.ensures.stands went pt packets rec s)
