use Rattle.std.proofs.Common.{rules, ◌≡◌, ◌∙◌}
use Rattle.timing_steps.specs.Answers.{seen_of}
use Rattle.timing_top.proofs.lemmas.verify.Following.{report-session}
use Rattle.timing_steps.proofs.Seeing.{sees-rest}
use Rattle.timing_top.proofs.verify.report.answer_report.Goals as goal

pub returns-in-Ok-clause-follows : goal.returns-in-Ok-clause-follows
returns-in-Ok-clause-follows g c =
    let named : c.as_str.result.now ≡ c.args.job.now.sdp = search rules in
    report-session
    (seen_of g.H.Shelf c.args.shelf.now c.answer_session.new.shelf)
    (seen_of g.H.Shelf c.fetch_session.new.shelf c.answer_session.new.shelf)
    c.args.job.now c.answer_session.result c.as_str.result.now c.in-Ok.session
    (sees-rest g.H.Shelf.text g.H.Shelf.lacks g.H.Shelf.faults c.args.shelf.now c.fetch_session.new.shelf c.answer_session.new.shelf
    c.fetch_session.ensures.stays)
    named c.in_ok-session.ensures.there (λ text t. c.in_ok-session.ensures.told text t ∙ c.in-Ok.is) c.answer_session.ensures.follows
