use Rattle.std.proofs.Common.{rules, ◌≡◌}
use Rattle.timing_steps.specs.Answers.{seen_of}
use Rattle.timing_top.proofs.lemmas.verify.Following.{session-open, session-settled}
use Rattle.timing_top.proofs.verify.report.answer_session.Goals as goal

pub returns-in-Some-clause-follows : goal.returns-in-Some-clause-follows
returns-in-Some-clause-follows g c =
    session-settled (seen_of g.H.Shelf c.args.shelf.now c.args.shelf.now) c.args.job.now c.args.session.now _ c.in-Some.answer c.in-Some.is (search rules)

pub returns-in-None-clause-follows : goal.returns-in-None-clause-follows
returns-in-None-clause-follows g c =
    let media : c.as_slice.result.now ≡ c.args.session.now = search rules in
    session-open (seen_of g.H.Shelf c.args.shelf.now c.answer_over.new.shelf) c.args.job.now c.answer_over.result c.as_slice.result.now c.args.session.now
    _ c.in-None.is (search rules) media c.answer_over.ensures.follows
