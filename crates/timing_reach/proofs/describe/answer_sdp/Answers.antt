use Rattle.timing_steps.specs.Answers.{seen_of}
use Rattle.timing_reach.proofs.Describings.{reads-description, sdp-cause}
use Rattle.timing_reach.proofs.describe.answer_sdp.Goals as goal

pub returns-clause-follows : goal.returns-clause-follows
returns-clause-follows g c =
    let i = seen_of g.H.Shelf c.args.shelf.now c.make_answer.new.shelf in
    let made = c.make_answer.ensures in
    reads-description i c.args.job.now c.make_answer.result made.told made.there made.cause

pub returns-clause-cause : goal.returns-clause-cause
returns-clause-cause g c =
    let i = seen_of g.H.Shelf c.args.shelf.now c.make_answer.new.shelf in
    sdp-cause i c.args.job.now c.make_answer.result c.make_answer.ensures.answers c.make_answer.ensures.cause
