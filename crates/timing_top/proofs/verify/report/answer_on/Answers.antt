use Rattle.std.proofs.Common.{◌∙◌, ap}
use Rattle.timing_top.specs.verify.Verified.{reported}
use Rattle.timing_steps.specs.Answers.{seen_of}
use Rattle.timing_top.proofs.lemmas.verify.Needing.{follows-checked}
use Rattle.timing_top.proofs.verify.report.answer_on.Goals as goal

pub returns-clause-follows : goal.returns-clause-follows
returns-clause-follows g c =
    follows-checked (seen_of g.H.Shelf c.args.shelf.now c.check_each.new.shelf)
    c.args.job.now c.args.media.now c.args.claims.now c.in_ok-checked.checked.items c.in_ok-reported.field-0 c.in_ok-checked.ensures.claims
    c.in_ok-checked.ensures.checked
    (c.in_ok-reported.ensures ∙ ap reported c.deref.ensures.value)
