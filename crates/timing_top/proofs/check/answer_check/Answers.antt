use Rattle.std.proofs.Common.{rules, false}
use Rattle.timing_steps.specs.Answers.{seen_of}
use Rattle.timing_steps.proofs.Commanded.{before-read, before-settled, before-unread}
use Rattle.timing_steps.proofs.Seeing.{sees-rest}
use Rattle.timing_top.specs.Report.{check_query}
use Rattle.timing_top.proofs.check.answer_check.Goals as goal

pub returns-in-Ok-clause-stands : goal.returns-in-Ok-clause-stands
returns-in-Ok-clause-stands g c = λ o kept.
    before-read false (check_query c.args.command.now.job) (seen_of g.H.Shelf c.args.shelf.now c.answer_many.new.shelf)
    (seen_of g.H.Shelf c.begin.new.shelf c.answer_many.new.shelf) c.in-Ok.session o c.answer_many.result
    (sees-rest g.H.Shelf.text g.H.Shelf.lacks g.H.Shelf.faults c.args.shelf.now c.begin.new.shelf c.answer_many.new.shelf c.begin.ensures.stays)
    (search rules) (kept, search rules) (search rules) (search rules)

pub returns-in-Err-clause-stands : goal.returns-in-Err-clause-stands
returns-in-Err-clause-stands g c = λ o kept.
    before-settled false (check_query c.args.command.now.job) (seen_of g.H.Shelf c.args.shelf.now c.begin.new.shelf) o c.in-Err.answer kept
    (search rules)

pub returns-in_err-session-clause-stands : goal.returns-in_err-session-clause-stands
returns-in_err-session-clause-stands g c = λ o kept.
    before-unread false (check_query c.args.command.now.job) (seen_of g.H.Shelf c.args.shelf.now c.begin.new.shelf) o c.from_residual.result kept
    (search rules) (search rules)
