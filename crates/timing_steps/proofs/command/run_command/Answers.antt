use Rattle.timing_steps.specs.Answers.{seen_of}
use Rattle.timing_steps.specs.Ran.{output_of}
use Rattle.timing_steps.proofs.Commanded.{ends-by, ran-by}
use Rattle.timing_steps.proofs.command.run_command.Goals as goal

pub returns-clause-ran : goal.returns-clause-ran
returns-clause-ran g c =
    let written = g.K.Sink.written in
    let faults = g.K.Sink.faults in
    let mid = c.answer_command-outcome.new.out in
    let made = c.answer_command-outcome.ensures in
    ran-by g.C.Command.streams (g.C.Command.query c.args.command.now) (seen_of g.H.Shelf c.args.shelf.now c.answer_command-outcome.new.shelf)
    (written c.args.out.now) (written mid) (written c.conclude.new.out) (faults c.args.out.now) (faults mid) (faults c.conclude.new.out)
    (output_of g.K.Sink c.args.err.now c.conclude.new.err) c.answer_command-outcome.result c.conclude.result
    made.later c.conclude.ensures.later_out made.stands c.conclude.ensures.printed c.conclude.ensures.told c.conclude.ensures.later_err

pub returns-clause-ends : goal.returns-clause-ends
returns-clause-ends g c =
    let written = g.K.Sink.written in
    let faults = g.K.Sink.faults in
    let mid = c.answer_command-outcome.new.out in
    ends-by g.C.Command.streams (g.C.Command.query c.args.command.now) (seen_of g.H.Shelf c.args.shelf.now c.answer_command-outcome.new.shelf)
    (written c.args.out.now) (written mid) (written c.conclude.new.out) (faults c.args.out.now) (faults mid) (faults c.conclude.new.out)
    c.answer_command-outcome.result c.conclude.result c.answer_command-outcome.ensures.stands c.conclude.ensures.printed
