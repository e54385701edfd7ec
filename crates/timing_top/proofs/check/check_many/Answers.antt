use Rattle.std.proofs.Common.{arith, false}
use Rattle.std.proofs.KnownBytes.{Keeps-refl}
use Rattle.timing_steps.specs.Answers.{seen_of}
use Rattle.timing_steps.specs.Ran.{output_of}
use Rattle.timing_steps.proofs.Commanded.{ends-by, ran-by}
use Rattle.timing_top.specs.Report.{check_query}
use Rattle.timing_top.proofs.check.check_many.Goals as goal

pub returns-clause-ran : goal.returns-clause-ran
returns-clause-ran g c =
    let written = g.K.Sink.written in
    let faults = g.K.Sink.faults in
    ran-by false (check_query c.args.command.now.job) (seen_of g.H.Shelf c.args.shelf.now c.answer_check-outcome.new.shelf)
    (written c.args.out.now) (written c.args.out.now) (written c.conclude.new.out) (faults c.args.out.now) (faults c.args.out.now)
    (faults c.conclude.new.out)
    (output_of g.K.Sink c.args.err.now c.conclude.new.err) c.answer_check-outcome.result c.conclude.result
    (omega arith) c.conclude.ensures.later_out
    (c.answer_check-outcome.ensures.stands (output_of g.K.Sink c.args.out.now c.args.out.now) (Keeps-refl (written c.args.out.now)))
    c.conclude.ensures.printed c.conclude.ensures.told c.conclude.ensures.later_err

pub returns-clause-ends : goal.returns-clause-ends
returns-clause-ends g c =
    let written = g.K.Sink.written in
    let faults = g.K.Sink.faults in
    ends-by false (check_query c.args.command.now.job) (seen_of g.H.Shelf c.args.shelf.now c.answer_check-outcome.new.shelf)
    (written c.args.out.now) (written c.args.out.now) (written c.conclude.new.out) (faults c.args.out.now) (faults c.args.out.now)
    (faults c.conclude.new.out) c.answer_check-outcome.result c.conclude.result
    (c.answer_check-outcome.ensures.stands (output_of g.K.Sink c.args.out.now c.args.out.now) (Keeps-refl (written c.args.out.now)))
    c.conclude.ensures.printed
