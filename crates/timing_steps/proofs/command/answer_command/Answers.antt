use Rattle.std.proofs.Common.{rules}
use Rattle.std.proofs.KnownBytes.{Keeps-refl}
use Rattle.timing_steps.specs.Answers.{seen_of}
use Rattle.timing_steps.specs.Ran.{output_of}
use Rattle.timing_steps.proofs.Commanded.{before-read, before-settled, before-unread}
use Rattle.timing_steps.proofs.Seeing.{sees-rest}
use Rattle.timing_steps.proofs.command.answer_command.Goals as goal

pub returns-in-Ok-clause-stands : goal.returns-in-Ok-clause-stands
returns-in-Ok-clause-stands g c =
    before-read g.C.Command.streams (g.C.Command.query c.args.command.now) (seen_of g.H.Shelf c.args.shelf.now c.answer.new.shelf)
    (seen_of g.H.Shelf c.begin.new.shelf c.answer.new.shelf) c.in-Ok.session (output_of g.K.Sink c.args.out.now c.answer.new.out) c.answer.result
    (sees-rest g.H.Shelf.text g.H.Shelf.lacks g.H.Shelf.faults c.args.shelf.now c.begin.new.shelf c.answer.new.shelf c.begin.ensures.stays)
    (search rules) c.answer.ensures.rests c.answer.ensures.ends c.answer.ensures.cause

pub returns-in-Err-clause-stands : goal.returns-in-Err-clause-stands
returns-in-Err-clause-stands g c =
    before-settled g.C.Command.streams (g.C.Command.query c.args.command.now) (seen_of g.H.Shelf c.args.shelf.now c.begin.new.shelf)
    (output_of g.K.Sink c.args.out.now c.args.out.now) c.in-Err.answer (Keeps-refl (g.K.Sink.written c.args.out.now))
    (search rules)

pub returns-in_err-session-clause-stands : goal.returns-in_err-session-clause-stands
returns-in_err-session-clause-stands g c =
    before-unread g.C.Command.streams (g.C.Command.query c.args.command.now) (seen_of g.H.Shelf c.args.shelf.now c.begin.new.shelf)
    (output_of g.K.Sink c.args.out.now c.args.out.now) c.from_residual.result (Keeps-refl (g.K.Sink.written c.args.out.now)) (search rules) (search rules)
