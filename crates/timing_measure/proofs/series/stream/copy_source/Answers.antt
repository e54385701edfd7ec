use Rattle.std.proofs.Common.{refl}
use Rattle.timing_steps.specs.Ran.{output_of}
use Rattle.timing_steps.proofs.Takings.{takes-text}
use Rattle.timing_measure.specs.series.Copies.{Copies}
use Rattle.timing_measure.proofs.lemmas.series.Capturing.{copied-stopped, front-none, some-front, stopped-none}
use Rattle.timing_measure.proofs.series.stream.copy_source.Goals as goal

pub returns-else-read_failed-clause-told : goal.returns-else-read_failed-clause-told
returns-else-read_failed-clause-told g c = λ text whole.
    takes-text (Copies (output_of g.K.Sink c.args.out.now c.copy_rows-copied.new.out)) text c.args.before c.args.flow.now c.copy_rows-copied.new.flow
    c.in-Ok-copied.taken (c.if-read_failed.ensures.whole refl)
    (λ items end holds. c.in-Ok-copied.ensures.told items end (c.in-Ok.ensures.gives text items end whole holds))

pub returns-then-read_failed-clause-stopped : goal.returns-then-read_failed-clause-stopped
returns-then-read_failed-clause-stopped g c = λ text items end whole holds.
    let taken = c.in-Ok-copied.taken in
    copied-stopped (output_of g.K.Sink c.args.out.now c.copy_rows-copied.new.out) c.args.flow.now c.copy_rows-copied.new.flow c.args.before taken.records
    taken.note items end (c.in-Ok-copied.ensures.told items end (c.in-Ok.ensures.gives text items end whole holds))

pub returns-then-read_failed-clause-front : goal.returns-then-read_failed-clause-front
returns-then-read_failed-clause-front g c =
    some-front (output_of g.K.Sink c.args.out.now c.copy_rows-copied.new.out) c.args.flow.now c.copy_rows-copied.new.flow c.in-Ok-copied.ensures.some

pub returns-in-Err-clause-stopped : goal.returns-in-Err-clause-stopped
returns-in-Err-clause-stopped g c = λ text items end whole records.
    stopped-none (output_of g.K.Sink c.args.out.now c.args.out.now) c.args.flow.now _ refl

pub returns-in-Err-clause-front : goal.returns-in-Err-clause-front
returns-in-Err-clause-front g c = front-none (output_of g.K.Sink c.args.out.now c.args.out.now) refl
