use Rattle.std.proofs.Common.{refl}
use Rattle.timing_steps.specs.Ran.{output_of}
use Rattle.timing_steps.proofs.Takings.{takes-text}
use Rattle.timing_steps.specs.Printings.{Copies}
use Rattle.timing_steps.proofs.Printing.{copied-stopped, front-none, some-front, stopped-none}
use Rattle.timing_steps.proofs.stream.print_source.Goals as goal

pub returns-else-read_failed-clause-told : goal.returns-else-read_failed-clause-told
returns-else-read_failed-clause-told g c = λ text whole.
    takes-text (Copies g.P.Printer.goes_on (output_of g.K.Sink c.args.out.now c.print_records-printed.new.out)) text c.args.before c.args.printer.now
    c.print_records-printed.new.printer
    c.in-Ok-printed.taken (c.if-read_failed.ensures.whole refl)
    (λ items end holds. c.in-Ok-printed.ensures.told items end (c.in-Ok.ensures.gives text items end whole holds))

pub returns-then-read_failed-clause-stopped : goal.returns-then-read_failed-clause-stopped
returns-then-read_failed-clause-stopped g c = λ text items end whole holds.
    let taken = c.in-Ok-printed.taken in
    copied-stopped g.P.Printer.goes_on g.P.Printer.holds g.P.Printer.text g.met.P.Printer.none g.met.P.Printer.more (output_of g.K.Sink c.args.out.now
    c.print_records-printed.new.out) c.args.printer.now c.print_records-printed.new.printer c.args.before taken.records
    taken.note items end (c.in-Ok-printed.ensures.told items end (c.in-Ok.ensures.gives text items end whole holds))

pub returns-then-read_failed-clause-front : goal.returns-then-read_failed-clause-front
returns-then-read_failed-clause-front g c =
    some-front g.P.Printer.goes_on g.P.Printer.holds g.P.Printer.text g.met.P.Printer.none g.met.P.Printer.more (output_of g.K.Sink c.args.out.now
    c.print_records-printed.new.out) c.args.printer.now c.print_records-printed.new.printer c.in-Ok-printed.ensures.some

pub returns-in-Err-clause-stopped : goal.returns-in-Err-clause-stopped
returns-in-Err-clause-stopped g c = λ text items end whole records.
    stopped-none g.P.Printer.goes_on g.P.Printer.holds g.P.Printer.text g.met.P.Printer.none g.met.P.Printer.more (output_of g.K.Sink c.args.out.now
    c.args.out.now) c.args.printer.now _ refl

pub returns-in-Err-clause-front : goal.returns-in-Err-clause-front
returns-in-Err-clause-front g c = front-none (output_of g.K.Sink c.args.out.now c.args.out.now) refl
