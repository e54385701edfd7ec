use Rattle.std.proofs.Common.{◌≡◌, ◌+◌, ◌-◌, ◌^◌, arith, subst, sym}
use Rattle.timing_steps.specs.Ran.{output_of}
use Rattle.timing_steps.proofs.Printing.{some-front, taken-stopped}
use Rattle.timing_steps.proofs.Printing.{any-err}
use Rattle.timing_steps.proofs.stream.print_next.Goals as goal

pub print_source-requires-clause-room : goal.print_source-requires-clause-room
print_source-requires-clause-room g c =
    g.met.P.Printer.less (2 ^ 36 + 1) (2 ^ 41 - c.args.done.now.records) c.args.printer.now (omega (arith, c.requires.few, c.requires.before)) c.requires.room

pub returns-clause-room : goal.returns-clause-room
returns-clause-room g c =
    let before = c.args.done.now.records in
    let taken = c.in_ok-taken.taken in
    let left : taken.records + (2 ^ 41 - (before + taken.records)) ≡ 2 ^ 41 - before =
    omega (arith, c.in_ok-taken.ensures.few, c.requires.few, c.requires.before) in
    c.in_ok-taken.ensures.room (2 ^ 41 - (before + taken.records)) (subst (λ k. g.P.Printer.room k c.args.printer.now) (sym left) c.requires.room)

pub returns-in_err-push-clause-stopped : goal.returns-in_err-push-clause-stopped
returns-in_err-push-clause-stopped g c =
    any-err c.from_residual-in_err-push.result _
    (λ text items end whole records. taken-stopped g.P.Printer.goes_on g.P.Printer.holds g.P.Printer.text g.met.P.Printer.none g.met.P.Printer.more (output_of
    g.K.Sink c.args.out.now c.print_source.new.out) c.args.printer.now c.print_source.new.printer text
    c.args.done.now.records c.in_ok-taken.taken items end (c.in_ok-taken.ensures.told text whole) records)

pub returns-in_err-push-clause-front : goal.returns-in_err-push-clause-front
returns-in_err-push-clause-front g c =
    any-err c.from_residual-in_err-push.result _
    (some-front g.P.Printer.goes_on g.P.Printer.holds g.P.Printer.text g.met.P.Printer.none g.met.P.Printer.more (output_of g.K.Sink c.args.out.now
    c.print_source.new.out) c.args.printer.now c.print_source.new.printer c.in_ok-taken.ensures.some)
