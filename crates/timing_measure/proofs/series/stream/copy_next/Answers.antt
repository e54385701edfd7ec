use Rattle.std.proofs.Common.{◌≡◌, ◌+◌, ◌-◌, ◌^◌, arith, subst, sym}
use Rattle.timing_steps.specs.Ran.{output_of}
use Rattle.timing_measure.specs.series.Stands.{HasRoom}
use Rattle.timing_measure.proofs.lemmas.series.Capturing.{some-front, taken-stopped}
use Rattle.timing_measure.proofs.lemmas.series.Copying.{any-err}
use Rattle.timing_measure.proofs.lemmas.series.Pouring.{room-less}
use Rattle.timing_measure.proofs.series.stream.copy_next.Goals as goal

pub copy_source-requires-clause-room : goal.copy_source-requires-clause-room
copy_source-requires-clause-room g c =
    room-less (2 ^ 36 + 1) (2 ^ 41 - c.args.done.now.records) c.args.flow.now (omega (arith, c.requires.few, c.requires.before)) c.requires.room

pub returns-clause-room : goal.returns-clause-room
returns-clause-room g c =
    let before = c.args.done.now.records in
    let taken = c.in_ok-taken.taken in
    let left : taken.records + (2 ^ 41 - (before + taken.records)) ≡ 2 ^ 41 - before =
    omega (arith, c.in_ok-taken.ensures.few, c.requires.few, c.requires.before) in
    c.in_ok-taken.ensures.room (2 ^ 41 - (before + taken.records)) (subst (λ k. HasRoom k c.args.flow.now) (sym left) c.requires.room)

pub returns-in_err-push-clause-stopped : goal.returns-in_err-push-clause-stopped
returns-in_err-push-clause-stopped g c =
    any-err c.from_residual-in_err-push.result _
    (λ text items end whole records. taken-stopped (output_of g.K.Sink c.args.out.now c.copy_source.new.out) c.args.flow.now c.copy_source.new.flow text
    c.args.done.now.records c.in_ok-taken.taken items end (c.in_ok-taken.ensures.told text whole) records)

pub returns-in_err-push-clause-front : goal.returns-in_err-push-clause-front
returns-in_err-push-clause-front g c =
    any-err c.from_residual-in_err-push.result _
    (some-front (output_of g.K.Sink c.args.out.now c.copy_source.new.out) c.args.flow.now c.copy_source.new.flow c.in_ok-taken.ensures.some)
