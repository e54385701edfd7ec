use Rattle.std.proofs.Common.{refl}
use Rattle.interval_checker.proofs.Goings.{TakesAll, goes-next, room-taken, same-taken}
use Rattle.interval_checker.proofs.Takings.{takes-all}
use Rattle.interval_checker.proofs.checker.read_source.Goals as goal
use Rattle.interval_checker.proofs.checker.read_source.Goals.{then-read_failed, else-read_failed}

pub returns-after-read_failed-clause-told : goal.returns-after-read_failed-clause-told
returns-after-read_failed-clause-told g c = λ rest all goes.
    let old = c.args.checking.now.readings.items in
    let new = c.take_records.new.taker.readings.items in
    goes-next g.S.Source.left c.args.source rest all c.in-Ok.before c.args.outcome c.if-read_failed.after old new c.in-Ok.is (λ text items note left is.
    let given = c.in-Ok-start.ensures.gives text items note left is in
    elim c.if-read_failed.branch as (λ _. TakesAll c.in-Ok.before old new c.if-read_failed.after items) [
      | then-read_failed w ↦ rw (w.after-is) tt
      | else-read_failed w ↦ rw (w.after-is)
          (takes-all c.in-Ok.before c.args.checking.now c.take_records.new.taker c.in-Ok-take_records.taken items note
          (w.if-read_failed.ensures.whole refl) (c.in-Ok-take_records.ensures.told items note given))
    ]) goes

pub returns-after-read_failed-clause-same : goal.returns-after-read_failed-clause-same
returns-after-read_failed-clause-same g c =
    let fed = c.in-Ok-take_records.ensures.fed in
    same-taken c.if-read_failed.after c.args.checking.now.readings.items c.take_records.new.taker.readings.items fed.items fed.taken

pub returns-after-read_failed-clause-room : goal.returns-after-read_failed-clause-room
returns-after-read_failed-clause-room g c = λ count.
    room-taken c.if-read_failed.after c.args.checking.now.readings.items c.take_records.new.taker.readings.items c.in-Ok-take_records.taken.records count
    c.in-Ok-take_records.ensures.few (c.in-Ok-take_records.ensures.room count)
