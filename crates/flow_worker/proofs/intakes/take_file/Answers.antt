use Rattle.std.proofs.Common.{◌≡◌, List, Some, sym, subst, rules}
use Rattle.ruled_intake.specs.Lanes.{Sender}
use Rattle.flow_worker.specs.Intakes.{HasTold}
use Rattle.flow_worker.specs.Opening.{Setting}
use Rattle.flow_worker.proofs.Told.{told-file, told-stop, told-stopped}
use Rattle.flow_worker.proofs.intakes.take_file.Goals as goal

pub returns-in-Ok-clause-told : goal.returns-in-Ok-clause-told
returns-in-Ok-clause-told g c = λ joined options items end e given.
    let old = c.args.sorter in
    let new = c.send_file-sent.new.self in
    let s : Setting = record { media = old.routing.media.now; workers = old.routing.lanes; joined = joined; options = options } in
    let same : c.into_passes-passes.result.items ≡ new.outboxes.passes.items = search rules in
    subst (λ (ps : List Sender). HasTold s old.outboxes.file old.outboxes.lanes.now record { records = items; note = end } (Some c.in-Ok.note) ps) (sym same)
    (told-file old.routing old.outboxes new.outboxes joined options c.in-Ok.note end items e c.in-Ok.ensures.same (c.in-Ok.ensures.told items end given))

pub returns-in-Err-clause-told : goal.returns-in-Err-clause-told
returns-in-Err-clause-told g c = λ joined options items end e given.
    let old = c.args.sorter in
    let new = c.send_file-sent.new.self in
    let s : Setting = record { media = old.routing.media.now; workers = old.routing.lanes; joined = joined; options = options } in
    let same : c.stop.result.0.passes.items ≡ new.outboxes.passes.items = search rules in
    told-stop s old.outboxes.file old.outboxes.lanes.now record { records = items; note = end } new.outboxes.passes.items
    c.stop.result.0.passes.items c.stop.result.0.note c.stop.ensures.note same
    (told-stopped old.routing old.outboxes new.outboxes joined options end items e c.in-Err.ensures.same (c.in-Err.ensures.told items end given))
