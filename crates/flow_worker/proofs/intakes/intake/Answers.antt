use Rattle.std.proofs.Common.{◌≡◌, rules}
use Rattle.flow_worker.specs.Settings.{setting_of}
use Rattle.flow_worker.proofs.Told.{told-nothing, told-stop}
use Rattle.flow_worker.proofs.intakes.intake.Goals as goal

pub returns-in-Err-clause-told : goal.returns-in-Err-clause-told
returns-in-Err-clause-told g c = λ text items end whole holds.
    let same : c.stop.result.0.passes.items ≡ c.args.passes.items = search rules in
    let run = c.args.run.now in
    told-stop (setting_of run) c.args.file run.lanes.now record { records = items; note = end } c.args.passes.items c.stop.result.0.passes.items
    c.stop.result.0.note c.stop.ensures.note same
    (told-nothing (setting_of run) c.args.file run.lanes.now c.args.passes.items items end c.requires.passes)

pub returns-in-Err-start-clause-told : goal.returns-in-Err-start-clause-told
returns-in-Err-start-clause-told g c = λ text items end whole holds.
    let same : c.stop-in-Err-start.result.0.passes.items ≡ c.args.passes.items = search rules in
    let run = c.args.run.now in
    told-stop (setting_of run) c.args.file run.lanes.now record { records = items; note = end } c.args.passes.items
    c.stop-in-Err-start.result.0.passes.items c.stop-in-Err-start.result.0.note c.stop-in-Err-start.ensures.note same
    (told-nothing (setting_of run) c.args.file run.lanes.now c.args.passes.items items end c.requires.passes)
