use Rattle.std.proofs.Common.{rules, subst, ◌≡◌}
use Rattle.timing_base.specs.Shifts.{FlowOptions}
use Rattle.pcapng_reader.specs.Classic.{classic_texts}
use Rattle.timing_steps.specs.Answers.{AreTold}
use Rattle.timing_reach.specs.window.Readings.{IsMeasuredIn}
use Rattle.timing_reach.proofs.WindowReadings.{has-windows, measured-in}
use Rattle.timing_reach.proofs.window.measure.Goals as goal

pub returns-clause-told : goal.returns-clause-told
returns-clause-told g c = λ texts whole.
    let same : c.job.inside.options ≡ c.args.job.now.options = search rules in
    subst (λ (x : FlowOptions). IsMeasuredIn c.args.media.now x texts c.in_ok-finish.field-0) same
    (measured-in texts c.args.media.now _ c.job.inside.options c.new-reading.result _ c.in_ok-finish.field-0 c.new-reading.ensures.stands
    (c.in_ok-reading.ensures.told texts (subst (λ names. AreTold (classic_texts (g.H.Shelf.text c.args.shelf.now)) names texts) (search rules) whole))
    (λ packets h. c.in_ok-finish.ensures c.args.media.now _ c.job.inside.options packets h))

pub returns-clause-windows : goal.returns-clause-windows
returns-clause-windows g c =
    has-windows c.args.media.now _ c.job.inside.options _ c.new-reading.result _ c.in_ok-finish.field-0 c.new-reading.ensures.stands
    c.in_ok-reading.ensures.fed (λ packets h. c.in_ok-finish.ensures c.args.media.now _ c.job.inside.options packets h)
