use Rattle.std.proofs.Common.{arith, rules, subst, Bool, ◌≡◌, ◌^◌}
use Rattle.timing_base.specs.Shifts.{FlowOptions}
use Rattle.pcapng_reader.specs.Classic.{classic_texts}
use Rattle.timing_steps.specs.Answers.{AreTold}
use Rattle.timing_reach.specs.shape.Readings.{IsKeptIn, IsRead}
use Rattle.timing_reach.proofs.Keepings.{kept-in, kept-some, read-few}
use Rattle.timing_reach.proofs.shape.read.Goals as goal

pub finish-requires : goal.finish-requires
finish-requires g c =
    omega (
      arith,
      read-few c.args.media.now _ c.flow.inside.options (2 ^ 40) c.job.inside.list c.in_ok-reading.reading _ c.in_ok-reading.ensures.stands
          c.in_ok-reading-2.ensures.fed,
    )

pub returns-clause-told : goal.returns-clause-told
returns-clause-told g c = λ texts whole.
    let given : c.flow.inside.options ≡ c.args.job.now.flow.options = search rules in
    let listed : c.job.inside.list ≡ c.args.job.now.list = search rules in
    subst (λ (x : FlowOptions). IsKeptIn c.args.media.now x c.args.job.now.list texts c.in_ok-finish.field-0) given
    (subst (λ (b : Bool). IsKeptIn c.args.media.now c.flow.inside.options b texts c.in_ok-finish.field-0) listed
    (kept-in texts c.args.media.now _ c.flow.inside.options c.job.inside.list c.in_ok-reading.reading _ c.in_ok-finish.field-0 c.in_ok-reading.ensures.stands
    (c.in_ok-reading-2.ensures.told texts (subst (λ names. AreTold (classic_texts (g.H.Shelf.text c.args.shelf.now)) names texts) (search rules) whole))
    (λ items h. c.in_ok-finish.ensures c.args.media.now _ c.flow.inside.options c.job.inside.list items c.flow.invariant.options_are h)))

pub returns-clause-read : goal.returns-clause-read
returns-clause-read g c =
    let given : c.flow.inside.options ≡ c.args.job.now.flow.options = search rules in
    let listed : c.job.inside.list ≡ c.args.job.now.list = search rules in
    subst (λ (x : FlowOptions). IsRead c.args.media.now x c.args.job.now.list c.in_ok-finish.field-0) given
    (subst (λ (b : Bool). IsRead c.args.media.now c.flow.inside.options b c.in_ok-finish.field-0) listed
    (kept-some c.args.media.now _ c.flow.inside.options (2 ^ 40) c.job.inside.list c.in_ok-reading.reading _ c.in_ok-finish.field-0
    c.in_ok-reading.ensures.stands
    c.in_ok-reading-2.ensures.fed
    (λ items h. c.in_ok-finish.ensures c.args.media.now _ c.flow.inside.options c.job.inside.list items c.flow.invariant.options_are h)))
