use Rattle.std.proofs.Common.{rules, Some, ◌≡◌}
use Rattle.std.specs.Prelude.{slice_get}
use Rattle.timing_base.specs.Captures.{joined}
use Rattle.timing_steps.specs.Answers.{seen_of}
use Rattle.timing_steps.proofs.Capturing.{reads-all}
use Rattle.timing_reach.specs.Shaped.{DefinesShape, shape_query}
use Rattle.timing_reach.proofs.Flowing.{has-flow}
use Rattle.timing_reach.proofs.shape.answer_shape.Goals as goal

pub returns-clause-follows : goal.returns-clause-follows
returns-clause-follows g c =
    let job = c.args.job.now in
    let m = c.media_of-media.result.now in
    let answer = c.in_ok-answer_kept.field-0 in
    let found : slice_get c.args.session.now job.flow.media ≡ Some m = search rules in
    reads-all (shape_query job) c.args.session.now (seen_of g.H.Shelf c.args.shelf.now c.read.new.shelf) _ c.in_ok-kept.ensures.there
    (λ texts t.
    let kept = c.in_ok-kept.ensures.told texts t in
    has-flow job.flow (DefinesShape job) c.args.session.now m texts kept.files kept.notes answer found kept.records
    (c.in_ok-answer_kept.ensures.answers (joined kept.files) kept.flow_is)) tt
