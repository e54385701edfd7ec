use Rattle.std.proofs.Common.{rules, Some, ◌≡◌}
use Rattle.std.specs.Prelude.{slice_get}
use Rattle.timing_steps.specs.Answers.{seen_of}
use Rattle.timing_steps.proofs.Capturing.{reads-all}
use Rattle.timing_reach.specs.Windows.{window_query}
use Rattle.timing_reach.proofs.Windowing.{has-window}
use Rattle.timing_reach.proofs.window.answer_window.Goals as goal

pub returns-clause-follows : goal.returns-clause-follows
returns-clause-follows g c =
    let found : slice_get c.args.session.now c.args.job.now.media ≡ Some c.media_of-media.result.now = search rules in
    reads-all (window_query c.args.job.now) c.args.session.now (seen_of g.H.Shelf c.args.shelf.now c.measure.new.shelf) _ c.in_ok-measured.ensures.there
    (λ texts t. has-window c.args.job.now c.args.session.now c.media_of-media.result.now texts c.in_ok-measured.measured c.in_ok-told_of.field-0
    found c.in_ok-told_of.ensures.answers (c.in_ok-measured.ensures.told texts t)) tt
