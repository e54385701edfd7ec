use Rattle.std.proofs.Common.{rules, Some, ◌≡◌}
use Rattle.std.specs.Prelude.{slice_get}
use Rattle.timing_steps.specs.Answers.{seen_of}
use Rattle.timing_steps.proofs.Capturing.{reads-all}
use Rattle.timing_reach.specs.Skewed.{skew_query}
use Rattle.timing_reach.proofs.Skewing.{has-skew}
use Rattle.timing_reach.proofs.skew.answer_pair.Goals as goal

pub returns-clause-follows : goal.returns-clause-follows
returns-clause-follows g c =
    let first : slice_get c.args.session.now c.args.job.now.media ≡ Some c.media_of-first.result.now = search rules in
    let second : slice_get c.args.session.now c.args.job.now.pair ≡ Some c.media_of-second.result.now = search rules in
    reads-all (skew_query c.args.job.now) c.args.session.now (seen_of g.H.Shelf c.args.shelf.now c.compare.new.shelf) _ c.in_ok-compared.ensures.there
    (λ texts t. has-skew c.args.job.now c.args.session.now c.media_of-first.result.now c.media_of-second.result.now texts c.in_ok-compared.compared
    c.in_ok-skewed.field-0 first second (c.in_ok-compared.ensures.told texts t) c.in_ok-skewed.ensures) tt
