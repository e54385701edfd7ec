use Rattle.std.proofs.Common.{◌≡◌, Some, rules, subst}
use Rattle.std.specs.Prelude.{slice_get}
use Rattle.timing_base.specs.Media.{IsMedia}
use Rattle.timing_steps.specs.Answers.{seen_of}
use Rattle.timing_steps.specs.Ran.{output_of}
use Rattle.timing_measure.specs.series.Ends.{EndsSeries}
use Rattle.timing_measure.specs.series.Series.{series_query}
use Rattle.timing_measure.proofs.lemmas.series.Capturing.{some-front}
use Rattle.timing_measure.proofs.lemmas.series.Closing.{IsFresh, begun-stopped, begun-whole, rest-of-flow, rest-status}
use Rattle.timing_measure.proofs.lemmas.series.Resting.{rests-part, rests-whole}
use Rattle.timing_measure.proofs.series.series.answer_series.Goals as goal

pub returns-in_err-taken-clause-rests : goal.returns-in_err-taken-clause-rests
returns-in_err-taken-clause-rests g c =
    let job = c.args.job.now in
    let media = c.args.session.now in
    let m = c.media_of-media.result.now in
    let o = output_of g.K.Sink c.args.out.now c.copy_captures.new.out in
    let found : slice_get media job.flow.media ≡ Some m = search (rules, c.media_of-media.ensures.found) in
    let is : IsMedia m = search rules in
    let fresh : IsFresh job m c.in_ok-flow.flow = search (rules, c.in_ok-flow.ensures.stands) in
    rests-part (series_query job) media (seen_of g.H.Shelf c.args.shelf.now c.copy_captures.new.shelf) o
    c.from_residual-in_err-taken.result (search rules) (search rules)
    (λ texts told. begun-stopped job media m o c.in_ok-flow.flow texts found is fresh
    (λ files notes records. c.in_err-taken.ensures.stopped texts files notes (search (rules, told)) records)) c.in_err-taken.ensures.front

pub returns-in_err-finish-clause-rests : goal.returns-in_err-finish-clause-rests
returns-in_err-finish-clause-rests g c =
    let job = c.args.job.now in
    let media = c.args.session.now in
    let m = c.media_of-media.result.now in
    let o = output_of g.K.Sink c.args.out.now c.copy_captures.new.out in
    let found : slice_get media job.flow.media ≡ Some m = search (rules, c.media_of-media.ensures.found) in
    let is : IsMedia m = search rules in
    let fresh : IsFresh job m c.in_ok-flow.flow = search (rules, c.in_ok-flow.ensures.stands) in
    rests-part (series_query job) media (seen_of g.H.Shelf c.args.shelf.now c.copy_captures.new.shelf) o
    c.from_residual-in_err-finish.result (search rules) (search rules)
    (λ texts told. begun-whole job media m o c.in_ok-flow.flow c.copy_captures.new.flow texts c.in_ok-taken.taken found is fresh
    (c.in_ok-taken.ensures.told texts (search (rules, told))))
    (some-front o c.in_ok-flow.flow c.copy_captures.new.flow c.in_ok-taken.ensures.some)

pub returns-clause-rests : goal.returns-clause-rests
returns-clause-rests g c =
    let job = c.args.job.now in
    let media = c.args.session.now in
    let m = c.media_of-media.result.now in
    let o = output_of g.K.Sink c.args.out.now c.copy_captures.new.out in
    let rest = c.in_ok-finish.field-0 in
    let found : slice_get media job.flow.media ≡ Some m = search (rules, c.media_of-media.ensures.found) in
    let fresh : IsFresh job m c.in_ok-flow.flow = search (rules, c.in_ok-flow.ensures.stands) in
    let notes : c.as_slice-2.result.now ≡ c.in_ok-taken.taken.notes.items = search rules in
    rests-whole (series_query job) media (seen_of g.H.Shelf c.args.shelf.now c.copy_captures.new.shelf) o rest
    (search (rules, c.in_ok-taken.ensures.there))
    (λ texts told. rest-of-flow job media m o c.in_ok-flow.flow c.copy_captures.new.flow texts c.in_ok-taken.taken rest found fresh
    (c.in_ok-taken.ensures.told texts (search (rules, told)))
    (subst (λ l. EndsSeries l c.copy_captures.new.flow rest) notes c.in_ok-finish.ensures))
    (some-front o c.in_ok-flow.flow c.copy_captures.new.flow c.in_ok-taken.ensures.some)

pub returns-clause-ends : goal.returns-clause-ends
returns-clause-ends g c =
    let job = c.args.job.now in
    let m = c.media_of-media.result.now in
    let o = output_of g.K.Sink c.args.out.now c.copy_captures.new.out in
    let fresh : IsFresh job m c.in_ok-flow.flow = search (rules, c.in_ok-flow.ensures.stands) in
    rest-status job m o c.in_ok-flow.flow c.copy_captures.new.flow c.as_slice-2.result.now c.in_ok-finish.field-0 fresh
    c.in_ok-taken.ensures.some c.in_ok-finish.ensures
