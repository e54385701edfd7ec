use Rattle.std.proofs.Common.{◌≡◌, rules}
use Rattle.timing_base.specs.Jobs.{IsWatchJob}
use Rattle.timing_steps.specs.Answers.{seen_of}
use Rattle.timing_steps.specs.Ran.{output_of}
use Rattle.timing_watch.specs.Watches.{watch_query}
use Rattle.timing_watch.specs.making.Watches.{rest_of}
use Rattle.timing_watch.proofs.Answering.{IsFresh, begun-stopped, begun-whole, left-of-session, rest-of-watch, rests-part, rests-whole, some-front}
use Rattle.timing_watch.proofs.command.answer_watch.Goals as goal

pub returns-in_err-taken-clause-rests : goal.returns-in_err-taken-clause-rests
returns-in_err-taken-clause-rests g c =
    let job = c.args.job.now in
    let media = c.args.session.now in
    let o = output_of g.K.Sink c.args.out.now c.print_captures.new.out in
    let limits : IsWatchJob job = search rules in
    let fresh : IsFresh job media c.in_ok-watch.watch = search (rules, c.in_ok-watch.ensures.stands) in
    rests-part (watch_query job) media (seen_of g.H.Shelf c.args.shelf.now c.print_captures.new.shelf) o c.from_residual-in_err-taken.result (search rules)
    (search rules)
    (λ texts told. begun-stopped job media o c.in_ok-watch.watch texts limits fresh
    (λ files notes records. c.in_err-taken.ensures.stopped texts files notes (search (rules, told)) records)) c.in_err-taken.ensures.front

pub returns-in_err-watched-clause-rests : goal.returns-in_err-watched-clause-rests
returns-in_err-watched-clause-rests g c =
    let job = c.args.job.now in
    let media = c.args.session.now in
    let o = output_of g.K.Sink c.args.out.now c.print_captures.new.out in
    let limits : IsWatchJob job = search rules in
    let fresh : IsFresh job media c.in_ok-watch.watch = search (rules, c.in_ok-watch.ensures.stands) in
    rests-part (watch_query job) media (seen_of g.H.Shelf c.args.shelf.now c.print_captures.new.shelf) o c.from_residual-in_err-watched.result (search rules)
    (search rules)
    (λ texts told. begun-whole job media o c.in_ok-watch.watch c.print_captures.new.printer texts c.in_ok-taken.taken limits fresh
    (c.in_ok-taken.ensures.told texts (search (rules, told))))
    (some-front o c.in_ok-watch.watch c.print_captures.new.printer c.in_ok-taken.ensures.some)

pub rest_of-requires : goal.rest_of-requires
rest_of-requires g c =
    let job = c.args.job.now in
    let media = c.args.session.now in
    let o = output_of g.K.Sink c.args.out.now c.print_captures.new.out in
    let fresh : IsFresh job media c.in_ok-watch.watch = search (rules, c.in_ok-watch.ensures.stands) in
    left-of-session job media o c.in_ok-watch.watch c.print_captures.new.printer c.in_ok-watched.watched fresh c.in_ok-taken.ensures.some
    c.in_ok-watched.ensures c.requires

pub returns-in_err-rest_of-clause-rests : goal.returns-in_err-rest_of-clause-rests
returns-in_err-rest_of-clause-rests g c =
    let job = c.args.job.now in
    let media = c.args.session.now in
    let o = output_of g.K.Sink c.args.out.now c.print_captures.new.out in
    let limits : IsWatchJob job = search rules in
    let fresh : IsFresh job media c.in_ok-watch.watch = search (rules, c.in_ok-watch.ensures.stands) in
    rests-part (watch_query job) media (seen_of g.H.Shelf c.args.shelf.now c.print_captures.new.shelf) o c.from_residual-in_err-rest_of.result (search rules)
    (search rules)
    (λ texts told. begun-whole job media o c.in_ok-watch.watch c.print_captures.new.printer texts c.in_ok-taken.taken limits fresh
    (c.in_ok-taken.ensures.told texts (search (rules, told))))
    (some-front o c.in_ok-watch.watch c.print_captures.new.printer c.in_ok-taken.ensures.some)

pub returns-clause-rests : goal.returns-clause-rests
returns-clause-rests g c =
    let job = c.args.job.now in
    let media = c.args.session.now in
    let o = output_of g.K.Sink c.args.out.now c.print_captures.new.out in
    let rest = c.in_ok-rest_of.field-0 in
    let fresh : IsFresh job media c.in_ok-watch.watch = search (rules, c.in_ok-watch.ensures.stands) in
    let rest_is : rest ≡ rest_of job media c.in_ok-taken.taken.notes.items c.in_ok-watched.watched = search rules in
    rests-whole (watch_query job) media (seen_of g.H.Shelf c.args.shelf.now c.print_captures.new.shelf) o rest (search (rules, c.in_ok-taken.ensures.there))
    (λ texts told. rest-of-watch job media o c.in_ok-watch.watch c.print_captures.new.printer texts c.in_ok-taken.taken c.in_ok-watched.watched rest fresh
    (c.in_ok-taken.ensures.told texts (search (rules, told))) c.in_ok-watched.ensures rest_is)
    (some-front o c.in_ok-watch.watch c.print_captures.new.printer c.in_ok-taken.ensures.some)
