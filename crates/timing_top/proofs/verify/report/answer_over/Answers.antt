use Rattle.std.proofs.Common.{rules, ◌≡◌, ◌∙◌, ap}
use Rattle.timing_steps.specs.Answers.{seen_of}
use Rattle.timing_top.specs.verify.Asked.{asked}
use Rattle.timing_top.proofs.lemmas.verify.Following.{follows-none, matched, report-read, unmatched}
use Rattle.timing_steps.proofs.Seeing.{sees-rest}
use Rattle.timing_top.proofs.verify.report.answer_over.Goals as goal

pub returns-in-Some-clause-follows : goal.returns-in-Some-clause-follows
returns-in-Some-clause-follows g c =
    let named : c.as_str.result.now ≡ c.args.job.now.report = search rules in
    let only : c.job.inside.media ≡ c.args.job.now.media = search rules in
    report-read
    (seen_of g.H.Shelf c.args.shelf.now c.answer_on.new.shelf)
    (seen_of g.H.Shelf c.fetch_report.new.shelf c.answer_on.new.shelf)
    c.args.job.now c.args.media.now c.answer_on.result c.as_str.result.now c.deref.result.now c.in-Some.claims.items
    (sees-rest g.H.Shelf.text g.H.Shelf.lacks g.H.Shelf.faults c.args.shelf.now c.fetch_report.new.shelf c.answer_on.new.shelf c.fetch_report.ensures.stays)
    named (c.deref.ensures.value ∙ c.asked-claims.ensures ∙ ap (λ o. asked o c.in-Some.claims.items) only) c.in_ok-claims.ensures.there
    (λ text t. matched _ c.in-Some.claims _ _ c.in-Some.is (c.in_ok-claims.ensures.told text t))
    c.answer_on.ensures.follows

pub returns-in-None-clause-follows : goal.returns-in-None-clause-follows
returns-in-None-clause-follows g c =
    let named : c.as_str.result.now ≡ c.args.job.now.report = search rules in
    follows-none
    (seen_of g.H.Shelf c.args.shelf.now c.fetch_report.new.shelf)
    c.silent.result c.as_str.result.now c.args.job.now.report _ named c.in_ok-claims.ensures.there
    (λ text t. unmatched _ _ _ c.in-None.is (c.in_ok-claims.ensures.told text t)) c.silent.ensures
