use Rattle.std.proofs.Common.{rules, ◌≡◌, Some, sym, subst}
use Rattle.std.specs.Prelude.{slice_get}
use Rattle.pcapng_reader.specs.Classic.{classic_texts}
use Rattle.timing_steps.specs.Answers.{AreThere, AreTold, seen_of}
use Rattle.timing_steps.proofs.Capturing.{reads-all}
use Rattle.timing_top.specs.verify.Asked.{claim_of, verify_query}
use Rattle.timing_top.proofs.lemmas.verify.Following.{has-verified, there-media}
use Rattle.timing_top.proofs.verify.verify.answer_verify.Goals as goal

pub media_of-media-requires : goal.media_of-media-requires
media_of-media-requires g c = record { has = there-media (slice_get c.args.session.now c.job.inside.media) (search rules) }

pub returns-clause-follows : goal.returns-clause-follows
returns-clause-follows g c =
    let named : c.as_slice-names.result.now ≡ c.args.job.now.captures = search rules in
    let asked : c.claim_of-claim.result ≡ claim_of c.args.job.now = search rules in
    let found : slice_get c.args.session.now c.args.job.now.media ≡ Some c.media_of-media.result.now = search rules in
    let late : c.job.inside.options ≡ c.args.job.now.options = search rules in
    reads-all (verify_query c.args.job.now) c.args.session.now (seen_of g.H.Shelf c.args.shelf.now c.find.new.shelf) _
    (subst (AreThere (g.H.Shelf.lacks c.args.shelf.now)) named c.in_ok-finding.ensures.there)
    (λ texts t. has-verified c.args.job.now c.args.session.now c.media_of-media.result.now texts c.claim_of-claim.result c.job.inside.options
    c.in_ok-finding.finding c.in_ok-verified.field-0 found asked late
    (c.in_ok-finding.ensures.told texts (subst (λ names. AreTold (classic_texts (g.H.Shelf.text c.args.shelf.now)) names texts) (sym named) t))
    c.in_ok-verified.ensures) tt
