use Rattle.std.proofs.Common.{◌≡◌, ◌∙◌, List, Ok, ap, rules, subst}
use Rattle.timing_base.specs.Choices.{chosen, first_chosen}
use Rattle.timing_base.specs.Jobs.{CaptureJob}
use Rattle.timing_base.specs.Media.{Media}
use Rattle.timing_steps.specs.Answers.{seen_of}
use Rattle.timing_steps.proofs.Capturing.{reads-all}
use Rattle.timing_measure.specs.page.Captures.{IsPageIn, IsPageOf}
use Rattle.timing_measure.specs.page.Pages.{page_query}
use Rattle.timing_measure.proofs.lemmas.page.Answering.{has-page, of-media}
use Rattle.timing_measure.proofs.Reading.{unread-follows}
use Rattle.timing_measure.proofs.page.page.answer_page.Goals as goal

pub paged-requires : goal.paged-requires
paged-requires g c =
    let job = c.args.job.now in
    let same : c.job.inside.media ≡ job.media = ap (λ (j : CaptureJob). j.media) c.job.view_is in
    let media : c.judged_media-media.result.now ≡ chosen job.media c.args.session.now = c.judged_media-media.ensures.are in
    let first : c.first_chosen.result ≡ first_chosen job.media = c.first_chosen.ensures ∙ ap first_chosen same in
    of-media job.options job.media c.args.session.now c.in_ok-captures.captures
    (subst (λ (l : List Media). IsPageOf job.options (first_chosen job.media) l c.in_ok-captures.captures) media
    (subst (λ n. IsPageOf job.options n c.judged_media-media.result.now c.in_ok-captures.captures) first c.in_ok-captures.ensures.some))

pub returns-clause-follows : goal.returns-clause-follows
returns-clause-follows g c =
    let job = c.args.job.now in
    let same : c.job.inside.media ≡ job.media = ap (λ (j : CaptureJob). j.media) c.job.view_is in
    let media : c.judged_media-media.result.now ≡ chosen job.media c.args.session.now = c.judged_media-media.ensures.are in
    let first : c.first_chosen.result ≡ first_chosen job.media = c.first_chosen.ensures ∙ ap first_chosen same in
    reads-all (page_query job) c.args.session.now (seen_of g.H.Shelf c.args.shelf.now c.read_pages.new.shelf)
    (Ok c.in_ok-paged.field-0) c.in_ok-captures.ensures.there
    (λ texts whole. has-page job c.args.session.now texts c.in_ok-captures.captures c.in_ok-paged.field-0
    (subst (λ (l : List Media). IsPageIn job.options (first_chosen job.media) l texts c.in_ok-captures.captures) media
    (subst (λ n. IsPageIn job.options n c.judged_media-media.result.now texts c.in_ok-captures.captures) first
    (c.in_ok-captures.ensures.told texts whole)))
    c.in_ok-paged.ensures.answers) tt

pub returns-in_err-captures-clause-follows : goal.returns-in_err-captures-clause-follows
returns-in_err-captures-clause-follows g c =
    unread-follows (page_query c.args.job.now) c.args.session.now (seen_of g.H.Shelf c.args.shelf.now c.read_pages.new.shelf)
    c.from_residual.result (search rules) (search rules)
