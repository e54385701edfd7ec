use Rattle.std.proofs.Common.{◌≡◌, ◌∙◌, List, Ok, ap, rules, subst, sym}
use Rattle.timing_base.specs.Choices.{chosen, first_chosen}
use Rattle.timing_base.specs.Jobs.{CaptureJob, ExplainJob}
use Rattle.timing_base.specs.Media.{Media}
use Rattle.pcapng_reader.specs.Classic.{classic_texts}
use Rattle.timing_steps.specs.Answers.{AreThere, AreTold, seen_of}
use Rattle.timing_steps.proofs.Capturing.{reads-all}
use Rattle.timing_measure.proofs.Reading.{unread-follows}
use Rattle.timing_explain.specs.Captures.{IsExplainIn, IsExplainOf}
use Rattle.timing_explain.specs.Explained.{explain_query}
use Rattle.timing_explain.proofs.Answering.{has-explained, of-media}
use Rattle.timing_explain.proofs.explain.answer_explain.Goals as goal

pub explained_answer-requires : goal.explained_answer-requires
explained_answer-requires g c =
    let flows = c.args.job.now.flows in
    let inside = c.job.inside.flows in
    let session = c.args.session.now in
    let read = c.in_ok-captures.captures in
    let same : inside ≡ flows = ap (λ (j : ExplainJob). j.flows) c.job.view_is in
    let number = c.first_chosen.ensures ∙ ap (λ (f : CaptureJob). first_chosen f.media) c.flows.view_is in
    of-media flows.options flows.media session read
    (subst (λ (f : CaptureJob). IsExplainOf f.options (first_chosen f.media) (chosen f.media session) read) same
    (subst (λ (l : List Media). IsExplainOf inside.options (first_chosen inside.media) l read) c.judged_media-media.ensures.are
    (subst (λ n. IsExplainOf inside.options n c.judged_media-media.result.now read) number c.in_ok-captures.ensures.some)))

pub returns-clause-follows : goal.returns-clause-follows
returns-clause-follows g c =
    let job = c.args.job.now in
    let flows = job.flows in
    let inside = c.job.inside.flows in
    let session = c.args.session.now in
    let read = c.in_ok-captures.captures in
    let same : inside ≡ flows = ap (λ (j : ExplainJob). j.flows) c.job.view_is in
    let number = c.first_chosen.ensures ∙ ap (λ (f : CaptureJob). first_chosen f.media) c.flows.view_is in
    reads-all (explain_query job) session (seen_of g.H.Shelf c.args.shelf.now c.read_captures.new.shelf)
    (Ok c.in_ok-explained_answer.field-0)
    (subst (λ (f : CaptureJob). AreThere (g.H.Shelf.lacks c.args.shelf.now) f.captures) same c.in_ok-captures.ensures.there)
    (λ texts whole. has-explained job session texts read c.in_ok-explained_answer.field-0
    (subst (λ (f : CaptureJob). IsExplainIn f.options (first_chosen f.media) (chosen f.media session) texts read) same
    (subst (λ (l : List Media). IsExplainIn inside.options (first_chosen inside.media) l texts read) c.judged_media-media.ensures.are
    (subst (λ n. IsExplainIn inside.options n c.judged_media-media.result.now texts read) number
    (c.in_ok-captures.ensures.told texts
    (subst (λ (f : CaptureJob). AreTold (classic_texts (g.H.Shelf.text c.args.shelf.now)) f.captures texts) (sym same) whole)))))
    c.in_ok-explained_answer.ensures.answers) tt

pub returns-in_err-captures-clause-follows : goal.returns-in_err-captures-clause-follows
returns-in_err-captures-clause-follows g c =
    unread-follows (explain_query c.args.job.now) c.args.session.now (seen_of g.H.Shelf c.args.shelf.now c.read_captures.new.shelf)
    c.from_residual.result (search rules) (search rules)
