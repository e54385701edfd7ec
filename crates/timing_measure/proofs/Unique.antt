-- The packet records of captures have one answer of `measure`.
use Rattle.std.proofs.Common.{◌≡◌, ap, ◌∙◌, sym}
use Rattle.timing_base.specs.Captures.{joined}
use Rattle.timing_base.specs.Choices.{chosen, first_chosen}
use Rattle.timing_base.specs.Jobs.{CaptureJob}
use Rattle.timing_steps.proofs.Onces.{DefinesOnce}
use Rattle.udp_rtp.specs.Flow.{flow}
use Rattle.timing_measure.specs.Measured.{IsMeasuredFlow}
use Rattle.timing_measure.specs.Measures.{measure_query, measured}
use Rattle.timing_measure.proofs.Eaches.{each-once}
use Rattle.timing_measure.proofs.Numbers.{flow-once}

-- no media and packet records have two answers
pub once-measure : (job : CaptureJob) → DefinesOnce (measure_query job)
once-measure job media files notes a b h k =
    let items = joined files in
    let flows : h.flows ≡ k.flows =
    each-once (λ n m f. IsMeasuredFlow m n job.options (flow items m) f) (λ n m. flow-once m n job.options (flow items m)) (first_chosen job.media)
    (chosen job.media media) h.flows k.flows h.are k.are in
    h.answer_is ∙ ap (measured job.captures notes media) flows ∙ sym k.answer_is
