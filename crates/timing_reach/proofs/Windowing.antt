-- What follows for `window` from what its steps found, and that its captures have one answer.
use Rattle.std.proofs.Common.{◌≡◌, ◌^◌, ℕ, List, [], ◌∷◌, Some, None}
use Rattle.std.specs.Prelude.{slice_get}
use Rattle.timing_base.specs.Shifts.{FlowOptions}
use Rattle.timing_base.specs.Captures.{Record, joined}
use Rattle.timing_base.specs.Jobs.{FlowJob}
use Rattle.timing_base.specs.Judged.{judged}
use Rattle.timing_base.specs.Media.{Media}
use Rattle.timing_base.specs.declared.capture.FileNote.{FileNote}
use Rattle.timing_base.specs.declared.packet.FlowPacket.{FlowPacket}
use Rattle.pcap_reader.specs.Records.{AreRecords, Records}
use Rattle.udp_rtp.specs.Flow.{flow}
use Rattle.timing_steps.specs.Answers.{Answer}
use Rattle.timing_steps.specs.Queries.{HasAnswer}
use Rattle.timing_steps.proofs.Onces.{DefinesOnce, DefinesSome}
use Rattle.timing_reach.specs.Asked.{OnRun}
use Rattle.timing_reach.specs.Windows.{DefinesWindow, HasLines, window_query}
use Rattle.timing_reach.specs.window.Readings.{IsMeasured, IsMeasuredIn}
use Rattle.timing_reach.specs.declared.window.reading.Measured.{Measured}
use Rattle.timing_reach.proofs.Flowing.{flow-of_one, has-flow, once-flow, some-on-media}
use Rattle.timing_reach.proofs.RunSizes.{judged-size}
use Rattle.timing_reach.proofs.Unique.{lines-once, once-on, some-lines, some-on}

-- the answer on captures that were measured
pub has-window : (job : FlowJob) (media : List Media) (m : Media) (texts : List (List ℕ)) (x : Measured) (answer : Answer) → slice_get media job.media ≡ Some m
    → ((options : FlowOptions) (packets : List FlowPacket) → IsMeasured m options packets x → OnRun m (HasLines m) (judged packets m.pt options) answer)
    → IsMeasuredIn m job.options texts x → HasAnswer (window_query job) media texts answer
has-window job media m texts x answer found answers h =
    has-flow job (DefinesWindow job.options) media m texts h.files h.notes answer found h.records
    (answers job.options (flow (joined h.files) m) h.measured_is)

-- the captures have one answer
pub once-window : (job : FlowJob) → DefinesOnce (window_query job)
once-window job =
    once-flow job (DefinesWindow job.options)
    (λ m items notes a b h k. once-on m (HasLines m) (judged (flow items m) m.pt job.options) a b (λ run x y. lines-once m run a b x y) h k)

-- it is that of one capture with their packet records
pub window-of_one : (job : FlowJob) (media : List Media) (texts : List (List ℕ)) (files : List (List Record)) (notes : List FileNote) (one : List ℕ)
    (end : FileNote) (a b : Answer) → AreRecords texts files notes → Records one (2 ^ 40) (joined files) end
    → HasAnswer (window_query job) media texts a → HasAnswer (window_query job) media (one ∷ []) b → a ≡ b
window-of_one job =
    flow-of_one job (DefinesWindow job.options)
    (λ m items notes also a b h k. once-on m (HasLines m) (judged (flow items m) m.pt job.options) a b (λ run x y. lines-once m run a b x y) h k)

-- they have an answer, whatever media they are
pub some-lines-of : (job : FlowJob) (media : List Media) (files : List (List Record)) (notes : List FileNote) → (window_query job).early media ≡ None
    → (answer : Answer) × (window_query job).Defines media files notes answer
some-lines-of job media files notes unsettled =
    some-on-media media job.media (λ m answer. DefinesWindow job.options m (joined files) notes answer) unsettled
    (λ m found. some-on m (HasLines m) (judged (flow (joined files) m) m.pt job.options) (judged-size (flow (joined files) m) m.pt job.options)
    (λ run size. some-lines m run))

pub some-window : (job : FlowJob) (texts : List (List ℕ)) → DefinesSome (window_query job) texts
some-window job texts media files notes are unsettled records = some-lines-of job media files notes unsettled
