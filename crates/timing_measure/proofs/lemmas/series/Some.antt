-- The packet records of captures have an answer of `series`.
use Rattle.std.specs.Prelude.{◌≡◌, All, slice_get}
use Rattle.std.proofs.Common.{◌<◌, ◌^◌, ℕ, Bool, List, Option, Some, None, length, refl, subst}
use Rattle.std.proofs.lemmas.List.Elements.{All-get_or}
use Rattle.std.proofs.lemmas.Option.{get_or_from_slice_get, slice_get_within}
use Rattle.timing_base.specs.Shifts.{AreFlowOptions, FlowOptions}
use Rattle.timing_base.specs.Captures.{IsStamp, Record, joined}
use Rattle.timing_base.specs.Jobs.{SeriesJob}
use Rattle.timing_base.specs.Judged.{judged}
use Rattle.timing_base.specs.Media.{IsMedia, Media}
use Rattle.timing_base.specs.declared.capture.FileNote.{FileNote}
use Rattle.fail_interval.specs.Row.{verdict_of}
use Rattle.pcap_reader.specs.Records.{AreRecords}
use Rattle.timing_steps.specs.Answers.{Answer}
use Rattle.timing_steps.specs.Flows.{OnMedia, no_media, no_such_media}
use Rattle.timing_steps.specs.Queries.{HasAnswer}
use Rattle.timing_steps.proofs.Capturing.{some-none}
use Rattle.timing_steps.proofs.Onces.{DefinesSome}
use Rattle.udp_rtp.specs.Flow.{flow}
use Rattle.timing_measure.specs.series.Series.{DefinesSeries, series_of, series_query}
use Rattle.timing_measure.proofs.lemmas.series.Closing.{has-series}
use Rattle.timing_measure.proofs.lemmas.series.Fronting.{rows-of-flow}

-- the answer over packet records of a flow
series-defined : (frames : Bool) (options : FlowOptions) (m : Media) (items : List Record) (notes : List FileNote) → IsMedia m
    → (answer : Answer) × DefinesSeries frames options m items notes answer
series-defined frames options m items notes is =
    let rows = rows-of-flow frames m options (flow items m) is in (
      series_of frames m notes (verdict_of m (judged (flow items m) m.pt options)) rows.0,
      record { rows = rows.0; are = rows.1; answer_is = refl },
    )

pub some-series : (job : SeriesJob) (texts : List (List ℕ)) → DefinesSome (series_query job) texts
some-series job texts media files notes are unsettled records = of-media (slice_get media job.flow.media) refl unsettled
  where
    of-media : (found : Option Media) → slice_get media job.flow.media ≡ found → no_media found ≡ None
        → (answer : Answer) × OnMedia found (λ m. DefinesSeries job.frames job.flow.options m (joined files) notes answer)
    of-media None is unsettled = absurd (some-none no_such_media unsettled)
    of-media (Some m) is unsettled =
        series-defined job.frames job.flow.options m (joined files) notes
        (subst IsMedia (get_or_from_slice_get media job.flow.media m m is)
        (All-get_or IsMedia media job.flow.media m (slice_get_within media job.flow.media m is) are))

-- over captures with these contents
pub some-series-answer : (job : SeriesJob) (media : List Media) (m : Media) (texts : List (List ℕ)) (files : List (List Record)) (notes : List FileNote)
    → slice_get media job.flow.media ≡ Some m → IsMedia m → AreFlowOptions job.flow.options → AreRecords texts files notes
    → length (joined files) < 2 ^ 41 → All (λ (r : Record). IsStamp r.stamp) (joined files)
    → (answer : Answer) × HasAnswer (series_query job) media texts answer
some-series-answer job media m texts files notes found is limits records few stamps =
    let made = series-defined job.frames job.flow.options m (joined files) notes is in
    (made.0, has-series job media m texts files notes made.0 found records made.1)
