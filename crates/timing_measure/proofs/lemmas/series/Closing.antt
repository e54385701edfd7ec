-- The rest of the answer of a flow, behind what was written.
use Rattle.std.proofs.Common.{◌≡◌, ℕ, Bool, true, false, List, [], ◌∷◌, ◌++◌, Some, inl, inr, refl, ap, sym, append-nil, subst}
use Rattle.std.specs.Prelude.{◌⊎◌, ◌||◌, if◌then◌else◌, slice_get}
use Rattle.std.specs.List.{list_any}
use Rattle.timing_base.specs.Captures.{Record, joined}
use Rattle.timing_base.specs.Jobs.{SeriesJob}
use Rattle.timing_base.specs.Judged.{judged}
use Rattle.timing_base.specs.Media.{IsMedia, Media}
use Rattle.timing_base.specs.declared.capture.FileNote.{FileNote}
use Rattle.timing_base.specs.declared.row.Verdict.{Verdict}
use Rattle.fail_interval.specs.Row.{verdict_of}
use Rattle.pcap_reader.specs.Records.{AreRecords}
use Rattle.pcap_reader.proofs.Captures.{some-records}
use Rattle.timing_report.specs.Outcomes.{is_refused}
use Rattle.timing_report.specs.declared.status.Status.{Status}
use Rattle.timing_report.specs.declared.status.Status.TheVariants as status
use Rattle.timing_steps.specs.Answers.{Answer}
use Rattle.timing_steps.specs.Flows.{OnMedia}
use Rattle.timing_steps.specs.Queries.{HasAnswer, IsFrontOf, judged_ends}
use Rattle.timing_steps.specs.Ran.{Output}
use Rattle.timing_steps.specs.Streams.{HasBegun, HasRest}
use Rattle.timing_steps.specs.Taken.{TakesTexts}
use Rattle.timing_steps.specs.declared.captures.TakenCaptures.{TakenCaptures}
use Rattle.udp_rtp.specs.Flow.{flow}
use Rattle.timing_measure.specs.series.Copies.{Copies, CopiesSome, Stopped}
use Rattle.timing_measure.specs.series.Ends.{EndsSeries}
use Rattle.timing_measure.specs.series.Series.{DefinesSeries, series_of, series_query}
use Rattle.timing_measure.specs.series.Stands.{StandsFor}
use Rattle.timing_measure.specs.series.Status.{is_unjudged}
use Rattle.timing_measure.specs.declared.series.flow.SeriesFlow.{SeriesFlow}
use Rattle.timing_measure.proofs.lemmas.series.Beginning.{stopped-begins}
use Rattle.timing_measure.proofs.lemmas.series.Copying.{stopped-here}

-- what may be written where the captures aren't copied to their end: nothing, or a prefix of the answer's text
abbrev pub BeginsOr : SeriesJob → List Media → (texts : List (List ℕ)) → (front : List ℕ) → Type 0
BeginsOr job media texts front = (front ≡ []) ⊎ IsFrontOf (HasAnswer (series_query job) media texts) front

-- nothing was taken yet of the flow of the job
abbrev pub IsFresh : SeriesJob → Media → SeriesFlow → Type 0
IsFresh job m old = StandsFor job.frames m job.flow.media job.flow.options [] old []

-- the answer over the packet records of the captures
pub has-series : (job : SeriesJob) (media : List Media) (m : Media) (texts : List (List ℕ)) (files : List (List Record)) (notes : List FileNote)
    (answer : Answer)
    → slice_get media job.flow.media ≡ Some m → AreRecords texts files notes
    → DefinesSeries job.frames job.flow.options m (joined files) notes answer
    → HasAnswer (series_query job) media texts answer
has-series job media m texts files notes answer found records h = record {
  files = files;
  notes = notes;
  records = records;
  defined = subst (λ o. OnMedia o (λ x. DefinesSeries job.frames job.flow.options x (joined files) notes answer)) (sym found) h;
}

begins-or : (job : SeriesJob) (media : List Media) (m : Media) (texts : List (List ℕ)) (files : List (List Record)) (notes : List FileNote)
    (front : List ℕ)
    → slice_get media job.flow.media ≡ Some m → AreRecords texts files notes
    → (front ≡ []) ⊎ IsFrontOf (DefinesSeries job.frames job.flow.options m (joined files) notes) front → BeginsOr job media texts front
begins-or job media m texts files notes front found records (inl none) = inl none
begins-or job media m texts files notes front found records (inr f) =
    inr (record { answer = f.answer; has = has-series job media m texts files notes f.answer found records f.has; rest = f.rest; whole = f.whole })

-- it stopped among the packet records of the captures
stopped-at : (job : SeriesJob) (media : List Media) (m : Media) (o : Output) (old : SeriesFlow) (texts : List (List ℕ)) (files : List (List Record))
    (notes : List FileNote)
    → slice_get media job.flow.media ≡ Some m → IsMedia m → IsFresh job m old → AreRecords texts files notes → Stopped o old (joined files)
    → HasBegun o (BeginsOr job media texts)
stopped-at job media m o old texts files notes found is fresh records stopped =
    let s = stopped-begins job.frames m job.flow.media job.flow.options (joined files) notes o old is fresh stopped in
    (s.0, s.1, begins-or job media m texts files notes s.0 found records s.2)

-- it stopped while it read the captures
pub begun-stopped : (job : SeriesJob) (media : List Media) (m : Media) (o : Output) (old : SeriesFlow) (texts : List (List ℕ))
    → slice_get media job.flow.media ≡ Some m → IsMedia m → IsFresh job m old
    → ((files : List (List Record)) (notes : List FileNote) → AreRecords texts files notes → Stopped o old (joined files))
    → HasBegun o (BeginsOr job media texts)
begun-stopped job media m o old texts found is fresh stopped =
    let all = some-records texts in
    stopped-at job media m o old texts all.0 all.1 found is fresh all.2 (stopped all.0 all.1 all.2)

-- it stopped at the end of the captures
pub begun-whole : (job : SeriesJob) (media : List Media) (m : Media) (o : Output) (old new : SeriesFlow) (texts : List (List ℕ)) (taken : TakenCaptures)
    → slice_get media job.flow.media ≡ Some m → IsMedia m → IsFresh job m old → TakesTexts (Copies o) texts old new taken
    → HasBegun o (BeginsOr job media texts)
begun-whole job media m o old new texts taken found is fresh c =
    stopped-at job media m o old texts c.files taken.notes.items found is fresh c.records
    (stopped-here o old new (joined c.files) [] (joined c.files) (sym (append-nil (joined c.files))) c.fed)

-- the captures were read to their end, and what was written and the rest are the answer
pub rest-of-flow : (job : SeriesJob) (media : List Media) (m : Media) (o : Output) (old new : SeriesFlow) (texts : List (List ℕ)) (taken : TakenCaptures)
    (rest : Answer)
    → slice_get media job.flow.media ≡ Some m → IsFresh job m old → TakesTexts (Copies o) texts old new taken → EndsSeries taken.notes.items new rest
    → HasRest o (HasAnswer (series_query job) media texts) rest
rest-of-flow job media m o old new texts taken rest found fresh c ends =
    let written = c.fed.written in
    let r =
    ends job.frames m job.flow.media job.flow.options written (joined c.files) (c.fed.goes job.frames m job.flow.media job.flow.options [] [] fresh) in (
      written,
      c.fed.appended,
      has-series job media m texts c.files taken.notes.items (record { text = written ++ rest.text; status = rest.status }) found c.records
          (record { rows = r.rows; are = r.are; answer_is = r.whole }),
    )

-- a status of rows
row-status : (unjudged : Bool) → judged_ends false (if unjudged then status.NotAllJudged else status.Pass) ≡ true
row-status true = refl
row-status false = refl

of-rows : (frames : Bool) (m : Media) (notes : List FileNote) (v : Verdict) (rows : List ℕ) → judged_ends false (series_of frames m notes v rows).status ≡ true
of-rows frames m notes v [] = refl
of-rows frames m notes v (byte ∷ rows) = row-status (list_any is_refused notes || is_unjudged v)

-- the status of the rest, whatever the captures
pub rest-status : (job : SeriesJob) (m : Media) (o : Output) (old new : SeriesFlow) (notes : List FileNote) (rest : Answer)
    → IsFresh job m old → CopiesSome o old new → EndsSeries notes new rest → judged_ends false rest.status ≡ true
rest-status job m o old new notes rest fresh c ends =
    let r =
    ends job.frames m job.flow.media job.flow.options c.1.written c.0 (c.1.goes job.frames m job.flow.media job.flow.options [] [] fresh) in
    let v = verdict_of m (judged (flow c.0 m) m.pt job.flow.options) in
    subst (λ (s : Status). judged_ends false s ≡ true) (sym (ap (λ (a : Answer). a.status) r.whole)) (of-rows job.frames m notes v r.rows)
