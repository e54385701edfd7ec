-- The result of a judged run for each sender type (SMPTE ST 2110-21), the flows of a job, and the exit status of a
-- report. A type passes if the judged packets keep its limits.
use Rattle.std.specs.Prelude.{◌≡◌, ◌<◌, ℕ, Bool, true, false, not, ◌||◌, if◌then◌else◌, List, length, map}
use Rattle.std.specs.Prelude.{slice_index_or, Option, Some, None, All}
use Rattle.std.specs.List.{list_any, list_all}
use Rattle.timing_base.specs.Jobs.{CheckJob}
use Rattle.timing_base.specs.Choices.{keys_chosen}
use Rattle.timing_base.specs.Keys.{media_of}
use Rattle.timing_base.specs.Media.{Media}
use Rattle.timing_base.specs.Verdicts.{Judged}
use Rattle.timing_base.specs.declared.capture.FileNote.{FileNote}
use Rattle.timing_base.specs.declared.capture.FileNote.TheVariants.{End, Cut, Refused}
use Rattle.timing_base.specs.declared.capture.PcapFault.{PcapFault}
use Rattle.timing_base.specs.declared.capture.PcapFault.TheVariants.{ReadFault}
use Rattle.timing_base.specs.declared.key.FlowKey.{FlowKey}
use Rattle.timing_base.specs.declared.media.Kind.{Kind}
use Rattle.timing_base.specs.declared.media.Kind.TheVariants.{N, NL, W}
use Rattle.timing_base.specs.declared.row.KindVerdict.{KindVerdict}
use Rattle.timing_base.specs.declared.row.KindVerdict.TheVariants as kind_verdict
use Rattle.timing_base.specs.declared.row.Row.{Row}
use Rattle.timing_base.specs.declared.row.Verdict.{Verdict}
use Rattle.timing_base.specs.declared.row.Verdict.TheVariants as verdict
use Rattle.timing_report.specs.declared.status.Status.{Status}
use Rattle.timing_report.specs.declared.status.Status.TheVariants as status

-- the index of a type in the order N, NL, W, from 0
abbrev pub place_of : Kind → ℕ
place_of N = 0
place_of NL = 1
place_of W = 2

-- the verdict on one sender type
abbrev pub verdict_on : Judged → Kind → KindVerdict
verdict_on judged kind = slice_index_or judged.kinds (place_of kind) kind_verdict.Pass

-- whether a verdict is a pass
abbrev pub is_pass : KindVerdict → Bool
is_pass kind_verdict.Pass = true
is_pass (kind_verdict.Fail proof) = false

-- whether a judged run passes as this type
abbrev pub passes : Judged → Kind → Bool
passes judged kind = is_pass (verdict_on judged kind)

-- the first type in the order N, NL, W that passes
abbrev pub first_passing : Judged → Option Kind
first_passing judged =
    if passes judged N then Some N else (if passes judged NL then Some NL
    else (if passes judged W then Some W else None))

-- the greatest fill of the virtual receiver buffer in packets: with the gapped reads for N, with the linear reads for
-- NL and W
abbrev pub buffer_peak : Judged → Kind → ℕ
buffer_peak judged N = judged.gapped_peak
buffer_peak judged NL = judged.linear_peak
buffer_peak judged W = judged.linear_peak

-- every result is of a media of the session
abbrev pub AreOfSession : List Media → List Row → Type 0
AreOfSession session rows = All (λ row. row.key.media < length session) rows

-- the flows of a job: every media of every capture, or the chosen one; for joined captures every media once, with
-- file 0
abbrev pub flows_of : CheckJob → List Media → List FlowKey
flows_of job session = keys_chosen job.media job.joined (length job.captures) session

-- one result for each flow of the job, in the order of the files, and within a file of the media
abbrev pub AreRowsOf : CheckJob → List Media → List Row → Type 0
AreRowsOf job session rows = map (λ row. row.key) rows ≡ flows_of job session

-- whether a capture was refused since it is malformed, and not since a read failed
abbrev pub is_refused_fault : PcapFault → Bool
is_refused_fault ReadFault = false
is_refused_fault _ = true

-- whether a capture that ended in this way was refused as malformed
abbrev pub is_refused : FileNote → Bool
is_refused End = false
is_refused (Cut at) = false
is_refused (Refused fault) = is_refused_fault fault

-- whether the flow was judged as one run
abbrev pub is_judged : Verdict → Bool
is_judged (verdict.Unjudged unjudged) = false
is_judged (verdict.Judged judged) = true
is_judged (verdict.Runs runs) = false

-- whether the declared type passes, or if none is declared, any of the three
abbrev pub declared_passes : Option Kind → Judged → Bool
declared_passes (Some kind) judged = passes judged kind
declared_passes None judged = passes judged N || (passes judged NL || passes judged W)

-- whether a flow that was judged as one run fails its declared type
abbrev pub verdict_fails : Media → Verdict → Bool
verdict_fails media (verdict.Unjudged unjudged) = false
verdict_fails media (verdict.Judged judged) = not (declared_passes media.declared judged)
verdict_fails media (verdict.Runs runs) = false

-- whether the result of a flow is a fail
abbrev pub fails : List Media → Row → Bool
fails session row = verdict_fails (media_of session row.key) row.verdict

-- the status of a report: 4 if a flow was not judged as one run or a capture was refused, else 1 if a flow fails, else
-- 0
abbrev pub status_of : List Media → List FileNote → List Row → Status
status_of session notes rows =
    if list_any is_refused notes || not (list_all (λ row. is_judged row.verdict) rows) then status.NotAllJudged
    else (if list_any (fails session) rows then status.Fail else status.Pass)
