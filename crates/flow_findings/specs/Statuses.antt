-- The exit status of `explain`: by all judged runs of each flow, and not only by the one that is shown.
use Rattle.std.specs.Prelude.{◌<◌, All, Bool, true, false, not, ◌||◌, if◌then◌else◌, List, length, Option}
use Rattle.std.specs.List.{list_all, list_any}
use Rattle.timing_base.specs.Keys.{key_of, media_of}
use Rattle.timing_base.specs.Media.{Media}
use Rattle.timing_base.specs.declared.capture.FileNote.{FileNote}
use Rattle.timing_base.specs.declared.media.Kind.{Kind}
use Rattle.timing_base.specs.declared.row.RunVerdict.{RunVerdict}
use Rattle.timing_base.specs.declared.row.RunVerdict.TheVariants as run_verdict
use Rattle.timing_base.specs.declared.row.Verdict.{Verdict}
use Rattle.timing_base.specs.declared.row.Verdict.TheVariants as verdict
use Rattle.timing_report.specs.Outcomes.{declared_passes, is_refused}
use Rattle.timing_report.specs.declared.status.Status.{Status}
use Rattle.timing_report.specs.declared.status.Status.TheVariants as status
use Rattle.flow_findings.specs.Findings.{have_no_frame}
use Rattle.flow_findings.specs.declared.inputs.KnownFlow.{KnownFlow}

-- a run of the flow is judged
abbrev pub has_judged : Verdict → Bool
has_judged (verdict.Unjudged unjudged) = false
has_judged (verdict.Judged judged) = true
has_judged (verdict.Runs runs) = not (have_no_frame runs)

-- a run is judged, and fails the declared type (if none is declared: all types)
abbrev pub run_fails : Option Kind → RunVerdict → Bool
run_fails declared (run_verdict.NoWholeFrame head) = false
run_fails declared (run_verdict.Judged judged) = not (declared_passes declared judged)

-- a judged run of the flow fails the declared type
abbrev pub a_run_fails : Option Kind → Verdict → Bool
a_run_fails declared (verdict.Unjudged unjudged) = false
a_run_fails declared (verdict.Judged judged) = not (declared_passes declared judged)
a_run_fails declared (verdict.Runs runs) = list_any (λ run. run_fails declared run.verdict) runs

-- the same of a flow of the session
abbrev pub flow_fails : List Media → KnownFlow → Bool
flow_fails session flow = a_run_fails (media_of session (key_of 0 flow.media)).declared flow.verdict

-- each flow is of a media of the session
abbrev pub AreKnownOf : List Media → List KnownFlow → Type 0
AreKnownOf session flows = All (λ flow. flow.media < length session) flows

-- the status: 4 if a flow has no judged run or a capture is refused as malformed, else 1 if a judged run fails, else 0
abbrev pub explained_status : List Media → List FileNote → List KnownFlow → Status
explained_status session notes flows =
    if list_any is_refused notes || not (list_all (λ flow. has_judged flow.verdict) flows) then status.NotAllJudged
    else (if list_any (flow_fails session) flows then status.Fail else status.Pass)
