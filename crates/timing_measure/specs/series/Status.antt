-- The status of `series` for the rows of a flow.
use Rattle.std.specs.Prelude.{◌||◌, if◌then◌else◌, Bool, true, false, List}
use Rattle.std.specs.List.{list_any}
use Rattle.timing_base.specs.declared.capture.FileNote.{FileNote}
use Rattle.timing_base.specs.declared.row.Verdict.{Verdict}
use Rattle.timing_base.specs.declared.row.Verdict.TheVariants as verdict
use Rattle.timing_report.specs.Outcomes.{is_refused}
use Rattle.timing_report.specs.declared.status.Status.{Status}
use Rattle.timing_report.specs.declared.status.Status.TheVariants as status

-- the flow isn't judged
abbrev pub is_unjudged : Verdict → Bool
is_unjudged (verdict.Unjudged why) = true
is_unjudged (verdict.Judged judged) = false
is_unjudged (verdict.Runs runs) = false

-- 4 if a capture was refused as malformed, or the flow isn't judged; else 0
abbrev pub series_status : List FileNote → Verdict → Status
series_status notes found =
    if list_any is_refused notes || is_unjudged found then status.NotAllJudged else status.Pass
