-- The output and the statuses of `verify` and `verify-report`, by their findings. Captures, media and runs count from 0
-- in a claim, and from 1 in the text. This project's profile.
use Rattle.std.specs.Prelude.{ℕ, ◌+◌, ◌==◌, if◌then◌else◌, Bool, true, false, List, [], ◌++◌, Result, Ok, Err, codes}
use Rattle.std.specs.Fmt.{decimal}
use Rattle.std.specs.List.{flat_map, list_all, list_any}
use Rattle.timing_base.specs.declared.row.Unjudged.{Unjudged}
use Rattle.timing_report.specs.Status.{code_of}
use Rattle.timing_report.specs.Verdict.{unjudged_text}
use Rattle.timing_report.specs.Words.{kind_name}
use Rattle.timing_report.specs.declared.status.Status.{Status}
use Rattle.timing_report.specs.declared.status.Status.TheVariants as status
use Rattle.timing_steps.specs.Answers.{Answer}
use Rattle.timing_top.specs.declared.verify.checked.Checked.{Checked}

-- `confirmed`, `not confirmed` or `not judged: VERDICT`, with the newline
abbrev pub finding_line : Result Bool Unjudged → List ℕ
finding_line (Ok true) = codes "confirmed\n"
finding_line (Ok false) = codes "not confirmed\n"
finding_line (Err why) = codes "not judged: " ++ (unjudged_text why ++ codes "\n")

-- the status for one violation
abbrev pub finding_status : Result Bool Unjudged → Status
finding_status (Ok true) = status.Pass
finding_status (Ok false) = status.Fail
finding_status (Err why) = status.NotAllJudged

-- the answer of `verify`
abbrev pub verified : Result Bool Unjudged → Answer
verified finding = record { text = finding_line finding; status = finding_status finding }

-- the finding, as the line of a violation of a report has it
abbrev pub finding_word : Result Bool Unjudged → List ℕ
finding_word (Ok true) = codes "confirmed"
finding_word (Ok false) = codes "not confirmed"
finding_word (Err why) = codes "not judged"

-- ` run R` for a run after the first
abbrev pub run_word : ℕ → List ℕ
run_word run = if run == 0 then [] else codes " run " ++ decimal (run + 1)

-- `F.M K FINDING`, or `F.M run R K FINDING` for a run after the first, with the newline
abbrev pub checked_line : Checked → List ℕ
checked_line checked =
    decimal (checked.claim.key.file + 1) ++ (codes "." ++ (decimal (checked.claim.key.media + 1)
    ++ (run_word checked.claim.run ++ (codes " " ++ (kind_name checked.claim.kind
    ++ (codes " " ++ (finding_word checked.finding ++ codes "\n")))))))

-- whether a flow, or its run, wasn't judged
abbrev pub is_unjudged : Result Bool Unjudged → Bool
is_unjudged (Ok confirmed) = false
is_unjudged (Err why) = true

-- whether a violation is confirmed
abbrev pub is_confirmed : Result Bool Unjudged → Bool
is_confirmed (Ok confirmed) = confirmed
is_confirmed (Err why) = false

-- the status for the violations of a report: 4 if a flow or run wasn't judged, else 0 if all are confirmed, else 1
abbrev pub status_of : List Checked → Status
status_of checked =
    if list_any (λ c. is_unjudged c.finding) checked then status.NotAllJudged
    else (if list_all (λ c. is_confirmed c.finding) checked then status.Pass else status.Fail)

-- the lines of the violations of a report, and `status S`
abbrev pub checked_text : List Checked → List ℕ
checked_text checked =
    flat_map checked_line checked ++ (codes "status " ++ (decimal (code_of (status_of checked)) ++ codes "\n"))

-- the answer of `verify-report`
abbrev pub reported : List Checked → Answer
reported checked = record { text = checked_text checked; status = status_of checked }

-- the statuses of the answers of `verify-report`: 0, 1, 3, 4 or 9
abbrev pub report_ends : Status → Bool
report_ends status.Pass = true
report_ends status.Fail = true
report_ends (status.SdpRefused fault) = true
report_ends status.NotAllJudged = true
report_ends status.ReportRefused = true
report_ends ends = false
