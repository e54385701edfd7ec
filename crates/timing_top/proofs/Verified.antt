-- The report of a job, as `check` defines it, verifies.
use Rattle.std.proofs.Common.{◌≡◌, ◌≤◌, ℕ, true, List, length, ap, ◌∙◌, sym, subst}
use Rattle.std.specs.Prelude.{All, map, if◌then◌else◌}
use Rattle.timing_base.specs.Jobs.{CheckJob}
use Rattle.timing_base.specs.Media.{Media}
use Rattle.timing_report.specs.Text.{report_text}
use Rattle.timing_report.specs.declared.status.Status.TheVariants as status
use Rattle.timing_report.specs.json_report.Fails.{fails_of}
use Rattle.timing_report.specs.json_report.Json.{json_text}
use Rattle.timing_report.specs.json_report.Reading.{IsReport}
use Rattle.timing_report.specs.declared.json_report.reading.ReportProof.{ReportProof}
use Rattle.timing_steps.specs.Answers.{Answer}
use Rattle.timing_top.specs.verify.Asked.{HasReported, asked}
use Rattle.timing_top.specs.Report.{HasReport, rows}
use Rattle.timing_top.specs.ReadBack.{IsReadable, reading_back}
use Rattle.timing_top.proofs.Finding.{IsConfirmed}
use Rattle.timing_top.proofs.ReadBack.{report-confirmed, report-status, report-told}

-- a job that asks for JSON prints it
prints-json : (job : CheckJob) (media : List Media) (texts : List (List ℕ)) (answer : Answer) → job.json ≡ true → (h : HasReport job media texts answer)
    → answer.text ≡ json_text job media h.notes (rows job media h.files)
prints-json job media texts answer json h =
    h.defined.text_is ∙ ap (λ b. if b then json_text job media h.notes (rows job media h.files) else report_text job media h.notes
    (rows job media h.files)) json

pub answer-told : (job : CheckJob) (media : List Media) (text : List ℕ → List ℕ) (answer : Answer) → IsReadable job media text → job.json ≡ true
    → length answer.text ≤ 16777216
    → (h : HasReport job media (map text job.captures) answer) → IsReport answer.text (fails_of (rows job media h.files))
answer-told job media text answer is json few h =
    let e = prints-json job media (map text job.captures) answer json h in
    subst (λ t. IsReport t (fails_of (rows job media h.files))) (sym e)
    (report-told job media text h.files h.notes is h.records (subst (λ t. length t ≤ 16777216) e few))

pub answer-confirmed : (job : CheckJob) (media : List Media) (text : List ℕ → List ℕ) (name : List ℕ) (answer : Answer) → IsReadable job media text
    → (h : HasReport job media (map text job.captures) answer) → All (IsConfirmed (reading_back job name) media text) (fails_of (rows job media h.files))
answer-confirmed job media text name answer is h = report-confirmed job media text name h.files h.notes is h.records

pub answer-status : (job : CheckJob) (media : List Media) (text : List ℕ → List ℕ) (name : List ℕ) (answer : Answer) (claims : List ReportProof)
    (verified : Answer) → IsReadable job media text
    → job.json ≡ true → HasReport job media (map text job.captures) answer → IsReport answer.text claims → HasReported (reading_back job name) media
    (asked job.media claims) text verified
    → verified.status ≡ status.Pass
answer-status job media text name answer claims verified is json h told reported =
    let e = prints-json job media (map text job.captures) answer json h in
    report-status job media text name h.files h.notes claims verified is h.records (subst (λ t. IsReport t claims) e told) reported
