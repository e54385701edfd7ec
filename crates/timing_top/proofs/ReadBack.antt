-- A JSON report is read back as its fails, and verifies.
use Rattle.std.proofs.Common.{◌≡◌, ◌≤◌, ℕ, List, length, Option, Some, None, ◌==◌, arith, ap, ◌∙◌, subst}
use Rattle.std.proofs.lemmas.List.{length-map}
use Rattle.std.proofs.lemmas.List.Elements.{All-filter}
use Rattle.std.specs.Prelude.{All, map}
use Rattle.timing_base.specs.Captures.{Record}
use Rattle.timing_base.specs.Jobs.{CheckJob}
use Rattle.timing_base.specs.Choices.{keys_chosen}
use Rattle.timing_base.specs.Media.{Media}
use Rattle.timing_base.specs.declared.capture.FileNote.{FileNote}
use Rattle.pcap_reader.specs.Records.{AreRecords}
use Rattle.timing_report.specs.Outcomes.{AreRowsOf}
use Rattle.timing_report.specs.declared.status.Status.TheVariants as status
use Rattle.timing_report.specs.json_report.Fails.{fails_of}
use Rattle.timing_report.specs.json_report.Json.{json_text}
use Rattle.timing_report.specs.json_report.Reading.{IsReport}
use Rattle.timing_report.specs.declared.json_report.reading.ReportProof.{ReportProof}
use Rattle.timing_report.proofs.lemmas.json_report.Back.{read-back}
use Rattle.timing_steps.specs.Answers.{Answer}
use Rattle.timing_top.specs.Report.{rows}
use Rattle.timing_top.specs.verify.Asked.{HasReported, asked}
use Rattle.timing_top.proofs.lemmas.verify.Unique.{confirmed-status}
use Rattle.timing_top.specs.ReadBack.{IsReadable, reading_back}
use Rattle.timing_top.proofs.Finding.{IsConfirmed, confirmed-rows}
use Rattle.timing_top.proofs.Rows.{job-fits, job-keys, records-length}

-- what is read back of the report of a job is its fails
pub report-told : (job : CheckJob) (media : List Media) (text : List ℕ → List ℕ) (files : List (List Record)) (notes : List FileNote)
    → IsReadable job media text
    → AreRecords (map text job.captures) files notes
    → length (json_text job media notes (rows job media files)) ≤ 16777216
    → IsReport (json_text job media notes (rows job media files)) (fails_of (rows job media files))
report-told job media text files notes is h few =
    let texts = map text job.captures in
    let count : length texts ≡ length job.captures = length-map job.captures text in
    let size : length files ≡ length job.captures = records-length texts files notes h ∙ count in
    let are : AreRowsOf job media (rows job media files) =
    job-keys job media files ∙ ap (λ n. keys_chosen job.media job.joined n media) size in
    let most : length texts ≤ 16 = omega (arith, count, is.job_is.captures_are.few) in
    read-back job media notes (rows job media files) is.job_is is.session is.media_are are
    (job-fits job media texts files notes is.job_is.options_are most is.media_are is.bytes h) is.names few

-- and the captures confirm each
pub report-confirmed : (job : CheckJob) (media : List Media) (text : List ℕ → List ℕ) (name : List ℕ) (files : List (List Record)) (notes : List FileNote)
    → IsReadable job media text
    → AreRecords (map text job.captures) files notes → All (IsConfirmed (reading_back job name) media text)
    (fails_of (rows job media files))
report-confirmed job media text name files notes is records =
    confirmed-rows job.sdp name job.options job.captures job.media job.joined media text files notes is.job_is.options_are is.job_is.captures_are.few
    is.media_are is.bytes records

same-some : (a b : List ReportProof) (o : Option (List ReportProof)) → o ≡ Some a → o ≡ Some b → a ≡ b
same-some a b o e f = cc

-- a text tells one list of fails
only-told : (bytes : List ℕ) (a b : List ReportProof) → IsReport bytes a → IsReport bytes b → a ≡ b
only-told bytes a b h k = same-some a b _ h.tells k.tells

-- what is so of all fails is so of those that are checked
asked-all : (P : ReportProof → Type 0) (only : Option ℕ) (claims : List ReportProof) → All P claims → All P (asked only claims)
asked-all P None claims h = h
asked-all P (Some number) claims h = All-filter (λ (claim : ReportProof). claim.key.media == number) P claims h

-- so the status is 0
pub report-status : (job : CheckJob) (media : List Media) (text : List ℕ → List ℕ) (name : List ℕ) (files : List (List Record)) (notes : List FileNote)
    (claims : List ReportProof) (verified : Answer)
    → IsReadable job media text → AreRecords (map text job.captures) files notes
    → IsReport (json_text job media notes (rows job media files)) claims
    → HasReported (reading_back job name) media (asked job.media claims) text verified → verified.status ≡ status.Pass
report-status job media text name files notes claims verified is h told reported =
    let own = report-told job media text files notes is h told.few in
    let same : fails_of (rows job media files) ≡ claims = only-told _ _ claims own told in
    confirmed-status (reading_back job name) media (asked job.media claims) text verified
    (asked-all (IsConfirmed (reading_back job name) media text) job.media claims
    (subst (All (IsConfirmed (reading_back job name) media text)) same (report-confirmed job media text name files notes is h))) reported
