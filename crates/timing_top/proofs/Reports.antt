-- Texts have one report.
use Rattle.std.proofs.Common.{◌≡◌, ℕ, List, refl, ap, ◌∙◌, sym}
use Rattle.timing_base.specs.Jobs.{CheckJob}
use Rattle.timing_base.specs.Media.{Media}
use Rattle.pcap_reader.proofs.Captures.{some-records}
use Rattle.timing_report.specs.Outcomes.{status_of}
use Rattle.timing_steps.specs.Answers.{Answer}
use Rattle.timing_steps.proofs.Onces.{DefinesOnce, DefinesSome, only-has}
use Rattle.timing_top.specs.Report.{HasReport, check_query, printed, rows}

-- there is one
pub some-check : (job : CheckJob) (texts : List (List ℕ)) → DefinesSome (check_query job) texts
some-check job texts media files notes are unsettled records = (
  record { text = printed job media notes (rows job media files); status = status_of media notes (rows job media files) },
  record { text_is = refl; status_is = refl },
)

pub some-report : (job : CheckJob) (media : List Media) (texts : List (List ℕ)) → (answer : Answer) × HasReport job media texts answer
some-report job media texts =
    let all = some-records texts in (
      record { text = printed job media all.1 (rows job media all.0); status = status_of media all.1 (rows job media all.0) },
      record { files = all.0; notes = all.1; records = all.2; defined = record { text_is = refl; status_is = refl } },
    )

same-answer : (a b : Answer) → a.text ≡ b.text → a.status ≡ b.status → a ≡ b
same-answer a b text status = ap (λ t. record { text = t; status = a.status }) text ∙ ap (λ s. record { text = b.text; status = s }) status

-- there are not two
pub once-check : (job : CheckJob) → DefinesOnce (check_query job)
once-check job media files notes a b h k = same-answer a b (h.text_is ∙ sym k.text_is) (h.status_is ∙ sym k.status_is)

pub only-report : (job : CheckJob) (media : List Media) (texts : List (List ℕ)) (a b : Answer) → HasReport job media texts a → HasReport job media texts b → a
    ≡ b
only-report job media texts a b h k = only-has (check_query job) media texts a b (once-check job) h k
