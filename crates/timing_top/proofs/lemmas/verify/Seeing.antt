-- What a later part of a run saw of the inputs of `verify-report`, as what the whole run saw.
use Rattle.std.proofs.Common.{◌≡◌, ℕ, List, Some, ◌∙◌, inl, inr}
use Rattle.std.proofs.lemmas.List.Elements.{All-weaker}
use Rattle.std.specs.Prelude.{Result}
use Rattle.timing_base.specs.Jobs.{ReportJob}
use Rattle.timing_base.specs.Media.{Media}
use Rattle.timing_report.specs.declared.json_report.reading.ReportProof.{ReportProof}
use Rattle.timing_steps.specs.Answers.{Answer, AreThere, Inputs}
use Rattle.timing_steps.specs.declared.failure.Failure.{Failure}
use Rattle.timing_steps.proofs.Seeing.{Sees, capture-seen, risen-seen, there-seen}
use Rattle.timing_top.specs.verify.Asked.{AreTexts, NeededRose, OnReport, ReadsNeeded, ReadsReport, needed}

needed-rose-seen : (i j : Inputs) (job : ReportJob) (media : List Media) (claims : List ReportProof) (number : ℕ) → Sees i j
    → NeededRose j job media claims number → NeededRose i job media claims number
needed-rose-seen i j job media claims number s h =
    record { claim = h.claim; reported = h.reported; needs = h.needs; rose = capture-seen i j job.captures number s h.rose }

pub needed-seen : (i j : Inputs) (outcome : Result Answer Failure) (job : ReportJob) (media : List Media) (claims : List ReportProof)
    (next : (List ℕ → List ℕ) → Type 0) → Sees i j
    → ReadsNeeded j outcome job media claims next → ReadsNeeded i outcome job media claims next
needed-seen i j outcome job media claims next s (inl h) = inl (h.0, h.1, needed-rose-seen i j job media claims h.0 s h.2)
needed-seen i j outcome job media claims next s (inr h) = inr (
  All-weaker (λ claim. AreThere j.lacks (needed job media claim)) (λ claim. AreThere i.lacks (needed job media claim))
      (λ claim there. there-seen i j (needed job media claim) s there) claims h.0,
  λ text told.
      h.1 text (All-weaker (λ claim. AreTexts i.texts text (needed job media claim)) (λ claim. AreTexts j.texts text (needed job media claim))
      (λ claim each. All-weaker (λ name. i.texts name ≡ Some (text name)) (λ name. j.texts name ≡ Some (text name)) (λ name e. s.texts name ∙ e)
      (needed job media claim) each) claims told),
)

on-report : (text : List ℕ) (outcome : Result Answer Failure) (next also : List ReportProof → Type 0)
    → ((claims : List ReportProof) → next claims → also claims) → OnReport text outcome next → OnReport text outcome also
on-report text outcome next also h (inl none) = inl none
on-report text outcome next also h (inr some) = inr (some.0, some.1, h some.0 some.2)

pub report-seen : (i j : Inputs) (outcome : Result Answer Failure) (name : List ℕ) (next also : List ReportProof → Type 0) → Sees i j
    → ((claims : List ReportProof) → next claims → also claims)
    → ReadsReport j outcome name next → ReadsReport i outcome name also
report-seen i j outcome name next also s h (inl failed) = inl (failed.0, risen-seen i j name s failed.1)
report-seen i j outcome name next also s h (inr read) = inr (
  (λ lacks. read.0 (s.lacks name lacks)),
  λ text told. on-report text outcome next also h (read.1 text (s.texts name ∙ told)),
)
