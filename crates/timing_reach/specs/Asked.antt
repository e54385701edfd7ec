-- The answer of a command on one flow by the verdict on the flow, and the reading of one capture. This project's
-- profile.
use Rattle.std.specs.Prelude.{◌≡◌, ◌⊎◌, List, Some, Result, Err, ℕ}
use Rattle.timing_base.specs.Judged.{FlowVerdict, JudgedRun, in_one_run, whole_frames}
use Rattle.timing_base.specs.Media.{Media}
use Rattle.fail_interval.specs.Row.{verdict_of}
use Rattle.pcapng_reader.specs.Classic.{classic}
use Rattle.timing_report.specs.declared.status.Input.TheVariants as input
use Rattle.timing_steps.specs.Answers.{Answer, HasRisen, Inputs}
use Rattle.timing_steps.specs.Flows.{not_judged}
use Rattle.timing_steps.specs.declared.failure.Failure.{Failure}
use Rattle.timing_steps.specs.declared.failure.Failure.TheVariants as failure

-- the answer for a flow that is judged in one run is `next` of that run; for any other flow it is the verdict
abbrev pub OnRun : Media → (JudgedRun → Answer → Type 0) → FlowVerdict → Answer → Type 0
OnRun m next (in_one_run (whole_frames run)) answer = next run answer
OnRun m next verdict answer = answer ≡ not_judged m (verdict_of m verdict)

-- the capture is read, as a classic capture; this fails if the shelf lacks it
abbrev pub ReadsCapture : Inputs → Result Answer Failure → List ℕ → (List ℕ → Type 0) → Type 0
ReadsCapture i outcome name next =
    ((outcome ≡ Err (failure.ReadFault (input.Capture 0))) × HasRisen i name)
    ⊎ (¬ i.lacks name × ((text : List ℕ) → i.texts name ≡ Some text → next (classic text)))
