-- The status with which a run ends, and when nothing is printed, whatever the inputs contain.
use Rattle.std.specs.Prelude.{◌≡◌, ℕ, Bool, true, false, ◌||◌, ⊤, List, []}
use Rattle.timing_report.specs.declared.status.Status.{Status}
use Rattle.timing_report.specs.declared.status.Status.TheVariants as status
use Rattle.timing_steps.specs.Answers.{Answer}
use Rattle.timing_steps.specs.Ran.{Appended, Output}

-- with this status nothing is printed on standard output
abbrev pub is_silent : Status → Bool
is_silent status.Usage = true
is_silent (status.SdpRefused fault) = true
is_silent (status.ReadFault input) = true
is_silent status.OutOfMemory = true
is_silent status.ReportRefused = true
is_silent ends = false

-- the status of a run without an answer, or with only a prefix of it on its output
abbrev pub is_failure : Status → Bool
is_failure (status.ReadFault input) = true
is_failure status.WriteFault = true
is_failure status.OutOfMemory = true
is_failure ends = false

-- with a silent status there is no text
abbrev pub IsTextBeside : (silent : Bool) → List ℕ → Type 0
IsTextBeside true text = text ≡ []
IsTextBeside false text = ⊤

-- the answer has one of these statuses, and no text if that status is silent
abbrev pub HasStatus : (may_end : Status → Bool) → Answer → Type 0
HasStatus may_end answer = (may_end answer.status ≡ true) × IsTextBeside (is_silent answer.status) answer.text

-- the run ends with one of these statuses or with a failure, and if its status is silent, nothing was printed
pub record EndsWith (may_end : Status → Bool) (o : Output) (ends : Status) : Type 0 where
  pub status_is : may_end ends || is_failure ends ≡ true
  pub silent : is_silent ends ≡ true → Appended o []
