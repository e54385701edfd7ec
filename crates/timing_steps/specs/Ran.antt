-- The end of a run: the output on its sinks, and its status.
use Rattle.std.specs.Prelude.{◌≡◌, ◌≤◌, ◌⊎◌, ℕ, ⊤, List, Option, Result, Ok, Err}
use Rattle.std.specs.Io.KnownBytes.{Appends, Keeps}
use Rattle.timing_outside.specs.Causes.{Rose}
use Rattle.timing_outside.specs.declared.sink.Sink as sink
use Rattle.timing_outside.specs.Written.{AppendsFront}
use Rattle.timing_report.specs.Status.{error_line}
use Rattle.timing_report.specs.declared.status.Input.{Input}
use Rattle.timing_report.specs.declared.status.Status.{Status}
use Rattle.timing_report.specs.declared.status.Status.TheVariants as status
use Rattle.timing_steps.specs.Answers.{Answer, OnReadFault}
use Rattle.timing_steps.specs.declared.failure.Failure.{Failure}
use Rattle.timing_steps.specs.declared.failure.Failure.TheVariants as failure

-- a sink before and after: the bytes written on it, if they are known, and the count of its faults
pub record Output : Type 0 where
  pub old : Option (List ℕ)
  pub new : Option (List ℕ)
  pub before : ℕ
  pub now : ℕ

-- a sink before and after a run
abbrev pub output_of : {K : Type 0} → sink.Ghosts K → (old new : K) → Output
output_of tells old new =
    record { old = tells.written old; new = tells.written new; before = tells.faults old; now = tells.faults new }

-- the status of a run without an answer
abbrev pub status_of : Failure → Status
status_of (failure.ReadFault input) = status.ReadFault input
status_of failure.WriteFault = status.WriteFault
status_of failure.OutOfMemory = status.OutOfMemory

-- the whole text was appended
abbrev pub Appended : Output → List ℕ → Type 0
Appended o text = Appends o.old o.new text

-- a write failed, and a prefix of the text was appended that is not the whole
abbrev pub Broke : Output → List ℕ → Type 0
Broke o text = Rose o.before o.now × AppendsFront o.old o.new text

-- the answer was printed, or a write of it failed; without an answer nothing was printed
abbrev pub Leaves : Output → Result Answer Failure → Status → Type 0
Leaves o (Ok answer) ends =
    ((ends ≡ answer.status) × Appended o answer.text) ⊎ ((ends ≡ status.WriteFault) × Broke o answer.text)
Leaves o (Err failure) ends = (ends ≡ status_of failure) × Keeps o.old o.new

-- standard error has the line of the status, or a prefix of it if a write failed
abbrev pub TellsLine : Output → Status → Type 0
TellsLine e ends = Appended e (error_line ends) ⊎ Broke e (error_line ends)

-- the status is that of an answer, and not of a failure
abbrev pub IsAnswered : Status → Type 0
IsAnswered (status.ReadFault input) = ⊥
IsAnswered status.WriteFault = ⊥
IsAnswered status.OutOfMemory = ⊥
IsAnswered ends = ⊤

-- if the outcome is a read fault, `InputRose` holds of that input; if it is an answer, its status is not that of a
-- failure
abbrev pub HasCause : Result Answer Failure → (Input → Type 0) → Type 0
HasCause (Ok answer) InputRose = IsAnswered answer.status
HasCause (Err failure) InputRose = OnReadFault failure InputRose

-- a run: its outcome, the cause of that, its output and its status. `Follows` is which answers the request and the
-- contents of its inputs define, in the order in which the inputs are read. `InputRose` is for which inputs the count
-- of faults rose.
pub record Ran (Follows : Result Answer Failure → Type 0) (InputRose : Input → Type 0) (o e : Output) (ends : Status) :
    Type 0 where
  pub outcome : Result Answer Failure
  pub follows : Follows outcome
  pub cause : HasCause outcome InputRose
  pub printed : Leaves o outcome ends
  pub told : TellsLine e ends
  pub later_out : o.before ≤ o.now
  pub later_err : e.before ≤ e.now
