-- The end of a run that prints while it reads. If it has no answer, or can't print the whole answer, a prefix of it may
-- be on standard output.
use Rattle.std.specs.Prelude.{◌≡◌, ◌≤◌, ◌⊎◌, ℕ, ⊤, Bool, true, false, List, ◌++◌, Result, Ok, Err}
use Rattle.timing_outside.specs.Causes.{Rose}
use Rattle.timing_report.specs.declared.status.Input.{Input}
use Rattle.timing_report.specs.declared.status.Input.TheVariants as input
use Rattle.timing_report.specs.declared.status.Status.{Status}
use Rattle.timing_report.specs.declared.status.Status.TheVariants as status
use Rattle.timing_steps.specs.Answers.{Answer}
use Rattle.timing_steps.specs.Ran.{Appended, Broke, IsAnswered, Output, TellsLine, status_of}
use Rattle.timing_steps.specs.declared.failure.Failure.{Failure}
use Rattle.timing_steps.specs.declared.failure.Failure.TheVariants as failure

-- an answer was printed, or a write of it failed; without an answer, or without the whole of it, a prefix was printed
-- for which `Begins` holds
abbrev pub StreamLeaves : Output → (Begins : List ℕ → Type 0) → Result Answer Failure → Status → Type 0
StreamLeaves o Begins (Ok answer) ends =
    ((ends ≡ answer.status) × Appended o answer.text) ⊎ ((ends ≡ status.WriteFault) × Broke o answer.text)
StreamLeaves o Begins (Err failure) ends = (ends ≡ status_of failure) × (front : List ℕ) × Appended o front
    × Begins front

-- the reason why there is no answer, or not the whole: memory ran out, an input couldn't be read for which `InputRose`
-- holds, or a write failed
abbrev pub OnFailure : Output → Failure → (Input → Type 0) → Type 0
OnFailure o (failure.ReadFault input) InputRose = InputRose input
OnFailure o failure.WriteFault InputRose = Rose o.before o.now
OnFailure o failure.OutOfMemory InputRose = ⊤

-- an answer has a status that is not that of a failure; a failure has its cause
abbrev pub HasStreamCause : Output → Result Answer Failure → (Input → Type 0) → Type 0
HasStreamCause o (Ok answer) InputRose = IsAnswered answer.status
HasStreamCause o (Err failure) InputRose = OnFailure o failure InputRose

-- a run: its outcome, the cause of that, its output and its status. `Follows` is which answers the request and the
-- contents of its inputs define, `Begins` which prefixes of one may be printed, and `InputRose` for which inputs the
-- count of faults rose.
pub record Streams (Follows : Result Answer Failure → Type 0) (Begins : List ℕ → Type 0) (InputRose : Input → Type 0)
    (o e : Output) (ends : Status) : Type 0 where
  pub outcome : Result Answer Failure
  pub follows : (outcome ≡ Err failure.WriteFault) ⊎ Follows outcome
  pub cause : HasStreamCause o outcome InputRose
  pub printed : StreamLeaves o Begins outcome ends
  pub told : TellsLine e ends
  pub later_out : o.before ≤ o.now
  pub later_err : e.before ≤ e.now

-- with this status nothing is printed: the SDP couldn't be read, or it is invalid
abbrev pub is_silent_stream : Status → Bool
is_silent_stream (status.SdpRefused fault) = true
is_silent_stream (status.ReadFault input.Sdp) = true
is_silent_stream ends = false

-- what was printed before, and then this text, is an answer for which `Answers` holds
abbrev pub HasRest : Output → (Answers : Answer → Type 0) → (rest : Answer) → Type 0
HasRest o Answers rest = (written : List ℕ) × Appended o written
    × Answers (record { text = written ++ rest.text; status = rest.status })

-- what was printed is a prefix for which `Begins` holds
abbrev pub HasBegun : Output → (Begins : List ℕ → Type 0) → Type 0
HasBegun o Begins = (front : List ℕ) × Appended o front × Begins front

-- the state of a run: what was printed and then this rest is an answer; or there is none, or not the whole, and a
-- prefix of one was printed
abbrev pub Rests : Output → (Follows : Result Answer Failure → Type 0) → (Begins : List ℕ → Type 0)
    → Result Answer Failure → Type 0
Rests o Follows Begins (Ok rest) = HasRest o (λ answer. Follows (Ok answer)) rest
Rests o Follows Begins (Err e) = ((e ≡ failure.WriteFault) ⊎ Follows (Err e)) × HasBegun o Begins
