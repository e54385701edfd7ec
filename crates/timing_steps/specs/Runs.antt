-- The run of a command: its output, its status and its cause. `streams` is true of a command that prints while it
-- reads; any other prints its answer once it is whole.
use Rattle.std.specs.Prelude.{◌≡◌, ◌||◌, ℕ, Bool, true, false, List, [], Result, Err, IfErr, IfOk}
use Rattle.std.specs.Io.KnownBytes.{Keeps}
use Rattle.timing_report.specs.declared.status.Input.{Input}
use Rattle.timing_report.specs.declared.status.Input.TheVariants as input
use Rattle.timing_report.specs.declared.status.Status.{Status}
use Rattle.timing_steps.specs.Answers.{Answer, Inputs, OnReadFault}
use Rattle.timing_steps.specs.Queries.{QueryInputRose, Query, BeginsQuery, FollowsQuery, ends_of}
use Rattle.timing_steps.specs.Ends.{is_failure, is_silent}
use Rattle.timing_steps.specs.Ran.{Appended, Output, Ran}
use Rattle.timing_steps.specs.Streams.{OnFailure, Rests, Streams, is_silent_stream}
use Rattle.timing_steps.specs.declared.failure.Failure.{Failure}
use Rattle.timing_steps.specs.declared.failure.Failure.TheVariants as failure

-- a run of a command on the inputs that it saw on its shelf
abbrev pub RanAs : (streams : Bool) → Query → Inputs → (o e : Output) → Status → Type 0
RanAs true query i o e ends = Streams (FollowsQuery query i) (BeginsQuery query i) (QueryInputRose query i) o e ends
RanAs false query i o e ends = Ran (FollowsQuery query i) (QueryInputRose query i) o e ends

-- with this status nothing is printed on standard output
abbrev pub is_silent_for : (streams : Bool) → Status → Bool
is_silent_for true ends = is_silent_stream ends
is_silent_for false ends = is_silent ends

-- the run ends with a status of its answers or with a failure, and if its status is silent, nothing was printed; this
-- holds whatever the inputs contain
pub record EndsAs (streams : Bool) (query : Query) (o : Output) (ends : Status) : Type 0 where
  pub status_is : ends_of query ends || is_failure ends ≡ true
  pub silent : is_silent_for streams ends ≡ true → Appended o []

-- the state of a run before its end. Of a command that prints while it reads: what was printed and then this rest is an
-- answer; or there is none, or not the whole, and a prefix of one was printed. Of any other: nothing was printed.
abbrev pub LeavesRest : (streams : Bool) → Output → (Follows : Result Answer Failure → Type 0)
    → (Begins : List ℕ → Type 0) → Result Answer Failure → Type 0
LeavesRest true o Follows Begins rest = Rests o Follows Begins rest
LeavesRest false o Follows Begins rest = Keeps o.old o.new × Follows rest

-- the reason why there is no answer: only a command that prints while it reads fails by a write before its end
abbrev pub FailsBy : (streams : Bool) → Output → Failure → (Input → Type 0) → Type 0
FailsBy true o e InputRose = OnFailure o e InputRose
FailsBy false o e InputRose = OnReadFault e InputRose

-- with this rest of an answer nothing was printed before, and nothing will be
pub record IsQuiet (o : Output) (rest : Answer) : Type 0 where
  pub before : Appended o []
  pub after : rest.text ≡ []

-- the state of a run before its end, with the statuses and the causes
pub record BeforeEnd (streams : Bool) (query : Query) (i : Inputs) (o : Output) (rest : Result Answer Failure) :
    Type 0 where
  pub rests : LeavesRest streams o (FollowsQuery query i) (BeginsQuery query i) rest
  pub ends : IfOk rest (λ r. ends_of query r.status ≡ true)
  pub quiet : IfOk rest (λ r. is_silent_for streams r.status ≡ true → IsQuiet o r)
  pub cause : IfErr rest (λ e. FailsBy streams o e (QueryInputRose query i))
  pub unread : rest ≡ Err (failure.ReadFault input.Sdp) → Appended o []
