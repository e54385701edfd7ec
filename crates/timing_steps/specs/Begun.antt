-- The first steps of the run of a command: its SDP is read, and its media may settle the answer.
use Rattle.std.specs.Prelude.{◌≡◌, ℕ, true, List, Option, Some, None, Result, Ok}
use Rattle.timing_base.specs.Media.{Media}
use Rattle.timing_base.specs.Targets.{HaveOwnTargets}
use Rattle.sdp_reader.specs.Session.{session}
use Rattle.sdp_reader.specs.declared.fault.SdpFault.{SdpFault}
use Rattle.timing_steps.specs.Answers.{Answer, Inputs}
use Rattle.timing_steps.specs.Ends.{IsTextBeside, is_silent}
use Rattle.timing_steps.specs.Queries.{FollowsQuery, Query, ends_of}

-- the shelf has this name, and its contents are this session, or have this fault
abbrev pub WasRead : (texts : List ℕ → Option (List ℕ)) → (lacks : List ℕ → Type 0) → (name : List ℕ)
    → Result (List Media) SdpFault → Type 0
WasRead texts lacks name read = (¬ lacks name) × ((text : List ℕ) → texts name ≡ Some text → session text ≡ read)

-- these are the media of the SDP, and they don't settle the answer
pub record IsBegun (query : Query) (texts : List ℕ → Option (List ℕ)) (lacks : List ℕ → Type 0) (media : List Media) :
    Type 0 where
  pub read : WasRead texts lacks query.sdp (Ok media)
  pub targets : HaveOwnTargets media
  pub unsettled : query.early media ≡ None

-- an answer for which no capture is opened: the SDP is invalid, or its media settle the answer
pub record IsSettled (query : Query) (i : Inputs) (answer : Answer) : Type 0 where
  pub follows : FollowsQuery query i (Ok answer)
  pub ends : ends_of query answer.status ≡ true
  pub beside : IsTextBeside (is_silent answer.status) answer.text
