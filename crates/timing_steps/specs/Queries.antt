-- What a command asks of its inputs, and the outcomes that their contents define, in the order in which they are read:
-- the SDP, then the captures. This project's profile.
use Rattle.std.specs.Prelude.{◌≡◌, ◌⊎◌, ℕ, Bool, true, false, List, [], ◌∷◌, ◌++◌, map, Option}
use Rattle.std.specs.Prelude.{Some, None, Result, Ok}
use Rattle.timing_base.specs.Captures.{Record}
use Rattle.timing_base.specs.Media.{Media}
use Rattle.timing_base.specs.declared.capture.FileNote.{FileNote}
use Rattle.pcap_reader.specs.Records.{AreRecords}
use Rattle.pcapng_reader.specs.Classic.{classic}
use Rattle.sdp_reader.specs.Session.{session}
use Rattle.timing_report.specs.declared.status.Input.{Input}
use Rattle.timing_report.specs.declared.status.Input.TheVariants as input
use Rattle.timing_report.specs.declared.status.Status.{Status}
use Rattle.timing_report.specs.declared.status.Status.TheVariants as status
use Rattle.timing_steps.specs.Answers.{Answer, AreTold, CaptureRose, Gives, HasRisen, Inputs, ReadsCaptures}
use Rattle.timing_steps.specs.Answers.{ReadsSession, Yields}
use Rattle.timing_steps.specs.declared.failure.Failure.{Failure}

-- what a command asks of its inputs. `sdp` is the name of the SDP, and `captures` are the names of the captures, in the
-- order in which they are opened. `early` is the answer if the media of the SDP settle it; then no capture is opened.
-- `Defines` is which answers the media, the packet records of each capture and the end of each one define. With
-- `checks` such an answer may have status 1.
pub record Query : Type 1 where
  pub sdp : List ℕ
  pub captures : List (List ℕ)
  pub early : List Media → Option Answer
  pub Defines : List Media → List (List Record) → List FileNote → Answer → Type 0
  pub checks : Bool

-- the names of all inputs
abbrev pub inputs_of : Query → List (List ℕ)
inputs_of query = query.sdp ∷ query.captures

-- an answer over these media, and over classic captures with these contents
pub record HasAnswer (query : Query) (media : List Media) (texts : List (List ℕ)) (answer : Answer) : Type 0 where
  pub files : List (List Record)
  pub notes : List FileNote
  pub records : AreRecords texts files notes
  pub defined : query.Defines media files notes answer

-- the captures are read, as classic captures, and then there is an answer
abbrev pub AnswersCaptures : Query → List Media → Inputs → Result Answer Failure → Type 0
AnswersCaptures query media i outcome =
    ReadsCaptures i outcome query.captures (λ texts. Gives outcome (HasAnswer query media texts))

-- the outcome over media that don't settle it
abbrev pub FollowsCaptures : Query → List Media → Inputs → Result Answer Failure → Type 0
FollowsCaptures query media i outcome = Yields outcome (AnswersCaptures query media i outcome)

-- an answer that is settled early, or else what is next
abbrev pub OnEarly : Option Answer → Result Answer Failure → (next : Type 0) → Type 0
OnEarly (Some settled) outcome next = Gives outcome (λ answer. answer ≡ settled)
OnEarly None outcome next = next

-- the outcome over the media of the SDP
abbrev pub AnswersMedia : Query → Inputs → Result Answer Failure → List Media → Type 0
AnswersMedia query i outcome media = OnEarly (query.early media) outcome (AnswersCaptures query media i outcome)

-- the outcome that the contents of the inputs define. They are read in this order: the SDP, which may be refused; then,
-- if its media don't settle the answer, the captures
abbrev pub FollowsQuery : Query → Inputs → Result Answer Failure → Type 0
FollowsQuery query i outcome =
    Yields outcome (ReadsSession i outcome query.sdp (AnswersMedia query i outcome))

-- the count of faults of the name of this input rose
abbrev pub QueryInputRose : Query → Inputs → Input → Type 0
QueryInputRose query i input.Sdp = HasRisen i query.sdp
QueryInputRose query i input.Report = ⊥
QueryInputRose query i (input.Capture number) = CaptureRose i.before i.now query.captures number

-- a prefix of the text of an answer for which `Has` holds
pub record IsFrontOf (Has : Answer → Type 0) (front : List ℕ) : Type 0 where
  pub answer : Answer
  pub has : Has answer
  pub rest : List ℕ
  pub whole : answer.text ≡ front ++ rest

-- what may be printed over these media if the answer isn't printed whole: nothing, or a prefix of it
abbrev pub BeginsCaptures : Query → List Media → Inputs → (front : List ℕ) → Type 0
BeginsCaptures query media i front = (texts : List (List ℕ)) → AreTold i.texts query.captures texts
    → (front ≡ []) ⊎ IsFrontOf (HasAnswer query media (map classic texts)) front

-- what may be printed of a command that prints while it reads, if its answer isn't printed whole
abbrev pub BeginsQuery : Query → Inputs → (front : List ℕ) → Type 0
BeginsQuery query i front = (sdp : List ℕ) (media : List Media) → i.texts query.sdp ≡ Some sdp
    → session sdp ≡ Ok media → BeginsCaptures query media i front

-- the statuses of an answer that captures define, or that is settled early: 0, 4, and with `checks` 1
abbrev pub judged_ends : (checks : Bool) → Status → Bool
judged_ends checks status.Pass = true
judged_ends checks status.NotAllJudged = true
judged_ends checks status.Fail = checks
judged_ends checks ends = false

-- the statuses of the answers of a command: also 3, if the SDP is invalid
abbrev pub ends_of : Query → Status → Bool
ends_of query (status.SdpRefused fault) = true
ends_of query ends = judged_ends query.checks ends
