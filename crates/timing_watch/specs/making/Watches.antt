-- The packet records that a `Watch` has taken, and the lines that were printed meanwhile.
use Rattle.std.specs.Prelude.{◌≡◌, ◌≤◌, ◌<◌, ◌+◌, ℕ, ⊤, List, [], ◌∷◌, ◌++◌, length, string_bytes}
use Rattle.std.proofs.Common.{append-nil, append_assoc, subst, sym}
use Rattle.timing_base.specs.Captures.{Record}
use Rattle.timing_base.specs.Jobs.{WatchJob}
use Rattle.timing_base.specs.Media.{Media}
use Rattle.timing_base.specs.declared.capture.FileNote.{FileNote}
use Rattle.udp_rtp.specs.Flow.{flow}
use Rattle.fail_interval.specs.Rows.{rows_from}
use Rattle.flow_demux.specs.Rooms.{HasRoom as DemuxHasRoom, flows_of, room_less}
use Rattle.flow_demux.specs.declared.media_flow.MediaFlow.{MediaFlow}
use Rattle.timing_report.specs.Outcomes.{status_of}
use Rattle.timing_steps.specs.Answers.{Answer}
use Rattle.timing_watch.specs.Watches.{AreLeft, AreLines, end_text, watching_of}
use Rattle.timing_watch.specs.making.Flows.{HasRoom as FlowHasRoom, StandsFor as FlowStandsFor, expected_next}
use Rattle.timing_watch.specs.making.Flows.{room_less as flow_less, text_in}
use Rattle.timing_watch.specs.declared.flow.WatchFlow.{WatchFlow}
use Rattle.timing_watch.specs.declared.watch.Watch.{Watch}
use Rattle.timing_watch.specs.declared.watch.Watched.{Watched}

-- the lines that aren't printed yet
abbrev pub text_of : Watch → List ℕ
text_of x = string_bytes x.text

-- there are lines that aren't printed yet
abbrev pub HoldsText : Watch → Type 0
HoldsText x = 0 < length (text_of x)

-- the flow of this media was taken in these packet records, and its lines were moved
pub record IsFlowOf (job : WatchJob) (items : List Record) (number : ℕ) (m : Media) (f : MediaFlow WatchFlow) : Type 0
  where
    pub media_is : f.media ≡ m
    pub stands : FlowStandsFor (watching_of job number m) m job.flows.options f.taker (flow items m)
    pub moved : text_in f.taker ≡ []

-- the flows of these media, the first of which has this number, were taken in these packet records
abbrev pub AreFlows : WatchJob → List Record → (number : ℕ) → List Media → List (MediaFlow WatchFlow) → Type 0
AreFlows job items number [] [] = ⊤
AreFlows job items number [] (f ∷ flows) = ⊥
AreFlows job items number (m ∷ media) [] = ⊥
AreFlows job items number (m ∷ media) (f ∷ flows) =
    IsFlowOf job items number m f × AreFlows job items (number + 1) media flows

-- these packet records were taken, and `gone` was printed of their lines
pub record StandsFor (job : WatchJob) (first : ℕ) (media : List Media) (gone : List ℕ) (x : Watch)
    (items : List Record) : Type 0 where
  pub lines_are : AreLines job first media items (gone ++ text_of x)
  pub flows_are : AreFlows job items first media (flows_of x.demux)

-- `count` more packet records can be taken
abbrev pub HasRoom : (count : ℕ) → Watch → Type 0
HasRoom count x = DemuxHasRoom FlowHasRoom expected_next count x.demux

-- if many more packet records can be taken, so can fewer
pub less_room : (few many : ℕ) (x : Watch) → few ≤ many → HasRoom many x → HasRoom few x
less_room few many x le room = room_less FlowHasRoom expected_next flow_less few many x.demux le room

-- these packet records were taken after those before, and `written` was printed after what was printed before
abbrev pub GoesOn : (old new : Watch) → (written : List ℕ) → List Record → Type 0
GoesOn old new written more =
    (job : WatchJob) (first : ℕ) (media : List Media) (gone : List ℕ) (items : List Record)
    → StandsFor job first media gone old items → StandsFor job first media (gone ++ written) new (items ++ more)

-- without a record and without text nothing changes
pub goes_none : (x : Watch) → GoesOn x x [] []
goes_none x job first media gone items h =
    subst (λ g. StandsFor job first media g x (items ++ [])) (sym (append-nil gone))
    (subst (StandsFor job first media gone x) (sym (append-nil items)) h)

-- two steps, one after the other, are one
pub goes_more : (x y z : Watch) (s t : List ℕ) (a b : List Record) → GoesOn x y s a → GoesOn y z t b
    → GoesOn x z (s ++ t) (a ++ b)
goes_more x y z s t a b one two job first media gone items h =
    subst (λ g. StandsFor job first media g z (items ++ (a ++ b))) (append_assoc gone s t)
    (subst (StandsFor job first media ((gone ++ s) ++ t) z) (append_assoc items a b)
    (two job first media (gone ++ s) (items ++ a) (one job first media gone items h)))

-- what is left after these packet records, of which `gone` was printed: the rest of their lines, what the end adds, and
-- the results
pub record IsLeft (job : WatchJob) (first : ℕ) (media : List Media) (gone : List ℕ) (items : List Record) (w : Watched)
    : Type 0 where
  pub lines : List ℕ
  pub left : List ℕ
  pub lines_are : AreLines job first media items lines
  pub left_are : AreLeft job first media items left
  pub text_is : gone ++ string_bytes w.text ≡ lines ++ left
  pub rows_are : w.rows.items ≡ rows_from job.flows.options 0 first media items

-- `w` is left, whatever was taken and printed before
abbrev pub EndsWatch : Watch → Watched → Type 0
EndsWatch x w =
    (job : WatchJob) (first : ℕ) (media : List Media) (gone : List ℕ) (items : List Record)
    → StandsFor job first media gone x items → IsLeft job first media gone items w

-- the rest of the answer
abbrev pub rest_of : WatchJob → List Media → List FileNote → Watched → Answer
rest_of job session notes w = record {
  text = string_bytes w.text ++ end_text job session notes w.rows.items;
  status = status_of session notes w.rows.items;
}
