-- The output for a flow that is kept and is judged in one run of whole frames or fields. Packets count from 0.
use Rattle.std.specs.Prelude.{◌≡◌, ◌⊎◌, ◌≤◌, ◌+◌, ℕ, Bool, nat_lt, List, [], ◌++◌, drop, length, map}
use Rattle.std.specs.Prelude.{string_bytes, take, Result, Ok, Err}
use Rattle.std.specs.List.{count_by}
use Rattle.timing_base.specs.Shifts.{Shift, shifted}
use Rattle.flow_shaper.specs.declared.departure.Bound.{Bound}
use Rattle.flow_shaper.specs.declared.departure.Late.{Late}
use Rattle.timing_base.specs.Captures.{Record}
use Rattle.timing_base.specs.Grouped.{IsGrouped}
use Rattle.timing_base.specs.Judged.{JudgedRun}
use Rattle.timing_base.specs.Media.{Media}
use Rattle.timing_base.specs.Verdicts.{Judged}
use Rattle.timing_base.specs.declared.media.Kind.{Kind}
use Rattle.timing_report.specs.declared.status.Status.TheVariants as status
use Rattle.timing_steps.specs.Answers.{Answer}
use Rattle.timing_reach.specs.shape.Keeping.{stamps_of}
use Rattle.timing_reach.specs.shape.Leaving.{HasLet, IsFit, Part}
use Rattle.timing_reach.specs.shape.Readings.{IsKept}
use Rattle.timing_reach.specs.shape.Walking.{IsBefore}
use Rattle.timing_reach.specs.Shapes.{AreBounds, HasShape, IsLate, IsList, LeaveInTime, delays, end_of, flow_records}
use Rattle.timing_reach.specs.Shapes.{greatest, last_left, not_shaped, packet_lines, shaped_capture}
use Rattle.timing_reach.specs.declared.shape.delays.Delays.{Delays}
use Rattle.timing_reach.specs.declared.shape.kept.Kept.{Kept}
use Rattle.timing_reach.specs.declared.shape.leaver.Leaver.{Leaver}
use Rattle.timing_reach.specs.declared.shape.walk.Walk.{Walk}

-- capture timestamps after the shift, which are nanoseconds of TAI
abbrev pub in_tai : Shift → List ℕ → List ℕ
in_tai shift stamps = map (shifted shift) stamps

-- the arrivals of the judged packets, which stand behind `head` others
abbrev pub judged_stamps : Shift → (head count : ℕ) → List Record → List ℕ
judged_stamps shift head count records = in_tai shift (stamps_of (take count (drop head records)))

-- a flow with these packet records is judged in this run, with the numbers of `j`: packets in a frame or field, packets
-- before the judged ones, and judged packets
pub record IsRunOf (shift : Shift) (j : Judged) (records : List Record) (run : JudgedRun) : Type 0 where
  pub group : j.n ≡ run.n
  pub head : j.head ≡ run.head
  pub count : j.packets ≡ length run.stamps
  pub within : j.head + j.packets ≤ length records
  pub stamps : judged_stamps shift j.head j.packets records ≡ run.stamps
  pub grouped : IsGrouped run

-- a flow is kept that was judged with this result
pub record CanShape (m : Media) (shift : Shift) (j : Judged) (packets : Kept) : Type 0 where
  pub list : Bool
  pub items : List Record
  pub run : JudgedRun
  pub run_is : IsRunOf shift j (flow_records m items) run
  pub kept : IsKept m list packets items

-- the answer is that for the run of the flow that is kept, if it was judged with this result
abbrev pub IsShapeOf : Media → Kind → Shift → Judged → Kept → Answer → Type 0
IsShapeOf m kind shift j packets answer =
    (list : Bool) (items : List Record) (run : JudgedRun) → IsRunOf shift j (flow_records m items) run
    → IsKept m list packets items → HasShape list shift kind m items run answer

-- the list of packets with these arrivals and departures
pub record IsListed (w : Part) (stamps departures : List ℕ) (d : Delays) : Type 0 where
  pub bounds : List Bound
  pub are : AreBounds w.media w.n w.kind stamps departures bounds
  pub lines : string_bytes d.lines ≡ packet_lines 0 (delays stamps departures) bounds
  pub delayed : d.delayed ≡ count_by (nat_lt 0) (delays stamps departures)
  pub most : d.greatest ≡ greatest (delays stamps departures)

-- the first `i` packets with these arrivals left, and are listed
pub record HasListed (w : Part) (l : Leaver) (d : Delays) (stamps : List ℕ) (i : ℕ) : Type 0 where
  pub departures : List ℕ
  pub left : HasLet w l (take i stamps) departures
  pub listed : IsListed w (take i stamps) departures d

-- the answer is the list of packets with these arrivals
pub record ListsAll (w : Part) (stamps : List ℕ) (answer : Answer) : Type 0 where
  pub departures : List ℕ
  pub leave : LeaveInTime w.media w.n w.kind (end_of w.shift) stamps departures
  pub text : List ℕ
  pub list : IsList w.media w.n w.kind stamps departures text
  pub answer_is : answer ≡ record { text = text; status = status.Pass }

-- the answer is that a packet with one of these arrivals is late
pub record TellsLate (w : Part) (stamps : List ℕ) (answer : Answer) : Type 0 where
  pub packet : ℕ
  pub late : IsLate w.media w.n w.kind (end_of w.shift) stamps packet
  pub answer_is : answer ≡ not_shaped packet

-- the answer is the list of these packets, or that one of them is late
abbrev pub ListsSo : Part → (stamps : List ℕ) → Answer → Type 0
ListsSo w stamps answer = ListsAll w stamps answer ⊎ TellsLate w stamps answer

-- behind the packets of the head, the first `i` of these packet records have their departures as timestamps
pub record HasLeft (w : Part) (l : Leaver) (walk : Walk) (left : ℕ) (head records : List Record) (stamps : List ℕ)
    (i : ℕ) : Type 0 where
  pub departures : List ℕ
  pub let_go : HasLet w l (take i stamps) departures
  pub last : left ≡ last_left w.shift departures
  pub before : IsBefore walk (shaped_capture w.shift (length head) departures (head ++ take i records)) (drop i records)

-- these packets left, behind the head; or one of them is late
abbrev pub DepartsSo : Part → (new : Walk) → (head records : List Record) → (stamps : List ℕ) → (count : ℕ)
    → Result ℕ Late → Type 0
DepartsSo w new head records stamps count (Ok left) = (departures : List ℕ)
    × LeaveInTime w.media w.n w.kind (end_of w.shift) stamps departures × (left ≡ last_left w.shift departures)
    × IsBefore new (shaped_capture w.shift (length head) departures (head ++ take count records)) (drop count records)
DepartsSo w new head records stamps count (Err late) = IsLate w.media w.n w.kind (end_of w.shift) stamps late.packet

-- the next `count` packets of the walk left, behind whatever head; or one of them is late
abbrev pub Departs : (count : ℕ) → Leaver → (old new : Walk) → Result ℕ Late → Type 0
Departs count leaver old new result =
    (w : Part) (head records : List Record) (stamps : List ℕ) → HasLet w leaver [] []
    → IsBefore old (shaped_capture w.shift (length head) [] head) records
    → count ≤ length records → stamps ≡ in_tai w.shift (stamps_of (take count records)) → IsFit w.origin stamps
    → DepartsSo w new head records stamps count result
