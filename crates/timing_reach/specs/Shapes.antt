-- The output of `shape` for a flow that is judged in one run. Its packets leave by the plan in which each leaves as
-- early as in any plan that never overfills the leaky bucket or the virtual receiver buffer of a sender type (SMPTE ST
-- 2110-21). The output is a list of the delayed packets, or the flow as a capture (pcap-savefile(5)). Capture
-- timestamps are nanoseconds, and departures too, as they are after the shift of the flow. Packets, judged packets and
-- reads count from 0. This project's profile.
use Rattle.std.specs.Prelude.{◌≡◌, ◌⊎◌, ◌<◌, ◌≤◌, ◌+◌, ◌-◌, ◌*◌, ◌^◌, ℕ, Bool, true, false, nat_lt, max, if◌then◌else◌}
use Rattle.std.specs.Prelude.{List, [], ◌∷◌, ◌++◌, length, take, slice_index, slice_index_or, is_some, codes}
use Rattle.std.specs.Fmt.{decimal}
use Rattle.std.specs.List.{count_by, filter}
use Rattle.timing_base.specs.Shifts.{Shift, shifted, unshifted}
use Rattle.pcap_reader.specs.WrittenHeads.{file_head, record_head}
use Rattle.flow_shaper.specs.Bounds.{BoundAt}
use Rattle.flow_shaper.specs.Plan.{Plan, Shaped}
use Rattle.flow_shaper.specs.declared.departure.Bound.{Bound}
use Rattle.flow_shaper.specs.declared.departure.Bound.TheVariants.{Arrival, Bucket, Buffer, Order}
use Rattle.timing_base.specs.Captures.{Record}
use Rattle.timing_base.specs.Judged.{JudgedRun}
use Rattle.timing_base.specs.Media.{Media}
use Rattle.timing_base.specs.declared.media.Kind.{Kind}
use Rattle.timing_report.specs.declared.status.Status.TheVariants as status
use Rattle.timing_steps.specs.Answers.{Answer}
use Rattle.udp_rtp.specs.Flow.{flow_packet}

-- the first instant that no capture timestamp reaches after this shift, in nanoseconds: a capture holds timestamps
-- below 2^32 seconds
abbrev pub end_of : Shift → ℕ
end_of shift = shifted shift (2 ^ 32 * 10 ^ 9)

-- packets with these capture timestamps leave at these instants: as early as in any plan, and all before `end`
pub record LeaveInTime (m : Media) (n : ℕ) (kind : Kind) (end : ℕ) (stamps departures : List ℕ) : Type 0 where
  pub shaped : Shaped m n kind stamps departures
  pub in_time : (i : ℕ) → i < length departures → slice_index departures i < end

-- packet i is the first that leaves at `end` or later in every plan
pub record IsLate (m : Media) (n : ℕ) (kind : Kind) (end : ℕ) (stamps : List ℕ) (i : ℕ) : Type 0 where
  pub within : i < length stamps
  pub departures : List ℕ
  pub before : LeaveInTime m n kind end (take i stamps) departures
  pub late : (others : List ℕ) → Plan m n kind (take (i + 1) stamps) others → end ≤ slice_index others i

-- the delay of each packet, in nanoseconds
abbrev pub delays : (stamps departures : List ℕ) → List ℕ
delays [] departures = []
delays (a ∷ stamps) [] = []
delays (a ∷ stamps) (d ∷ departures) = (d - a) ∷ delays stamps departures

-- the greatest of these delays; 0 without a packet
abbrev pub greatest : List ℕ → ℕ
greatest [] = 0
greatest (d ∷ ds) = max d (greatest ds)

-- the limit that holds a packet back
abbrev pub bound_text : Bound → List ℕ
bound_text Arrival = codes "nothing"
bound_text (Bucket from) = codes "bucket from " ++ decimal from
bound_text (Buffer read) = codes "read " ++ decimal read
bound_text Order = codes "order"

-- `packet I delayed D ns by ..`, with the newline
abbrev pub delayed_line : (packet delay : ℕ) → Bound → List ℕ
delayed_line packet delay bound =
    codes "packet " ++ (decimal packet ++ (codes " delayed "
    ++ (decimal delay ++ (codes " ns by " ++ (bound_text bound ++ codes "\n")))))

-- the line of a packet; empty if nothing holds it back
abbrev pub packet_line : (packet delay : ℕ) → Bound → List ℕ
packet_line packet delay Arrival = []
packet_line packet delay (Bucket from) = delayed_line packet delay (Bucket from)
packet_line packet delay (Buffer read) = delayed_line packet delay (Buffer read)
packet_line packet delay Order = delayed_line packet delay Order

-- the lines of packets, the first of which has this number
abbrev pub packet_lines : (packet : ℕ) → (delays : List ℕ) → List Bound → List ℕ
packet_lines packet [] bounds = []
packet_lines packet (d ∷ ds) [] = []
packet_lines packet (d ∷ ds) (b ∷ bs) = packet_line packet d b ++ packet_lines (packet + 1) ds bs

-- `delayed X of P, greatest D ns`, with the newline
abbrev pub delays_line : (delayed packets most : ℕ) → List ℕ
delays_line delayed packets most =
    codes "delayed " ++ (decimal delayed ++ (codes " of "
    ++ (decimal packets ++ (codes ", greatest " ++ (decimal most ++ codes " ns\n")))))

-- the limit that holds each packet back
pub record AreBounds (m : Media) (n : ℕ) (kind : Kind) (stamps departures : List ℕ) (bounds : List Bound) : Type 0 where
  pub each : length bounds ≡ length stamps
  pub bound : (i : ℕ) → i < length stamps → BoundAt m n kind stamps departures i (slice_index_or bounds i Arrival)

-- the list of the delayed packets: a line for each, and a last line for all
pub record IsList (m : Media) (n : ℕ) (kind : Kind) (stamps departures : List ℕ) (text : List ℕ) : Type 0 where
  pub bounds : List Bound
  pub are : AreBounds m n kind stamps departures bounds
  pub text_is : text ≡ packet_lines 0 (delays stamps departures) bounds
      ++ delays_line (count_by (nat_lt 0) (delays stamps departures)) (length (delays stamps departures))
      (greatest (delays stamps departures))

-- the packet records of the flow of a media
abbrev pub flow_records : Media → List Record → List Record
flow_records m items = filter (λ r. is_some (flow_packet m r)) items

-- the capture timestamp that the last of these departures has; 0 without one
abbrev pub last_left : Shift → (departures : List ℕ) → ℕ
last_left shift [] = 0
last_left shift (d ∷ ds) = unshifted shift (slice_index (d ∷ ds) (length ds))

-- the capture timestamp with which packet k of a flow leaves, by the one with which it came. A packet before the judged
-- ones keeps its own, a judged one leaves as planned, and one behind them leaves no earlier than the last of them.
abbrev pub leaves_at : Shift → (head : ℕ) → (departures : List ℕ) → (k stamp : ℕ) → ℕ
leaves_at shift head departures k stamp =
    if nat_lt k head then stamp
    else if nat_lt k (head + length departures) then unshifted shift (slice_index departures (k - head))
    else max stamp (last_left shift departures)

-- the packet records of packets that leave at these instants, the first of which is packet k
abbrev pub records_text : (leaves : ℕ → ℕ → ℕ) → (k : ℕ) → List Record → List ℕ
records_text leaves k [] = []
records_text leaves k (r ∷ rs) =
    record_head (leaves k r.stamp) (length r.bytes) ++ (r.bytes ++ records_text leaves (k + 1) rs)

-- the capture of a flow with these packet records; the judged packets, behind `head` others, leave at these instants,
-- as they are after the shift
abbrev pub shaped_capture : Shift → (head : ℕ) → (departures : List ℕ) → List Record → List ℕ
shaped_capture shift head departures records = file_head ++ records_text (leaves_at shift head departures) 0 records

-- the output for packets that leave at these instants: their list, or the capture
abbrev pub Prints : (list : Bool) → Shift → Kind → Media → List Record → JudgedRun → (departures text : List ℕ)
    → Type 0
Prints true shift kind m items run departures text = IsList m run.n kind run.stamps departures text
Prints false shift kind m items run departures text =
    text ≡ shaped_capture shift run.head departures (flow_records m items)

-- all judged packets leave in time
pub record HasPlan (list : Bool) (shift : Shift) (kind : Kind) (m : Media) (items : List Record) (run : JudgedRun)
    (answer : Answer) : Type 0 where
  pub departures : List ℕ
  pub leave : LeaveInTime m run.n kind (end_of shift) run.stamps departures
  pub text : List ℕ
  pub prints : Prints list shift kind m items run departures text
  pub answer_is : answer ≡ record { text = text; status = status.Pass }

-- `not shaped: packet I`, with the newline
abbrev pub not_shaped : (packet : ℕ) → Answer
not_shaped packet = record {
  text = codes "not shaped: packet " ++ (decimal packet ++ codes "\n");
  status = status.NotAllJudged;
}

-- a judged packet is late
pub record HasLate (shift : Shift) (kind : Kind) (m : Media) (run : JudgedRun) (answer : Answer) : Type 0 where
  pub packet : ℕ
  pub late : IsLate m run.n kind (end_of shift) run.stamps packet
  pub answer_is : answer ≡ not_shaped packet

-- the answer for the judged packets of this media, in a capture with these packet records
abbrev pub HasShape : (list : Bool) → Shift → Kind → Media → List Record → JudgedRun → Answer → Type 0
HasShape list shift kind m items run answer =
    HasPlan list shift kind m items run answer ⊎ HasLate shift kind m run answer
