-- The rows of a judged run: each judged packet, or each judged frame or field, against the two models of SMPTE ST
-- 2110-21 and the media clock of ST 2110-10. m is the video, n the packets per frame or field, and `number` that of the
-- run. Runs and packet records count from 1, packets, frames and fields from 0. Capture timestamps are nanoseconds of
-- TAI, after the shift of their flow, RTP timestamps ticks of 90 kHz, and levels are in packets. The choice of columns
-- is this project's own.
use Rattle.std.specs.Prelude.{◌≡◌, ◌+◌, ◌-◌, ◌*◌, ◌/◌, ◌%◌, ◌≤◌, ◌<◌, ◌==◌, ℕ, zero, suc, ℤ, pos, Bool, true, false}
use Rattle.std.specs.Prelude.{List, [], ◌∷◌, ◌++◌, length, slice_index, Option, Some, None}
use Rattle.timing_base.specs.Shifts.{Shift}
use Rattle.timing_base.specs.Flows.{packet}
use Rattle.timing_base.specs.Judged.{stamp_of}
use Rattle.timing_base.specs.Media.{Media}
use Rattle.timing_base.specs.declared.packet.FlowPacket.{FlowPacket}
use Rattle.drain_bucket.specs.Word.{bucket_of}
use Rattle.vrx_buffer.specs.Occupancy.{IsOccupancy}
use Rattle.run_meter.specs.Runs.{JudgedPart, stamps_of}
use Rattle.flow_measure.specs.Frames.{timestamp_step}
use Rattle.flow_measure.specs.Groups.{firsts_of, lasts_of, latency_at, offset_at, since_at}
use Rattle.flow_measure.specs.Occupancy.{AreOccupancies, buckets_of}
use Rattle.flow_measure.specs.Packets.{timestamps_of}
use Rattle.flow_measure.specs.Run.{anchor_in}
use Rattle.flow_measure.specs.Summary.{IsGreatest, IsLeast}
use Rattle.flow_measure.specs.report.Rows.{group_header_text, group_row_text, packet_header_text, packet_row_text}
use Rattle.flow_measure.specs.declared.report.rows.GroupRow.{GroupRow}
use Rattle.flow_measure.specs.declared.report.rows.PacketRow.{PacketRow}

-- the header line: of frames or fields, or of packets
abbrev pub header_text : (frames : Bool) → List ℕ
header_text true = group_header_text
header_text false = packet_header_text

-- the row of the judged packet after these
pub record IsPacketRow (m : Media) (shift : Shift) (number n : ℕ) (before : List FlowPacket) (p : FlowPacket)
    (r : PacketRow) : Type 0 where
  pub run : r.run ≡ number
  pub packet : r.packet ≡ length before
  pub rec : r.rec ≡ p.rec
  pub stamp : r.stamp ≡ stamp_of shift p
  pub group : r.group ≡ length before / n
  pub place : r.place ≡ length before % n
  pub bucket : r.bucket ≡ bucket_of m n (stamps_of shift (before ++ p ∷ [])) (length before)
  pub gapped : IsOccupancy m n (stamps_of shift (before ++ p ∷ [])) true (length before) r.gapped
  pub linear : IsOccupancy m n (stamps_of shift (before ++ p ∷ [])) false (length before) r.linear

-- packet i belongs to frame or field k
pub record IsOfGroup (n k i : ℕ) : Type 0 where
  pub from : k * n ≤ i
  pub below : i < k * n + n

-- the ticks from the RTP timestamp before; none if there is none
abbrev pub step_from : Option ℕ → (timestamp : ℕ) → Option ℕ
step_from None timestamp = None
step_from (Some before) timestamp = Some (timestamp_step before timestamp)

-- the ticks from the RTP timestamp before to that of frame or field k; none for the first one
abbrev pub step_before : (timestamp : ℕ → ℕ) → (k : ℕ) → Option ℕ
step_before timestamp zero = None
step_before timestamp (suc k) = Some (timestamp_step (timestamp k) (timestamp (k + 1)))

-- the least and the greatest occupancy of the buffer just after a packet of frame or field k
pub record IsHeld (m : Media) (n : ℕ) (stamps : List ℕ) (gapped : Bool) (k : ℕ) (least greatest : ℤ) : Type 0 where
  pub occupancy : ℕ → ℤ
  pub are : AreOccupancies m n stamps gapped occupancy
  pub least_is : IsLeast occupancy (IsOfGroup n k) least
  pub greatest_is : IsGreatest occupancy (IsOfGroup n k) greatest

-- the row of frame or field k of a run with these capture timestamps, packet records and RTP timestamps of the judged
-- packets up to its last one
pub record IsRowOf (m : Media) (number n k : ℕ) (stamps : List ℕ) (records timestamp : ℕ → ℕ) (r : GroupRow)
    : Type 0 where
  pub run : r.run ≡ number
  pub group : r.group ≡ k
  pub rec : r.rec ≡ firsts_of n records k
  pub stamp : r.stamp ≡ firsts_of n (slice_index stamps) k
  pub first : r.first ≡ since_at m (anchor_in m stamps) (firsts_of n (slice_index stamps)) k
  pub last : r.last ≡ since_at m (anchor_in m stamps) (lasts_of n (slice_index stamps)) k
  pub timestamp_is : r.timestamp ≡ firsts_of n timestamp k
  pub step : r.step ≡ step_before (firsts_of n timestamp) k
  pub offset : r.offset ≡ offset_at m (anchor_in m stamps) (firsts_of n timestamp) k
  pub latency : r.latency ≡ latency_at (firsts_of n (slice_index stamps)) (firsts_of n timestamp) k
  pub bucket : IsGreatest (buckets_of m n stamps) (IsOfGroup n k) (pos r.bucket)
  pub gapped : IsHeld m n stamps true k r.gapped_least r.gapped
  pub linear : IsHeld m n stamps false k r.linear_least r.linear

-- the row of the frame or field that ends with the last of these judged packets
abbrev pub IsGroupRow : Media → (shift : Shift) (number n : ℕ) → List FlowPacket → GroupRow → Type 0
IsGroupRow m shift number n packets r =
    IsRowOf m number n (length packets / n - 1) (stamps_of shift packets) (λ i. (packet packets i).rec)
    (slice_index (timestamps_of packets)) r

-- the judged packet after `before` others ends its frame or field
abbrev pub ends_group : (n before : ℕ) → Bool
ends_group n before = (before + 1) % n == 0

-- the text at a packet if frames are listed: the row of its frame or field at the last packet, and nothing at the
-- others
abbrev pub AddsGroup : Media → (shift : Shift) (number n : ℕ) → List FlowPacket → (ends : Bool) → List ℕ → Type 0
AddsGroup m shift number n packets true here =
    (r : GroupRow) × IsGroupRow m shift number n packets r × (here ≡ group_row_text r)
AddsGroup m shift number n packets false here = here ≡ []

-- the text at the judged packet after these: its own row, or if frames are listed that of its frame or field
abbrev pub Adds : (frames : Bool) → Media → (shift : Shift) (number n : ℕ) → (before : List FlowPacket) → FlowPacket
    → List ℕ → Type 0
Adds false m shift number n before p here =
    (r : PacketRow) × IsPacketRow m shift number n before p r × (here ≡ packet_row_text r)
Adds true m shift number n before p here =
    AddsGroup m shift number n (before ++ p ∷ []) (ends_group n (length before)) here

-- the rows of these judged packets of a run, after those before
abbrev pub AreRows : (frames : Bool) → Media → (shift : Shift) (number n : ℕ) → (before packets : List FlowPacket)
    → List ℕ → Type 0
AreRows frames m shift number n before [] text = text ≡ []
AreRows frames m shift number n before (p ∷ packets) text =
    (here : List ℕ) × (rest : List ℕ) × (text ≡ here ++ rest) × Adds frames m shift number n before p here
    × AreRows frames m shift number n (before ++ p ∷ []) packets rest

-- the rows of judged runs, one run after the other
abbrev pub AreRowsOf : (frames : Bool) → Media → (shift : Shift) → List JudgedPart → List ℕ → Type 0
AreRowsOf frames m shift [] text = text ≡ []
AreRowsOf frames m shift (part ∷ parts) text =
    (here : List ℕ) × (rest : List ℕ) × (text ≡ here ++ rest)
    × AreRows frames m shift part.number part.values.n [] part.packets here
    × AreRowsOf frames m shift parts rest
