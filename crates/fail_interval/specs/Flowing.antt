-- The state of a `Flow` after the packets that it was fed. Packets count from 0.
use Rattle.std.specs.Prelude.{◌≡◌, ◌≤◌, ◌<◌, ◌+◌, ◌^◌, ℕ, List, [], ◌∷◌, ◌++◌, length, map, vec_len, vec_capacity, ⊤}
use Rattle.std.specs.Prelude.{true, Option, Some, None, Ok}
use Rattle.timing_base.specs.Shifts.{IsShift, Shift}
use Rattle.frame_group.specs.Expected.{after, expected_after, going_on, next_packet}
use Rattle.frame_group.specs.Stands.{StandsFor as GrouperStandsFor, expected_of}
use Rattle.timing_base.specs.Captures.{IsStamp}
use Rattle.timing_base.specs.Flows.{AreStamped, cuts, first_fault_below, is_cut, last_place, packet, rtp}
use Rattle.timing_base.specs.Judged.{expected_at, run_at, runs_between, stamp_of}
use Rattle.timing_base.specs.Media.{Media}
use Rattle.timing_base.specs.declared.packet.FlowPacket.{FlowPacket}
use Rattle.timing_base.specs.declared.packet.PacketFault.{PacketFault}
use Rattle.timing_base.specs.declared.packet.Rtp.{Rtp}
use Rattle.timing_base.specs.declared.row.Run.{Run}
use Rattle.fail_interval.specs.Row.{run_of, run_verdict_of}
use Rattle.fail_interval.specs.Runs.{StandsFor as RunStandsFor}
use Rattle.fail_interval.specs.SoFar.{SoFar, outcome_of, so_far_at}
use Rattle.fail_interval.specs.declared.flow.Flow.{Flow}
use Rattle.fail_interval.specs.declared.flow.OpenRun.{OpenRun}

-- the packets before packet i, with gaps at these places, are those of the runs that have ended and of the open one
pub record IsOpen {M : Type 0} (m : Media) (shift : Shift) (packets : List FlowPacket) (i : ℕ) (places : List ℕ)
    (so_far : SoFar) (done : List Run) (open_run : OpenRun M) : Type 0 where
  pub some : 0 < i
  pub rec : open_run.rec ≡ (packet packets (last_place (0 ∷ places))).rec
  pub number : open_run.number ≡ (rtp packets (last_place (0 ∷ places))).number
  pub expected : open_run.expected ≡ expected_at packets (last_place (0 ∷ places))
  pub judge : RunStandsFor m open_run.judge so_far
  pub so_far_is : so_far ≡ so_far_at packets shift (last_place (0 ∷ places)) i
  pub count : length done ≡ length places
  pub runs : (to : ℕ) → map (run_of m) (runs_between packets shift to 0 places)
      ≡ done ++ run_of m (run_at packets shift (last_place (0 ∷ places)) to) ∷ []

-- the packets before packet i are those of the runs that have ended and of the open one; before packet 0 there is no
-- run
abbrev pub OpensAt : {M : Type 0} → Media → Shift → List FlowPacket → ℕ → SoFar → List Run → Option (OpenRun M) → Type 0
OpensAt m shift packets i so_far done None = (i ≡ 0) × (done ≡ [])
OpensAt m shift packets i so_far done (Some open_run) = IsOpen m shift packets i (cuts packets i) so_far done open_run

-- the open run has ended: its result follows those of the runs before
abbrev pub IsClosed : {M : Type 0} → Media → List Run → Option (OpenRun M) → List Run → Type 0
IsClosed m done None new = new ≡ done
IsClosed m done (Some open_run) new = (so_far : SoFar) → RunStandsFor m open_run.judge so_far
    → new ≡ done ++ record {
      rec = open_run.rec;
      number = open_run.number;
      expected = open_run.expected;
      verdict = run_verdict_of m (outcome_of so_far);
    } ∷ []

-- if runs have ended, there is room for one more
abbrev pub HasRoom : {M : Type 0} → Flow M → Type 0
HasRoom flow = 1 ≤ vec_len flow.done → vec_len flow.done < vec_capacity flow.done

-- the flow was fed exactly these packets, as far as later calls depend on it, whatever packets follow
pub record StandsFor {M : Type 0} (flow : Flow M) (packets : List FlowPacket) : Type 0 where
  pub limits : IsShift flow.shift
  pub grouper : GrouperStandsFor flow.media.pt flow.grouper packets
  pub sound : (rest : List FlowPacket) → first_fault_below (packets ++ rest) flow.media.pt (length packets) ≡ None
  pub so_far : SoFar
  pub runs : (rest : List FlowPacket) → OpensAt flow.media flow.shift (packets ++ rest)
      (length packets) so_far flow.done.items flow.open
  pub room : HasRoom flow

-- packet i has this packet record, this instant and this RTP header
pub record ComesNext (packets : List FlowPacket) (shift : Shift) (i rec_number at : ℕ) (seen : Rtp) : Type 0 where
  pub within : i < length packets
  pub rec : (packet packets i).rec ≡ rec_number
  pub stamp : stamp_of shift (packet packets i) ≡ at
  pub reading : (packet packets i).rtp ≡ Ok seen

-- a run starts with packet i, at a gap or at the start of the flow
abbrev pub StartsAt : {M : Type 0} → List FlowPacket → ℕ → Option (OpenRun M) → Type 0
StartsAt packets i None = ⊤
StartsAt packets i (Some open_run) = is_cut packets i ≡ true

-- the flow was fed these packets, and a packet captured at this instant may be the next one
pub record CanGoOn {M : Type 0} (flow : Flow M) (packets : List FlowPacket) (at : ℕ) : Type 0 where
  pub stands : StandsFor flow packets
  pub stamped : AreStamped packets
  pub stamp : IsStamp at
  pub few : length packets < 2 ^ 41

-- packet i is the first packet with a fault, which is this one
abbrev pub has_fault : List FlowPacket → ℕ → ℕ → PacketFault → Type 0
has_fault packets pt i fault = first_fault_below packets pt (i + 1) ≡ Some record { index = i; fault = fault }

-- the flow took this packet after those that it was fed
abbrev pub Took : {M : Type 0} → (old new : Flow M) → FlowPacket → Type 0
Took old new next = (packets : List FlowPacket) → CanGoOn old packets next.at → StandsFor new (packets ++ next ∷ [])

-- the packet that is expected next, by the state of the flow
abbrev pub flow_expects : {M : Type 0} → Flow M → Option Rtp
flow_expects flow = expected_of flow.grouper

-- the flow took the packet that follows those that it was fed, captured at this instant; it was the expected one
pub record TookExpected {M : Type 0} (old new : Flow M) (at : ℕ) : Type 0 where
  pub expects : (packets : List FlowPacket) → CanGoOn old packets at
      → expected_after packets old.media.pt ≡ Some (going_on packets old.media.pt (length packets))
  pub stands : (packets : List FlowPacket) (rec_number : ℕ) → CanGoOn old packets at
      → StandsFor new (packets ++ next_packet packets old.media.pt rec_number at ∷ [])
  pub next : flow_expects new ≡ after (flow_expects old)

-- the flow ends with this packet, which has this fault
abbrev pub EndsBy : {M : Type 0} → Flow M → FlowPacket → PacketFault → Type 0
EndsBy flow next fault = (packets rest : List FlowPacket) → CanGoOn flow packets next.at
    → has_fault (packets ++ next ∷ rest) flow.media.pt (length packets) fault
