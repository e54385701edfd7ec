-- The state of a `Walk` after the packets that it was fed. Packets, runs and judged packets count from 0.
use Rattle.std.specs.Prelude.{◌≡◌, ◌≤◌, ◌<◌, ◌+◌, ◌-◌, ℕ, List, [], ◌∷◌, ◌++◌, length, map, Some, None}
use Rattle.timing_base.specs.Shifts.{Shift}
use Rattle.timing_base.specs.Flows.{cuts, first_fault_below, last_place, markers, packet}
use Rattle.timing_base.specs.Grouped.{IsSized}
use Rattle.timing_base.specs.Judged.{FlowRun, run_at, runs_between}
use Rattle.timing_base.specs.declared.packet.FlowPacket.{FlowPacket}
use Rattle.interval_checker.specs.Asking.{AreEnded, AreKept}
use Rattle.interval_checker.specs.Markers.{AreMarked}
use Rattle.interval_checker.specs.Packets.{ComesAfter}
use Rattle.interval_checker.specs.declared.asked.Asked.{Asked}
use Rattle.interval_checker.specs.declared.marks.Marks.{Marks}
use Rattle.interval_checker.specs.declared.walk.Walk.{Walk}

-- number of packets fed
abbrev pub count_fed : Walk → ℕ
count_fed w = w.fed

-- what is asked for of the flow
abbrev pub asked_of : Walk → Asked
asked_of w = w.asked

-- the capture timestamp of packet k after packet `first`, as the capture has it
abbrev pub stamp_behind : List FlowPacket → ℕ → ℕ → ℕ
stamp_behind packets first k = (packet packets (first + 1 + k)).at

-- the state before packet i, with gaps at these places, which are those before packet i or those up to it; the packets
-- before i have no fault, whatever packets follow
pub record Keeps (pt : ℕ) (shift : Shift) (packets : List FlowPacket) (i : ℕ) (places : List ℕ) (w : Walk) : Type 0
  where
    pub within : i ≤ length packets
    pub fed : w.fed ≡ i
    pub sound : first_fault_below packets pt i ≡ None
    pub before : ComesAfter packets i w.before
    pub cut_count : w.cuts ≡ length places
    pub start : w.start ≡ last_place (0 ∷ places)
    pub marks : AreMarked (markers packets (last_place (0 ∷ places)) i) w.marks
    pub sized : IsSized i (markers packets (last_place (0 ∷ places)) i)
    pub rising : (j k : ℕ) → j ≤ k → k < i → (packet packets j).at ≤ (packet packets k).at
    -- the capture timestamps of the open run
    pub kept : (m : Marks) → w.marks ≡ Some m
        → AreKept w.asked w.cuts (stamp_behind packets m.first) (i - (m.first + 1))
    -- the runs that have ended
    pub done : List FlowRun
    pub runs : (to : ℕ) → runs_between packets shift to 0 places
        ≡ done ++ run_at packets shift (last_place (0 ∷ places)) to ∷ []
    pub count : length done ≡ length places
    pub ended : AreEnded w.asked shift 0 (map (λ r. r.outcome) done)

-- the walk was fed exactly these packets, as far as later calls depend on it, whatever packets follow
pub record StandsFor (pt : ℕ) (shift : Shift) (w : Walk) (packets : List FlowPacket) : Type 0 where
  pub ahead : (rest : List FlowPacket) → Keeps pt shift (packets ++ rest) (length packets)
      (cuts (packets ++ rest) (length packets)) w
