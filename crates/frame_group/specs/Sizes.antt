-- The sizes of frames or fields in a flow in which no packet up to packet i has a fault.
use Rattle.std.specs.Prelude.{◌≡◌, ◌≤◌, ◌+◌, ℕ, true, List, length, None}
use Rattle.timing_base.specs.Flows.{first_fault_below, group_len, has_marker, markers, markers_before, place_in_group}
use Rattle.timing_base.specs.Flows.{run_start}
use Rattle.timing_base.specs.declared.packet.FlowPacket.{FlowPacket}

-- packet i belongs to a frame or field of the right size; `marks` are the markers before it in its run, and `place` is
-- the number of packets of the frame or field up to it
pub record IsOfSize (packets : List FlowPacket) (i : ℕ) (marks : List ℕ) (place : ℕ) : Type 0 where
  pub small : place ≤ 262144
  -- a later frame or field has the size of the first
  pub within : 2 ≤ length marks → place ≤ group_len marks
  pub whole : 2 ≤ length marks → has_marker packets i ≡ true → place ≡ group_len marks
  -- the first frame or field ends here, and the later ones have its size
  pub first : length marks ≡ 1 → has_marker packets i ≡ true
      → group_len (markers packets (run_start packets i) (i + 1)) ≡ place

-- while no packet has a fault, each one with a marker before it in its run belongs to a frame or field of the right
-- size
abbrev pub GroupsAreSized : Type 0
GroupsAreSized = (packets : List FlowPacket) (pt i : ℕ) → first_fault_below packets pt (i + 1) ≡ None
    → 1 ≤ length (markers_before packets i)
    → IsOfSize packets i (markers_before packets i) (place_in_group (markers_before packets i) i)
