-- The form of everything that is judged: whole frames or fields of one size, and capture timestamps that never
-- decrease.
use Rattle.std.specs.Prelude.{◌≡◌, ◌≤◌, ◌<◌, ◌+◌, ◌*◌, ◌-◌, ◌^◌, ℕ, List, [], ◌∷◌, length, slice_index, All, IsSome}
use Rattle.std.specs.Prelude.{None, ⊤}
use Rattle.std.specs.List.Sorted.{IsNonDecreasing}
use Rattle.timing_base.specs.declared.packet.FlowPacket.{FlowPacket}
use Rattle.timing_base.specs.Flows.{cuts, markers, last_place, group_len}
use Rattle.timing_base.specs.Judged.{JudgedRun, RunOutcome, no_whole_frame, whole_frames, FlowRun, FlowVerdict, absent}
use Rattle.timing_base.specs.Judged.{refused, gap, in_one_run, in_runs}

-- the judged packets are whole frames or fields of one size, with capture timestamps that never decrease
pub record IsGrouped (run : JudgedRun) : Type 0 where
  pub some : 1 ≤ run.n
  pub few : run.n ≤ 262144
  pub some_groups : 1 ≤ run.groups
  pub whole : length run.stamps ≡ run.n * run.groups
  pub bounded : length run.stamps < 2 ^ 41
  pub rising : IsNonDecreasing run.stamps
  pub early : All (λ at. at < 2 ^ 62) run.stamps

-- the judged packets of a run, if there are any, are of that form
abbrev pub IsGroupedOutcome : RunOutcome → Type 0
IsGroupedOutcome (no_whole_frame head) = ⊤
IsGroupedOutcome (whole_frames run) = IsGrouped run

-- the first run alone has no expected number
abbrev pub ExpectsAfterFirst : List FlowRun → Type 0
ExpectsAfterFirst [] = ⊤
ExpectsAfterFirst (run ∷ rest) = (run.expected ≡ None) × All (λ later. IsSome later.expected) rest

-- a flow with gaps has 2 to 1,025 runs, and each is of that form
pub record AreGrouped (runs : List FlowRun) : Type 0 where
  pub some : 2 ≤ length runs
  pub few : length runs ≤ 1025
  pub expected : ExpectsAfterFirst runs
  pub outcomes : All (λ run. IsGroupedOutcome run.outcome) runs

-- each run of a verdict is of that form
abbrev pub IsGroupedVerdict : FlowVerdict → Type 0
IsGroupedVerdict absent = ⊤
IsGroupedVerdict (refused rec fault) = ⊤
IsGroupedVerdict (gap rec expected got) = ⊤
IsGroupedVerdict (in_one_run outcome) = IsGroupedOutcome outcome
IsGroupedVerdict (in_runs runs) = AreGrouped runs

-- the markers of a run before packet i, if no packet before i has a fault
pub record IsSized (i : ℕ) (marks : List ℕ) : Type 0 where
  -- with packet i, the first judged frame or field may be one packet too large
  pub first : length marks ≡ 1 → i ≤ slice_index marks 0 + 262145
  pub begun : 1 ≤ length marks → slice_index marks 0 < i
  pub some : 2 ≤ length marks → slice_index marks 0 < slice_index marks 1
  pub few : 2 ≤ length marks → slice_index marks 1 ≤ slice_index marks 0 + 262144
  pub whole : 2 ≤ length marks → last_place marks ≡ slice_index marks 0 + group_len marks * (length marks - 1)
  pub later : 2 ≤ length marks → last_place marks < i
  pub next : 2 ≤ length marks → i ≤ last_place marks + (group_len marks + 1)

-- up to each packet and up to the end, the frames or fields of each run are of one size
abbrev pub EachSized : List FlowPacket → Type 0
EachSized packets = (i : ℕ) → i ≤ length packets → IsSized i (markers packets (last_place (0 ∷ cuts packets i)) i)
