-- The packets that the meter of a run was fed, and the contents of its output. Packets of a list count from 0, runs
-- from 1.
use Rattle.std.specs.Prelude.{◌≡◌, ◌≤◌, ◌*◌, ℕ, ⊤, Bool, true, false, List, [], ◌∷◌, ◌++◌, length, map, Option, Some}
use Rattle.std.specs.Prelude.{None, Result, IfOk}
use Rattle.timing_base.specs.Shifts.{Shift}
use Rattle.timing_base.specs.Flows.{read_or_zeros}
use Rattle.timing_base.specs.Media.{Media}
use Rattle.timing_base.specs.declared.packet.FlowPacket.{FlowPacket}
use Rattle.run_meter.specs.Runs.{AreWhole, JudgedPart, OpenPart, RunOf, stamps_of, told_of}
use Rattle.run_meter.specs.declared.run.RunHead.{RunHead}
use Rattle.run_meter.specs.declared.run.RunPacket.{RunPacket}
use Rattle.fail_interval.specs.Parts.{run_by}
use Rattle.fail_interval.specs.Runs.{CanGoOn}
use Rattle.fail_interval.specs.SoFar.{Groups as GroupsSoFar, SoFar, in_first, in_groups, in_head}
use Rattle.fail_interval.specs.declared.first.FirstGroup.{FirstGroup}
use Rattle.fail_interval.specs.declared.first.Kept.{Kept}
use Rattle.fail_interval.specs.declared.run.RunJudge.{RunJudge}
use Rattle.fail_interval.specs.declared.run.RunJudge.TheVariants.{Head, First, Groups}

-- the relation `stands` of a meter's trait: the packets that the meter was fed
abbrev pub Standing : Type 0 → Type 1
Standing M = M → Media → (shift : Shift) → RunOf → (fed committed : List FlowPacket) → Type 0

-- the relation `tells` of a meter's trait: the results that the output contains
abbrev pub Telling : (Past Out : Type 0) → Type 1
Telling Past Out = Past → Out → Media → (shift : Shift) → List JudgedPart → Option OpenPart → Type 0

-- what is kept of a packet beside its capture timestamp
abbrev pub kept_of : FlowPacket → Kept
kept_of p = record { rec = p.rec; timestamp = (read_or_zeros p.rtp).timestamp }

-- the first frame or field has these packets so far, and they are kept for its meter
pub record Keeps (shift : Shift) (group : FirstGroup) (packets : List FlowPacket) : Type 0 where
  pub stamps : group.stamps.items ≡ stamps_of shift packets
  pub kept : group.kept.items ≡ map kept_of packets

-- the packets of the run after its first marker have these capture timestamps
abbrev pub HaveStamps : SoFar → List ℕ → Type 0
HaveStamps (in_head head) stamps = stamps ≡ []
HaveStamps (in_first head so_far) stamps = so_far ≡ stamps
HaveStamps (in_groups g) stamps = g.stamps ≡ stamps

-- these are the packets of the complete frames or fields of the run
pub record AreJudged (shift : Shift) (g : GroupsSoFar) (packets : List FlowPacket) : Type 0 where
  pub stamps : stamps_of shift packets ≡ g.whole
  pub some : 1 ≤ g.groups
  pub are : length packets ≡ g.n * g.groups

-- if the run has complete frames or fields, these are their packets
abbrev pub HaveWhole : (shift : Shift) → SoFar → List FlowPacket → Type 0
HaveWhole shift (in_head head) packets = ⊤
HaveWhole shift (in_first head so_far) packets = ⊤
HaveWhole shift (in_groups g) packets = AreJudged shift g packets

-- the meter of the run was fed these packets, the committed ones of complete frames or fields; until the first frame or
-- field is complete, they are kept instead
abbrev pub IsTold : {M : Type 0} → Standing M → Media → (shift : Shift) (number : ℕ) → FlowPacket → RunJudge M
    → (fed committed : List FlowPacket) → Type 0
IsTold stands m shift number first (Head packets) fed committed = (fed ≡ []) × (committed ≡ [])
IsTold stands m shift number first (First head group) fed committed = Keeps shift group fed × (committed ≡ [])
IsTold stands m shift number first (Groups judge) fed committed =
    stands judge.meter m shift (run_by number first judge.params.n) fed committed

-- what the output contains of the open run: nothing if it has no complete frame or field
abbrev pub open_part : {M : Type 0} → (number : ℕ) → FlowPacket → RunJudge M → (committed : List FlowPacket)
    → Option OpenPart
open_part number first (Head packets) committed = None
open_part number first (First head group) committed = None
open_part number first (Groups judge) committed =
    Some (record { run = run_by number first judge.params.n; packets = committed })

-- the packets after the first marker, with one packet more
abbrev pub fed_next : SoFar → List FlowPacket → FlowPacket → List FlowPacket
fed_next (in_head head) fed p = []
fed_next (in_first head stamps) fed p = fed ++ p ∷ []
fed_next (in_groups g) fed p = fed ++ p ∷ []

-- the packets of complete frames or fields, with one packet more, which may have the marker
abbrev pub committed_next : SoFar → (marker : Bool) → (fed committed : List FlowPacket) → FlowPacket → List FlowPacket
committed_next (in_head head) marker fed committed p = []
committed_next (in_first head stamps) true fed committed p = fed ++ p ∷ []
committed_next (in_first head stamps) false fed committed p = committed
committed_next (in_groups g) true fed committed p = fed ++ p ∷ []
committed_next (in_groups g) false fed committed p = committed

-- if the last packet has the marker, the packets are complete frames or fields
abbrev pub EndsWhole : SoFar → (marker : Bool) → List FlowPacket → Type 0
EndsWhole (in_head head) marker packets = ⊤
EndsWhole (in_first head stamps) marker packets = ⊤
EndsWhole (in_groups g) true packets = AreWhole g.n packets
EndsWhole (in_groups g) false packets = ⊤

-- the head is that of a run with this first packet
pub record Heads (first : FlowPacket) (head : RunHead) : Type 0 where
  pub rec : head.rec ≡ first.rec
  pub number : head.number ≡ (read_or_zeros first.rtp).number

-- the meter was fed these packets of the run, and its output contains the results of the committed ones and of the runs
-- before
pub record TellsOf {M Out Past : Type 0} (stands : Standing M) (tells : Telling Past Out) (past : Past) (m : Media)
    (shift : Shift) (number : ℕ) (first : FlowPacket) (over : List JudgedPart) (judge : RunJudge M) (out : Out)
    (fed committed : List FlowPacket) : Type 0 where
  pub told : IsTold stands m shift number first judge fed committed
  pub out_tells : tells past out m shift over (open_part number first judge committed)

-- a call took this packet after those fed, and the output contains its results too
abbrev pub TellsNext : {M Out Past T E : Type 0} → Standing M → Telling Past Out → Media → (old new : RunJudge M)
    → (before after : Out) → RunHead → RunPacket → (marker : Bool) → Result T E → Type 0
TellsNext {Past = Past} stands tells m old new before after head told marker result =
    (past : Past) (shift : Shift) (first p : FlowPacket) (over : List JudgedPart) (so_far : SoFar)
    (fed committed : List FlowPacket)
    → CanGoOn m old so_far told.at marker → told ≡ told_of shift p → Heads first head
    → HaveStamps so_far (stamps_of shift fed) → EndsWhole so_far marker (fed ++ p ∷ [])
    → TellsOf stands tells past m shift head.run first over old before fed committed
    → IfOk result (λ _. TellsOf stands tells past m shift head.run first over new after (fed_next so_far fed p)
    (committed_next so_far marker fed committed p))
