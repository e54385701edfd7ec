-- The packets that the meters of a flow's runs were fed, and the contents of their output. Packets count from 0, runs
-- from 1.
use Rattle.std.specs.Prelude.{◌≡◌, ◌+◌, ℕ, List, [], ◌∷◌, ◌++◌, length, slice_range, Option, Some, None}
use Rattle.timing_base.specs.Shifts.{Shift}
use Rattle.frame_group.specs.Expected.{next_packet}
use Rattle.timing_base.specs.Flows.{cuts, last_place, markers, packet}
use Rattle.timing_base.specs.Media.{Media}
use Rattle.timing_base.specs.declared.packet.FlowPacket.{FlowPacket}
use Rattle.run_meter.specs.Runs.{JudgedPart}
use Rattle.fail_interval.specs.Flowing.{CanGoOn}
use Rattle.fail_interval.specs.Metered.{HaveWhole, IsTold, Standing, Telling, TellsOf}
use Rattle.fail_interval.specs.Parts.{judged_packets, open_at, part_by, parts_over}
use Rattle.fail_interval.specs.Runs.{StandsFor as RunStandsFor}
use Rattle.fail_interval.specs.SoFar.{SoFar, outcome_of}
use Rattle.fail_interval.specs.declared.flow.Flow.{Flow}
use Rattle.fail_interval.specs.declared.flow.OpenRun.{OpenRun}

-- the packets after the first of these markers and before packet `to`
abbrev pub behind_first : List FlowPacket → (to : ℕ) → List ℕ → List FlowPacket
behind_first packets to [] = []
behind_first packets to (first ∷ rest) = slice_range packets (first + 1) to

-- the meter of the open run was fed the packets after its first marker and before packet n, with gaps at these places;
-- the output contains the results of the runs that have ended and of the open one
pub record TellsBy {M Out Past : Type 0} (stands : Standing M) (tells : Telling Past Out) (past : Past) (m : Media)
    (shift : Shift) (packets : List FlowPacket) (places : List ℕ) (n : ℕ) (open_run : OpenRun M)
    (out : Out) : Type 0 where
  pub told : IsTold stands m shift (length places + 1) (packet packets (last_place (0 ∷ places))) open_run.judge
      (behind_first packets n (markers packets (last_place (0 ∷ places)) n))
      (judged_packets packets (last_place (0 ∷ places)) n)
  pub out_tells : tells past out m shift (parts_over m packets shift 1 0 places) (open_at packets shift places n)

-- before packet n of a flow, the open run's meter and the output satisfy `TellsBy`; before the first packet no run is
-- open
abbrev pub TellsAt : {M Out Past : Type 0} → Standing M → Telling Past Out → Past → Media → (shift : Shift)
    → List FlowPacket → (n : ℕ) → Option (OpenRun M) → Out → Type 0
TellsAt stands tells past m shift packets n None out = tells past out m shift [] None
TellsAt stands tells past m shift packets n (Some open_run) out =
    TellsBy stands tells past m shift packets (cuts packets n) n open_run out

-- after these packets of a flow, the open run's meter and the output satisfy `TellsAt`, whatever packets follow
abbrev pub Tells : {M Out Past : Type 0} → Standing M → Telling Past Out → Past → Media → (shift : Shift)
    → List FlowPacket → Option (OpenRun M) → Out → Type 0
Tells stands tells past m shift packets open_run out =
    (rest : List FlowPacket) → TellsAt stands tells past m shift (packets ++ rest) (length packets) open_run out

-- after the packets that the flow was fed, its open run's meter and the output satisfy `Tells`
abbrev pub FlowTells : {M Out Past : Type 0} → Standing M → Telling Past Out → Past → Flow M → List FlowPacket → Out
    → Type 0
FlowTells stands tells past flow packets out = Tells stands tells past flow.media flow.shift packets flow.open out

-- the flow took this packet after those before, and the output contains its results too
abbrev pub TellsTook : {M Out Past : Type 0} → Standing M → Telling Past Out → (old new : Flow M)
    → (before after : Out) → FlowPacket → Type 0
TellsTook {Past = Past} stands tells old new before after next =
    (past : Past) (packets : List FlowPacket) → CanGoOn old packets next.at
    → FlowTells stands tells past old packets before → FlowTells stands tells past new (packets ++ next ∷ []) after

-- the flow took the expected packet, with this packet record and at this instant; the output is unchanged, and is right
-- for this packet too
abbrev pub TellsExpected : {M Out Past : Type 0} → Standing M → Telling Past Out → (old new : Flow M) → (rec at : ℕ)
    → Type 0
TellsExpected {Out = Out} {Past = Past} stands tells old new rec at =
    (past : Past) (out : Out) (packets : List FlowPacket) → CanGoOn old packets at
    → FlowTells stands tells past old packets out
    → FlowTells stands tells past new (packets ++ next_packet packets old.media.pt rec at ∷ []) out

-- a run has ended: the output contains its result too
abbrev pub TellsOver : {M Out Past : Type 0} → Standing M → Telling Past Out → OpenRun M → (before after : Out)
    → Type 0
TellsOver {Past = Past} stands tells open_run before after =
    (past : Past) (m : Media) (shift : Shift) (number : ℕ) (first : FlowPacket) (over : List JudgedPart)
    (so_far : SoFar)
    (fed committed : List FlowPacket) → RunStandsFor m open_run.judge so_far → HaveWhole shift so_far committed
    → TellsOf stands tells past m shift number first over open_run.judge before fed committed
    → tells past after m shift (over ++ part_by m number first committed (outcome_of so_far)) None

-- the open run has ended, if there is one: the output contains its result too
abbrev pub TellsClosed : {M Out Past : Type 0} → Standing M → Telling Past Out → Option (OpenRun M)
    → (before after : Out) → Type 0
TellsClosed stands tells None before after = after ≡ before
TellsClosed stands tells (Some open_run) before after = TellsOver stands tells open_run before after
