-- The output of the meters of a flow's runs, by the packets that the flow's judge was fed. Packets count from 0, runs
-- from 1.
use Rattle.std.specs.Prelude.{◌≡◌, ℕ, ⊤, List, [], ◌∷◌, ◌++◌, length, Option, Some, None, Result, OnOk}
use Rattle.timing_base.specs.Numbered.{numbered}
use Rattle.timing_base.specs.Shifts.{FlowOptions, Shift}
use Rattle.frame_group.specs.Expected.{next_packet}
use Rattle.timing_base.specs.Flows.{FirstFault, first_fault, first_fault_below}
use Rattle.timing_base.specs.Media.{Media}
use Rattle.timing_base.specs.declared.key.FlowKey.{FlowKey}
use Rattle.timing_base.specs.declared.packet.FlowPacket.{FlowPacket}
use Rattle.timing_base.specs.declared.packet.PacketFault.{PacketFault}
use Rattle.fail_interval.specs.Metered.{Standing, Telling}
use Rattle.fail_interval.specs.Parts.{judged_parts, open_before, parts_before, sound_before}
use Rattle.fail_interval.specs.Stands.{StandsFor}
use Rattle.fail_interval.specs.States.{StandsFor as StateStandsFor}
use Rattle.fail_interval.specs.Telling.{Tells}
use Rattle.fail_interval.specs.declared.judge.FlowJudge.{FlowJudge}
use Rattle.fail_interval.specs.declared.judge.State.{State}
use Rattle.fail_interval.specs.declared.judge.State.TheVariants.{Going, Refused, Spent}

-- the output contains the results of the first n packets of a flow, up to the first fault: of the judged runs that have
-- ended, and of the complete frames or fields of the open one
abbrev pub TellsSoFar : {Past Out : Type 0} → Telling Past Out → Past → Media → (shift : Shift) → List FlowPacket
    → (n : ℕ)
    → Out → Type 0
TellsSoFar tells past m shift packets n out =
    let sound = sound_before (first_fault_below packets m.pt n) n in
    tells past out m shift (parts_before m packets shift sound) (open_before packets shift sound)

-- the output of a flow that has ended contains its judged runs; if a packet has a fault, what it contained before the
-- first such packet
abbrev pub TellsEnd : {Past Out : Type 0} → Telling Past Out → Past → Media → (shift : Shift) → List FlowPacket
    → Option FirstFault → Out → Type 0
TellsEnd tells past m shift packets None out = tells past out m shift (judged_parts m packets shift) None
TellsEnd tells past m shift packets (Some first) out =
    tells past out m shift (parts_before m packets shift first.index) (open_before packets shift first.index)

-- the meters of a flow's runs were fed these packets, and the output contains their results, whatever packets follow
abbrev pub StateTells : {M Out Past : Type 0} → Standing M → Telling Past Out → Past → Media → (shift : Shift)
    → List FlowPacket → State M → Out → Type 0
StateTells stands tells past m shift packets (Going flow) out = Tells stands tells past m shift packets flow.open out
StateTells stands tells past m shift packets (Refused rec fault) out =
    (rest : List FlowPacket) → TellsSoFar tells past m shift (packets ++ rest) (length packets) out
StateTells stands tells past m shift packets Spent out = ⊤

-- the output of a flow that has ended satisfies `TellsEnd` by the first fault of all packets of the flow
abbrev pub TellsOfAll : {Past Out : Type 0} → Telling Past Out → Past → Media → FlowOptions → List FlowPacket → Out
    → Type 0
TellsOfAll tells past m options packets out =
    let judged = numbered options.seq16 packets in
    TellsEnd tells past m options.shift judged (first_fault judged m.pt) out

-- the meters of a judge were fed the packets that the judge was fed, and the output contains their results, as far as
-- later calls show
abbrev pub JudgeTells : {M Out Past : Type 0} → Standing M → Telling Past Out → Past → Media → FlowOptions
    → List FlowPacket → FlowJudge M → Out → Type 0
JudgeTells stands tells past m options packets judge out =
    StateTells stands tells past m options.shift (numbered options.seq16 packets) judge.state out

-- a call took this packet, with its judged number, after `fed` ones, and the output contains its results too; after a
-- fault the output stays
pub record StateTellsTaken {M Out Past T E : Type 0} (stands : Standing M) (tells : Telling Past Out) (fed : ℕ)
    (old new : State M) (before after : Out) (next : FlowPacket) (result : Result T E) : Type 0 where
  pub told : (past : Past) (m : Media) (shift : Shift) (packets : List FlowPacket)
      → StateStandsFor m shift fed packets old → StateTells stands tells past m shift packets old before
      → OnOk result (StateTells stands tells past m shift (packets ++ next ∷ []) new after)
  pub refused : (rec : ℕ) (fault : PacketFault) → old ≡ Refused rec fault → after ≡ before

-- a call took this packet, the next of the flow, after those fed, and the output contains its results too
abbrev pub TellsTaken : {M Out Past T E : Type 0} → Standing M → Telling Past Out → (old new : FlowJudge M)
    → (before after : Out) → FlowPacket → Result T E → Type 0
TellsTaken {Past = Past} stands tells old new before after next result =
    (past : Past) (m : Media) (key : FlowKey) (options : FlowOptions) (packets : List FlowPacket)
    → StandsFor m key options old packets
    → JudgeTells stands tells past m options packets old before
    → OnOk result (JudgeTells stands tells past m options (packets ++ next ∷ []) new after)

-- a call took the expected packet, with this packet record and at this instant; the output is unchanged, and is right
-- for this packet too
abbrev pub TellsGoingOn : {M Out Past : Type 0} → Standing M → Telling Past Out → (old new : FlowJudge M)
    → (rec at : ℕ) → Type 0
TellsGoingOn {Out = Out} {Past = Past} stands tells old new rec at =
    (past : Past) (out : Out) (m : Media) (key : FlowKey) (options : FlowOptions) (packets : List FlowPacket)
    → StandsFor m key options old packets
    → JudgeTells stands tells past m options packets old out
    → JudgeTells stands tells past m options (packets ++ next_packet packets m.pt rec at ∷ []) new out
