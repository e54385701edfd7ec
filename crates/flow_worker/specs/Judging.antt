-- The packets that the judges of a worker were fed. Files, media and workers count from 0.
use Rattle.std.specs.Prelude.{◌≡◌, ◌≤◌, ◌+◌, ◌^◌, ◌==◌, ℕ, Bool, true, false, ⊤, List, [], ◌∷◌, ◌++◌, All}
use Rattle.std.specs.Prelude.{if◌then◌else◌, flat_map, length, map, Option, Some, None, Result, Ok, Err}
use Rattle.timing_base.specs.declared.key.FlowKey.{FlowKey}
use Rattle.timing_base.specs.declared.packet.FlowPacket.{FlowPacket}
use Rattle.timing_base.specs.declared.packet.PacketFault.{PacketFault}
use Rattle.timing_base.specs.declared.packet.Rtp.{Rtp}
use Rattle.timing_base.specs.Keys.{key_of, media_of}
use Rattle.fail_interval.specs.Stands.{StandsFor, count_fed}
use Rattle.fail_interval.specs.Taken.{IsExpected}
use Rattle.fail_interval.specs.declared.judge.FlowJudge.{FlowJudge}
use Rattle.ruled_intake.specs.Messages.{Batch}
use Rattle.ruled_intake.specs.Packets.{Packet}
use Rattle.flow_worker.specs.Messages.{media_packets}
use Rattle.flow_worker.specs.Opening.{Setting}
use Rattle.flow_worker.specs.Posting.{key_lane, raised_packet}
use Rattle.flow_worker.specs.declared.judges.Judges.{Judges}

-- a judge without meters
abbrev pub PlainJudge : Type 0
PlainJudge = FlowJudge (Unit {0})

-- each value satisfies the relation to its number; the first one has the number `first`
abbrev pub EachFrom : {X : Type 0} → (ℕ → X → Type 0) → (first : ℕ) → List X → Type 0
EachFrom P first [] = ⊤
EachFrom P first (x ∷ xs) = P first x × EachFrom P (first + 1) xs

-- whether a flow is dealt to this worker
abbrev pub is_own : Setting → (worker : ℕ) → FlowKey → Bool
is_own s worker key = key_lane s key == worker

-- the place of a flow has a judge that was fed these packets if the flow is the worker's own, and else none
abbrev pub IsPlace : Setting → (worker : ℕ) → FlowKey → List FlowPacket → Option PlainJudge → Type 0
IsPlace s worker key packets None = is_own s worker key ≡ false
IsPlace s worker key packets (Some judge) = (is_own s worker key ≡ true)
    × StandsFor (media_of s.media key) key s.options judge packets

-- the judges of a file are those of a worker's own flows, and each was fed the packets that `fed` gives for its flow
pub record AreFed (s : Setting) (worker file : ℕ) (fed : FlowKey → List FlowPacket) (judges : Judges) : Type 0 where
  pub count : length judges.places.items ≡ length s.media
  pub each : EachFrom (λ number. IsPlace s worker (key_of file number) (fed (key_of file number))) 0 judges.places.items

-- the packets that each flow was fed, and then its own of these packets, with `before` added to their packet records
abbrev pub with_packets : (before : ℕ) → List Packet → (FlowKey → List FlowPacket) → FlowKey → List FlowPacket
with_packets before packets fed key = fed key ++ map (raised_packet before) (media_packets key.media packets)

-- the judges were fed exactly these packets, after those before
abbrev pub Feeds : (before : ℕ) → List Packet → (old new : Judges) → Type 0
Feeds before packets old new = (s : Setting) (worker file : ℕ) (fed : FlowKey → List FlowPacket)
    → AreFed s worker file fed old
    → AreFed s worker file (with_packets before packets fed) new

-- number of packets that the judge at a place was fed
abbrev pub fed_at : Option PlainJudge → ℕ
fed_at None = 0
fed_at (Some judge) = count_fed judge

-- each judge may be fed `more` packets
abbrev pub HaveRoom : ℕ → Judges → Type 0
HaveRoom more judges = All (λ place. fed_at place + more ≤ 2 ^ 41) judges.places.items

-- the parsed packet is the one that the judge expects
abbrev pub Expects : PlainJudge → Result Rtp PacketFault → Type 0
Expects judge (Ok rtp) = IsExpected judge rtp
Expects judge (Err fault) = ⊥

-- the flows of the file are dealt out by its own number; if files are joined, it is file 0
abbrev pub IsDealt : (joined : Bool) → (file : ℕ) → Type 0
IsDealt joined file = (if joined then 0 else file) ≡ file

-- the packets of batches, in order
abbrev pub batched : List Batch → List Packet
batched batches = flat_map (λ (batch : Batch). batch.packets) batches
