-- The messages that the intakes have to send when a run begins: the packets of each file, divided in order into batches
-- for each lane, and an end for each lane. There is a lane for each worker. Files, lanes and media count from 0.
use Rattle.std.specs.Prelude.{◌≤◌, ℕ, zero, suc, Bool, ◌==◌, ◌+◌, ◌-◌, ◌%◌, if◌then◌else◌, List, [], ◌∷◌, ◌++◌, length}
use Rattle.std.specs.Prelude.{drop, map, filter, filter_map, slice_get, Option, Some, None}
use Rattle.timing_base.specs.Captures.{Record}
use Rattle.timing_base.specs.Media.{Media}
use Rattle.timing_base.specs.Routes.{route}
use Rattle.timing_base.specs.Shifts.{FlowOptions}
use Rattle.timing_base.specs.Targets.{HaveOwnTargets}
use Rattle.timing_base.specs.declared.capture.FileNote.{FileNote}
use Rattle.timing_base.specs.declared.key.FlowKey.{FlowKey}
use Rattle.timing_base.specs.declared.packet.FlowPacket.{FlowPacket}
use Rattle.udp_rtp.specs.Flow.{flow_packet}
use Rattle.timing_base.specs.Keys.{key_of}
use Rattle.ruled_intake.specs.Packets.{Packet, packet_of}
use Rattle.ruled_intake.specs.declared.message.Message.{Message}
use Rattle.flow_worker.specs.Messages.{batch, ending}

-- a file of a run: its packet records, and how they end
pub record Capture : Type 0 where
  pub records : List Record
  pub note : FileNote

-- the setting of a run
pub record Setting : Type 0 where
  -- media of the session
  pub media : List Media
  -- number of workers
  pub workers : ℕ
  -- whether the files are judged as one
  pub joined : Bool
  -- how the packets of its flows are timed and numbered
  pub options : FlowOptions

-- there is a worker, and no two media of the session have the same target
pub record IsSetting (s : Setting) : Type 0 where
  pub some : 1 ≤ s.workers
  pub targets : HaveOwnTargets s.media

-- a packet with the number of its media, or else the packet of a later media
abbrev pub numbered_or : ℕ → Option FlowPacket → Option Packet → Option Packet
numbered_or number (Some packet) later = Some (packet_of number packet)
numbered_or number None later = later

-- the packet of a record for the first of these media to which it goes; the first media has this number
abbrev pub packet_from : (number : ℕ) → List Media → Record → Option Packet
packet_from number [] r = None
packet_from number (m ∷ ms) r = numbered_or number (flow_packet m r) (packet_from (number + 1) ms r)

-- packets of a file: its records that go to a media of the session, in order
abbrev pub session_packets : List Media → List Record → List Packet
session_packets media records = filter_map (packet_from 0 media) records

-- key by which a flow is dealt out: joined files are one
abbrev pub dealt_key : Setting → (file media : ℕ) → FlowKey
dealt_key s file media = key_of (if s.joined then 0 else file) media

-- lane of the packets of a media in a file
abbrev pub media_lane : Setting → (file media : ℕ) → ℕ
media_lane s file media = route (dealt_key s file media) (length s.media) s.workers

-- lane of a packet of a file
abbrev pub packet_lane : Setting → (file : ℕ) → Packet → ℕ
packet_lane s file p = media_lane s file p.media

-- packets of one lane, in order
abbrev pub lane_packets : (Packet → ℕ) → ℕ → List Packet → List Packet
lane_packets lane w packets = filter (λ p. lane p == w) packets

-- the last of these packets, which don't fill a batch, if they are divided in order into batches of one size
abbrev pub rest : (size : ℕ) → List Packet → List Packet
rest size packets = drop (length packets - length packets % size) packets

-- the batch that the last of these packets fills, if it fills one
abbrev pub filled : (size : ℕ) → List Packet → List (List Packet)
filled size packets = if length packets % size == 0 then drop (length packets - size) packets ∷ [] else []

-- the packets as a list of one batch, unless there are none
abbrev pub unless_empty : List Packet → List (List Packet)
unless_empty [] = []
unless_empty (p ∷ ps) = (p ∷ ps) ∷ []

-- a message, and the lane for which it is
pub record Addressed : Type 0 where
  pub lane : ℕ
  pub message : Message

-- a batch of a file for a lane
abbrev pub addressed : (file lane : ℕ) → List Packet → Addressed
addressed file lane packets = record { lane = lane; message = batch file packets }

-- the full batches of a file, in the order of their last packets, after these packets before
abbrev pub full_batches : (size file : ℕ) → (Packet → ℕ) → (before : List Packet) → List Packet → List Addressed
full_batches size file lane before [] = []
full_batches size file lane before (p ∷ ps) =
    map (addressed file (lane p)) (filled size (lane_packets lane (lane p) (before ++ p ∷ [])))
    ++ full_batches size file lane (before ++ p ∷ []) ps

-- the packets that don't fill a batch, if any, for each lane below `lanes`, in order
abbrev pub last_batches : (size file : ℕ) → (Packet → ℕ) → List Packet → (lanes : ℕ) → List Addressed
last_batches size file lane packets zero = []
last_batches size file lane packets (suc w) =
    last_batches size file lane packets w
    ++ map (addressed file w) (unless_empty (rest size (lane_packets lane w packets)))

-- one message for each lane below `lanes`, in order
abbrev pub to_each : Message → (lanes : ℕ) → List Addressed
to_each message zero = []
to_each message (suc w) = to_each message w ++ record { lane = w; message = message } ∷ []

-- all messages for the packets of a file: full batches, the packets left, and the ends
abbrev pub sent_of : (size file : ℕ) → (Packet → ℕ) → List Packet → (lanes : ℕ) → Message → List Addressed
sent_of size file lane packets lanes end =
    full_batches size file lane [] packets ++ (last_batches size file lane packets lanes ++ to_each end lanes)

-- all messages that the intake of a file has to send
abbrev pub file_sends : (size : ℕ) → Setting → (file : ℕ) → Capture → List Addressed
file_sends size s file c =
    sent_of size file (packet_lane s file) (session_packets s.media c.records) s.workers
    (ending file c.note (length c.records))

-- all messages of a file, if it exists
abbrev pub sends_if : (size : ℕ) → Setting → (file : ℕ) → Option Capture → List Addressed
sends_if size s file None = []
sends_if size s file (Some c) = file_sends size s file c

-- all messages of a file of these captures
abbrev pub sends : (size : ℕ) → Setting → List Capture → (file : ℕ) → List Addressed
sends size s captures file = sends_if size s file (slice_get captures file)

-- a message, if it is for this lane
abbrev pub message_for : ℕ → Addressed → Option Message
message_for w a = if a.lane == w then Some a.message else None

-- messages for a lane, in order
abbrev pub for_lane : ℕ → List Addressed → List Message
for_lane w sends = filter_map (message_for w) sends

-- messages of a file for a lane, in batches of at most 256 packets
abbrev pub messages : Setting → List Capture → (file lane : ℕ) → List Message
messages s captures file lane = for_lane lane (sends 256 s captures file)
