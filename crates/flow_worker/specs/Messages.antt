-- The messages that the intake of a file sends to the workers: its packets in batches, and an end. Files and media
-- count from 0, packet records from 1.
use Rattle.std.specs.Prelude.{◌≡◌, ℕ, Bool, false, ◌==◌, if◌then◌else◌, List, [], ◌∷◌, ◌++◌, filter, filter_map}
use Rattle.std.specs.Prelude.{flat_map, Option, Some, None}
use Rattle.std.specs.List.{list_any}
use Rattle.timing_base.specs.declared.capture.FileNote.{FileNote}
use Rattle.timing_base.specs.declared.packet.FlowPacket.{FlowPacket}
use Rattle.ruled_intake.specs.Packets.{Packet, flow_packet}
use Rattle.ruled_intake.specs.declared.message.Message.{Message}
use Rattle.ruled_intake.specs.declared.message.Message.TheVariants.{Batch, End}

-- a message with packets of a file
abbrev pub batch : (file : ℕ) (packets : List Packet) → Message
batch file packets = Batch record { file = file; packets = packets }

-- the message that a file has ended, with the number of its packet records
abbrev pub ending : (file : ℕ) (note : FileNote) (records : ℕ) → Message
ending file note records = End record { file = file; note = note; records = records }

-- the file of a message
abbrev pub file_of : Message → ℕ
file_of (Batch batch) = batch.file
file_of (End end) = end.file

-- the messages of a file, in order
abbrev pub of_file : ℕ → List Message → List Message
of_file file messages = filter (λ m. file_of m == file) messages

-- the first list is a prefix of the second
abbrev pub IsPrefix : List Message → List Message → Type 0
IsPrefix xs whole = (later : List Message) × (xs ++ later ≡ whole)

-- packets of a message
abbrev pub packets_of : Message → List Packet
packets_of (Batch batch) = batch.packets
packets_of (End end) = []

-- packets of messages: those of the batches, in order
abbrev pub packets_in : List Message → List Packet
packets_in messages = flat_map packets_of messages

-- whether a message is an end of the file
abbrev pub is_end_of : ℕ → Message → Bool
is_end_of file (Batch batch) = false
is_end_of file (End end) = end.file == file

-- whether an end of the file is among the messages
abbrev pub has_end : ℕ → List Message → Bool
has_end file messages = list_any (is_end_of file) messages

-- the messages before the first end of the file
abbrev pub before_end : ℕ → List Message → List Message
before_end file [] = []
before_end file (m ∷ ms) = if is_end_of file m then [] else m ∷ before_end file ms

-- packets of a file that come before its first end
abbrev pub file_packets : ℕ → List Message → List Packet
file_packets file messages = packets_in (of_file file (before_end file messages))

-- number of packet records of a file, as its first end has it; 0 without an end
abbrev pub records_told : ℕ → List Message → ℕ
records_told file [] = 0
records_told file (Batch batch ∷ ms) = records_told file ms
records_told file (End end ∷ ms) = if end.file == file then end.records else records_told file ms

-- a packet as one of this media's flow, if it is
abbrev pub media_packet : ℕ → Packet → Option FlowPacket
media_packet media p = if p.media == media then Some (flow_packet p) else None

-- the packets of a media, in order
abbrev pub media_packets : ℕ → List Packet → List FlowPacket
media_packets media packets = filter_map (media_packet media) packets
