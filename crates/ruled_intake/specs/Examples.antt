-- Messages of two senders, for values worked by hand.
use Rattle.std.specs.Prelude.{ℕ, List, [], ◌∷◌, Err}
use Rattle.timing_base.specs.declared.capture.FileNote.TheVariants.{Cut}
use Rattle.timing_base.specs.declared.packet.PacketFault.TheVariants.{Short}
use Rattle.ruled_intake.specs.declared.message.Message.{Message}
use Rattle.ruled_intake.specs.declared.message.Message.TheVariants.{Batch, End}
use Rattle.ruled_intake.specs.declared.rule.Entry.{Entry}
use Rattle.ruled_intake.specs.Lanes.{entry}
use Rattle.ruled_intake.specs.Packets.{Packet}

-- the end of a file that is truncated at this byte
abbrev pub cut_at : (file at : ℕ) → Message
cut_at file at = End record { file = file; note = Cut at; records = 0 }

-- a packet that is too short
abbrev pub short_packet : ℕ → Packet
short_packet rec = record { media = 0; rec = rec; at = 100; rtp = Err Short }

-- two packets of the first file
abbrev pub two_packets : Message
two_packets = Batch record { file = 0; packets = short_packet 1 ∷ short_packet 2 ∷ [] }

-- two packets of sender 0, then a message of sender 1, then the end of the first file
abbrev pub three_entries : List Entry
three_entries = entry 0 two_packets ∷ entry 1 (cut_at 1 24) ∷ entry 0 (cut_at 0 40) ∷ []
