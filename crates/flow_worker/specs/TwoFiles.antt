-- The messages that two files have to send to two workers, worked by hand: each file has flows of two media. Files,
-- lanes and media count from 0, packet records from 1.
use Rattle.std.specs.Prelude.{ℕ, Bool, false, List, [], ◌∷◌}
use Rattle.timing_base.specs.Media.{Media}
use Rattle.timing_base.specs.Shifts.{no_options}
use Rattle.timing_base.specs.declared.capture.FileNote.TheVariants.{End}
use Rattle.timing_base.specs.declared.target.Target.{Target}
use Rattle.udp_rtp.specs.Examples.{group}
use Rattle.udp_rtp.specs.TwoFlows.{first_capture, next_port, packet_at, second_capture}
use Rattle.timing_base.specs.Keys.{no_media}
use Rattle.ruled_intake.specs.Packets.{Packet, packet_of}
use Rattle.ruled_intake.specs.declared.message.Message.{Message}
use Rattle.flow_worker.specs.Messages.{batch, ending}
use Rattle.flow_worker.specs.Opening.{Addressed, Capture, Setting}

-- a packet of this media with this packet record
abbrev pub packet_in : (media rec : ℕ) → Packet
packet_in media rec = packet_of media (packet_at rec 0)

-- five packets of two media
abbrev pub five_packets : List Packet
five_packets = packet_in 1 1 ∷ packet_in 0 2 ∷ packet_in 0 3 ∷ packet_in 1 4 ∷ packet_in 0 5 ∷ []

-- a message for a lane
abbrev pub to_lane : ℕ → Message → Addressed
to_lane lane message = record { lane = lane; message = message }

-- a media with this target
abbrev pub media_at : Target → Media
media_at target = record {
  line = 1;
  address = target.address;
  port = target.port;
  pt = 96;
  width = 1920;
  height = 1080;
  interlaced = false;
  p = 60;
  q = 1;
  declared = no_media.declared;
  troff = no_media.troff;
  cmax = no_media.cmax;
}

-- two media and two workers, and the files joined or not
abbrev pub two_workers : Bool → Setting
two_workers joined = record {
  media = media_at group ∷ media_at next_port ∷ [];
  workers = 2;
  joined = joined;
  options = no_options;
}

-- five records, the first for the second media and the last two for the first media; and one record for the second
-- media
abbrev pub two_files : List Capture
two_files = record { records = first_capture; note = End } ∷ record { records = second_capture; note = End } ∷ []

-- the messages of the first file for the second worker
abbrev pub second_of_first : List Message
second_of_first = batch 0 (packet_of 1 (packet_at 1 100) ∷ []) ∷ ending 0 End 5 ∷ []

-- the messages of the second file for the second worker
abbrev pub second_of_second : List Message
second_of_second = batch 1 (packet_of 1 (packet_at 1 200) ∷ []) ∷ ending 1 End 1 ∷ []
