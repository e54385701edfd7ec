-- Small flows for examples worked by hand, with payload type 96 and source 7, and a plain video.
use Rattle.std.specs.Prelude.{ℕ, Bool, true, false, List, [], ◌∷◌, Option, Some, None, Ok, Err}
use Rattle.timing_base.specs.Addresses.{ipv4}
use Rattle.timing_base.specs.Captures.{Record}
use Rattle.timing_base.specs.Judged.{RunOutcome, whole_frames}
use Rattle.timing_base.specs.Media.{Media}
use Rattle.timing_base.specs.Shifts.{FlowOptions}
use Rattle.timing_base.specs.declared.media.Kind.{Kind}
use Rattle.timing_base.specs.declared.media.Kind.TheVariants.{N}
use Rattle.timing_base.specs.declared.packet.FlowPacket.{FlowPacket}
use Rattle.timing_base.specs.declared.packet.PacketFault.{PacketFault}

-- a packet by packet record, capture timestamp, packet number, RTP timestamp and marker
abbrev pub sent : ℕ → ℕ → ℕ → ℕ → Bool → FlowPacket
sent rec at number timestamp marker = record {
  rec = rec;
  at = at;
  rtp = Ok record { number = number; timestamp = timestamp; marker = marker; pt = 96; ssrc = 7 };
}

-- such a packet from another source
abbrev pub sent_by : ℕ → ℕ → ℕ → ℕ → ℕ → Bool → FlowPacket
sent_by ssrc rec at number timestamp marker = record {
  rec = rec;
  at = at;
  rtp = Ok record { number = number; timestamp = timestamp; marker = marker; pt = 96; ssrc = ssrc };
}

-- such a packet with another payload type
abbrev pub sent_as : ℕ → ℕ → ℕ → ℕ → ℕ → Bool → FlowPacket
sent_as pt rec at number timestamp marker = record {
  rec = rec;
  at = at;
  rtp = Ok record { number = number; timestamp = timestamp; marker = marker; pt = pt; ssrc = 7 };
}

-- a packet record without bytes
abbrev pub captured : (number stamp : ℕ) → Record
captured number stamp = record { number = number; stamp = stamp; bytes = [] }

-- a packet that could not be read
abbrev pub unread : ℕ → ℕ → PacketFault → FlowPacket
unread rec at fault = record { rec = rec; at = at; rtp = Err fault }

-- a head of one packet, two frames of two packets, and a tail of one
abbrev pub two_groups : List FlowPacket
two_groups =
    sent 1 10 6 100 true ∷ sent 2 20 7 101 false ∷ sent 3 30 8 101 true ∷ sent 4 40 9 102 false ∷ sent 5 50 10 102 true
    ∷ sent 6 60 11 103 false ∷ []

-- three packets, of which the first alone has the marker; the numbers 8 and 65,544 have equal low halves
abbrev pub equal_low_halves : List FlowPacket
equal_low_halves = sent 1 10 6 100 true ∷ sent 2 20 7 101 false ∷ sent 3 30 65544 101 false ∷ []

-- what is judged of this many frames of two packets, with a head and a tail of one packet each
abbrev pub judged_twos : (groups : ℕ) (stamps : List ℕ) → RunOutcome
judged_twos groups stamps = whole_frames record { n = 2; groups = groups; head = 1; tail = 1; stamps = stamps }

-- a video of 1080 lines to 239.0.0.1:50000, at p frames per second
abbrev pub video : (interlaced : Bool) (p : ℕ) (declared : Option Kind) (cmax : Option ℕ) → Media
video interlaced p declared cmax = record {
  line = 5;
  address = ipv4 239 0 0 1;
  port = 50000;
  pt = 96;
  width = 1920;
  height = 1080;
  interlaced = interlaced;
  p = p;
  q = 1;
  declared = declared;
  troff = None;
  cmax = cmax;
}

-- the media of the plain description: progressive, at 50 frames per second, declared narrow
abbrev pub plain_media : Media
plain_media = video false 50 (Some N) None

-- the options with this many seconds added to each capture timestamp
abbrev pub seconds_added : ℕ → FlowOptions
seconds_added tai = record { shift = record { tai = tai; delay = 0 }; seq16 = false }

-- the options by which packets are numbered by their sequence numbers alone
abbrev pub by_sequence_numbers : FlowOptions
by_sequence_numbers = record { shift = record { tai = 0; delay = 0 }; seq16 = true }
