-- The form in which a packet in a lane keeps its RTP header or parse fault.
use Rattle.std.specs.Prelude.{◌≡◌, ◌<◌, ℕ, Result, Ok, Err, refl}
use Rattle.timing_base.specs.declared.packet.PacketFault.{PacketFault}
use Rattle.timing_base.specs.declared.packet.PacketFault.TheVariants.{Short, Version}
use Rattle.timing_base.specs.declared.packet.Rtp.{Rtp}
use Rattle.ruled_intake.specs.declared.packet.Unread.{Unread}
use Rattle.ruled_intake.specs.declared.packet.Unread.TheVariants.{Short as unread_short, Version as unread_version}

-- the RTP header or parse fault, from the kept form
abbrev pub reading_of : Result Rtp Unread → Result Rtp PacketFault
reading_of (Ok rtp) = Ok rtp
reading_of (Err unread_short) = Err Short
reading_of (Err unread_version) = Err Version

-- the kept form of an RTP header or parse fault
abbrev pub unread_of : Result Rtp PacketFault → Result Rtp Unread
unread_of (Ok rtp) = Ok rtp
unread_of (Err Short) = Err unread_short
unread_of (Err _) = Err unread_version

-- the kept form of what a kept form stands for is that form
pub unread_of-reading_of : (rtp : Result Rtp Unread) → unread_of (reading_of rtp) ≡ rtp
unread_of-reading_of (Ok rtp) = refl
unread_of-reading_of (Err unread_short) = refl
unread_of-reading_of (Err unread_version) = refl
