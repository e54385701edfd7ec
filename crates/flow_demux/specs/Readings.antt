-- The results of parsing a packet.
use Rattle.std.specs.Prelude.{◌≡◌, ⊤, Result, Ok, Err, ◌⊎◌}
use Rattle.timing_base.specs.declared.packet.PacketFault.{PacketFault}
use Rattle.timing_base.specs.declared.packet.PacketFault.TheVariants.{Short, Version}
use Rattle.timing_base.specs.declared.packet.Rtp.{Rtp}

-- a packet that couldn't be parsed is too short, or of another RTP version
abbrev pub IsReading : Result Rtp PacketFault → Type 0
IsReading (Ok rtp) = ⊤
IsReading (Err fault) = (fault ≡ Short) ⊎ (fault ≡ Version)
