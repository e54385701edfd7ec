-- The packets of a capture by their spacing. A group is a frame or a field.
use Rattle.std.specs.Prelude.{ℕ, ◌+◌, ◌*◌, ◌==◌, ◌&&◌, nat_lt, Bool, if◌then◌else◌}
use Rattle.capture_gen.specs.declared.packet.Packet.{Packet}
use Rattle.capture_gen.specs.declared.examples.spread.Spread.{Spread}

-- the packet comes together with packet 0 of its group
abbrev pub is_bunched : Spread → ℕ → ℕ → Bool
is_bunched s group place = (group == s.bunched) && nat_lt place s.at_once

-- the capture timestamp of a packet of a group, in nanoseconds
abbrev pub instant : Spread → ℕ → ℕ → ℕ
instant s group place = 1600000000 * 1000000000 + s.first + s.group_nanos * group
    + (if is_bunched s group place then 0 else s.packet_nanos * place)

-- a packet of a group; the RTP timestamp rises by 1,800 ticks with each group, and the packet before the groups has
-- number 0
abbrev pub packet_at : Spread → ℕ → ℕ → Packet
packet_at s group place = record {
  at = instant s group place;
  timestamp = 1800 * (group + 1);
  marker = place + 1 == s.packets;
  number = 1 + s.packets * group + place;
}
