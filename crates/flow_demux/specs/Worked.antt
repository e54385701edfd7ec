-- A taker that keeps the packets of its flow, for values worked by hand.
use Rattle.std.specs.Prelude.{◌≡◌, List, ◌++◌}
use Rattle.timing_base.specs.Captures.{Record}
use Rattle.timing_base.specs.Media.{Media}
use Rattle.timing_base.specs.declared.packet.FlowPacket.{FlowPacket}
use Rattle.udp_rtp.specs.Flow.{flow}

-- the packets of this media in these records were appended to the packets kept before
abbrev pub Keeps : Media → (old new : List FlowPacket) → List Record → Type 0
Keeps m old new items = new ≡ old ++ flow items m
