-- The packets that are added to two flows that are compared.
use Rattle.std.specs.Prelude.{Bool, if◌then◌else◌, List, [], ◌++◌}
use Rattle.timing_base.specs.Captures.{Record}
use Rattle.timing_base.specs.Media.{Media}
use Rattle.timing_base.specs.declared.packet.FlowPacket.{FlowPacket}
use Rattle.path_skew.specs.Stands.{StandsFor}
use Rattle.path_skew.specs.declared.skew.Skew.{Skew}
use Rattle.udp_rtp.specs.Flow.{flow}

-- these packets were taken after those before, of either flow
abbrev pub Adds : (old new : Skew) → (first second : List FlowPacket) → Type 0
Adds old new first second = (f g : List FlowPacket) → StandsFor old f g → StandsFor new (f ++ first) (g ++ second)

-- the flow of a media if it is taken, else no packet
abbrev pub taken_of : Bool → Media → List Record → List FlowPacket
taken_of takes m items = if takes then flow items m else []
