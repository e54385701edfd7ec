-- The packet of a flow that is expected next, as the bytes of a frame that carries it.
use Rattle.std.specs.Prelude.{◌≡◌, Some}
use Rattle.timing_base.specs.declared.packet.Rtp.{Rtp}
use Rattle.timing_base.specs.declared.target.Target.{Target}
use Rattle.udp_rtp.specs.Awaited.{awaited}
use Rattle.udp_rtp.specs.declared.awaited.Awaited.{Awaited}

-- the expected packet, if there is one, goes to this target
abbrev pub AwaitsAt : Target → Awaited → Type 0
AwaitsAt target numbers = (t : Target) (p : Rtp) → awaited numbers ≡ Some (t, p) → t ≡ target
