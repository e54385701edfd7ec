-- The packet that is awaited of a media's flow: none, or the packet that its taker expects, with the target of the
-- media.
use Rattle.std.specs.Prelude.{◌≡◌, Option, Some}
use Rattle.std.specs.Option.{ForSome}
use Rattle.timing_base.specs.Targets.{target_of}
use Rattle.timing_base.specs.declared.packet.Rtp.{Rtp}
use Rattle.timing_base.specs.declared.target.Target.{Target}
use Rattle.udp_rtp.specs.Awaited.{awaited}
use Rattle.flow_demux.specs.declared.media_flow.MediaFlow.{MediaFlow}

-- what is awaited, if anything, is the expected packet with this target
abbrev pub IsAwaited : Option (Target × Rtp) → Target → Option Rtp → Type 0
IsAwaited o target expected = ForSome o (λ (both : Target × Rtp). (both.0 ≡ target) × (expected ≡ Some both.1))

-- what is awaited of the flow, if anything, is the packet that its taker expects, with the target of its media
abbrev pub AwaitsExpected : {F : Type 0} → (expects : F → Option Rtp) → MediaFlow F → Type 0
AwaitsExpected expects f = IsAwaited (awaited f.awaited) (target_of f.media) (expects f.taker)
