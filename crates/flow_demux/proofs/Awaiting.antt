-- What a frame carries of what is awaited.
use Rattle.std.proofs.Common.{◌≡◌, true, List, ℕ, Option, Some, subst}
use Rattle.timing_base.specs.Targets.{target_of}
use Rattle.timing_base.specs.declared.packet.Rtp.{Rtp}
use Rattle.timing_base.specs.declared.target.Target.{Target}
use Rattle.udp_rtp.specs.Awaited.{awaited, carries_awaited, packet_of}
use Rattle.udp_rtp.specs.Carried.{carries}
use Rattle.udp_rtp.proofs.Awaiting.{awaited-carried, packet-awaited}
use Rattle.udp_rtp.proofs.PlainFrames.{IsCarried, carried}
use Rattle.flow_demux.specs.Awaits.{AwaitsExpected}
use Rattle.flow_demux.specs.declared.media_flow.MediaFlow.{MediaFlow}

-- a frame carries the packet that is awaited of a flow, and its taker expects that
pub record IsFound {F : Type 0} (expects : F → Option Rtp) (f : MediaFlow F) (frame : List ℕ) : Type 0 where
  pub packet : Rtp
  pub is : packet_of f.awaited ≡ packet
  pub carried : IsCarried (target_of f.media) packet frame
  pub expected : expects f.taker ≡ Some packet

pub found : {F : Type 0} (expects : F → Option Rtp) (f : MediaFlow F) (frame : List ℕ) → AwaitsExpected expects f
    → carries_awaited (awaited f.awaited) frame ≡ true
    → IsFound expects f frame
found expects f frame h is =
    let (target, p, was, goes) = awaited-carried (awaited f.awaited) frame is in
    let here = h (target, p) was in
    record {
      packet = p;
      is = packet-awaited f.awaited target p was;
      carried = carried (target_of f.media) p frame (subst (λ (t : Target). carries t p frame ≡ true) here.0 goes);
      expected = here.1;
    }
