use Rattle.udp_rtp.proofs.PlainFrames.{carried, datagram-carried, packet-carried, reading-carried}
use Rattle.timing_base.specs.Targets.{target_of}
use Rattle.udp_rtp.proofs.laws.carried_is_read.Goals as goal

pub returns : goal.returns
returns c = record {
  datagram = λ target p frame h. datagram-carried target p frame (carried target p frame h);
  read = λ target p frame h. reading-carried target p frame (carried target p frame h);
  packet = λ media p r h. packet-carried media p r (carried (target_of media) p r.bytes h);
}
