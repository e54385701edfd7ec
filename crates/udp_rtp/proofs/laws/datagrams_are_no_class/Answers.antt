use Rattle.udp_rtp.proofs.Classes.{datagram-broken}
use Rattle.udp_rtp.proofs.laws.datagrams_are_no_class.Goals as goal

pub returns : goal.returns
returns c = datagram-broken
