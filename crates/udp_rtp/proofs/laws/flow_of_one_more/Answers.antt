use Rattle.udp_rtp.proofs.Flows.{flow-append, flow-append_some, flow-append_none}
use Rattle.udp_rtp.proofs.laws.flow_of_one_more.Goals as goal

pub returns : goal.returns
returns c = record { append = flow-append; kept = flow-append_some; passed_over = flow-append_none }
