use Rattle.flow_worker.proofs.Whole.{lane_flow, messages_whole}
use Rattle.flow_worker.proofs.laws.lanes_in_order.Goals as goal

pub returns : goal.returns
returns c = record { whole = messages_whole; flows = lane_flow }
