use Rattle.capture_scan.proofs.StreamFlows.{stream-flow}
use Rattle.capture_scan.proofs.laws.streams_are_flows.Goals as goal

pub returns : goal.returns
returns c = stream-flow
