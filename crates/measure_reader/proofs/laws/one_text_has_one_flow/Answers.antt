use Rattle.measure_reader.proofs.Flows.{same_flows, same_runs}
use Rattle.measure_reader.proofs.laws.one_text_has_one_flow.Goals as goal

pub returns-clause-flows : goal.returns-clause-flows
returns-clause-flows c = same_flows

pub returns-clause-runs : goal.returns-clause-runs
returns-clause-runs c = same_runs
