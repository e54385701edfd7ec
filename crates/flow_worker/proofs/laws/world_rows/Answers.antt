use Rattle.std.proofs.Common.{length}
use Rattle.flow_worker.proofs.Posting.{taken_row_is}
use Rattle.flow_worker.proofs.Rows.{ended_once, run_kept}
use Rattle.flow_worker.proofs.Steps.{opening_in_order, step_keeps}
use Rattle.flow_worker.proofs.laws.world_rows.Goals as goal

pub returns : goal.returns
returns c = record {
  opens = opening_in_order;
  keeps = λ s captures step state. step_keeps s captures (length captures) step state;
  rows = λ s captures steps is. (run_kept s captures steps is).rows;
  ended = ended_once;
  lists = taken_row_is;
}
