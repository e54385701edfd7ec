use Rattle.std.proofs.Common.{rules}
use Rattle.flow_worker.proofs.Outgoing.{none-more}
use Rattle.flow_worker.proofs.outboxes.open_batches.Goals as goal

pub lanes-preserved : goal.lanes-preserved
lanes-preserved c = record {
  long = search rules;
  none = none-more c.lanes.batches.items c.push.new.self.items c.in_ok-new.field-0 c.lanes.invariant.none c.in_ok-new.ensures c.in_ok-push.ensures.items;
}
