use Rattle.std.proofs.Common.{drop, length, take}
use Rattle.flow_worker.specs.Judging.{Feeds, HaveRoom, batched}
use Rattle.flow_worker.proofs.judges.Judges.take_batches.Given as goal

abbrev pub invariant-loop-batch : goal.invariant-loop-batch
invariant-loop-batch l = record {
  feeds : Feeds l.before (batched (take l.batch-index l.batch-items)) l.fn.self l.self;
  room : HaveRoom (length (batched (drop l.batch-index l.batch-items))) l.self;
}
