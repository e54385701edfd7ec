use Rattle.std.proofs.Common.{ℕ, List, map}
use Rattle.std.specs.Prelude.{All}
use Rattle.timing_base.specs.declared.key.FlowKey.{FlowKey}
use Rattle.timing_base.specs.declared.packet.FlowPacket.{FlowPacket}
use Rattle.verdict_book.specs.Receipts.{IsOf, row_of}
use Rattle.flow_worker.specs.Opening.{Setting}
use Rattle.flow_worker.specs.Judging.{AreFed}
use Rattle.flow_worker.proofs.Posted.{HasRows}
use Rattle.flow_worker.proofs.judges.Judges.post.Given as goal

abbrev pub invariant-loop-judge : goal.invariant-loop-judge
invariant-loop-judge g l =
    (goal.iterator-loop-judge g).can_next l.judge-iterator ×
    (goal.iterator-loop-judge g).is_finite l.judge-iterator × record {
      posted : All (IsOf l.book) l.fn.receipts.items → All (IsOf l.book) l.receipts.items;
      rows : (s : Setting) (worker file : ℕ) (fed : FlowKey → List FlowPacket) → AreFed s worker file fed l.fn.self
          → HasRows s worker file fed (map row_of l.fn.receipts.items) (map row_of l.receipts.items) l.judge-iterator.rest.items;
    }
