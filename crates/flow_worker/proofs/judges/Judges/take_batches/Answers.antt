use Rattle.std.proofs.Common.{rules, ◌≡◌, ◌<◌, ◌+◌, List, length, drop, sym, subst, arith}
use Rattle.ruled_intake.specs.Messages.{Batch}
use Rattle.ruled_intake.specs.Packets.{Packet}
use Rattle.flow_worker.specs.Judging.{Feeds, HaveRoom, batched}
use Rattle.flow_worker.proofs.Fed.{feeds-batch, left-batch, room-less, room-same}
use Rattle.flow_worker.proofs.judges.Judges.take_batches.Goals as goal

pub loop-batch-preserved : goal.loop-batch-preserved
loop-batch-preserved c =
    let items = c.deref-batch-items.result.now in
    let i = c.loop-batch.batch-index in
    let one : Batch = c.batch-item.result in
    let within : i < length items = search rules in
    let packets : one.packets ≡ c.as_slice.result.now = search rules in
    record {
      feeds = feeds-batch c.args.before i items one c.args.self.now c.loop-batch.self c.take.new.self within (sym c.batch-item.is) c.loop-batch.invariant.feeds
          (subst (λ (l : List Packet). Feeds c.args.before l c.loop-batch.self c.take.new.self) (sym packets) c.in_ok-take.ensures.feeds);
      room = c.in_ok-take.ensures.room (length (batched (drop (i + 1) items)))
          (subst (λ (l : List Packet). HaveRoom (length l + length (batched (drop (i + 1) items))) c.loop-batch.self) packets
          (room-same _ _ c.loop-batch.self (left-batch i items one within (sym c.batch-item.is)) c.loop-batch.invariant.room));
    }

pub take-requires-clause-room : goal.take-requires-clause-room
take-requires-clause-room c =
    let items = c.deref-batch-items.result.now in
    let i = c.loop-batch.batch-index in
    let one : Batch = c.batch-item.result in
    let within : i < length items = search rules in
    let packets : one.packets ≡ c.as_slice.result.now = search rules in
    let left = left-batch i items one within (sym c.batch-item.is) in
    subst (λ (l : List Packet). HaveRoom (length l) c.loop-batch.self) packets
    (room-less _ _ c.loop-batch.self (omega (arith, left)) c.loop-batch.invariant.room)
