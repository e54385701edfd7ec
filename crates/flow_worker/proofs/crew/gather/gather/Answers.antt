use Rattle.std.proofs.Common.{◌≡◌, ◌<◌, drop, length, map, slice_index_or, refl, ◌∙◌, arith, length-set}
use Rattle.std.specs.Vec.Iter.{into_iter_items}
use Rattle.timing_base.specs.declared.key.FlowKey.{FlowKey}
use Rattle.timing_base.specs.declared.row.Row.{Row}
use Rattle.flow_worker.specs.crew.Gathering.{AreQueued}
use Rattle.flow_worker.proofs.lemmas.crew.Queues.{row_more, some_receipt, take_receipt}
use Rattle.flow_worker.proofs.crew.gather.gather.Goals as goal

-- a key that isn't there
no_key : FlowKey
no_key = record { file = 0; media = 0 }

pub unreachable-requires : goal.unreachable-requires
unfolding no_key
unreachable-requires c =
    let loop = c.loop-key in
    let room : c.route-worker.result < length loop.queues.items = omega (arith, c.route-worker.ensures.within, loop.invariant.count) in
    let none : length (into_iter_items c.index_mut.result.now) ≡ 0 = omega (arith, c.in_default.ensures.cases.0, c.index_mut.result.now.rest.ok.0) in
    some_receipt into_iter_items c.args.book.now loop.invariant.some.0 c.args.media c.args.workers c.args.keys.now loop.key-index
    (slice_index_or c.args.keys.now loop.key-index no_key) no_key
    loop.queues.items c.route-worker.result c.index_mut.result.now loop.invariant.some.1 c.loop-key-test.true refl c.route-worker.ensures.value room
    c.index_mut.ensures.value none

pub read-requires : goal.read-requires
unfolding no_key
read-requires c =
    let loop = c.loop-key in
    let room : c.route-worker.result < length loop.queues.items = omega (arith, c.route-worker.ensures.within, loop.invariant.count) in
    record {
      book = (take_receipt into_iter_items c.args.book.now loop.invariant.some.0 c.args.media c.args.workers c.args.keys.now loop.key-index
          (slice_index_or c.args.keys.now loop.key-index no_key) no_key
          loop.queues.items c.route-worker.result c.index_mut.result.now c.next.new.self c.in-Some.receipt
          loop.invariant.some.1 c.loop-key-test.true refl c.route-worker.ensures.value room c.index_mut.ensures.value c.in-Some.ensures.items).1;
    }

pub loop-key-preserved : goal.loop-key-preserved
unfolding no_key
loop-key-preserved c =
    let loop = c.loop-key in
    let room : c.route-worker.result < length loop.queues.items = omega (arith, c.route-worker.ensures.within, loop.invariant.count) in
    let taken = λ (row_for : FlowKey → Row) (queued : AreQueued c.args.book.now row_for c.args.media c.args.workers (drop loop.key-index c.args.keys.now)
    (map into_iter_items loop.queues.items)).
    take_receipt into_iter_items c.args.book.now row_for c.args.media c.args.workers c.args.keys.now loop.key-index
    (slice_index_or c.args.keys.now loop.key-index no_key) no_key
    loop.queues.items c.route-worker.result c.index_mut.result.now c.next.new.self c.in-Some.receipt
    queued c.loop-key-test.true refl c.route-worker.ensures.value room c.index_mut.ensures.value c.in-Some.ensures.items in
    record {
      count = length-set loop.queues.items c.route-worker.result c.next.new.self ∙ loop.invariant.count;
      some = (loop.invariant.some.0, (taken loop.invariant.some.0 loop.invariant.some.1).2);
      going = λ row_for queued. (taken row_for (loop.invariant.going row_for queued)).2;
      rows = λ row_for queued.
          row_more row_for c.args.keys.now loop.key-index (slice_index_or c.args.keys.now loop.key-index no_key) no_key loop.rows.items c.push.new.self.items
          c.read.result.now c.in_ok-try_copy.field-0 c.loop-key-test.true refl (loop.invariant.rows row_for queued)
          (c.read.ensures.row ∙ (taken row_for (loop.invariant.going row_for queued)).0) c.in_ok-try_copy.ensures c.in_ok-push.ensures.items;
    }
