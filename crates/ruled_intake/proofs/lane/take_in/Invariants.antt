use Rattle.std.proofs.Common.{◌≡◌, ◌≤◌, ◌*◌, ◌^◌, ◌++◌, length, sum_by}
use Rattle.crossbeam_queue.specs.SegTies.{IsSegPassOf}
use Rattle.ruled_intake.specs.Knows.{got_by, made_by}
use Rattle.ruled_intake.specs.Lanes.{all_sent}
use Rattle.ruled_intake.specs.declared.rule.View.TheVariants.{Takes}
use Rattle.ruled_intake.proofs.lane.take_in.Given as goal

abbrev pub invariant-loop-each : goal.invariant-loop-each
invariant-loop-each l = record {
  whole : l.fn.senders.items ≡ l.yielded ++ l.each-iterator.rest.items;
  ours : IsSegPassOf l.queue l.taker;
  knows : l.taker.me.view.client ≡ Takes (got_by l.fn.taker.me.view.client) (made_by l.fn.taker.me.view.client) (all_sent l.yielded);
  count : l.all ≡ sum_by length (all_sent l.yielded);
  few : l.all ≤ length l.yielded * 2 ^ 37;
}
