use Rattle.std.proofs.Common.{◌≡◌, ℕ, [], length}
use Rattle.crossbeam_queue.specs.SegTies.{IsSegPassOf}
use Rattle.ruled_intake.specs.Lanes.{AreSenders, sent_of}
use Rattle.ruled_intake.specs.declared.rule.View.TheVariants.{Takes}
use Rattle.ruled_intake.proofs.lane.make_senders.Given as goal

abbrev pub invariant-loop-from : goal.invariant-loop-from
invariant-loop-from l = record {
  long : length l.passes.items ≡ l.from;
  each : AreSenders l.queue l.passes.items;
  none : (f : ℕ) → sent_of l.passes.items f ≡ [];
  ours : IsSegPassOf l.queue l.pass;
  taker_is : l.pass.me.view.client ≡ Takes [] l.from [];
}
