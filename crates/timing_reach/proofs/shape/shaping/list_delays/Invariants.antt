use Rattle.std.proofs.Common.{◌≤◌, []}
use Rattle.timing_reach.specs.shape.Leaving.{HasLet, IsFit, Part, count_left}
use Rattle.timing_reach.specs.shape.Shaping.{HasListed, in_tai}
use Rattle.timing_reach.proofs.shape.shaping.list_delays.Given as goal

abbrev pub invariant-loop-packet : goal.invariant-loop-packet
invariant-loop-packet l = record {
  left : count_left l.leaver ≤ l.packet;
  delayed : l.delays.delayed ≤ l.packet;
  listed : (w : Part) → HasLet w l.fn.leaver [] [] → IsFit w.origin (in_tai w.shift l.stamps)
      → HasListed w l.leaver l.delays (in_tai w.shift l.stamps) l.packet;
}
