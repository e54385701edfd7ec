use Rattle.std.proofs.Common.{◌≡◌, ◌≤◌, ◌-◌, [], ℕ, List, length, take}
use Rattle.timing_base.specs.Captures.{IsStamp, Record}
use Rattle.timing_reach.specs.Shapes.{shaped_capture}
use Rattle.timing_reach.specs.shape.Keeping.{stamps_of}
use Rattle.timing_reach.specs.shape.Leaving.{HasLet, IsFit, Part, count_left}
use Rattle.timing_reach.specs.shape.Shaping.{HasLeft, in_tai}
use Rattle.timing_reach.specs.shape.Walking.{CanSkip, IsBefore}
use Rattle.timing_reach.proofs.shape.shaping.depart.Given as goal

abbrev pub invariant-loop : goal.invariant-loop
invariant-loop l = record {
  few : count_left l.leaver ≤ l.counter;
  stamp : IsStamp l.left;
  can : CanSkip (l.count - l.counter) l.walk;
  departs : (w : Part) (head records : List Record) (stamps : List ℕ) → HasLet w l.fn.leaver [] []
      → IsBefore l.fn.walk (shaped_capture w.shift (length head) [] head) records → l.count ≤ length records
      → stamps ≡ in_tai w.shift (stamps_of (take l.count records)) → IsFit w.origin stamps
      → HasLeft w l.leaver l.walk l.left head records stamps l.counter;
}
