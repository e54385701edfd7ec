use Rattle.std.proofs.Common.{◌≡◌, slice_index, take}
use Rattle.sender_params.specs.Reads.{anchor_of}
use Rattle.timing_reach.specs.window.Gauging.{AreFed, count_seen}
use Rattle.timing_reach.proofs.window.meters.WindowMeters.of.Given as goal

abbrev pub invariant-loop-at : goal.invariant-loop-at
invariant-loop-at l = record {
  seen : count_seen l.meters ≡ l.at-index;
  fed : AreFed l.params (anchor_of l.params.media (slice_index l.stamps 0)) l.meters (take l.at-index l.stamps);
}
