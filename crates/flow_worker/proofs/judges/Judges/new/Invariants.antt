use Rattle.std.proofs.Common.{◌≡◌, Bool, [], length}
use Rattle.timing_base.specs.Keys.{key_of}
use Rattle.flow_worker.specs.Judging.{EachFrom, IsDealt, IsPlace}
use Rattle.flow_worker.proofs.judges.Judges.new.Given as goal

abbrev pub invariant-loop-number : goal.invariant-loop-number
invariant-loop-number l = record {
  count : length l.places.items ≡ l.number;
  each : (joined : Bool) → IsDealt joined l.file
      → EachFrom (λ number. IsPlace record { media = l.run.media.now; workers = length l.run.lanes.now; joined = joined; options = l.run.options } l.worker
      (key_of l.file number) []) 0 l.places.items;
}
