use Rattle.std.proofs.Common.{◌≡◌, [], false, length}
use Rattle.flow_worker.specs.Judging.{EachFrom}
use Rattle.flow_worker.specs.Standing.{IsFile}
use Rattle.flow_worker.proofs.apart_files.Apart.new.Given as goal

abbrev pub invariant-loop-file : goal.invariant-loop-file
invariant-loop-file l = record {
  count : length l.all.items ≡ l.file;
  each : EachFrom (IsFile record { media = l.run.media.now; workers = length l.run.lanes.now; joined = false; options = l.run.options }
      l.run.files l.worker []) 0 l.all.items;
}
