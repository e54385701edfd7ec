use Rattle.std.proofs.Common.{◌≡◌}
use Rattle.timing_base.specs.Keys.{keys_of_files}
use Rattle.flow_worker.proofs.crew.gather.list_keys.Given as goal

abbrev pub invariant-loop-file : goal.invariant-loop-file
invariant-loop-file l = l.keys.items ≡ keys_of_files 0 l.file l.media
