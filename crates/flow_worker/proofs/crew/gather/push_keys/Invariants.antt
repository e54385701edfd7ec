use Rattle.std.proofs.Common.{◌≡◌, ◌++◌}
use Rattle.timing_base.specs.Keys.{keys_of_file}
use Rattle.flow_worker.proofs.crew.gather.push_keys.Given as goal

abbrev pub invariant-loop-number : goal.invariant-loop-number
invariant-loop-number l = l.keys.items ≡ l.initial.keys.items ++ keys_of_file l.file 0 l.number
