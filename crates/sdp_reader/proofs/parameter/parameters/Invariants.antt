use Rattle.std.proofs.Common.{◌≡◌, ◌++◌, map, drop}
use Rattle.sdp_reader.specs.Parameters.{parameters}
use Rattle.sdp_reader.specs.Plain.{plain, plain_item}
use Rattle.sdp_reader.proofs.parameter.parameters.Given as goal

abbrev pub invariant-loop-line : goal.invariant-loop-line
invariant-loop-line l = map plain_item l.items.items ++ parameters l.format (map plain (drop l.line-index l.body)) ≡ parameters l.format (map plain l.body)
