use Rattle.std.proofs.Common.{◌≡◌, map, drop, find}
use Rattle.sdp_reader.specs.Parameters.{is_of}
use Rattle.sdp_reader.specs.Plain.{plain_item}
use Rattle.sdp_reader.proofs.parameter.item_named.Given as goal

abbrev pub invariant-loop-item : goal.invariant-loop-item
invariant-loop-item l = find (is_of l.row) (map plain_item (drop l.item-index l.items)) ≡ find (is_of l.row) (map plain_item l.items)
