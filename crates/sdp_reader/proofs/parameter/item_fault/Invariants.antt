use Rattle.std.proofs.Common.{◌≡◌, map, drop}
use Rattle.std.specs.List.{flat_map}
use Rattle.sdp_reader.specs.Fault.{first_of, least}
use Rattle.sdp_reader.specs.Parameters.{item_faults}
use Rattle.sdp_reader.specs.Plain.{plain_item}
use Rattle.sdp_reader.proofs.parameter.item_fault.Given as goal

abbrev pub invariant-loop-item : goal.invariant-loop-item
invariant-loop-item l =
    first_of l.fault (least (flat_map item_faults (map plain_item (drop l.item-index l.items)))) ≡ least (flat_map item_faults (map plain_item l.items))
