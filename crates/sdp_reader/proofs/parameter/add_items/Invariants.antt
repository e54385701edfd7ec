use Rattle.std.proofs.Common.{◌≡◌, ◌==◌, ◌++◌, map, length}
use Rattle.std.specs.List.{slice_split, filter_map}
use Rattle.sdp_reader.specs.Parameters.{item_at, items_of}
use Rattle.sdp_reader.specs.Plain.{plain_item}
use Rattle.sdp_reader.proofs.parameter.add_items.Given as goal

abbrev pub invariant-loop-piece : goal.invariant-loop-piece
invariant-loop-piece l = map plain_item l.items.items ++ filter_map (item_at l.line) (slice_split (λ x. x == 59) l.rest)
    ≡ map plain_item l.fn.items.items ++ items_of l.line l.fn.list

abbrev pub decreases-loop-piece : goal.decreases-loop-piece
decreases-loop-piece l = length l.rest
