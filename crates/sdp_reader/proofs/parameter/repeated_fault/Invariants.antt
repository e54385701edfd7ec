use Rattle.std.proofs.Common.{◌≡◌, ◌<◌, ℕ, false, map, take, drop, get_or, length}
use Rattle.std.specs.List.{list_any}
use Rattle.sdp_reader.specs.declared.fault.SdpCause.TheVariants.{RepeatedParameter}
use Rattle.sdp_reader.specs.Fault.{first_of, least}
use Rattle.sdp_reader.specs.Parameters.{repeated_faults, have_one_name, is_of}
use Rattle.sdp_reader.specs.Plain.{plain_item}
use Rattle.sdp_reader.proofs.Repeats.{repeats_after}
use Rattle.sdp_reader.proofs.parameter.repeated_fault.Given as goal

-- `seen` has the rows of the names so far
abbrev pub invariant-loop-item : goal.invariant-loop-item
invariant-loop-item l = record {
  rows : length l.seen ≡ 9;
  told : first_of l.fault (least (repeats_after (λ item. item.line) RepeatedParameter have_one_name (map plain_item (take l.item-index l.items))
      (map plain_item (drop l.item-index l.items)))) ≡ least (repeated_faults (map plain_item l.items));
  seen : (k : ℕ) → k < 9 → get_or l.seen k false ≡ list_any (is_of k) (map plain_item (take l.item-index l.items));
}
