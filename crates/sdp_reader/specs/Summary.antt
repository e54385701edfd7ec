-- The results of the raw parts that were read.
use Rattle.std.specs.Prelude.{◌≡◌, ◌||◌, Bool, false, List, ◌++◌, map, Option, Some, None}
use Rattle.std.specs.Option.{option_map, option_and_then, option_to_list}
use Rattle.std.specs.List.{filter_map, flat_map}
use Rattle.std.specs.declared.cmp.Ordering.{Ordering}
use Rattle.std.specs.Ordering.{nat_cmp, ordering_then, is_eq}
use Rattle.std.specs.BTreeSet.{BTreeSet, contains}
use Rattle.timing_base.specs.declared.target.Target.{Target}
use Rattle.sdp_reader.specs.Fault.{first_of, least}
use Rattle.sdp_reader.specs.Parts.{RawPart, media_of, part_faults}
use Rattle.sdp_reader.specs.Session.{destination_of}
use Rattle.sdp_reader.specs.declared.part.Kept.{Kept}
use Rattle.sdp_reader.specs.declared.part.Reading.{Reading}

-- the result of a raw part: its destination, its first fault and its stream
abbrev pub reading_of : RawPart → Reading
reading_of r = record { destination = destination_of r; fault = least (part_faults r); media = media_of r }

-- the results so far, and those of the parts left to read, are together those of all raw parts
pub record Keeps (kept : Kept) (left all : List RawPart) : Type 0 where
  pub destinations : kept.destinations.items ++ map destination_of left ≡ map destination_of all
  pub fault : first_of kept.fault (least (flat_map part_faults left)) ≡ least (flat_map part_faults all)
  pub media : kept.media.items ++ filter_map media_of left ≡ filter_map media_of all

-- the result of a part, if there is one, is appended to the others
pub record Adds (old : Kept) (reading : Option Reading) (new : Kept) : Type 0 where
  pub destinations : new.destinations.items ≡ old.destinations.items
      ++ option_to_list (option_map (λ r. r.destination) reading)
  pub fault : new.fault ≡ first_of old.fault (option_and_then (λ r. r.fault) reading)
  pub media : new.media.items ≡ old.media.items ++ option_to_list (option_and_then (λ r. r.media) reading)

-- the order of targets: by address, then by port
abbrev pub target_cmp : Target → Target → Ordering
target_cmp a b = ordering_then (nat_cmp a.address.bits b.address.bits) (nat_cmp a.port b.port)

-- the set contains the target
abbrev pub has : BTreeSet Target → Target → Bool
has seen t = contains target_cmp seen t

-- the result states whether the target was in the set, and the set now contains it
abbrev pub TakesTarget : BTreeSet Target → BTreeSet Target → Option Target → Bool → Type 0
TakesTarget old new None taken = (taken ≡ false) × ((q : Target) → has new q ≡ has old q)
TakesTarget old new (Some t) taken =
    (taken ≡ has old t) × ((q : Target) → has new q ≡ (is_eq (target_cmp t q) || has old q))
