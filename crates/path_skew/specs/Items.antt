-- The packets kept in slots, in the order of their positions, and bits by position.
use Rattle.std.specs.Prelude.{◌≡◌, ◌⊎◌, ℕ, ◌+◌, ◌%◌, ◌^◌, count_ones, length, take, List, [], ◌∷◌}
use Rattle.path_skew.specs.declared.arrival.Arrival.{Arrival}
use Rattle.path_skew.specs.declared.arrivals.Slots.{Slots}
use Rattle.path_skew.specs.declared.arrivals.Slots.TheVariants.{Empty, One, Many}

-- the packets
abbrev pub items_in : Slots → List Arrival
items_in Empty = []
items_in (One places arrival) = arrival ∷ []
items_in (Many places items) = items.items

-- the bits of their positions
abbrev pub places_in : Slots → ℕ
places_in Empty = 0
places_in (One places arrival) = places
places_in (Many places items) = places

-- number of bits set below a position
abbrev pub ones_below : (bits place : ℕ) → ℕ
ones_below bits place = count_ones (bits % 2 ^ place)

-- all packets stay, or the only one is removed, or the last one, after which the positions `rest` are left
abbrev pub Leaves : (old new : Slots) → (index rest : ℕ) → Type 0
Leaves old new index rest = ((items_in new ≡ items_in old) × (places_in new ≡ places_in old))
    ⊎ ((length (items_in old) ≡ 1) × (items_in new ≡ []) × (places_in new ≡ 0))
    ⊎ ((index + 1 ≡ length (items_in old)) × (items_in new ≡ take index (items_in old)) × (places_in new ≡ rest))
