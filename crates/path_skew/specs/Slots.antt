-- The packets kept on a page.
use Rattle.std.specs.Prelude.{ℕ, ◌==◌, if◌then◌else◌, slice_get, Option, None}
use Rattle.std.specs.Int.{bit_at}
use Rattle.path_skew.specs.Items.{items_in, ones_below, places_in}
use Rattle.path_skew.specs.declared.arrival.Arrival.{Arrival}
use Rattle.path_skew.specs.declared.arrivals.Arrivals.{Arrivals}

-- the packet at a position, if its bit is set: its index is the number of bits set below the position
abbrev pub arrival_at : Arrivals → ℕ → Option Arrival
arrival_at arrivals place = if bit_at (places_in arrivals.slots) place == 1
    then slice_get (items_in arrivals.slots) (ones_below (places_in arrivals.slots) place) else None
