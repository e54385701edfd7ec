-- The bin of a number, with the bins up to a limit.
use Rattle.std.specs.Prelude.{◌/◌, ◌<◌, ℕ, ℤ, pos, negsuc, nat_lt, cond}
use Rattle.flow_measure.specs.Bins.{bin_width}
use Rattle.flow_measure.specs.declared.bins.Place.{Place}
use Rattle.flow_measure.specs.declared.bins.Place.TheVariants.{Above, Below, Bin}

-- the bin of a number, or the side on which it lies outside
abbrev pub place_of : (limit : ℕ) → ℤ → Place
place_of limit (pos x) = cond (nat_lt limit x) Above (Bin (x / bin_width limit))
place_of limit (negsuc x) = Below

-- a bin is one of 64
abbrev pub IsWithin : Place → Type 0
IsWithin Below = Unit {0}
IsWithin (Bin bin) = bin < 64
IsWithin Above = Unit {0}
