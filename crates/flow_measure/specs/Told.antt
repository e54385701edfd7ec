-- The counts that bins and classes return, and the offset of an end of a window, in microseconds.
use Rattle.std.specs.Prelude.{◌+◌, ◌/◌, ℕ, List, take, Option, Some, None}
use Rattle.offset_window.specs.declared.window.WindowEnd.{WindowEnd}
use Rattle.offset_window.specs.declared.window.WindowEnd.TheVariants.{Absent, At}
use Rattle.flow_measure.specs.declared.bins.Bins.{Bins}
use Rattle.flow_measure.specs.declared.classes.Classes.{Classes}

-- the count of each bin, in order, up to the bin of the limit
abbrev pub bin_counts : Bins → List ℕ
bin_counts b = take (b.limit / b.width + 1) b.counts

-- the count of each class, in order, up to the last class that has a number
abbrev pub class_counts : Classes → List ℕ
class_counts c = take c.length c.counts

-- the offset of an end, unless it is absent
abbrev pub micros_of : WindowEnd → Option ℕ
micros_of Absent = None
micros_of (At micros binding) = Some micros
