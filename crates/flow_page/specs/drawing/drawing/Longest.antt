-- The comparison of two runs by length.
use Rattle.std.specs.Prelude.{ℕ, Bool, true, nat_lt, Option, Some, None}
use Rattle.flow_page.specs.declared.drawing.longest.DrawnRun.{DrawnRun}

-- no run is drawn yet, or the run drawn has fewer packets
abbrev pub is_shorter : Option DrawnRun → (packets : ℕ) → Bool
is_shorter None packets = true
is_shorter (Some drawn) packets = nat_lt drawn.packets packets
