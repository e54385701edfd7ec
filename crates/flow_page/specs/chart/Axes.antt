-- Axes: round ends around the least and the greatest number, and ticks in between that are 1, 2 or 5 times a power of
-- ten apart. This project's own format.
use Rattle.std.specs.Prelude.{ℕ, zero, suc, ℤ, pos, ◌+ℤ◌, ◌-ℤ◌, ◌*◌, max, min, nat_le, unsigned_abs, if◌then◌else◌}
use Rattle.std.specs.Int.{div_ceil, int_rem_euclid}
use Rattle.flow_page.specs.declared.chart.axis.Axis.{Axis}

-- the least of 1, 2 and 5 times `power`, 10 times `power` and so on that isn't below `wanted`
abbrev pub round_from : (tries power wanted : ℕ) → ℕ
round_from zero power wanted = power
round_from (suc tries) power wanted =
    if nat_le wanted power then power else if nat_le wanted (2 * power) then 2 * power
    else if nat_le wanted (5 * power) then 5 * power else round_from tries (10 * power) wanted

-- the least of 1, 2 and 5 times a power of ten that isn't below the number
unfoldable pub round_up : ℕ → ℕ
round_up wanted = round_from 19 1 wanted

-- the distance of two ticks
unfoldable pub step_of : (least greatest : ℤ) → ℕ
step_of least greatest = round_up (div_ceil (unsigned_abs (greatest -ℤ least)) 6)

-- the greatest multiple of the step that isn't above the least number
unfoldable pub low_at : (least : ℤ) → (step : ℕ) → ℤ
low_at least step = least -ℤ int_rem_euclid least (pos step)

-- the count of steps from there up to the greatest number, at least three and at most eight
unfoldable pub steps_at : (low greatest : ℤ) → (step : ℕ) → ℕ
steps_at low greatest step = min 8 (max 3 (div_ceil (unsigned_abs (greatest -ℤ low)) step))

-- the axis for numbers from the least to the greatest
abbrev pub axis_of : (least greatest : ℤ) → Axis
axis_of least greatest = record {
  low = low_at least (step_of least greatest);
  step = step_of least greatest;
  steps = steps_at (low_at least (step_of least greatest)) greatest (step_of least greatest);
}

-- the number at a tick, counted from 0 at the low end
abbrev pub tick : Axis → ℕ → ℤ
tick a k = a.low +ℤ pos (a.step * k)
