-- A round number isn't below the one that is wanted, and steps reach up to the greatest number.
use Rattle.std.proofs.Common.{◌≤◌, ◌*◌, ◌^◌, ℕ, zero, suc, min, max, arith}
use Rattle.std.proofs.lemmas.Bool.Decides.{nat_tests}
use Rattle.std.proofs.lemmas.Grind.{div_ceil_times}
use Rattle.std.specs.Int.{div_ceil}
use Rattle.flow_page.specs.chart.Axes.{round_from, round_up}

-- the power that is left after so many tries
abbrev pub last_power : ℕ → ℕ → ℕ
last_power zero power = power
last_power (suc tries) power = last_power tries (10 * power)

from_reaches : (tries power wanted : ℕ) → wanted ≤ last_power tries power → wanted ≤ round_from tries power wanted
from_reaches zero power wanted h = h
from_reaches (suc tries) power wanted h =
    let e : wanted ≤ round_from tries (10 * power) wanted = from_reaches tries (10 * power) wanted h in
    grind (arith, nat_tests)

pub round_reaches : (wanted : ℕ) → wanted ≤ 2 ^ 60 → wanted ≤ round_up wanted
unfolding round_up
round_reaches wanted small =
    let h : wanted ≤ last_power 19 1 = omega arith in
    from_reaches 19 1 wanted h

-- at most seven steps reach, so eight at most do
pub steps_reach : (far step : ℕ) → 1 ≤ step → far ≤ 7 * step → far ≤ step * min 8 (max 3 (div_ceil far step))
steps_reach far step some within =
    let (enough, tight) = div_ceil_times far step some in
    grind (arith)
