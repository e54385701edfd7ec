-- Models and packets for values worked by hand. Instants are in nanoseconds.
use Rattle.std.specs.Prelude.{◌+◌, ◌-◌, ◌/◌, ℕ, List, [], ◌∷◌, ◌++◌, false, Some, None}
use Rattle.timing_base.specs.Media.{Media}
use Rattle.timing_base.specs.declared.media.Kind.TheVariants.{N}
use Rattle.sender_params.specs.Worked.{at_once, described, hd_50}
use Rattle.flow_shaper.specs.Plan.{Models, models_of}

-- a tick every 10 ns and a read every 100 ns
abbrev pub small : (c_max vrx_full : ℕ) → Models
small c_max vrx_full =
    record { ticks = λ at. at / 10; held = λ i at. (i + 1) - at / 100; c_max = c_max; vrx_full = vrx_full }

-- a tick and a read every 10 ns
abbrev pub even : (c_max vrx_full : ℕ) → Models
even c_max vrx_full =
    record { ticks = λ at. at / 10; held = λ i at. (i + 1) - at / 10; c_max = c_max; vrx_full = vrx_full }

-- 1,600,000,000 s and 764,000 ns, the instant of the packets of `at_once`
abbrev pub first : ℕ
first = 1600000000000764000

-- 1080p at 50 with 20 packets per frame, as type N: C_MAX is 4, VRX_FULL 8, and T_DRAIN 909,090 10/11 ns; read 0 is at
-- 444 4/9 ns, and T_RS 960,000 ns
abbrev pub narrow : Models
narrow = models_of hd_50 20 N first

-- 1080p at 50, declared narrow, with CMAX=100
abbrev pub hd_50_wide_bucket : Media
hd_50_wide_bucket = described 1080 false 50 1 (Some N) None (Some 100)

-- departures of five packets at once: the last leaves at the next tick
abbrev pub burst_shaped : List ℕ
burst_shaped = at_once 4 ++ (first + 909091) ∷ []
