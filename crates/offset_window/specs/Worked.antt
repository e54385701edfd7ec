-- Capture timestamps for windows worked by hand, in nanoseconds of TAI.
use Rattle.std.specs.Prelude.{◌+◌, ◌*◌, ℕ, false, List, map, Some, None}
use Rattle.std.specs.List.{range_with_len}
use Rattle.timing_base.specs.Media.{Media}
use Rattle.timing_base.specs.declared.media.Kind.{Kind}
use Rattle.timing_base.specs.declared.media.Kind.TheVariants.{N}
use Rattle.sender_params.specs.Worked.{described}
use Rattle.offset_window.specs.Window.{IsWindow}
use Rattle.offset_window.specs.declared.window.WindowEnd.{WindowEnd}

-- `late` nanoseconds after second 1,600,000,000, at which a frame begins
abbrev pub so_late : ℕ → ℕ
so_late late = 1600000000000000000 + late

-- `count` packets of that frame: packet 0 comes 764,000 ns after its start, and each other one `step` ns after the one
-- before
abbrev pub each_after : (step count : ℕ) → List ℕ
each_after step count = map (λ i. so_late (764000 + i * step)) (range_with_len 0 count)

-- 1080 lines, progressive, at 50 frames per second, with TROFF=30000
abbrev pub late_group : Media
late_group = described 1080 false 50 1 (Some N) (Some 30000) None

-- the window has these ends
abbrev pub IsFromTo : Media → ℕ → List ℕ → Kind → (lower upper : WindowEnd) → Type 0
IsFromTo m n stamps kind lower upper = IsWindow m n stamps kind (record { lower = lower; upper = upper })
