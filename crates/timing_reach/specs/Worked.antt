-- Packets and windows of the examples that are worked by hand. Times are nanoseconds, offsets microseconds.
use Rattle.std.specs.Prelude.{ℕ, List, [], ◌∷◌, Some, codes}
use Rattle.timing_base.specs.Jobs.{SkewJob}
use Rattle.timing_base.specs.Judged.{JudgedRun}
use Rattle.offset_window.specs.Worked.{each_after}
use Rattle.offset_window.specs.declared.window.Window.{Window}
use Rattle.offset_window.specs.declared.window.WindowEnd.{WindowEnd}
use Rattle.offset_window.specs.declared.window.WindowEnd.TheVariants.{At}

-- a frame of 20 packets, behind a head of one: packet 0 comes 764,000 ns after the start of the frame, and each other
-- packet 960,000 ns after the one before it
abbrev pub narrow_frame : JudgedRun
narrow_frame = record { n = 20; groups = 1; head = 1; tail = 0; stamps = each_after 960000 20 }

-- a window with these ends
abbrev pub from_to : (lower upper : WindowEnd) → Window
from_to lower upper = record { lower = lower; upper = upper }

-- an end of a window, in microseconds, that this packet binds
abbrev pub bound_at : (packet micros : ℕ) → WindowEnd
bound_at packet micros = At micros (Some packet)

-- a comparison of two media in two captures
abbrev pub pair_of : (media pair : ℕ) → (first last : List ℕ) → SkewJob
pair_of media pair first last = record { sdp = codes "p.sdp"; media = media; pair = pair; captures = first ∷ last ∷ [] }
