-- The media of a session to which a datagram goes. Media count from 0.
use Rattle.std.specs.Prelude.{ℕ, ◌+◌, if◌then◌else◌, List, [], ◌∷◌, Option, Some, None}
use Rattle.timing_base.specs.Media.{Media}
use Rattle.timing_base.specs.Targets.{target_of}
use Rattle.timing_base.specs.declared.target.Target.{Target}
use Rattle.udp_rtp.specs.Flow.{is_same_target}

-- the number of the first of these media with the target; the first of them has this number
abbrev pub media_to : Target → (number : ℕ) → List Media → Option ℕ
media_to target number [] = None
media_to target number (m ∷ ms) = if is_same_target target (target_of m) then Some number
    else media_to target (number + 1) ms
