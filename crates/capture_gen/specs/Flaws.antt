-- The effects of the flaws, by the packet's place j in its frame. All flaws except `Slow` change only the last frame.
use Rattle.std.specs.Prelude.{ℕ, zero, suc, ◌==◌, nat_le, Bool, true, false, ◌&&◌}
use Rattle.capture_gen.specs.declared.flaw.Flaw.{Flaw}
use Rattle.capture_gen.specs.declared.flaw.Flaw.TheVariants.{Clean, Burst, Slow, Gap, Short}

-- the flaw with this number, 0 to 4
abbrev pub flaw_of : ℕ → Flaw
flaw_of zero = Clean
flaw_of (suc zero) = Burst
flaw_of (suc (suc zero)) = Slow
flaw_of (suc (suc (suc zero))) = Gap
flaw_of (suc (suc (suc (suc _)))) = Short

-- the time from one packet of a frame to the next, in nanoseconds
abbrev pub spacing : Flaw → ℕ
spacing Slow = 1000000
spacing _ = 960000

-- packet j has the capture timestamp of packet 0
abbrev pub is_bunched : Flaw → Bool → ℕ → Bool
is_bunched Burst last j = last && nat_le j 4
is_bunched _ last j = false

-- packet j is left out
abbrev pub is_left_out : Flaw → Bool → ℕ → Bool
is_left_out Gap last j = last && (j == 10)
is_left_out Short last j = last && (j == 19)
is_left_out _ last j = false

-- the place of the packet with the marker
abbrev pub marked_place : Flaw → Bool → ℕ
marked_place Short true = 18
marked_place _ _ = 19
