-- Frame rates by the steps of RTP timestamps (RFC 3550, section 5.1) at 90 kHz (RFC 4175, section 6), from one packet
-- with the marker to the next. A step is a frame, or a field if `fields` is true. Ticks are of 90 kHz; at each known
-- rate a frame is a whole number of eighths of a tick.
-- This project's profile: which rates are known, when one of them is reported, and how near the mean step has to be to
-- it.
use Rattle.std.specs.Prelude.{ℕ, zero, suc, ◌+◌, ◌*◌, ◌/◌, ◌%◌, ◌==◌, ◌&&◌, nat_le, Bool, true, false, if◌then◌else◌}
use Rattle.std.specs.Prelude.{List}
use Rattle.std.specs.Prelude.{[], ◌∷◌, ◌++◌, Option, Some, None, codes}
use Rattle.std.specs.Fmt.{decimal}
use Rattle.capture_scan.specs.declared.stream.Range.{Range}
use Rattle.capture_scan.specs.declared.stream.Rate.{Rate}
use Rattle.capture_scan.specs.declared.report.rate.FrameRate.{FrameRate}
use Rattle.capture_scan.specs.declared.report.rate.Ratio.{Ratio}

-- `whole` frames per second, with the eighths of a tick in a frame
abbrev pub exact : ℕ → ℕ → FrameRate
exact whole eighths = record { whole = whole; slowed = false; eighths = eighths }

-- 1000/1001 of `whole` frames per second, with the eighths of a tick in a frame
abbrev pub slowed : ℕ → ℕ → FrameRate
slowed whole eighths = record { whole = whole; slowed = true; eighths = eighths }

-- the numerator of the rate as a fraction
abbrev pub numerator : FrameRate → ℕ
numerator r = if r.slowed then r.whole * 1000 else r.whole

-- the denominator of the rate as a fraction
abbrev pub denominator : FrameRate → ℕ
denominator r = if r.slowed then 1001 else 1

-- the slowest known rate, 24000/1001
abbrev pub slowest : FrameRate
slowest = slowed 24 30030

-- the other known rates, from slow to fast
abbrev pub faster : List FrameRate
faster =
    exact 24 30000 ∷ exact 25 28800 ∷ slowed 30 24024 ∷ exact 30 24000 ∷ exact 50 14400 ∷ slowed 60 12012
    ∷ exact 60 12000 ∷ exact 100 7200 ∷ slowed 120 6006 ∷ exact 120 6000 ∷ []

-- the sixteenths of a tick that a tick of a step adds to a frame: twice as many for fields
abbrev pub sixteenths : Bool → ℕ
sixteenths fields = if fields then 32 else 16

-- the mean step is at least half-way between the steps of a rate and of the next faster one
abbrev pub is_slow : Bool → Rate → FrameRate → FrameRate → Bool
is_slow fields rate slow next = nat_le ((slow.eighths + next.eighths) * rate.steps) (sixteenths fields * rate.ticks)

-- the rate with the step nearest to the mean, of a rate and the faster ones; the slower of two that are as near
abbrev pub nearest_from : Bool → Rate → FrameRate → List FrameRate → FrameRate
nearest_from fields rate slow [] = slow
nearest_from fields rate slow (next ∷ rest) =
    if is_slow fields rate slow next then slow else nearest_from fields rate next rest

-- the known rate with the step nearest to the mean
abbrev pub nearest : Bool → Rate → FrameRate
nearest fields rate = nearest_from fields rate slowest faster

-- the step of a rate is from 99 to 101 hundredths of the mean step
abbrev pub is_within : Bool → Rate → FrameRate → Bool
is_within fields rate r =
    nat_le (99 * (sixteenths fields * rate.ticks)) (200 * (r.eighths * rate.steps))
    && nat_le (200 * (r.eighths * rate.steps)) (101 * (sixteenths fields * rate.ticks))

-- the step of the nearest known rate is within a hundredth of the mean
abbrev pub is_known : Bool → Rate → Bool
is_known fields rate = is_within fields rate (nearest fields rate)

-- a rate as a fraction
abbrev pub ratio_with : ℕ → ℕ → Ratio
ratio_with p q = record { p = p; q = q }

-- a known rate as a fraction
abbrev pub ratio_of : FrameRate → Ratio
ratio_of r = ratio_with (numerator r) (denominator r)

-- the number of frames in as many seconds as there are ticks
abbrev pub frames_in : Bool → Rate → ℕ
frames_in fields rate = (if fields then 45000 else 90000) * rate.steps

-- whether `frames` in `ticks` seconds are a fraction with the denominator `q`
abbrev pub is_whole_in : (frames ticks q : ℕ) → Bool
is_whole_in frames ticks q = q * frames % ticks == 0

-- the least such denominator of `many` from `q` on, so that the fraction is in lowest terms
unfoldable pub denominator_from : (many q frames ticks : ℕ) → Option ℕ
denominator_from zero q frames ticks = None
denominator_from (suc many) q frames ticks =
    if is_whole_in frames ticks q then Some q else denominator_from many (q + 1) frames ticks

-- a rate that an SDP can have: above 0, and at most 240 frames per second
abbrev pub limited : (p q : ℕ) → Option Ratio
limited p q = if nat_le 1 p && nat_le p (240 * q) then Some (ratio_with p q) else None

-- the rate with this denominator, if an SDP can have it
abbrev pub limited_by : (frames ticks : ℕ) → Option ℕ → Option Ratio
limited_by frames ticks None = None
limited_by frames ticks (Some q) = limited (q * frames / ticks) q

-- `frames` in `ticks` seconds as a fraction in lowest terms, if an SDP can have it: its denominator is 1 to 1001
abbrev pub measured_of : (frames ticks : ℕ) → Option Ratio
measured_of frames ticks =
    if ticks == 0 then None else limited_by frames ticks (denominator_from 1001 1 frames ticks)

-- the rate by the mean step itself
abbrev pub measured : Bool → Rate → Option Ratio
measured fields rate = measured_of (frames_in fields rate) rate.ticks

-- the measured rate if there is one, else the nearest known one
abbrev pub measured_or : Ratio → Option Ratio → Ratio
measured_or nearest None = nearest
measured_or nearest (Some ratio) = ratio

-- the rate of a draft: the nearest known one if its step is within a hundredth of the mean
abbrev pub drafted_rate : Bool → Rate → Ratio
drafted_rate fields rate =
    if is_known fields rate then ratio_of (nearest fields rate)
    else measured_or (ratio_of (nearest fields rate)) (measured fields rate)

-- the ticks of a step at a rate, rounded down
abbrev pub ticks_down : Bool → FrameRate → ℕ
ticks_down fields r = if fields then r.eighths / 16 else r.eighths / 8

-- the ticks of a step at a rate, rounded up
abbrev pub ticks_up : Bool → FrameRate → ℕ
ticks_up fields r = if fields then (r.eighths + 15) / 16 else (r.eighths + 7) / 8

-- the least step is that of the rate; a lost marker makes a step longer, so that the least is compared
abbrev pub has_steps_of : Bool → Range → FrameRate → Bool
has_steps_of fields step r = nat_le (ticks_down fields r) step.least && nat_le step.least (ticks_up fields r)

-- a fraction, or a whole number if the denominator is 1
abbrev pub ratio_text : Ratio → List ℕ
ratio_text r = if r.q == 1 then decimal r.p else decimal r.p ++ (codes "/" ++ decimal r.q)

-- the hundredths of a frame per second of 1000/1001 of `whole`, rounded to the nearest
abbrev pub hundredths : ℕ → ℕ
hundredths whole = (whole * 200000 + 1001) / 2002

-- a rate such as `59.94 frames per second (60000/1001)`
abbrev pub slowed_text : ℕ → List ℕ
slowed_text whole =
    decimal (hundredths whole / 100) ++ (codes "." ++ (decimal (hundredths whole / 10 % 10)
    ++ (decimal (hundredths whole % 10) ++ (codes " frames per second (" ++ (decimal (whole * 1000)
    ++ codes "/1001)")))))

-- a rate such as `50 frames per second`, or with decimals and the fraction
abbrev pub rate_text : FrameRate → List ℕ
rate_text r = if r.slowed then slowed_text r.whole else decimal r.whole ++ codes " frames per second"
