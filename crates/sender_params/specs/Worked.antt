-- Videos, packets and violations for values worked by hand. Capture timestamps are in nanoseconds of TAI.
use Rattle.std.specs.Prelude.{◌≡◌, ◌<◌, ◌*◌, ℕ, pos, Bool, true, false, Option, Some, None, List, [], ◌∷◌, replicate}
use Rattle.fraction128.specs.Fractions.{Fraction, AtMost, scaled}
use Rattle.timing_base.specs.Media.{Media}
use Rattle.timing_base.specs.declared.media.Kind.{Kind}
use Rattle.timing_base.specs.declared.media.Kind.TheVariants.{N, NL, W}
use Rattle.timing_base.specs.declared.fail.FailProof.{FailProof}
use Rattle.timing_base.specs.declared.fail.Broken.{Broken}
use Rattle.sender_params.specs.Limits.{c_max_of, vrx_full_of}

-- a video of this height at p / q frames per second, with this declared type, TROFF and CMAX
abbrev pub described : (height : ℕ) (interlaced : Bool) (p q : ℕ) (declared : Option Kind) (troff cmax : Option ℕ)
    → Media
described height interlaced p q declared troff cmax = record {
  line = 5;
  address = record { bits = 0 };
  port = 50000;
  pt = 96;
  width = 1920;
  height = height;
  interlaced = interlaced;
  p = p;
  q = q;
  declared = declared;
  troff = troff;
  cmax = cmax;
}

-- a video of this height at p / q frames per second, declared narrow, without TROFF and CMAX
abbrev pub video : (height : ℕ) (interlaced : Bool) (p q : ℕ) → Media
video height interlaced p q = described height interlaced p q (Some N) None None

-- 1080 lines, progressive, at 50 frames per second
abbrev pub hd_50 : Media
hd_50 = video 1080 false 50 1

-- `count` packets at once, 764,000 ns after 1,600,000,000 s; the first read is 444 4/9 ns later
abbrev pub at_once : ℕ → List ℕ
at_once count = replicate count 1600000000000764000

-- packets 0 and 1 of a linear sender at 50 with 20 packets per frame
abbrev pub linear_two : List ℕ
linear_two = 1600000000000764000 ∷ 1600000000001764000 ∷ []

-- 1080 lines, progressive, at 60000/1001 frames per second
abbrev pub hd_59_94 : Media
hd_59_94 = video 1080 false 60000 1001

-- 1080 lines, interlaced, at 25 frames per second
abbrev pub hd_25_interlaced : Media
hd_25_interlaced = video 1080 true 25 1

-- 576 lines, interlaced, at 25 frames per second
abbrev pub sd_25_interlaced : Media
sd_25_interlaced = video 576 true 25 1

-- the time is num / den nanoseconds
abbrev pub IsTime : ℕ × ℕ → (num den : ℕ) → Type 0
IsTime time num den = (0 < time.1) × (time.0 * den ≡ num * time.1)

-- the instant is num / den nanoseconds
abbrev pub IsAt : Fraction → (num den : ℕ) → Type 0
IsAt x num den = AtMost x (scaled (pos num) (1, den)) × AtMost (scaled (pos num) (1, den)) x

-- C_MAX of N, of NL and of W
abbrev pub c_max_of_each : Media → ℕ → ℕ × ℕ × ℕ
c_max_of_each m n = (c_max_of m n N, c_max_of m n NL, c_max_of m n W)

-- VRX_FULL of N, of NL and of W
abbrev pub vrx_full_of_each : Media → ℕ → ℕ × ℕ × ℕ
vrx_full_of_each m n = (vrx_full_of m n N, vrx_full_of m n NL, vrx_full_of m n W)

-- a violation of a model: the first and the last packet, the count over them, and the limit
abbrev pub fail : Broken → (from to count limit : ℕ) → FailProof
fail model from to count limit = record { model = model; from = from; to = to; count = count; limit = limit }
