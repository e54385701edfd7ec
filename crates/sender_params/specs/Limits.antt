-- The limits of both models (SMPTE ST 2110-21), in packets. m is the video, n the packets per frame or field. The
-- models, the types and the names are the standard's. This project's own are all numbers, with the minimum limits 4,
-- 16, 8 and 720 and the divisors; that CMAX holds for the declared type only; and that W has linear reads.
use Rattle.std.specs.Prelude.{◌*◌, ◌/◌, ℕ, max, Bool, true, false, cond, Option, Some}
use Rattle.std.specs.Option.{unwrap_or}
use Rattle.timing_base.specs.Media.{Media}
use Rattle.timing_base.specs.declared.media.Kind.{Kind}
use Rattle.timing_base.specs.declared.media.Kind.TheVariants.{N, NL, W}
use Rattle.sender_params.specs.Times.{per_frame_of, active_part}

-- C_MAX of the bucket, by the packet rate
abbrev pub c_max_by_rate : Media → ℕ → Kind → ℕ
c_max_by_rate m n N = max 4 (per_frame_of m n * m.p * (active_part m).1 / (43200 * (active_part m).0 * m.q))
c_max_by_rate m n NL = max 4 (per_frame_of m n * m.p / (43200 * m.q))
c_max_by_rate m n W = max 16 (per_frame_of m n * m.p / (21600 * m.q))

-- whether this type is the declared one
abbrev pub is_declared : Option Kind → Kind → Bool
is_declared (Some N) N = true
is_declared (Some NL) NL = true
is_declared (Some W) W = true
is_declared _ _ = false

-- CMAX, if the SDP gives it, replaces the limit of the declared type only
abbrev pub or_declared : Option Kind → Option ℕ → Kind → ℕ → ℕ
or_declared declared cmax kind limit = cond (is_declared declared kind) (unwrap_or cmax limit) limit

-- C_MAX of the bucket
abbrev pub c_max_of : Media → ℕ → Kind → ℕ
c_max_of m n kind = or_declared m.declared m.cmax kind (c_max_by_rate m n kind)

-- VRX_FULL of the virtual receiver buffer
abbrev pub vrx_full_of : Media → ℕ → Kind → ℕ
vrx_full_of m n N = max 8 (per_frame_of m n * m.p / (27000 * m.q))
vrx_full_of m n NL = max 8 (per_frame_of m n * m.p / (27000 * m.q))
vrx_full_of m n W = max 720 (per_frame_of m n * m.p / (300 * m.q))

-- whether the reads of this type are gapped; else they are linear
abbrev pub gapped_of : Kind → Bool
gapped_of N = true
gapped_of NL = false
gapped_of W = false
