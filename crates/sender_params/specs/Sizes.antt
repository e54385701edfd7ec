-- The times of a sender in parts of a nanosecond. The number of parts in a nanosecond is the denominator of the gapped
-- schedule's T_RS. m is the video, n the packets per frame or field.
use Rattle.std.specs.Prelude.{◌≡◌, ◌≤◌, ◌*◌, ℕ, Bool, true, cond}
use Rattle.timing_base.specs.Media.{Media}
use Rattle.sender_params.specs.Times.{active_part, group_time, offset_time, read_step}

-- T_RS in parts
abbrev pub step_parts : Media → Bool → ℕ
step_parts m gapped = m.q * 1000000000 * cond gapped (active_part m).0 (active_part m).1

-- number of parts in a nanosecond, T_GROUP, T_RS and TR_OFFSET; all are whole
pub record AreSizes (m : Media) (n : ℕ) (gapped : Bool) (den group step offset : ℕ) : Type 0 where
  pub den_is : den ≡ (read_step m n true).1
  pub group_is : group ≡ m.q * 1000000000 * (active_part m).1 * n
  pub step_is : step ≡ step_parts m gapped
  pub offset_is : offset * (offset_time m).1 ≡ (offset_time m).0 * den

-- the denominators of a video's times aren't 0
pub record HavePer (m : Media) (n : ℕ) (gapped : Bool) : Type 0 where
  pub group : 1 ≤ (group_time m).1
  pub offset : 1 ≤ (offset_time m).1
  pub step : 1 ≤ (read_step m n gapped).1
