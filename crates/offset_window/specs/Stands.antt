-- The state of a `WindowMeter` after the packets that it was fed.
use Rattle.std.specs.Prelude.{◌≡◌, ◌<◌, ℕ, ℤ, List, length}
use Rattle.timing_base.specs.declared.media.Kind.{Kind}
use Rattle.sender_params.specs.Limits.{gapped_of, vrx_full_of}
use Rattle.sender_params.specs.declared.params.Params.{Params}
use Rattle.read_schedule.specs.Parts.{IsGridWithout}
use Rattle.offset_window.specs.Window.{IsLowerEnd, IsUpperEnd, is_empty_with, is_over_with}
use Rattle.offset_window.specs.declared.meter.WindowMeter.{WindowMeter}

-- the meter, of this sender type, was fed exactly packets with these capture timestamps, of a flow with a first packet
-- of frame or field `anchor`
pub record StandsFor (params : Params) (kind : Kind) (anchor : ℤ) (meter : WindowMeter) (stamps : List ℕ) : Type 0 where
  pub kind_is : meter.kind ≡ kind
  pub seen : meter.seen ≡ length stamps
  pub grid : IsGridWithout params.media params.n anchor (gapped_of kind) meter.grid
  -- for a next packet that moves neither end, this is the limit of the buffer
  pub back : meter.seen < meter.quiet.until → meter.quiet.back ≡ vrx_full_of params.media params.n kind
  pub lower : IsLowerEnd (is_empty_with params.media params.n anchor stamps kind) (length stamps) meter.lower
  pub upper : IsUpperEnd (is_over_with params.media params.n anchor stamps kind) (length stamps) meter.upper
