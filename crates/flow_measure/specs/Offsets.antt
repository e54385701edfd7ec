-- The meters of the offsets with which the packets of a run would keep the receiver buffer, for each sender type. m is
-- the video, n the packets per frame or field, and stamps the capture timestamps of the judged packets, in nanoseconds
-- of TAI.
use Rattle.std.specs.Prelude.{◌≡◌, ◌<◌, ℕ, List, length}
use Rattle.timing_base.specs.Media.{Media}
use Rattle.timing_base.specs.declared.media.Kind.{Kind}
use Rattle.timing_base.specs.declared.media.Kind.TheVariants.{N, NL, W}
use Rattle.sender_params.specs.declared.params.Params.{Params}
use Rattle.offset_window.specs.Stands.{StandsFor}
use Rattle.offset_window.specs.declared.meter.WindowMeter.{WindowMeter}
use Rattle.flow_measure.specs.Run.{anchor_in}
use Rattle.flow_measure.specs.declared.windows.WindowMeters.{WindowMeters}

-- the meter of a sender type
abbrev pub window_in : Kind → WindowMeters → WindowMeter
window_in N x = x.narrow
window_in NL x = x.narrow_linear
window_in W x = x.wide

-- the meters were fed exactly packets with these capture timestamps, of a run of this video; before the first packet
-- the frame or field of that packet isn't known
pub record MeasuresWindows (m : Media) (n : ℕ) (x : WindowMeters) (stamps : List ℕ) : Type 0 where
  pub seen : x.narrow.seen ≡ length stamps
  pub fed : 0 < length stamps → (params : Params) → params.media ≡ m → params.n ≡ n → (kind : Kind)
      → StandsFor params kind (anchor_in m stamps) (window_in kind x) stamps
