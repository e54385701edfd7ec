-- The change by one packet.
use Rattle.std.specs.Prelude.{◌≡◌, ◌⊎◌, ℕ, true, Option, None, Result, Ok, Err}
use Rattle.timing_base.specs.declared.packet.PacketFault.{PacketFault}
use Rattle.timing_base.specs.declared.packet.Rtp.{Rtp}
use Rattle.path_skew.specs.Kept.{IsCounted, view}
use Rattle.path_skew.specs.View.{IsOpened, IsSame, View}
use Rattle.path_skew.specs.declared.arrival.Arrival.{Arrival}
use Rattle.path_skew.specs.declared.flow.Flow.{Flow}
use Rattle.path_skew.specs.declared.pages.Pages.{Pages}
use Rattle.path_skew.specs.declared.pages.Side.{Side}

-- a packet of a flow with this packet number came. If it is the first with the number, the result is the other flow's
-- first packet with it, if any; else there is no result.
abbrev pub Steps : (v w : View) (old new : Flow) → (number : ℕ) → Arrival → Option Arrival → Type 0
Steps v w old new number arrival told = (IsOpened v w number arrival told × IsCounted old new 1 0 0)
    ⊎ ((v.own number ≡ true) × IsSame v w × IsCounted old new 0 1 0 × (told ≡ None))

-- a packet of a flow came, parsed or not; if it wasn't, there is no result
abbrev pub Comes : Side → (before after : Pages) → (old new : Flow) → Arrival → Result Rtp PacketFault
    → Option Arrival → Type 0
Comes side before after old new arrival (Ok rtp) told =
    Steps (view side before) (view side after) old new rtp.number arrival told
Comes side before after old new arrival (Err fault) told =
    (after ≡ before) × IsCounted old new 0 0 1 × (told ≡ None)
