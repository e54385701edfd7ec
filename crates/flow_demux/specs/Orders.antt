-- The relation of an `Order` to the flows: it has one entry for each flow, and no two flows have the same target.
use Rattle.std.specs.Prelude.{◌≡◌, ℕ, List, length}
use Rattle.timing_base.specs.Targets.{HaveOwnTargets}
use Rattle.flow_demux.specs.Takings.{media_in}
use Rattle.flow_demux.specs.declared.media_flow.MediaFlow.{MediaFlow}
use Rattle.flow_demux.specs.declared.order.Order.{Order}

-- number of media
abbrev pub count : Order → ℕ
count order = length order.next.items

-- the order is that of these flows, and a frame goes to at most one of them
abbrev pub IsOrderOf : {F : Type 0} → Order → List (MediaFlow F) → Type 0
IsOrderOf order flows = (count order ≡ length flows) × HaveOwnTargets (media_in flows)
