-- The number of packets that a `Demux` has room for. `expects` is the packet that a taker expects next by its state,
-- and `room` holds if a taker has room for `count` more packets.
use Rattle.std.specs.Prelude.{◌≤◌, ℕ, All, List, Option}
use Rattle.std.specs.Option.{ForSome}
use Rattle.std.proofs.lemmas.List.Elements.{All-weaker}
use Rattle.timing_base.specs.declared.packet.Rtp.{Rtp}
use Rattle.flow_demux.specs.Awaits.{AwaitsExpected}
use Rattle.flow_demux.specs.Orders.{IsOrderOf}
use Rattle.flow_demux.specs.declared.demux.Demux.{Demux}
use Rattle.flow_demux.specs.declared.media_flow.MediaFlow.{MediaFlow}

-- flows of the demux, one for each media
abbrev pub flows_of : {F : Type 0} → Demux F → List (MediaFlow F)
flows_of demux = demux.flows.items

-- what is awaited of each flow is what its taker expects; if an order is kept, it is that of the flows
pub record IsReady {F : Type 0} (expects : F → Option Rtp) (demux : Demux F) : Type 0 where
  pub awaits : All (AwaitsExpected expects) (flows_of demux)
  pub ordered : ForSome demux.order (λ order. IsOrderOf order (flows_of demux))

-- the demux is ready, and each taker has room for `count` more packets
pub record HasRoom {F : Type 0} (room : (count : ℕ) → F → Type 0) (expects : F → Option Rtp) (count : ℕ)
    (demux : Demux F) : Type 0 where
  pub ready : IsReady expects demux
  pub each : All (λ (f : MediaFlow F). room count f.taker) (flows_of demux)

-- room for many packets is room for fewer
pub room_less : {F : Type 0} (room : (count : ℕ) → F → Type 0) (expects : F → Option Rtp)
    (less : (few many : ℕ) (x : F) → few ≤ many → room many x → room few x) (few many : ℕ) (demux : Demux F)
    → few ≤ many → HasRoom room expects many demux → HasRoom room expects few demux
room_less {F} room expects less few many demux le h = record {
  ready = h.ready;
  each = All-weaker (λ (f : MediaFlow F). room many f.taker) (λ (f : MediaFlow F). room few f.taker)
      (λ f has. less few many f.taker le has) (flows_of demux) h.each;
}
