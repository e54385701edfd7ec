-- A flow's meter took a packet more, or the flow is over.
use Rattle.std.proofs.Common.{◌≡◌, ◌++◌, ◌∷◌, ℕ, Bool, List, [], Some}
use Rattle.std.specs.Prelude.{IfOk, Result}
use Rattle.timing_base.specs.Captures.{Record}
use Rattle.timing_base.specs.Keys.{key_of}
use Rattle.timing_base.specs.Media.{Media}
use Rattle.timing_base.specs.declared.packet.FlowPacket.{FlowPacket}
use Rattle.udp_rtp.specs.Flow.{flow_packet}
use Rattle.fail_interval.specs.Metered.{Standing, Telling}
use Rattle.fail_interval.specs.Meterings.{Feeds}
use Rattle.timing_steps.proofs.Takings.{if-ok}
use Rattle.timing_measure.specs.Measured.{first_source}
use Rattle.timing_measure.specs.flows.Meters.{TakesOn}
use Rattle.timing_measure.specs.declared.flows.flow.FlowMeter.{FlowMeter}
use Rattle.timing_measure.proofs.Packets.{one-packet}

-- its judge and its meters took it, and it may be the first that was read
pub meter-took : {M O Past : Type 0} (wants : Bool) (stands : Standing M) (tells : Telling Past O) (m : Media) (old new : FlowMeter M O) (r : Record)
    (p : FlowPacket) → flow_packet m r ≡ Some p
    → ((packets : List FlowPacket) → old.source ≡ first_source packets → new.source ≡ first_source (packets ++ p ∷ []))
    → Feeds wants stands tells m old.metered new.metered (r ∷ [])
    → TakesOn wants stands tells m old new (r ∷ [])
meter-took wants stands tells m old new r p is source feeds past number options packets h = record {
  metered_is = feeds past (key_of 0 number) options packets h.metered_is;
  source_is = one-packet (λ l. new.source ≡ first_source l) packets (Some p) (flow_packet m r) is (source packets h.source_is);
}

-- where memory was had
pub meter-takes : {M O Past T E : Type 0} (wants : Bool) (stands : Standing M) (tells : Telling Past O) (result : Result T E)
    (old new : FlowMeter M O) (p : FlowPacket) (bytes : List ℕ)
    → ((packets : List FlowPacket) → old.source ≡ first_source packets → new.source ≡ first_source (packets ++ p ∷ []))
    → IfOk result (λ _. (m : Media) (r : Record) → flow_packet m r ≡ Some p → r.bytes ≡ bytes
    → Feeds wants stands tells m old.metered new.metered (r ∷ []))
    → IfOk result (λ _. (m : Media) (r : Record) → flow_packet m r ≡ Some p → r.bytes ≡ bytes → TakesOn wants stands tells m old new (r ∷ []))
meter-takes wants stands tells result old new p bytes source feeds =
    if-ok result (λ _ fed m r is same. meter-took wants stands tells m old new r p is source (fed m r is same)) feeds
