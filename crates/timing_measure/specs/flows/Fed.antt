-- Lemmas on the packets that the taker of a flow has taken. `Stands` is true of these packets.
use Rattle.std.specs.Prelude.{◌≡◌, List, [], ◌∷◌, ◌++◌, Option, None}
use Rattle.std.specs.List.{cons_option}
use Rattle.std.proofs.Common.{ap, sym, subst, append-nil, append_assoc, ◌∙◌}
use Rattle.std.proofs.lemmas.List.Elements.{filter_map-append}
use Rattle.timing_base.specs.Captures.{Record}
use Rattle.timing_base.specs.Media.{Media}
use Rattle.timing_base.specs.declared.packet.FlowPacket.{FlowPacket}
use Rattle.udp_rtp.specs.Flow.{flow, flow_packet}

-- taking no record changes nothing
pub fed_none : (Stands : List FlowPacket → Type 0) (packets : List FlowPacket) → Stands packets → Stands (packets ++ [])
fed_none Stands packets h = subst Stands (sym (append-nil packets)) h

-- a record that is no packet of the flow changes nothing
pub fed_other : (Stands : List FlowPacket → Type 0) (m : Media) (r : Record) (packets : List FlowPacket)
    → flow_packet m r ≡ None → Stands packets → Stands (packets ++ flow (r ∷ []) m)
fed_other Stands m r packets is h =
    subst (λ (o : Option FlowPacket). Stands (packets ++ cons_option o [])) (sym is) (fed_none Stands packets h)

-- taking some records and then others is taking both
pub fed_more : (Stands : List FlowPacket → Type 0) (m : Media) (packets : List FlowPacket) (a b : List Record)
    → Stands ((packets ++ flow a m) ++ flow b m) → Stands (packets ++ flow (a ++ b) m)
fed_more Stands m packets a b h =
    subst Stands (append_assoc packets (flow a m) (flow b m)
    ∙ ap (λ l. packets ++ l) (sym (filter_map-append (flow_packet m) a b))) h
