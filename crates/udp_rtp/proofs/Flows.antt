-- The flow of records and one more, as a loop over the records needs it.
use Rattle.std.proofs.Common.{◌≡◌, List, [], ◌∷◌, ◌++◌, ap, ◌∙◌}
use Rattle.std.specs.Prelude.{Some, None}
use Rattle.std.specs.List.{cons_option}
use Rattle.std.proofs.lemmas.List.{append-nil, map-append}
use Rattle.std.proofs.lemmas.List.Elements.{filter_map-append}
use Rattle.timing_base.specs.Captures.{Record}
use Rattle.timing_base.specs.Media.{Media}
use Rattle.timing_base.specs.declared.packet.FlowPacket.{FlowPacket}
use Rattle.udp_rtp.specs.Flow.{flow, flow_packet}

-- the flow of the one more comes after that of the others
pub flow-append : (media : Media) (records : List Record) (r : Record)
    → flow (records ++ r ∷ []) media ≡ flow records media ++ flow (r ∷ []) media
flow-append media records r = filter_map-append (flow_packet media) records (r ∷ [])

-- it is one packet more where the record is a packet of the flow
pub flow-append_some : (media : Media) (records : List Record) (r : Record) (p : FlowPacket)
    → flow_packet media r ≡ Some p → flow (records ++ r ∷ []) media ≡ flow records media ++ p ∷ []
flow-append_some media records r p e =
    flow-append media records r ∙ ap (λ o. flow records media ++ cons_option o []) e

-- and none more where it isn't
pub flow-append_none : (media : Media) (records : List Record) (r : Record)
    → flow_packet media r ≡ None → flow (records ++ r ∷ []) media ≡ flow records media
flow-append_none media records r e =
    flow-append media records r ∙ (ap (λ o. flow records media ++ cons_option o []) e ∙ append-nil (flow records media))

-- what a loop over the records cites, where its invariant is a flow of those so far
pub ruleset flow_steps = (filter_map-append, map-append)
