-- The flow of files that are joined: the flows of the files, one after the other, with their record numbers raised.
use Rattle.std.proofs.Common.{◌≡◌, ◌+◌, ℕ, suc, Bool, true, false, cond, List, [], ◌∷◌, ◌++◌, length, map, slice_get, Some, None, refl, sym, ap, ap₂, ◌∙◌}
use Rattle.std.proofs.Common.{subst, arith}
use Rattle.std.specs.Prelude.{Option, option_map}
use Rattle.std.specs.List.{cons_option}
use Rattle.std.proofs.lemmas.List.Elements.{filter_map-append}
use Rattle.timing_base.specs.Captures.{Record, joined_after, raised}
use Rattle.timing_base.specs.Media.{Media}
use Rattle.timing_base.specs.Targets.{target_of}
use Rattle.timing_base.specs.declared.packet.FlowPacket.{FlowPacket}
use Rattle.udp_rtp.specs.Flow.{datagram_packet, flow, flow_packet, is_same_target}
use Rattle.udp_rtp.specs.Frames.{Datagram, datagram_of}
use Rattle.udp_rtp.specs.Reading.{reading}
use Rattle.ruled_intake.specs.declared.message.Message.{Message}
use Rattle.flow_worker.specs.Messages.{file_packets, media_packets, records_told}
use Rattle.flow_worker.specs.Opening.{Capture}
use Rattle.flow_worker.specs.Posting.{joined_packets, raised_packet}

-- the packet of a record with its number raised, by whether the record goes there
raised_if : (before : ℕ) (p q : FlowPacket) (b : Bool) → raised_packet before p ≡ q
    → cond b (Some q) None ≡ option_map (raised_packet before) (cond b (Some p) None)
raised_if before p q true e = ap Some (sym e)
raised_if before p q false e = refl

raised_datagram : (m : Media) (before number stamp : ℕ) (o : Option Datagram)
    → datagram_packet m (before + number) stamp o ≡ option_map (raised_packet before) (datagram_packet m number stamp o)
raised_datagram m before number stamp None = refl
raised_datagram m before number stamp (Some d) =
    raised_if before record { rec = number; at = stamp; rtp = reading d.payload } record { rec = before + number; at = stamp; rtp = reading d.payload }
    (is_same_target d.target (target_of m)) refl

-- the packet of a record with its number raised
flow_packet-raised : (m : Media) (before : ℕ) (r : Record) → flow_packet m (raised before r) ≡ option_map (raised_packet before) (flow_packet m r)
flow_packet-raised m before r = raised_datagram m before r.number r.stamp (datagram_of r.bytes)

map-cons_option : (f : FlowPacket → FlowPacket) (o : Option FlowPacket) (ps : List FlowPacket) → cons_option (option_map f o) (map f ps)
    ≡ map f (cons_option o ps)
map-cons_option f None ps = refl
map-cons_option f (Some p) ps = refl

-- the flow of records with their numbers raised
flow-raised : (m : Media) (before : ℕ) (items : List Record) → flow (map (raised before) items) m ≡ map (raised_packet before) (flow items m)
flow-raised m before [] = refl
flow-raised m before (r ∷ rs) =
    ap₂ cons_option (flow_packet-raised m before r) (flow-raised m before rs) ∙ map-cons_option (raised_packet before) (flow_packet m r) (flow rs m)

-- what was taken of a file tells the flow of a media, and how many records there are
pub record TellsFlow (media : ℕ) (m : Media) (taken : List Message) (file : ℕ) (c : Capture) : Type 0 where
  pub packets : media_packets media (file_packets file taken) ≡ flow c.records m
  pub records : records_told file taken ≡ length c.records

-- all files tell theirs
pub joined_packets-all : (media : ℕ) (m : Media) (taken : List Message) (before file : ℕ) (captures : List Capture)
    → ((i : ℕ) (c : Capture) → slice_get captures i ≡ Some c → TellsFlow media m taken (file + i) c)
    → joined_packets media before file (length captures) taken ≡ flow (joined_after before (map (λ (c : Capture). c.records) captures)) m
joined_packets-all media m taken before file [] tells = refl
joined_packets-all media m taken before file (c ∷ cs) tells =
    let here : TellsFlow media m taken file c = let z : file + 0 ≡ file = omega arith in subst (λ (f : ℕ). TellsFlow media m taken f c) z (tells 0 c refl) in
    let later : List (List Record) = map (λ (d : Capture). d.records) cs in
    let more = joined_packets-all media m taken (before + records_told file taken) (file + 1) cs
    (λ i d e. let z : file + suc i ≡ file + 1 + i = omega arith in subst (λ (f : ℕ). TellsFlow media m taken f d) z (tells (suc i) d e)) in
    ap₂ (λ (k l : List FlowPacket). k ++ l)
    (ap (map (raised_packet before)) here.packets ∙ sym (flow-raised m before c.records))
    (more ∙ ap (λ (n : ℕ). flow (joined_after (before + n) later) m) here.records)
    ∙ sym (filter_map-append (flow_packet m) (map (raised before) c.records) (joined_after (before + length c.records) later))
