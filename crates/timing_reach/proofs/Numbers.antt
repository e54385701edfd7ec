-- The number of a packet changes neither its instant nor its marker, nor what is judged of a flow without a gap.
use Rattle.std.proofs.Common.{◌≡◌, ◌+◌, ◌-◌, ℕ, zero, suc, Bool, true, false, if◌then◌else◌, nat_lt, List, [], ◌∷◌, length, map, take, drop}
use Rattle.std.proofs.Common.{Option, None, refl, ap, ◌∙◌, sym}
use Rattle.std.specs.Prelude.{Result, Ok, Err, slice_index, slice_range}
use Rattle.std.proofs.lemmas.List.{drop-map, take-map}
use Rattle.timing_base.specs.Flows.{group_len, has_marker, last_place, markers, read_or_zeros}
use Rattle.timing_base.specs.Judged.{RunOutcome, head_len, no_whole_frame, run_outcome, stamp_of, whole_frames}
use Rattle.timing_base.specs.Numbered.{counted_from, counted_rtp, number_after, numbered}
use Rattle.timing_base.specs.Shifts.{Shift}
use Rattle.timing_base.specs.declared.packet.FlowPacket.{FlowPacket}
use Rattle.timing_base.specs.declared.packet.PacketFault.{PacketFault}
use Rattle.timing_base.specs.declared.packet.Rtp.{Rtp}
use Rattle.timing_base.proofs.Numberings.{length-numbered}
use Rattle.timing_reach.proofs.Markers.{places-same}
use Rattle.timing_reach.proofs.Resent.{moved}

-- the packets come at the same instants
instants-counted : (before : Option ℕ) (packets : List FlowPacket)
    → map (λ (p : FlowPacket). p.at) (counted_from before packets) ≡ map (λ (p : FlowPacket). p.at) packets
instants-counted before [] = refl
instants-counted before (p ∷ ps) = ap (λ l. p.at ∷ l) (instants-counted (number_after before (counted_rtp before p.rtp)) ps)

pub instants-numbered : (seq16 : Bool) (packets : List FlowPacket)
    → map (λ (p : FlowPacket). p.at) (numbered seq16 packets) ≡ map (λ (p : FlowPacket). p.at) packets
instants-numbered false packets = refl
instants-numbered true packets = instants-counted None packets

stamps-counted : (shift : Shift) (before : Option ℕ) (packets : List FlowPacket)
    → map (stamp_of shift) (counted_from before packets) ≡ map (stamp_of shift) packets
stamps-counted shift before [] = refl
stamps-counted shift before (p ∷ ps) = ap (λ l. stamp_of shift p ∷ l) (stamps-counted shift (number_after before (counted_rtp before p.rtp)) ps)

range-counted : (shift : Shift) (packets : List FlowPacket) (from to : ℕ)
    → map (stamp_of shift) (slice_range (counted_from None packets) from to) ≡ map (stamp_of shift) (slice_range packets from to)
range-counted shift packets from to =
    let counted = counted_from None packets in
    sym (take-map (stamp_of shift) (to - from) (drop from counted)) ∙ ap (take (to - from)) (sym (drop-map (stamp_of shift) from counted))
    ∙ ap (λ l. take (to - from) (drop from l)) (stamps-counted shift None packets)
    ∙ ap (take (to - from)) (drop-map (stamp_of shift) from packets) ∙ take-map (stamp_of shift) (to - from) (drop from packets)

-- the same of them have the marker
marker-read : (before : Option ℕ) (r : Result Rtp PacketFault) → (read_or_zeros (counted_rtp before r)).marker ≡ (read_or_zeros r).marker
marker-read before (Ok r) = refl
marker-read before (Err fault) = refl

marker-counted : (before : Option ℕ) (packets : List FlowPacket) (i : ℕ) → has_marker (counted_from before packets) i ≡ has_marker packets i
marker-counted before [] i = refl
marker-counted before (p ∷ ps) zero = marker-read before p.rtp
marker-counted before (p ∷ ps) (suc i) = marker-counted (number_after before (counted_rtp before p.rtp)) ps i

-- a run up to a place, by its markers and the stamps of its judged packets
abbrev outcome_by : List ℕ → ℕ → List ℕ → RunOutcome
outcome_by marks to stamps =
    if nat_lt (length marks) 2 then no_whole_frame (head_len marks 0 to)
    else whole_frames record {
      n = group_len marks;
      groups = length marks - 1;
      head = head_len marks 0 to;
      tail = to - (last_place marks + 1);
      stamps = stamps;
    }

-- the stamps of the packets between the first and the last of these markers
abbrev stamps_by : Shift → List ℕ → List FlowPacket → List ℕ
stamps_by shift marks packets = map (stamp_of shift) (slice_range packets (slice_index marks 0 + 1) (last_place marks + 1))

-- the same is judged of a flow without a gap
pub outcome-numbered : (seq16 : Bool) (packets : List FlowPacket) (shift : Shift)
    → run_outcome (numbered seq16 packets) shift 0 (length (numbered seq16 packets)) ≡ run_outcome packets shift 0 (length packets)
outcome-numbered false packets shift = refl
outcome-numbered true packets shift =
    let counted = counted_from None packets in
    let long : length counted ≡ length packets = length-numbered true packets in
    let marks : markers counted 0 (length counted) ≡ markers packets 0 (length packets) =
    places-same (has_marker counted) (has_marker packets) 0 (length counted) (λ k h. marker-counted None packets k) ∙ ap (markers packets 0) long in
    let all = markers packets 0 (length packets) in
    ap (λ (l : List ℕ). outcome_by l (length counted) (stamps_by shift l counted)) marks
    ∙ ap (λ k. outcome_by all k (stamps_by shift all counted)) long
    ∙ ap (outcome_by all (length packets)) (range-counted shift packets (slice_index all 0 + 1) (last_place all + 1))

-- packets that leave at other instants have the same numbers
counted-moved : (leaves : ℕ → ℕ → ℕ) (k : ℕ) (before : Option ℕ) (ps : List FlowPacket)
    → counted_from before (moved leaves k ps) ≡ moved leaves k (counted_from before ps)
counted-moved leaves k before [] = refl
counted-moved leaves k before (p ∷ ps) =
    ap (λ (rest : List FlowPacket). record { rec = k + 1; at = leaves k p.at; rtp = counted_rtp before p.rtp } ∷ rest)
    (counted-moved leaves (k + 1) (number_after before (counted_rtp before p.rtp)) ps)

pub numbered-moved : (seq16 : Bool) (leaves : ℕ → ℕ → ℕ) (k : ℕ) (ps : List FlowPacket)
    → numbered seq16 (moved leaves k ps) ≡ moved leaves k (numbered seq16 ps)
numbered-moved false leaves k ps = refl
numbered-moved true leaves k ps = counted-moved leaves k None ps
