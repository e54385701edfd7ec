-- The faults of the first packets of a flow, and the run that is open after them, stay so with more packets.
use Rattle.std.specs.Prelude.{nat_le, nat_lt, not, ◌&&◌, ◌||◌, ◌==◌, slice_range}
use Rattle.std.proofs.Common.{◌≡◌, ◌<◌, ◌≤◌, ◌-◌, ◌+◌, ◌*◌, ◌++◌, ◌∷◌, ℕ, zero, suc, Bool, List, [], length, drop, take, Option, Some, None}
use Rattle.std.proofs.Common.{◌∙◌, ap, ap₂, sym, refl, arith, length-append}
use Rattle.std.proofs.lemmas.List.{drop-append-le, length-drop, take-append-le}
use Rattle.timing_base.specs.Flows.{cuts, earlier_or, fault, fault_if, first_fault_below, first_of, group_len, last_place, markers, markers_before}
use Rattle.timing_base.specs.Flows.{next_number, order_fault, packet, place_in_group, read_or_zeros, reading_fault, run_start, sender_fault, size_fault}
use Rattle.timing_base.specs.Grouped.{IsSized}
use Rattle.timing_base.specs.Shifts.{Shift}
use Rattle.timing_base.specs.declared.packet.FlowPacket.{FlowPacket}
use Rattle.timing_base.specs.declared.packet.PacketFault.{PacketFault}
use Rattle.timing_base.specs.declared.packet.PacketFault.TheVariants.{FrameSize, FrameTooLarge, NoMarker, Number, PayloadType, SameStamp, SecondSource}
use Rattle.timing_base.specs.declared.packet.PacketFault.TheVariants.{StampBack}
use Rattle.fail_interval.specs.Parts.{open_at, open_before, run_by}
use Rattle.fail_interval.proofs.PartsTold.{sized-below}
use Rattle.timing_watch.proofs.Fronts.{begins-before, cuts-front, markers-front, packet-front}
use Rattle.timing_watch.proofs.Runs.{open-marks, open_marked}

-- ---- the fault of a packet, by what it stands on

abbrev sender_by : (pt : ℕ) (p first : FlowPacket) → Option PacketFault
sender_by pt p first =
    first_of (reading_fault p.rtp)
    (first_of (fault_if (not ((read_or_zeros p.rtp).pt == pt)) PayloadType)
    (fault_if (not ((read_or_zeros p.rtp).ssrc == (read_or_zeros first.rtp).ssrc)) SecondSource))

abbrev cut_by : (i : ℕ) (p last : FlowPacket) → Bool
cut_by i p last = nat_lt 0 i && not ((read_or_zeros p.rtp).number == next_number (read_or_zeros last.rtp).number)

abbrev order_by : (i : ℕ) (places : List ℕ) (p last : FlowPacket) → Option PacketFault
order_by i places p last =
    first_of (fault_if (cut_by i p last && nat_le 1024 (length places))
    (Number (next_number (read_or_zeros last.rtp).number) (read_or_zeros p.rtp).number))
    (first_of (fault_if (nat_lt 0 i && nat_lt p.at last.at) (StampBack last.at p.at))
    (first_of (fault_if ((nat_lt 0 i && not (cut_by i p last))
    && (not ((read_or_zeros p.rtp).timestamp == (read_or_zeros last.rtp).timestamp) && not (read_or_zeros last.rtp).marker)) NoMarker)
    (fault_if ((nat_lt 0 i && not (cut_by i p last))
    && (((read_or_zeros p.rtp).timestamp == (read_or_zeros last.rtp).timestamp) && (read_or_zeros last.rtp).marker)) SameStamp)))

abbrev size_by : (i : ℕ) (p : FlowPacket) (marks : List ℕ) → Option PacketFault
size_by i p marks =
    let got = place_in_group marks i in
    first_of (fault_if (nat_le 2 (length marks) && (((read_or_zeros p.rtp).marker && nat_lt got (group_len marks)) || (got == group_len marks + 1)))
    (FrameSize (group_len marks) got))
    (fault_if ((length marks == 1) && (got == 262144 + 1)) FrameTooLarge)

marks-front : (packets more : List FlowPacket) (i : ℕ) → i < length packets → markers_before (packets ++ more) i ≡ markers_before packets i
marks-front packets more i few =
    let all = packets ++ more in
    ap (λ places. markers all (last_place (0 ∷ places)) i) (cuts-front packets more (i + 1) (omega (arith, few)))
    ∙ markers-front packets more (run_start packets i) i (omega (arith, few))

fault-front : (packets more : List FlowPacket) (pt i : ℕ) → i < length packets → fault (packets ++ more) pt i ≡ fault packets pt i
fault-front packets more pt i few =
    let all = packets ++ more in
    let p = packet packets i in
    let here = packet-front packets more i few in
    let last = packet-front packets more (i - 1) (omega (arith, few)) in
    let first = packet-front packets more 0 (omega (arith, few)) in
    let sender : sender_fault all pt i ≡ sender_fault packets pt i = ap₂ (sender_by pt) here first in
    let order : order_fault 1024 all i ≡ order_fault 1024 packets i =
    ap (λ places. order_by i places (packet all i) (packet all (i - 1))) (cuts-front packets more i (omega (arith, few)))
    ∙ ap₂ (order_by i (cuts packets i)) here last in
    let size : size_fault 262144 all i ≡ size_fault 262144 packets i = ap₂ (size_by i) here (marks-front packets more i few) in
    ap₂ (λ (a b : Option PacketFault). first_of a (first_of b (size_fault 262144 all i))) sender order
    ∙ ap (λ (c : Option PacketFault). first_of (sender_fault packets pt i) (first_of (order_fault 1024 packets i) c)) size

-- the first fault below a packet
pub faults-front : (packets more : List FlowPacket) (pt n : ℕ) → n ≤ length packets
    → first_fault_below (packets ++ more) pt n ≡ first_fault_below packets pt n
faults-front packets more pt zero few = refl
faults-front packets more pt (suc n) few =
    ap₂ (λ before here. earlier_or before n here) (faults-front packets more pt n (omega (arith, few))) (fault-front packets more pt n (omega (arith, few)))

-- ---- the open run

range-front : (packets more : List FlowPacket) (from to : ℕ) → to ≤ length packets → from ≤ to
    → slice_range (packets ++ more) from to ≡ slice_range packets from to
range-front packets more from to within order =
    let rest = length-drop from packets in
    ap (take (to - from)) (drop-append-le from packets more (omega (arith, order, within)))
    ∙ take-append-le (to - from) (drop from packets) more (omega (arith, rest, order, within))

marked-front : (number : ℕ) (first : FlowPacket) (packets more : List FlowPacket) (shift : Shift) (from to : ℕ) (marks : List ℕ) → to ≤ length packets
    → IsSized to marks
    → open_marked number first (packets ++ more) shift from to marks ≡ open_marked number first packets shift from to marks
marked-front number first packets more shift from to [] within sized = refl
marked-front number first packets more shift from to (a ∷ []) within sized = refl
marked-front number first packets more shift from to (a ∷ b ∷ rest) within sized =
    let marks = a ∷ b ∷ rest in
    let two : 2 ≤ length marks = omega arith in
    let whole : last_place marks ≡ a + (b - a) * (length marks - 1) = sized.whole two in
    let later : last_place marks < to = sized.later two in
    ap (λ l. Some (record { run = run_by number first (b - a); packets = l }))
    (range-front packets more (a + 1) (last_place marks + 1) (omega (arith, later, within)) (omega (arith, whole)))

-- the run that is open before a packet
pub open-before-front : (packets more : List FlowPacket) (pt : ℕ) (shift : Shift) (n : ℕ) → n ≤ length packets → first_fault_below packets pt n ≡ None
    → open_before (packets ++ more) shift n ≡ open_before packets shift n
open-before-front packets more pt shift zero few none = refl
open-before-front packets more pt shift (suc k) few none =
    let n = suc k in
    let all = packets ++ more in
    let places = cuts packets n in
    let from = last_place (0 ∷ places) in
    let number = length places + 1 in
    let first = packet packets from in
    let low : from < n = begins-before packets n (omega arith) in
    let long = length-append packets more in
    ap (λ l. open_at all shift l n) (cuts-front packets more n few)
    ∙ open-marks number (packet all from) all shift from n (omega (arith, long, few))
    ∙ ap₂ (λ p marks. open_marked number p all shift from n marks) (packet-front packets more from (omega (arith, low, few))) (markers-front packets more from n few)
    ∙ marked-front number first packets more shift from n (markers packets from n) few (sized-below packets pt n n none (omega arith))
    ∙ sym (open-marks number first packets shift from n few)
