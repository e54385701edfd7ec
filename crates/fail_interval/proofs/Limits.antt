-- A run of a flow without a fault is within the limits.
use Rattle.std.proofs.Common.{◌≡◌, ◌≤◌, ◌<◌, ◌+◌, ◌-◌, ◌*◌, ◌^◌, ℕ, Bool, true, false, List, [], ◌∷◌, length, drop, take, None, refl, arith, ap, ◌∙◌}
use Rattle.std.specs.Prelude.{All, slice_index, slice_range}
use Rattle.std.specs.List.Sorted.{IsNonDecreasingBy}
use Rattle.std.proofs.Math.Nat.{mul-le-mul_right}
use Rattle.std.proofs.lemmas.List.{get_or-drop, get_or-map, get_or-take, length-drop, length-take-le}
use Rattle.std.proofs.lemmas.List.Elements.{All-map}
use Rattle.timing_base.specs.Shifts.{IsShift, Shift}
use Rattle.timing_base.specs.Flows.{AreStamped, cuts, first_fault, last_place, markers, no_packet, packet}
use Rattle.timing_base.specs.Grouped.{IsSized}
use Rattle.timing_base.specs.Judged.{stamp_of}
use Rattle.timing_base.specs.declared.packet.FlowPacket.{FlowPacket}
use Rattle.timing_base.proofs.Between.{all_range, each_sized}
use Rattle.timing_base.proofs.Grouped.{stamps_rise}
use Rattle.fail_interval.specs.SoFar.{AreStamps, Fits, in_head, so_far_at, so_far_by, so_far_next, stamps_from}
use Rattle.fail_interval.proofs.Runs.{length-stamps_from}

-- stamp k of a part is that of the packet there
pub stamps_from-at : (packets : List FlowPacket) (shift : Shift) (from to k : ℕ) → to ≤ length packets → from + k < to
    → slice_index (stamps_from packets shift from to) k ≡ stamp_of shift (packet packets (from + k))
stamps_from-at packets shift from to k within here =
    let rest = drop from packets in
    let size : length rest ≡ length packets - from = length-drop from packets in
    let taken : length (take (to - from) rest) ≡ to - from = length-take-le (to - from) rest (omega (arith, size, within)) in
    get_or-map (stamp_of shift) (take (to - from) rest) k no_packet 0 (omega (arith, taken, here))
    ∙ ap (stamp_of shift) (get_or-take (to - from) rest k no_packet (omega (arith, here)) ∙ get_or-drop from packets k no_packet)

-- the stamps of a part are within the limits
pub stamps-fit : (packets : List FlowPacket) (shift : Shift) (from to : ℕ) → to ≤ length packets → length packets ≤ 2 ^ 41 → IsShift shift → AreStamped packets
    → IsNonDecreasingBy (λ (p : FlowPacket). p.at) packets → AreStamps (stamps_from packets shift from to)
stamps-fit packets shift from to within few limits stamped rise =
    let long = length-stamps_from packets shift from to within in
    record {
      ordered = λ j i order below.
          let later : (packet packets (from + j)).at ≤ (packet packets (from + i)).at =
          rise (from + j) (from + i) no_packet (omega (arith, order)) (omega (arith, below, long, within)) in
          omega (
            arith,
            later,
            stamps_from-at packets shift from to j within (omega (arith, order, below, long)),
            stamps_from-at packets shift from to i within (omega (arith, below, long)),
          );
      early =
          let part : All (λ (p : FlowPacket). p.at < 2 ^ 32 * 10 ^ 9) (slice_range packets from to) =
          all_range (λ (p : FlowPacket). p.at < 2 ^ 32 * 10 ^ 9) packets from to stamped in
          All-map (λ at. at < 2 ^ 62) (stamp_of shift) (slice_range packets from to)
          (λ k d below. let early = part k d below in let most = limits.tai_most in omega (arith, early, most));
      few = omega (arith, long, within, few);
    }

few-groups : (a n k last : ℕ) → 1 ≤ n → last ≡ a + n * k → k ≤ last
few-groups a n k last some e = let more = mul-le-mul_right k some in omega (arith, more, e)

-- what holds of the run, by its markers
fits-by : (packets : List FlowPacket) (shift : Shift) (from to : ℕ) (marks : List ℕ) → to ≤ length packets → length packets ≤ 2 ^ 41 → IsShift shift
    → AreStamped packets
    → IsNonDecreasingBy (λ (p : FlowPacket). p.at) packets → IsSized to marks → Fits (so_far_by packets shift from to marks)
fits-by packets shift from to [] within few limits stamped rise sized = omega (arith, within, few)
fits-by packets shift from to (a ∷ []) within few limits stamped rise sized = (
  omega (arith, sized.begun (omega arith), within, few),
  omega (arith, sized.first refl, length-stamps_from packets shift (a + 1) to within),
  stamps-fit packets shift (a + 1) to within few limits stamped rise,
)
fits-by packets shift from to (a ∷ b ∷ rest) within few limits stamped rise sized =
    let two : 2 ≤ length (a ∷ b ∷ rest) = omega arith in
    let some : a < b = sized.some two in
    record {
      head = omega (arith, sized.begun (omega arith), within, few);
      some = omega (arith, some);
      most = omega (arith, sized.few two);
      groups = omega (
        arith,
        few-groups a (b - a) (length (a ∷ b ∷ rest) - 1) (last_place (a ∷ b ∷ rest)) (omega (arith, some)) (sized.whole two),
        sized.later two,
        within,
        few,
      );
      stamps = stamps-fit packets shift (a + 1) to within few limits stamped rise;
    }

-- the open run of a flow without a fault
pub fits-at : (packets : List FlowPacket) (pt : ℕ) (shift : Shift) → first_fault packets pt ≡ None → length packets ≤ 2 ^ 41 → IsShift shift
    → AreStamped packets
    → Fits (so_far_at packets shift (last_place (0 ∷ cuts packets (length packets))) (length packets))
fits-at packets pt shift e few limits stamped =
    let from = last_place (0 ∷ cuts packets (length packets)) in
    fits-by packets shift from (length packets) (markers packets from (length packets)) (omega arith) few limits stamped (stamps_rise packets pt e)
    (each_sized packets pt e (length packets) (omega arith))

no-stamps : AreStamps []
no-stamps = record { ordered = λ j i order below. absurd (omega arith); early = λ k d below. absurd (omega arith); few = omega arith }

-- the first packet of a run is within the limits
pub fresh-fits : (at : ℕ) (marker : Bool) → Fits (so_far_next (in_head 0) at marker)
fresh-fits at true = (omega arith, omega arith, no-stamps)
fresh-fits at false = omega arith
