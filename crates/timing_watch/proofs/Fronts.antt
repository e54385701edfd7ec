-- What is so of the first packets of a flow stays so with more packets.
use Rattle.std.specs.Prelude.{nat_lt, nat_le, not, ◌&&◌, ◌==◌, if◌then◌else◌}
use Rattle.std.proofs.Common.{◌≡◌, ◌<◌, ◌≤◌, ◌-◌, ◌+◌, ◌^◌, ◌++◌, ◌∷◌, ℕ, zero, suc, Bool, true, false, List, [], length}
use Rattle.std.proofs.Common.{◌∙◌, ap, ap₂, sym, subst, refl, arith}
use Rattle.std.proofs.lemmas.List.{get_or_append_left}
use Rattle.timing_base.specs.Flows.{cuts, expected_number, has_marker, is_cut, last_place, markers, next_number, no_packet, packet, places, read_or_zeros, rtp}
use Rattle.timing_base.specs.Flows.{run_start}
use Rattle.timing_base.specs.declared.packet.FlowPacket.{FlowPacket}
use Rattle.timing_base.proofs.Places.{run_start-le}
use Rattle.timing_watch.specs.Watched.{is_second_later, last_told}
use Rattle.timing_watch.specs.making.Flows.{IsAtOpen, IsAtRun}
use Rattle.timing_watch.specs.declared.flow.WatchFlow.{WatchFlow}

pub packet-front : (packets more : List FlowPacket) (i : ℕ) → i < length packets → packet (packets ++ more) i ≡ packet packets i
packet-front packets more i few = get_or_append_left packets more no_packet i few

cut-front : (packets more : List FlowPacket) (i : ℕ) → i < length packets → is_cut (packets ++ more) i ≡ is_cut packets i
cut-front packets more i few =
    let all = packets ++ more in
    ap (λ (p : FlowPacket). nat_lt 0 i && not ((read_or_zeros p.rtp).number == expected_number all i)) (packet-front packets more i few)
    ∙ ap (λ (p : FlowPacket). nat_lt 0 i && not ((rtp packets i).number == next_number (read_or_zeros p.rtp).number))
    (packet-front packets more (i - 1) (omega (arith, few)))

marker-front : (packets more : List FlowPacket) (i : ℕ) → i < length packets → has_marker (packets ++ more) i ≡ has_marker packets i
marker-front packets more i few = ap (λ (p : FlowPacket). (read_or_zeros p.rtp).marker) (packet-front packets more i few)

places-same : (test other : ℕ → Bool) (from n : ℕ) → ((i : ℕ) → i < n → test i ≡ other i) → places test from n ≡ places other from n
places-same test other from zero same = refl
places-same test other from (suc n) same =
    let before = places-same test other from n (λ i few. same i (omega (arith, few))) in
    ap₂ (λ xs b. xs ++ (if nat_le from n && b then n ∷ [] else [])) before (same n (omega arith))

pub cuts-front : (packets more : List FlowPacket) (n : ℕ) → n ≤ length packets → cuts (packets ++ more) n ≡ cuts packets n
cuts-front packets more n few =
    places-same (is_cut (packets ++ more)) (is_cut packets) 0 n (λ i low. cut-front packets more i (omega (arith, low, few)))

pub markers-front : (packets more : List FlowPacket) (from n : ℕ) → n ≤ length packets → markers (packets ++ more) from n ≡ markers packets from n
markers-front packets more from n few =
    places-same (has_marker (packets ++ more)) (has_marker packets) from n (λ i low. marker-front packets more i (omega (arith, low, few)))

pick-le : (b : Bool) (x y z : ℕ) → x ≤ z → y ≤ z → (if b then x else y) ≤ z
pick-le true x y z left right = left
pick-le false x y z left right = right

-- the last packet that was told of isn't after the last packet
pub last_told-le : (packets : List FlowPacket) (from count : ℕ) → last_told packets from count ≤ from + count
last_told-le packets from zero = omega arith
last_told-le packets from (suc count) =
    let before = last_told-le packets from count in
    pick-le (is_second_later packets (last_told packets from count) (from + suc count)) (from + suc count) (last_told packets from count) (from + suc count)
    (omega arith) (omega (arith, before))

last_told-front : (packets more : List FlowPacket) (from count : ℕ) → from + count < length packets
    → last_told (packets ++ more) from count ≡ last_told packets from count
last_told-front packets more from zero few = refl
last_told-front packets more from (suc count) few =
    let all = packets ++ more in
    let last = last_told packets from count in
    let low = last_told-le packets from count in
    ap (λ k. if is_second_later all k (from + suc count) then from + suc count else k) (last_told-front packets more from count (omega (arith, few)))
    ∙ ap₂ (λ (p q : FlowPacket). if nat_le (p.at + 10 ^ 9) q.at then from + suc count else last) (packet-front packets more last (omega (arith, low, few)))
    (packet-front packets more (from + suc count) few)

-- the open run begins before packet n
pub begins-before : (packets : List FlowPacket) (n : ℕ) → 0 < n → last_place (0 ∷ cuts packets n) < n
begins-before packets n some =
    let back : (n - 1) + 1 ≡ n = omega (arith, some) in
    let low : run_start packets (n - 1) ≤ n - 1 = run_start-le packets (n - 1) in
    let same : run_start packets (n - 1) ≡ last_place (0 ∷ cuts packets n) = ap (λ k. last_place (0 ∷ cuts packets k)) back in
    omega (arith, low, same, some)

run-front : (packets more : List FlowPacket) (n : ℕ) (x : WatchFlow) → n ≤ length packets → 0 < n → IsAtRun packets n x → IsAtRun (packets ++ more) n x
run-front packets more n x few some h =
    let same = cuts-front packets more n few in
    let low : x.before < n = omega (arith, h.before_is, begins-before packets n some) in
    let count = n - (x.before + 1) in
    let last = last_told packets x.before count in
    let most = last_told-le packets x.before count in
    record {
      run_is = h.run_is ∙ ap (λ l. length l + 1) (sym same);
      before_is = h.before_is ∙ ap (λ l. last_place (0 ∷ l)) (sym same);
      since_is = λ two.
          h.since_is (subst (λ l. length l < 2) (markers-front packets more x.before n few) two)
          ∙ ap (λ (p : FlowPacket). p.at) (sym (packet-front packets more last (omega (arith, most, low, few))))
          ∙ ap (λ k. (packet (packets ++ more) k).at) (sym (last_told-front packets more x.before count (omega (arith, low, few))));
    }

-- the numbers of a flow at its open run, whatever packets follow
pub open-front : (packets more : List FlowPacket) (n : ℕ) (x : WatchFlow) → n ≤ length packets → IsAtOpen packets n x → IsAtOpen (packets ++ more) n x
open-front packets more n x few h = record { none = h.none; run = λ some. run-front packets more n x few some (h.run some) }
