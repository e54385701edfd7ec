-- One packet more of a flow that is measured while it comes, and the windows of the whole flow.
use Rattle.std.specs.Prelude.{slice_index}
use Rattle.std.proofs.Common.{◌≡◌, ◌≤◌, ◌<◌, ◌+◌, ◌-◌, ℕ, ℤ, suc, Bool, true, false, List, [], ◌∷◌, ◌++◌, length, refl, arith, ap, ◌∙◌, sym, subst}
use Rattle.std.proofs.Common.{drop, take, map, inl, inr, length-append}
use Rattle.std.proofs.Math.Seq.{take-suc}
use Rattle.std.proofs.lemmas.Bool.{cases_lt}
use Rattle.std.proofs.lemmas.List.{drop-append-le, get_or_append_left, length-drop, take-append-le}
use Rattle.timing_base.specs.Shifts.{Shift}
use Rattle.timing_base.specs.Flows.{has_marker, last_place, markers, packet, read_or_zeros}
use Rattle.timing_base.specs.Judged.{stamp_of}
use Rattle.timing_base.specs.Media.{Media}
use Rattle.timing_base.specs.declared.packet.FlowPacket.{FlowPacket}
use Rattle.sender_params.specs.Reads.{anchor_of}
use Rattle.sender_params.specs.declared.params.Params.{Params}
use Rattle.fail_interval.specs.SoFar.{Groups as GroupsSoFar, SoFar, groups_first, groups_next, in_first, in_groups, in_head, so_far_at}
use Rattle.fail_interval.specs.SoFar.{so_far_by, so_far_next, stamps_from}
use Rattle.fail_interval.proofs.Runs.{places-below, so_far_at-next}
use Rattle.timing_reach.specs.window.Gauging.{AreFed, HasCome, IsGauged, IsMetered}
use Rattle.timing_reach.specs.declared.window.gauge.FirstGroup.{FirstGroup}
use Rattle.timing_reach.specs.declared.window.gauge.Gauge.{Gauge}
use Rattle.timing_reach.specs.declared.window.gauge.GroupGauge.{GroupGauge}
use Rattle.timing_reach.specs.declared.window.gauge.Part.{Part}
use Rattle.timing_reach.specs.declared.window.gauge.Part.TheVariants.{First, Groups}
use Rattle.timing_reach.specs.declared.window.meters.WindowMeters.{WindowMeters}
use Rattle.timing_reach.proofs.Markers.{markers-before, packet-last}

-- the packets up to a place, where one packet more comes behind them
stamps-before : (packets : List FlowPacket) (p : FlowPacket) (shift : Shift) (from to : ℕ) → to ≤ length packets
    → stamps_from (packets ++ p ∷ []) shift from to ≡ stamps_from packets shift from to
stamps-before packets p shift from to within =
    let size : length (drop from packets) ≡ length packets - from = length-drop from packets in
    elim (cases_lt (length packets) from) as (λ _. stamps_from (packets ++ p ∷ []) shift from to ≡ stamps_from packets shift from to) [
      | inl past ↦
          let none : to - from ≡ 0 = omega (arith, past, within) in
          ap (λ k. map (stamp_of shift) (take k (drop from (packets ++ p ∷ [])))) none
          ∙ sym (ap (λ k. map (stamp_of shift) (take k (drop from packets))) none)
      | inr low ↦
          ap (λ l. map (stamp_of shift) (take (to - from) l)) (drop-append-le from packets (p ∷ []) low)
          ∙ ap (map (stamp_of shift)) (take-append-le (to - from) (drop from packets) (p ∷ []) (omega (arith, size, within)))
    ]

-- a run in groups by its stamps
abbrev groups_by : ℕ → ℕ → ℕ → List ℕ → List ℕ → SoFar
groups_by head n groups whole stamps = in_groups record { head = head; n = n; groups = groups; whole = whole; stamps = stamps }

groups_by-same : (head n groups : ℕ) (whole more_whole stamps more_stamps : List ℕ) → whole ≡ more_whole → stamps ≡ more_stamps
    → groups_by head n groups whole stamps ≡ groups_by head n groups more_whole more_stamps
groups_by-same head n groups whole more_whole stamps more_stamps e f = cc

-- what the flow has come to doesn't change by a packet behind it
by-before : (packets : List FlowPacket) (p : FlowPacket) (shift : Shift) (marks : List ℕ) → (1 ≤ length marks → last_place marks < length packets)
    → so_far_by (packets ++ p ∷ []) shift 0 (length packets) marks ≡ so_far_by packets shift 0 (length packets) marks
by-before packets p shift [] below = refl
by-before packets p shift (a ∷ []) below =
    ap (in_first (a + 1 - 0)) (stamps-before packets p shift (a + 1) (length packets) (omega arith))
by-before packets p shift (a ∷ b ∷ rest) below =
    let last : last_place (a ∷ b ∷ rest) + 1 ≤ length packets = omega (arith, below (omega arith)) in
    groups_by-same (a + 1 - 0) (b - a) (length (a ∷ b ∷ rest) - 1) _ _ _ _
    (stamps-before packets p shift (a + 1) (last_place (a ∷ b ∷ rest) + 1) last)
    (stamps-before packets p shift (a + 1) (length packets) (omega arith))

so_far-before : (packets : List FlowPacket) (p : FlowPacket) (shift : Shift)
    → so_far_at (packets ++ p ∷ []) shift 0 (length packets) ≡ so_far_at packets shift 0 (length packets)
so_far-before packets p shift =
    ap (so_far_by (packets ++ p ∷ []) shift 0 (length packets)) (markers-before packets p)
    ∙ by-before packets p shift (markers packets 0 (length packets)) (λ some. (places-below (has_marker packets) 0 (length packets) some).1)

-- one packet more
pub so_far-more : (packets : List FlowPacket) (p : FlowPacket) (shift : Shift)
    → so_far_at (packets ++ p ∷ []) shift 0 (length (packets ++ p ∷ []))
    ≡ so_far_next (so_far_at packets shift 0 (length packets)) (stamp_of shift p) (read_or_zeros p.rtp).marker
so_far-more packets p shift =
    let long : length (packets ++ p ∷ []) ≡ length packets + 1 = length-append packets (p ∷ []) in
    ap (so_far_at (packets ++ p ∷ []) shift 0) long
    ∙ so_far_at-next (packets ++ p ∷ []) shift 0 (length packets) (omega arith) (omega (arith, long))
    ∙ ap (λ s. so_far_next s (stamp_of shift (packet (packets ++ p ∷ []) (length packets))) (has_marker (packets ++ p ∷ []) (length packets)))
    (so_far-before packets p shift)
    ∙ ap (λ (q : FlowPacket). so_far_next (so_far_at packets shift 0 (length packets)) (stamp_of shift q) (read_or_zeros q.rtp).marker) (packet-last packets p)

-- the meters of one stamp more of a slice
pub fed-next : (params : Params) (anchor : ℤ) (meters : WindowMeters) (stamps : List ℕ) (i : ℕ) → i < length stamps
    → AreFed params anchor meters (take i stamps ++ slice_index stamps i ∷ []) → AreFed params anchor meters (take (i + 1) stamps)
fed-next params anchor meters stamps i few fed =
    let next : i + 1 ≡ suc i = omega arith in
    let same : take (i + 1) stamps ≡ take i stamps ++ slice_index stamps i ∷ [] = ap (λ k. take k stamps) next ∙ take-suc stamps i 0 few in
    subst (AreFed params anchor meters) (sym same) fed

-- a packet more of whole groups
abbrev FedOn : Params → (old new : WindowMeters) → (at : ℕ) → Type 0
FedOn params old new at = (anchor : ℤ) (stamps : List ℕ) → AreFed params anchor old stamps → AreFed params anchor new (stamps ++ at ∷ [])

fed-more : (m : Media) (old new : GroupGauge) (so_far : GroupsSoFar) (at : ℕ) → new.params ≡ old.params → FedOn old.params old.meters new.meters at
    → IsMetered m old so_far
    → AreFed new.params (anchor_of m (slice_index (so_far.stamps ++ at ∷ []) 0)) new.meters (so_far.stamps ++ at ∷ [])
fed-more m old new so_far at params on h =
    let now = so_far.stamps ++ at ∷ [] in
    let front : slice_index now 0 ≡ slice_index so_far.stamps 0 = get_or_append_left so_far.stamps (at ∷ []) 0 0 (omega (arith, h.some)) in
    subst (λ (x : Params). AreFed x (anchor_of m (slice_index now 0)) new.meters now) (sym params)
    (subst (λ (k : ℕ). AreFed old.params (anchor_of m k) new.meters now) (sym front) (on (anchor_of m (slice_index so_far.stamps 0)) so_far.stamps h.fed))

-- with the marker: what was fed is kept
pub metered-marked : (m : Media) (old new : GroupGauge) (so_far : GroupsSoFar) (at : ℕ) (marker : Bool) → marker ≡ true → new.params ≡ old.params
    → new.at_marker ≡ new.meters → FedOn old.params old.meters new.meters at → IsMetered m old so_far → IsMetered m new (groups_next so_far at marker)
metered-marked m old new so_far at marker e params kept on h =
    let now = so_far.stamps ++ at ∷ [] in
    let fed = fed-more m old new so_far at params on h in
    let marked : IsMetered m new (groups_next so_far at true) =
    record {
      media = ap (λ (x : Params). x.media) params ∙ h.media;
      group = ap (λ (x : Params). x.n) params ∙ h.group;
      some = omega (arith, length-append so_far.stamps (at ∷ []));
      begins = refl;
      fed = fed;
      kept = subst (λ (x : WindowMeters). AreFed new.params (anchor_of m (slice_index now 0)) x now) (sym kept) fed;
    } in
    subst (λ b. IsMetered m new (groups_next so_far at b)) (sym e) marked

-- without: what was kept stays
pub metered-plain : (m : Media) (old new : GroupGauge) (so_far : GroupsSoFar) (at : ℕ) (marker : Bool) → marker ≡ false → new.params ≡ old.params
    → new.at_marker ≡ old.at_marker → FedOn old.params old.meters new.meters at → IsMetered m old so_far → IsMetered m new (groups_next so_far at marker)
metered-plain m old new so_far at marker e params kept on h =
    let now = so_far.stamps ++ at ∷ [] in
    let front : slice_index now 0 ≡ slice_index so_far.stamps 0 = get_or_append_left so_far.stamps (at ∷ []) 0 0 (omega (arith, h.some)) in
    let plain : IsMetered m new (groups_next so_far at false) =
    record {
      media = ap (λ (x : Params). x.media) params ∙ h.media;
      group = ap (λ (x : Params). x.n) params ∙ h.group;
      some = omega (arith, length-append so_far.stamps (at ∷ []));
      begins = h.begins ∙ sym front;
      fed = fed-more m old new so_far at params on h;
      kept = subst (λ (x : WindowMeters). AreFed new.params (anchor_of m (slice_index now 0)) x so_far.whole) (sym kept)
          (subst (λ (x : Params). AreFed x (anchor_of m (slice_index now 0)) old.at_marker so_far.whole) (sym params)
          (subst (λ (k : ℕ). AreFed old.params (anchor_of m k) old.at_marker so_far.whole) (sym front) h.kept));
    } in
    subst (λ b. IsMetered m new (groups_next so_far at b)) (sym e) plain

-- the second marker: the first group is whole
pub comes-whole : (m : Media) (old : Part) (before now : FirstGroup) (g : GroupGauge) (so_far : SoFar) (at : ℕ) (marker : Bool) → old ≡ First before
    → marker ≡ true → now.stamps.items ≡ before.stamps.items ++ at ∷ [] → ((head : ℕ) → IsMetered m g (groups_first head now.stamps.items))
    → HasCome m old so_far → HasCome m (Groups g) (so_far_next so_far at marker)
comes-whole m old before now g so_far at marker was e pushed whole h =
    subst (λ b. HasCome m (Groups g) (so_far_next so_far at b)) (sym e) (ends so_far (subst (λ (x : Part). HasCome m x so_far) was h))
  where
    ends : (so_far : SoFar) → HasCome m (First before) so_far → HasCome m (Groups g) (so_far_next so_far at true)
    ends (in_head head) h = absurd h
    ends (in_first head stamps) h = subst (λ l. IsMetered m g (groups_first head l)) (pushed ∙ ap (λ l. l ++ at ∷ []) h) (whole head)
    ends (in_groups so_far) h = absurd h

-- a packet was passed
pub passes-on : (old new : Gauge) (p : FlowPacket) (at : ℕ) (marker : Bool) → at ≡ stamp_of old.shift p → marker ≡ (read_or_zeros p.rtp).marker
    → new.media ≡ old.media → new.shift ≡ old.shift
    → ((so_far : SoFar) → HasCome old.media old.part so_far → HasCome old.media new.part (so_far_next so_far at marker))
    → (m : Media) (shift : Shift) (packets : List FlowPacket) → IsGauged m shift old packets → IsGauged m shift new (packets ++ p ∷ [])
passes-on old new p at marker is last media same comes m shift packets h =
    let stamp : at ≡ stamp_of shift p = is ∙ ap (λ (x : Shift). stamp_of x p) h.shift_is in
    let before = so_far_at packets shift 0 (length packets) in
    let now : HasCome m new.part (so_far_next before at marker) =
    subst (λ (x : Media). HasCome x new.part (so_far_next before at marker)) h.media
    (comes before (subst (λ (x : Media). HasCome x old.part before) (sym h.media) h.come)) in
    record {
      media = media ∙ h.media;
      shift_is = same ∙ h.shift_is;
      come = subst (HasCome m new.part) (sym (so_far-more packets p shift))
          (subst (λ b. HasCome m new.part (so_far_next before (stamp_of shift p) b)) last
          (subst (λ (x : ℕ). HasCome m new.part (so_far_next before x marker)) stamp now));
    }
