-- What a run has come to, by the places of its markers in the flow.
use Rattle.std.proofs.Common.{◌≡◌, ◌≤◌, ◌<◌, ◌+◌, ◌-◌, ℕ, zero, suc, Bool, true, false, List, [], ◌∷◌, ◌++◌, length, map, get_or, drop, take, refl, arith, ap}
use Rattle.std.proofs.Common.{◌∙◌, sym, subst, inl, inr, add-one, length-append}
use Rattle.std.specs.Prelude.{◌==◌, nat_lt, if◌then◌else◌, slice_index}
use Rattle.std.proofs.Math.Seq.{take-suc}
use Rattle.std.proofs.lemmas.Bool.Decides.{leb_tells, nat_tests}
use Rattle.std.proofs.lemmas.List.{get_or-drop, length-drop, length-map, length-take-le, map-append}
use Rattle.timing_base.specs.Shifts.{Shift}
use Rattle.timing_base.specs.Flows.{has_marker, last_place, markers, no_packet, packet, places}
use Rattle.timing_base.specs.Judged.{RunOutcome, head_len, no_whole_frame, run_outcome, stamp_of, whole_frames}
use Rattle.timing_base.specs.declared.packet.FlowPacket.{FlowPacket}
use Rattle.timing_base.proofs.Places.{last_place-push, places-here, places-none, places-other}
use Rattle.fail_interval.specs.SoFar.{SoFar, in_first, in_groups, in_head, outcome_of, so_far_at, so_far_by, so_far_next, stamps_from}

-- one packet more
pub stamps_from-next : (packets : List FlowPacket) (shift : Shift) (from to : ℕ) → from ≤ to → to < length packets
    → stamps_from packets shift from (to + 1) ≡ stamps_from packets shift from to ++ stamp_of shift (packet packets to) ∷ []
stamps_from-next packets shift from to order within =
    let rest = drop from packets in
    let size : length rest ≡ length packets - from = length-drop from packets in
    let count : (to + 1) - from ≡ suc (to - from) = omega (arith, order) in
    let back : from + (to - from) ≡ to = omega (arith, order) in
    let here : get_or rest (to - from) no_packet ≡ packet packets to =
    get_or-drop from packets (to - from) no_packet ∙ ap (packet packets) back in
    let more : take ((to + 1) - from) rest ≡ take (to - from) rest ++ packet packets to ∷ [] =
    ap (λ k. take k rest) count ∙ (take-suc rest (to - from) no_packet (omega (arith, size, order, within))
    ∙ ap (λ (p : FlowPacket). take (to - from) rest ++ p ∷ []) here) in
    ap (map (stamp_of shift)) more ∙ map-append (stamp_of shift) (take (to - from) rest) (packet packets to ∷ [])

-- no packet stands between a place and itself
pub stamps_from-none : (packets : List FlowPacket) (shift : Shift) (from : ℕ) → stamps_from packets shift from from ≡ []
stamps_from-none packets shift from =
    let none : from - from ≡ 0 = omega arith in
    ap (λ k. map (stamp_of shift) (take k (drop from packets))) none

-- how many they are
pub length-stamps_from : (packets : List FlowPacket) (shift : Shift) (from to : ℕ) → to ≤ length packets
    → length (stamps_from packets shift from to) ≡ to - from
length-stamps_from packets shift from to within =
    let rest = drop from packets in
    let size : length rest ≡ length packets - from = length-drop from packets in
    length-map (take (to - from) rest) (stamp_of shift) ∙ length-take-le (to - from) rest (omega (arith, size, within))

below-case : (test : ℕ → Bool) (from n : ℕ) (b : Bool) → test n ≡ b → from ≤ n
    → (1 ≤ length (places test from n) → (slice_index (places test from n) 0 ≤ last_place (places test from n)) × (last_place (places test from n) < n))
    → 1 ≤ length (places test from (n + 1))
    → (slice_index (places test from (n + 1)) 0 ≤ last_place (places test from (n + 1))) × (last_place (places test from (n + 1)) < n + 1)
below-case test from n true e h before some =
    subst (λ xs. (slice_index xs 0 ≤ last_place xs) × (last_place xs < n + 1)) (sym (places-here test from n h e)) (push-case (places test from n) before)
  where
    push-case : (xs : List ℕ) → (1 ≤ length xs → (slice_index xs 0 ≤ last_place xs) × (last_place xs < n))
        → (slice_index (xs ++ n ∷ []) 0 ≤ last_place (xs ++ n ∷ [])) × (last_place (xs ++ n ∷ []) < n + 1)
    push-case [] was = (omega arith, omega arith)
    push-case (x ∷ xs) was =
        let last : last_place ((x ∷ xs) ++ n ∷ []) ≡ n = last_place-push (x ∷ xs) n in
        let old = was (omega arith) in
        (omega (arith, last, old.0, old.1), omega (arith, last))
below-case test from n false e h before some =
    let same = places-other test from n e in
    let old = before (subst (λ xs. 1 ≤ length xs) same some) in
    subst (λ xs. (slice_index xs 0 ≤ last_place xs) × (last_place xs < n + 1)) (sym same) (old.0, omega (arith, old.1))

-- places stand below the one that they are counted up to, and the last is the greatest
pub places-below : (test : ℕ → Bool) (from n : ℕ) → 1 ≤ length (places test from n)
    → (slice_index (places test from n) 0 ≤ last_place (places test from n)) × (last_place (places test from n) < n)
places-below test from zero some = absurd (omega arith)
places-below test from (suc n) some =
    elim (leb_tells from n) as (λ _. (slice_index (places test from (suc n)) 0 ≤ last_place (places test from (suc n)))
    × (last_place (places test from (suc n)) < suc n)) [
      | inl l ↦ (rw add-one at (below-case test from n (test n) refl l.1 (places-below test from n))) some
      | inr l ↦ absurd (let none : length (places test from (suc n)) ≡ 0 = ap length (places-none test from (suc n) (omega (arith, l.1))) in omega arith)
    ]

-- where a run starts it has no packet
pub so_far_at-start : (packets : List FlowPacket) (shift : Shift) (from : ℕ) → so_far_at packets shift from from ≡ in_head 0
so_far_at-start packets shift from =
    let none : markers packets from from ≡ [] = places-none (has_marker packets) from from (omega arith) in
    let zero_head : from - from ≡ 0 = omega arith in
    ap (so_far_by packets shift from from) none ∙ ap in_head zero_head

-- packet `to` has no marker
plain-next : (packets : List FlowPacket) (shift : Shift) (from to : ℕ) (marks : List ℕ) → from ≤ to → to < length packets
    → (1 ≤ length marks → slice_index marks 0 < to)
    → so_far_by packets shift from (to + 1) marks ≡ so_far_next (so_far_by packets shift from to marks) (stamp_of shift (packet packets to)) false
plain-next packets shift from to [] order within begun =
    let e : (to + 1) - from ≡ (to - from) + 1 = omega (arith, order) in ap in_head e
plain-next packets shift from to (a ∷ []) order within begun =
    let low : a < to = begun (omega arith) in
    ap (in_first (a + 1 - from)) (stamps_from-next packets shift (a + 1) to (omega (arith, low)) within)
plain-next packets shift from to (a ∷ b ∷ rest) order within begun =
    let low : a < to = begun (omega arith) in
    let more = stamps_from-next packets shift (a + 1) to (omega (arith, low)) within in
    let with_stamps : List ℕ → SoFar = λ stamps. in_groups record {
      head = a + 1 - from;
      n = b - a;
      groups = length (a ∷ b ∷ rest) - 1;
      whole = stamps_from packets shift (a + 1) (last_place (a ∷ b ∷ rest) + 1);
      stamps = stamps;
    } in
    ap with_stamps more

-- a run in groups by its parts
abbrev groups_by : ℕ → ℕ → ℕ → List ℕ → List ℕ → SoFar
groups_by head n groups whole stamps = in_groups record { head = head; n = n; groups = groups; whole = whole; stamps = stamps }

groups_by-same : (head n m groups more : ℕ) (whole more_whole stamps more_stamps : List ℕ) → n ≡ m → groups ≡ more → whole ≡ more_whole → stamps ≡ more_stamps
    → groups_by head n groups whole stamps ≡ groups_by head m more more_whole more_stamps
groups_by-same head n m groups more whole more_whole stamps more_stamps e f g h = cc

-- packet `to` has the marker
marked-next : (packets : List FlowPacket) (shift : Shift) (from to : ℕ) (marks : List ℕ) → from ≤ to → to < length packets
    → (1 ≤ length marks → slice_index marks 0 < to)
    → so_far_by packets shift from (to + 1) (marks ++ to ∷ []) ≡ so_far_next (so_far_by packets shift from to marks) (stamp_of shift (packet packets to)) true
marked-next packets shift from to [] order within begun =
    let e : (to + 1) - from ≡ (to - from) + 1 = omega (arith, order) in
    ap (λ stamps. in_first (to + 1 - from) stamps) (stamps_from-none packets shift (to + 1)) ∙ ap (λ head. in_first head []) e
marked-next packets shift from to (a ∷ []) order within begun =
    let low : a < to = begun (omega arith) in
    let more = stamps_from-next packets shift (a + 1) to (omega (arith, low)) within in
    let now = stamps_from packets shift (a + 1) to ++ stamp_of shift (packet packets to) ∷ [] in
    let size : to - a ≡ length now =
    omega (
      arith,
      length-stamps_from packets shift (a + 1) to (omega (arith, within)),
      low,
      length-append (stamps_from packets shift (a + 1) to) (stamp_of shift (packet packets to) ∷ []),
    ) in
    groups_by-same (a + 1 - from) (to - a) (length now) _ 1 _ _ _ _ size refl more more
marked-next packets shift from to (a ∷ b ∷ rest) order within begun =
    let low : a < to = begun (omega arith) in
    let more = stamps_from-next packets shift (a + 1) to (omega (arith, low)) within in
    let last : last_place ((a ∷ b ∷ rest) ++ to ∷ []) ≡ to = last_place-push (a ∷ b ∷ rest) to in
    let whole : stamps_from packets shift (a + 1) (last_place ((a ∷ b ∷ rest) ++ to ∷ []) + 1)
    ≡ stamps_from packets shift (a + 1) to ++ stamp_of shift (packet packets to) ∷ [] =
    ap (λ k. stamps_from packets shift (a + 1) (k + 1)) last ∙ more in
    let count : length ((a ∷ b ∷ rest) ++ to ∷ []) - 1 ≡ (length (a ∷ b ∷ rest) - 1) + 1 =
    omega (arith, length-append (a ∷ b ∷ rest) (to ∷ [])) in
    groups_by-same (a + 1 - from) (b - a) (b - a) _ _ _ _ _ _ refl count whole more

next-case : (packets : List FlowPacket) (shift : Shift) (from to : ℕ) (b : Bool) → has_marker packets to ≡ b → from ≤ to → to < length packets
    → so_far_at packets shift from (to + 1) ≡ so_far_next (so_far_at packets shift from to) (stamp_of shift (packet packets to)) b
next-case packets shift from to true e order within =
    ap (so_far_by packets shift from (to + 1)) (places-here (has_marker packets) from to order e)
    ∙ marked-next packets shift from to (markers packets from to) order within
    (λ some. let h = places-below (has_marker packets) from to some in omega (arith, h.0, h.1))
next-case packets shift from to false e order within =
    ap (so_far_by packets shift from (to + 1)) (places-other (has_marker packets) from to e)
    ∙ plain-next packets shift from to (markers packets from to) order within
    (λ some. let h = places-below (has_marker packets) from to some in omega (arith, h.0, h.1))

-- one packet more
pub so_far_at-next : (packets : List FlowPacket) (shift : Shift) (from to : ℕ) → from ≤ to → to < length packets
    → so_far_at packets shift from (to + 1)
    ≡ so_far_next (so_far_at packets shift from to) (stamp_of shift (packet packets to)) (has_marker packets to)
so_far_at-next packets shift from to order within = next-case packets shift from to (has_marker packets to) refl order within

-- what is judged of a run, by its markers
abbrev outcome_by : List FlowPacket → Shift → ℕ → ℕ → List ℕ → RunOutcome
outcome_by packets shift from to marks =
    if nat_lt (length marks) 2 then no_whole_frame (head_len marks from to) else whole_frames record {
      n = slice_index marks 1 - slice_index marks 0;
      groups = length marks - 1;
      head = head_len marks from to;
      tail = to - (last_place marks + 1);
      stamps = stamps_from packets shift (slice_index marks 0 + 1) (last_place marks + 1);
    }

not_few : (n : ℕ) → nat_lt (suc (suc n)) 2 ≡ false
not_few n = grind (arith, nat_tests)

not_none : (n : ℕ) → (suc n == 0) ≡ false
not_none n = grind (arith, nat_tests)

-- a judged run by its parts
whole_by-same : (n groups head more_head tail more_shiftl : ℕ) (stamps : List ℕ) → head ≡ more_head → tail ≡ more_shiftl
    → whole_frames (record { n = n; groups = groups; head = head; tail = tail; stamps = stamps })
    ≡ whole_frames (record { n = n; groups = groups; head = more_head; tail = more_shiftl; stamps = stamps })
whole_by-same n groups head more_head tail more_shiftl stamps e f = cc

outcome-case : (packets : List FlowPacket) (shift : Shift) (from to : ℕ) (marks : List ℕ) → to ≤ length packets
    → (1 ≤ length marks → (slice_index marks 0 ≤ last_place marks) × (last_place marks < to))
    → outcome_by packets shift from to marks ≡ outcome_of (so_far_by packets shift from to marks)
outcome-case packets shift from to [] within below = refl
outcome-case packets shift from to (a ∷ []) within below = refl
outcome-case packets shift from to (a ∷ b ∷ rest) within below =
    let marks = a ∷ b ∷ rest in
    let few = below (omega arith) in
    let head : head_len marks from to ≡ a + 1 - from =
    ap (λ e. if e then to - from else a + 1 - from) (not_none (suc (length rest))) in
    let last = last_place marks + 1 in
    let tail : to - last ≡ length (stamps_from packets shift (a + 1) to) - length (stamps_from packets shift (a + 1) last) =
    omega (
      arith,
      length-stamps_from packets shift (a + 1) to within,
      length-stamps_from packets shift (a + 1) last
          (omega (arith, few.1, within)),
      few.0,
      few.1,
    ) in
    ap (λ e. if e then no_whole_frame (head_len marks from to) else whole_frames record {
      n = b - a;
      groups = length marks - 1;
      head = head_len marks from to;
      tail = to - last;
      stamps = stamps_from packets shift (a + 1) last;
    }) (not_few (length rest))
    ∙ whole_by-same (b - a) (length marks - 1) (head_len marks from to) (a + 1 - from) (to - last) _ (stamps_from packets shift (a + 1) last) head tail

pub outcome-so_far : (packets : List FlowPacket) (shift : Shift) (from to : ℕ) → to ≤ length packets
    → run_outcome packets shift from to ≡ outcome_of (so_far_at packets shift from to)
outcome-so_far packets shift from to within =
    outcome-case packets shift from to (markers packets from to) within (places-below (has_marker packets) from to)
