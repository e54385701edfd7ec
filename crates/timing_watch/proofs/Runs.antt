-- The complete frames or fields of the run that is open before a packet, and of the one that is open after it.
use Rattle.std.specs.Prelude.{⊤, slice_index, slice_range}
use Rattle.std.proofs.Common.{◌≡◌, ◌<◌, ◌≤◌, ◌-◌, ◌+◌, ◌*◌, ◌/◌, ◌++◌, ◌∷◌, ℕ, suc, true, false, List, [], length, drop, take, Option, Some, None}
use Rattle.std.proofs.Common.{◌∙◌, ap, ap₂, sym, subst, refl, arith, length-append, take-add, add-one}
use Rattle.std.proofs.Math.Nat.{mul-div_cancel_left}
use Rattle.std.proofs.lemmas.List.{length-drop, length-take-le}
use Rattle.timing_base.specs.Flows.{cuts, earlier_or, fault, first_fault_below, has_marker, is_cut, last_place, markers, packet}
use Rattle.timing_base.specs.Grouped.{IsSized}
use Rattle.timing_base.specs.Judged.{run_outcome}
use Rattle.timing_base.specs.Shifts.{Shift}
use Rattle.timing_base.specs.declared.packet.FlowPacket.{FlowPacket}
use Rattle.timing_base.proofs.Places.{cuts-other, last_place-le, last_place-push, places-here, places-other}
use Rattle.run_meter.specs.Runs.{OpenPart}
use Rattle.fail_interval.specs.Parts.{judged_packets, open_at, open_before, open_by, run_by}
use Rattle.fail_interval.specs.SoFar.{outcome_of, so_far_by}
use Rattle.fail_interval.proofs.PartsTold.{sized-below}
use Rattle.fail_interval.proofs.Runs.{outcome-so_far}
use Rattle.flow_watch.specs.Watched.{groups_in, open_part}

-- ---- the open part of a run, by its markers

-- the judged packets of a run with these markers
abbrev pub judged_by : List FlowPacket → List ℕ → List FlowPacket
judged_by packets marks = slice_range packets (slice_index marks 0 + 1) (last_place marks + 1)

-- its open part before packet `to`
abbrev pub open_marked : (number : ℕ) → FlowPacket → List FlowPacket → (shift : Shift) (from to : ℕ) → List ℕ → Option OpenPart
open_marked number first packets shift from to marks = open_by number first (judged_by packets marks) (outcome_of (so_far_by packets shift from to marks))

pub open-marks : (number : ℕ) (first : FlowPacket) (packets : List FlowPacket) (shift : Shift) (from to : ℕ) → to ≤ length packets
    → open_by number first (judged_packets packets from to) (run_outcome packets shift from to)
    ≡ open_marked number first packets shift from to (markers packets from to)
open-marks number first packets shift from to within =
    ap (open_by number first (judged_packets packets from to)) (outcome-so_far packets shift from to within)

-- with two markers or more
abbrev marked_part : (number : ℕ) → FlowPacket → List FlowPacket → (a b : ℕ) → List ℕ → OpenPart
marked_part number first packets a b rest = record { run = run_by number first (b - a); packets = judged_by packets (a ∷ b ∷ rest) }

-- the packets between the first marker and the last one
judged-count : (packets : List FlowPacket) (a last : ℕ) → a ≤ last → last < length packets → length (slice_range packets (a + 1) (last + 1)) ≡ last - a
judged-count packets a last order within =
    let count : (last + 1) - (a + 1) ≡ last - a = omega (arith, order) in
    let rest = length-drop (a + 1) packets in
    length-take-le ((last + 1) - (a + 1)) (drop (a + 1) packets) (omega (arith, rest, within, order)) ∙ count

-- it has a complete frame or field for each marker but the first
groups-marked : (number : ℕ) (first : FlowPacket) (packets : List FlowPacket) (to a b : ℕ) (rest : List ℕ) → to ≤ length packets
    → IsSized to (a ∷ b ∷ rest) → groups_in (open_part (marked_part number first packets a b rest)) ≡ length rest + 1
groups-marked number first packets to a b rest within sized =
    let marks = a ∷ b ∷ rest in
    let n = b - a in
    let two : 2 ≤ length marks = omega arith in
    let some : a < b = sized.some two in
    let count : length marks - 1 ≡ length rest + 1 = omega arith in
    let whole : last_place marks ≡ a + n * (length marks - 1) = sized.whole two in
    let later : last_place marks < to = sized.later two in
    let size : length (judged_by packets marks) ≡ n * (length rest + 1) =
    let long = judged-count packets a (last_place marks) (omega (arith, whole)) (omega (arith, later, within)) in
    let product : n * (length marks - 1) ≡ n * (length rest + 1) = ap (λ k. n * k) count in
    let all : length (judged_by packets marks) ≡ last_place marks - a = long in
    omega (arith, all, whole, product)
    in
    let positive : 0 < n = omega (arith, some) in
    ap (λ k. k / n) size ∙ mul-div_cancel_left (length rest + 1) positive

-- ---- a run with a complete frame or field

not-both : (o : Option OpenPart) (part : OpenPart) → o ≡ None → o ≡ Some part → ⊥
not-both o part h k = cc

same-part : (x y : OpenPart) (o : Option OpenPart) → o ≡ Some x → o ≡ Some y → x ≡ y
same-part x y o h k = cc

-- what is so of an open part
pub record IsWholePart (part : OpenPart) : Type 0 where
  pub some : 1 ≤ part.run.n
  pub whole : 0 < groups_in (open_part part)

marked-whole : (number : ℕ) (first : FlowPacket) (packets : List FlowPacket) (shift : Shift) (from to : ℕ) (marks : List ℕ) (part : OpenPart)
    → to ≤ length packets → IsSized to marks → open_marked number first packets shift from to marks ≡ Some part → IsWholePart part
marked-whole number first packets shift from to [] part within sized is = absurd (not-both None part refl is)
marked-whole number first packets shift from to (a ∷ []) part within sized is = absurd (not-both None part refl is)
marked-whole number first packets shift from to (a ∷ b ∷ rest) part within sized is =
    let made = marked_part number first packets a b rest in
    let some : a < b = sized.some (omega arith) in
    let groups = groups-marked number first packets to a b rest within sized in
    subst IsWholePart (same-part made part (Some made) refl is) (record { some = omega (arith, some); whole = omega (arith, groups) })

pub whole-part : (packets : List FlowPacket) (pt : ℕ) (shift : Shift) (to : ℕ) (part : OpenPart) → first_fault_below packets pt to ≡ None
    → to ≤ length packets → open_before packets shift to ≡ Some part → IsWholePart part
whole-part packets pt shift to part none within is =
    let places = cuts packets to in
    let from = last_place (0 ∷ places) in
    let number = length places + 1 in
    let first = packet packets from in
    marked-whole number first packets shift from to (markers packets from to) part within (sized-below packets pt to to none (omega arith))
    (sym (open-marks number first packets shift from to within) ∙ is)

pub sound-next : (packets : List FlowPacket) (pt i : ℕ) → first_fault_below packets pt i ≡ None → fault packets pt i ≡ None
    → first_fault_below packets pt (i + 1) ≡ None
sound-next packets pt i before here =
    let next : first_fault_below packets pt (suc i) ≡ None = ap₂ (λ x y. earlier_or x i y) before here in
    rw add-one next

-- ---- a packet that continues its run, without the marker

marked-later : (number : ℕ) (first : FlowPacket) (packets : List FlowPacket) (shift : Shift) (from to later : ℕ) (marks : List ℕ)
    → open_marked number first packets shift from later marks ≡ open_marked number first packets shift from to marks
marked-later number first packets shift from to later [] = refl
marked-later number first packets shift from to later (a ∷ []) = refl
marked-later number first packets shift from to later (a ∷ b ∷ rest) = refl

-- the run that is open after a packet that continues one is the same run
open-on : (packets : List FlowPacket) (shift : Shift) (i : ℕ) → is_cut packets i ≡ false
    → open_before packets shift (i + 1) ≡ open_at packets shift (cuts packets i) (i + 1)
open-on packets shift i none = ap (λ places. open_at packets shift places (i + 1)) (cuts-other packets i none)

pub open-plain : (packets : List FlowPacket) (shift : Shift) (i : ℕ) → i < length packets → is_cut packets i ≡ false → has_marker packets i ≡ false
    → open_before packets shift (i + 1) ≡ open_before packets shift i
open-plain packets shift i within none plain =
    let places = cuts packets i in
    let from = last_place (0 ∷ places) in
    let number = length places + 1 in
    let first = packet packets from in
    open-on packets shift i none
    ∙ open-marks number first packets shift from (i + 1) (omega (arith, within))
    ∙ ap (open_marked number first packets shift from (i + 1)) (places-other (has_marker packets) from i plain)
    ∙ marked-later number first packets shift from i (i + 1) (markers packets from i)
    ∙ sym (open-marks number first packets shift from i (omega (arith, within)))

-- ---- and with it

-- a run has its first complete frame or field, or one more
abbrev pub HasOneMore : (old new : Option OpenPart) → Type 0
HasOneMore None None = ⊤
HasOneMore None (Some new) = (1 ≤ new.run.n) × (groups_in (open_part new) ≡ 1)
HasOneMore (Some old) None = ⊥
HasOneMore (Some old) (Some new) =
    (1 ≤ old.run.n) × (later : List FlowPacket) × (new ≡ record { run = old.run; packets = old.packets ++ later })
    × (groups_in (open_part new) ≡ groups_in (open_part old) + 1)

-- the packets from one place on and before another are a prefix of those before a later one
range-longer : (packets : List FlowPacket) (from to more : ℕ) → from ≤ to
    → slice_range packets from (to + more) ≡ slice_range packets from to ++ take more (drop (to - from) (drop from packets))
range-longer packets from to more order =
    let count : (to + more) - from ≡ (to - from) + more = omega (arith, order) in
    ap (λ k. take k (drop from packets)) count ∙ take-add (to - from) more (drop from packets)

marked-more : (number : ℕ) (first : FlowPacket) (packets : List FlowPacket) (shift : Shift) (from i : ℕ) (marks : List ℕ) → i < length packets
    → IsSized i marks → IsSized (i + 1) (marks ++ i ∷ [])
    → HasOneMore (open_marked number first packets shift from i marks) (open_marked number first packets shift from (i + 1) (marks ++ i ∷ []))
marked-more number first packets shift from i [] within before after = tt
marked-more number first packets shift from i (a ∷ []) within before after =
    let begun : a < i = before.begun (omega arith) in
    (omega (arith, begun), groups-marked number first packets (i + 1) a i [] (omega (arith, within)) after)
marked-more number first packets shift from i (a ∷ b ∷ rest) within before after =
    let marks = a ∷ b ∷ rest in
    let two : 2 ≤ length marks = omega arith in
    let some : a < b = before.some two in
    let whole : last_place marks ≡ a + (b - a) * (length marks - 1) = before.whole two in
    let later : last_place marks < i = before.later two in
    let last : last_place (marks ++ i ∷ []) ≡ i = last_place-push marks i in
    let count : last_place (marks ++ i ∷ []) + 1 ≡ (last_place marks + 1) + (i - last_place marks) = omega (arith, last, later) in
    let old = groups-marked number first packets i a b rest (omega (arith, within)) before in
    let new = groups-marked number first packets (i + 1) a b (rest ++ i ∷ []) (omega (arith, within)) after in
    let long : length (rest ++ i ∷ []) ≡ length rest + 1 = length-append rest (i ∷ []) in
    let packets_are : judged_by packets (marks ++ i ∷ []) ≡ judged_by packets marks
    ++ take (i - last_place marks) (drop ((last_place marks + 1) - (a + 1)) (drop (a + 1) packets)) =
    ap (slice_range packets (a + 1)) count ∙ range-longer packets (a + 1) (last_place marks + 1) (i - last_place marks) (omega (arith, whole)) in (
      omega (arith, some),
      take (i - last_place marks) (drop ((last_place marks + 1) - (a + 1)) (drop (a + 1) packets)),
      ap (λ l. record { run = run_by number first (b - a); packets = l }) packets_are,
      omega (arith, old, new, long),
    )

pub open-marked : (packets : List FlowPacket) (pt : ℕ) (shift : Shift) (i : ℕ) → i < length packets → is_cut packets i ≡ false → has_marker packets i ≡ true
    → first_fault_below packets pt (i + 1) ≡ None → first_fault_below packets pt i ≡ None
    → HasOneMore (open_before packets shift i) (open_before packets shift (i + 1))
open-marked packets pt shift i within none marker after before =
    let places = cuts packets i in
    let from = last_place (0 ∷ places) in
    let number = length places + 1 in
    let first = packet packets from in
    let order = last_place-le (is_cut packets) i in
    let marks = markers packets from i in
    let here : markers packets from (i + 1) ≡ marks ++ i ∷ [] = places-here (has_marker packets) from i order marker in
    let sized : IsSized i marks = sized-below packets pt i i before (omega arith) in
    let next : IsSized (i + 1) (marks ++ i ∷ []) =
    subst (IsSized (i + 1)) (ap (λ p. markers packets (last_place (0 ∷ p)) (i + 1)) (cuts-other packets i none) ∙ here)
    (sized-below packets pt (i + 1) (i + 1) after (omega arith)) in
    let old = open-marks number first packets shift from i (omega (arith, within)) in
    let new =
    open-on packets shift i none ∙ open-marks number first packets shift from (i + 1) (omega (arith, within))
    ∙ ap (open_marked number first packets shift from (i + 1)) here in
    subst (λ o. HasOneMore o (open_before packets shift (i + 1))) (sym old)
    (subst (HasOneMore (open_marked number first packets shift from i marks)) (sym new)
    (marked-more number first packets shift from i marks within sized next))
