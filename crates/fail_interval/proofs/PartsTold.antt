-- The judged runs of a flow, and the packets of the open one, one packet on.
use Rattle.std.proofs.Common.{◌≡◌, ◌≤◌, ◌<◌, ◌+◌, ◌-◌, ◌*◌, ℕ, zero, suc, Bool, true, false, List, [], ◌∷◌, ◌++◌, length, get_or, drop, take}
use Rattle.std.proofs.Common.{Some, None, refl, arith, ap, ◌∙◌}
use Rattle.std.proofs.Common.{sym, subst, add-one, append_assoc, length-append}
use Rattle.std.specs.Prelude.{slice_index, slice_range}
use Rattle.std.proofs.Math.Seq.{take-suc}
use Rattle.std.proofs.lemmas.Grind.{common_steps}
use Rattle.std.proofs.lemmas.List.{append-nil, get_or-drop, length-drop, length-take-le}
use Rattle.timing_base.specs.Shifts.{Shift}
use Rattle.timing_base.specs.Flows.{cuts, first_fault, first_fault_below, has_marker, last_place, markers, no_packet, packet, fault}
use Rattle.timing_base.specs.Grouped.{IsSized}
use Rattle.timing_base.specs.Media.{Media}
use Rattle.timing_base.specs.declared.packet.FlowPacket.{FlowPacket}
use Rattle.timing_base.proofs.FirstFaults.{no_fault-at}
use Rattle.timing_base.proofs.Places.{last_place-push, places-here, places-none, places-other}
use Rattle.timing_base.proofs.Sizes.{sized-enter, sized-next, sized-nil}
use Rattle.run_meter.specs.Runs.{stamps_of}
use Rattle.fail_interval.specs.Metered.{EndsWhole, HaveStamps, HaveWhole, committed_next, fed_next, open_part}
use Rattle.fail_interval.specs.Parts.{judged_packets, judged_parts, open_at, open_by, part_between, parts_between, parts_in}
use Rattle.fail_interval.specs.Parts.{parts_over, run_by}
use Rattle.fail_interval.specs.Runs.{StandsFor as RunStandsFor}
use Rattle.fail_interval.specs.SoFar.{SoFar, in_first, in_groups, in_head, outcome_of, so_far_at, so_far_by}
use Rattle.fail_interval.specs.Telling.{behind_first}
use Rattle.fail_interval.specs.declared.run.RunJudge.{RunJudge}
use Rattle.fail_interval.specs.declared.run.RunJudge.TheVariants.{First, Groups, Head}
use Rattle.fail_interval.proofs.Rows.{judged-many, judged-none, judged-one}
use Rattle.fail_interval.proofs.Runs.{outcome-so_far, places-below}

-- one packet more
range-next : (packets : List FlowPacket) (from to : ℕ) → from ≤ to → to < length packets
    → slice_range packets from (to + 1) ≡ slice_range packets from to ++ packet packets to ∷ []
range-next packets from to order within =
    let rest = drop from packets in
    let size : length rest ≡ length packets - from = length-drop from packets in
    let count : (to + 1) - from ≡ suc (to - from) = omega (arith, order) in
    let back : from + (to - from) ≡ to = omega (arith, order) in
    let here : get_or rest (to - from) no_packet ≡ packet packets to =
    get_or-drop from packets (to - from) no_packet ∙ ap (packet packets) back in
    ap (λ k. take k rest) count ∙ (take-suc rest (to - from) no_packet (omega (arith, size, order, within))
    ∙ ap (λ (p : FlowPacket). take (to - from) rest ++ p ∷ []) here)

range-none : (packets : List FlowPacket) (from : ℕ) → slice_range packets from from ≡ []
range-none packets from = let none : from - from ≡ 0 = omega arith in ap (λ k. take k (drop from packets)) none

length-range : (packets : List FlowPacket) (from to : ℕ) → to ≤ length packets → length (slice_range packets from to) ≡ to - from
length-range packets from to within =
    let size : length (drop from packets) ≡ length packets - from = length-drop from packets in
    length-take-le (to - from) (drop from packets) (omega (arith, size, within))

-- of a run with these markers the packets that are judged
abbrev judged_by : List FlowPacket → List ℕ → List FlowPacket
judged_by packets marks = slice_range packets (slice_index marks 0 + 1) (last_place marks + 1)

-- the first of some places stands below another
abbrev Begun : List ℕ → ℕ → Type 0
Begun marks to = 1 ≤ length marks → slice_index marks 0 < to

begun : (packets : List FlowPacket) (from to : ℕ) → Begun (markers packets from to) to
begun packets from to some = let h = places-below (has_marker packets) from to some in omega (arith, h.0, h.1)

-- packet `to` has no marker
behind-plain : (packets : List FlowPacket) (shift : Shift) (from to : ℕ) (marks : List ℕ) → to < length packets → Begun marks to
    → behind_first packets (to + 1) marks ≡ fed_next (so_far_by packets shift from to marks) (behind_first packets to marks) (packet packets to)
behind-plain packets shift from to [] within low = refl
behind-plain packets shift from to (a ∷ []) within low = range-next packets (a + 1) to (omega (arith, low (omega arith))) within
behind-plain packets shift from to (a ∷ b ∷ rest) within low = range-next packets (a + 1) to (omega (arith, low (omega arith))) within

-- packet `to` has the marker
behind-marked : (packets : List FlowPacket) (shift : Shift) (from to : ℕ) (marks : List ℕ) → to < length packets → Begun marks to
    → behind_first packets (to + 1) (marks ++ to ∷ []) ≡ fed_next (so_far_by packets shift from to marks) (behind_first packets to marks) (packet packets to)
behind-marked packets shift from to [] within low = range-none packets (to + 1)
behind-marked packets shift from to (a ∷ []) within low = range-next packets (a + 1) to (omega (arith, low (omega arith))) within
behind-marked packets shift from to (a ∷ b ∷ rest) within low = range-next packets (a + 1) to (omega (arith, low (omega arith))) within

behind-case : (packets : List FlowPacket) (shift : Shift) (from to : ℕ) (b : Bool) → has_marker packets to ≡ b → from ≤ to → to < length packets
    → behind_first packets (to + 1) (markers packets from (to + 1))
    ≡ fed_next (so_far_at packets shift from to) (behind_first packets to (markers packets from to)) (packet packets to)
behind-case packets shift from to true e order within =
    ap (behind_first packets (to + 1)) (places-here (has_marker packets) from to order e)
    ∙ behind-marked packets shift from to (markers packets from to) within (begun packets from to)
behind-case packets shift from to false e order within =
    ap (behind_first packets (to + 1)) (places-other (has_marker packets) from to e)
    ∙ behind-plain packets shift from to (markers packets from to) within (begun packets from to)

-- the packets behind the first marker, with packet `to`
pub behind-next : (packets : List FlowPacket) (shift : Shift) (from to : ℕ) → from ≤ to → to < length packets
    → behind_first packets (to + 1) (markers packets from (to + 1))
    ≡ fed_next (so_far_at packets shift from to) (behind_first packets to (markers packets from to)) (packet packets to)
behind-next packets shift from to order within = behind-case packets shift from to (has_marker packets to) refl order within

committed-plain : (packets : List FlowPacket) (shift : Shift) (from to : ℕ) (marks : List ℕ)
    → judged_by packets marks
    ≡ committed_next (so_far_by packets shift from to marks) false (behind_first packets to marks) (judged_by packets marks) (packet packets to)
committed-plain packets shift from to [] = range-none packets 1
committed-plain packets shift from to (a ∷ []) = refl
committed-plain packets shift from to (a ∷ b ∷ rest) = refl

committed-marked : (packets : List FlowPacket) (shift : Shift) (from to : ℕ) (marks : List ℕ) → to < length packets → Begun marks to
    → judged_by packets (marks ++ to ∷ [])
    ≡ committed_next (so_far_by packets shift from to marks) true (behind_first packets to marks) (judged_by packets marks) (packet packets to)
committed-marked packets shift from to [] within low = range-none packets (to + 1)
committed-marked packets shift from to (a ∷ []) within low = range-next packets (a + 1) to (omega (arith, low (omega arith))) within
committed-marked packets shift from to (a ∷ b ∷ rest) within low =
    let last : last_place ((a ∷ b ∷ rest) ++ to ∷ []) ≡ to = last_place-push (a ∷ b ∷ rest) to in
    ap (λ k. slice_range packets (a + 1) (k + 1)) last ∙ range-next packets (a + 1) to (omega (arith, low (omega arith))) within

committed-case : (packets : List FlowPacket) (shift : Shift) (from to : ℕ) (b : Bool) → has_marker packets to ≡ b → from ≤ to → to < length packets
    → judged_packets packets from (to + 1)
    ≡ committed_next (so_far_at packets shift from to) b (behind_first packets to (markers packets from to)) (judged_packets packets from to)
    (packet packets to)
committed-case packets shift from to true e order within =
    ap (judged_by packets) (places-here (has_marker packets) from to order e)
    ∙ committed-marked packets shift from to (markers packets from to) within (begun packets from to)
committed-case packets shift from to false e order within =
    ap (judged_by packets) (places-other (has_marker packets) from to e) ∙ committed-plain packets shift from to (markers packets from to)

-- the judged_as_numbered packets, with packet `to`
pub committed-next : (packets : List FlowPacket) (shift : Shift) (from to : ℕ) → from ≤ to → to < length packets
    → judged_packets packets from (to + 1)
    ≡ committed_next (so_far_at packets shift from to) (has_marker packets to) (behind_first packets to (markers packets from to))
    (judged_packets packets from to) (packet packets to)
committed-next packets shift from to order within = committed-case packets shift from to (has_marker packets to) refl order within

-- where a run starts it has no packets
pub behind-start : (packets : List FlowPacket) (from : ℕ) → behind_first packets from (markers packets from from) ≡ []
behind-start packets from = ap (behind_first packets from) (places-none (has_marker packets) from from (omega arith))

pub committed-start : (packets : List FlowPacket) (from : ℕ) → judged_packets packets from from ≡ []
committed-start packets from =
    ap (judged_by packets) (places-none (has_marker packets) from from (omega arith)) ∙ range-none packets 1

stamps-by : (packets : List FlowPacket) (shift : Shift) (from to : ℕ) (marks : List ℕ)
    → HaveStamps (so_far_by packets shift from to marks) (stamps_of shift (behind_first packets to marks))
stamps-by packets shift from to [] = refl
stamps-by packets shift from to (a ∷ []) = refl
stamps-by packets shift from to (a ∷ b ∷ rest) = refl

-- the stamps behind the first marker are those that the run has come to
pub have-stamps : (packets : List FlowPacket) (shift : Shift) (from to : ℕ)
    → HaveStamps (so_far_at packets shift from to) (stamps_of shift (behind_first packets to (markers packets from to)))
have-stamps packets shift from to = stamps-by packets shift from to (markers packets from to)

whole-by : (packets : List FlowPacket) (shift : Shift) (from to : ℕ) (marks : List ℕ) → to ≤ length packets → IsSized to marks
    → HaveWhole shift (so_far_by packets shift from to marks) (judged_by packets marks)
whole-by packets shift from to [] within sized = tt
whole-by packets shift from to (a ∷ []) within sized = tt
whole-by packets shift from to (a ∷ b ∷ rest) within sized =
    let two : 2 ≤ length (a ∷ b ∷ rest) = omega arith in
    record {
      stamps = refl;
      some = omega arith;
      are = omega (
        arith,
        length-range packets (a + 1) (last_place (a ∷ b ∷ rest) + 1) (omega (arith, sized.later two, within)),
        sized.whole two,
      );
    }

-- the judged_as_numbered packets are whole groups
pub have-whole : (packets : List FlowPacket) (shift : Shift) (from to : ℕ) → to ≤ length packets → IsSized to (markers packets from to)
    → HaveWhole shift (so_far_at packets shift from to) (judged_packets packets from to)
have-whole packets shift from to within sized = whole-by packets shift from to (markers packets from to) within sized

ends-by : (packets : List FlowPacket) (shift : Shift) (from to : ℕ) (marks : List ℕ) → to < length packets → Begun marks to → IsSized (to + 1)
    (marks ++ to ∷ [])
    → EndsWhole (so_far_by packets shift from to marks) true (behind_first packets to marks ++ packet packets to ∷ [])
ends-by packets shift from to [] within low sized = tt
ends-by packets shift from to (a ∷ []) within low sized = tt
ends-by packets shift from to (a ∷ b ∷ rest) within low sized =
    let marks = (a ∷ b ∷ rest) ++ to ∷ [] in
    let long : length marks ≡ length (a ∷ b ∷ rest) + 1 = length-append (a ∷ b ∷ rest) (to ∷ []) in
    let last : last_place marks ≡ to = last_place-push (a ∷ b ∷ rest) to in
    let whole : last_place marks ≡ a + (b - a) * (length marks - 1) = sized.whole (omega (arith, long)) in
    record {
      groups = length marks - 1;
      some = omega (arith, long);
      are = omega (
        arith,
        whole,
        last,
        low (omega arith),
        length-append (slice_range packets (a + 1) to) (packet packets to ∷ []),
        length-range packets (a + 1) to (omega (arith, within)),
      );
    }

unmarked : (so_far : SoFar) (packets : List FlowPacket) → EndsWhole so_far false packets
unmarked (in_head head) packets = tt
unmarked (in_first head stamps) packets = tt
unmarked (in_groups g) packets = tt

ends-case : (packets : List FlowPacket) (shift : Shift) (from to : ℕ) (b : Bool) → has_marker packets to ≡ b → from ≤ to → to < length packets
    → IsSized (to + 1) (markers packets from (to + 1))
    → EndsWhole (so_far_at packets shift from to) b (behind_first packets to (markers packets from to) ++ packet packets to ∷ [])
ends-case packets shift from to true e order within sized =
    ends-by packets shift from to (markers packets from to) within (begun packets from to)
    (subst (IsSized (to + 1)) (places-here (has_marker packets) from to order e) sized)
ends-case packets shift from to false e order within sized =
    unmarked (so_far_at packets shift from to) (behind_first packets to (markers packets from to) ++ packet packets to ∷ [])

-- with packet `to`, where it has the marker, they are whole groups
pub ends-whole : (packets : List FlowPacket) (shift : Shift) (from to : ℕ) → from ≤ to → to < length packets → IsSized (to + 1) (markers packets from (to + 1))
    → EndsWhole (so_far_at packets shift from to) (has_marker packets to) (behind_first packets to (markers packets from to) ++ packet packets to ∷ [])
ends-whole packets shift from to order within sized = ends-case packets shift from to (has_marker packets to) refl order within sized

-- where no packet below a place has a fault, the groups of each run up to it are of one size
pub sized-below : (packets : List FlowPacket) (pt n i : ℕ) → first_fault_below packets pt n ≡ None → i ≤ n
    → IsSized i (markers packets (last_place (0 ∷ cuts packets i)) i)
sized-below packets pt n zero e few = sized-nil 0
sized-below packets pt n (suc i) e few =
    let here : fault packets pt i ≡ None = no_fault-at packets pt n i e (omega (arith, few)) in
    let next = sized-next packets pt i here (sized-enter packets i _ refl (sized-below packets pt n i e (omega (arith, few)))) in
    rw add-one at next

open-case : {M : Type 0} (m : Media) (judge : RunJudge M) (so_far : SoFar) (number : ℕ) (first : FlowPacket) (committed : List FlowPacket)
    → RunStandsFor m judge so_far
    → open_part number first judge committed ≡ open_by number first committed (outcome_of so_far)
open-case m (Head packets) (in_head head) number first committed s = refl
open-case m (Head packets) (in_first head stamps) number first committed s = absurd s
open-case m (Head packets) (in_groups g) number first committed s = absurd s
open-case m (First count group) (in_head head) number first committed s = absurd s
open-case m (First count group) (in_first head stamps) number first committed s = refl
open-case m (First count group) (in_groups g) number first committed s = absurd s
open-case m (Groups judge) (in_head head) number first committed s = absurd s
open-case m (Groups judge) (in_first head stamps) number first committed s = absurd s
open-case m (Groups judge) (in_groups g) number first committed s =
    ap (λ n. Some (record { run = run_by number first n; packets = committed })) s.n

-- what is told of the open run is what is judged of it so far
pub open-is : {M : Type 0} (m : Media) (packets : List FlowPacket) (shift : Shift) (places : List ℕ) (i : ℕ) (judge : RunJudge M) (so_far : SoFar) → i ≤ length
    packets
    → so_far ≡ so_far_at packets shift (last_place (0 ∷ places)) i
    → RunStandsFor m judge so_far
    → open_part (length places + 1) (packet packets (last_place (0 ∷ places))) judge (judged_packets packets (last_place (0 ∷ places)) i)
    ≡ open_at packets shift places i
open-is m packets shift places i judge so_far within is s =
    let from = last_place (0 ∷ places) in
    let by = open_by (length places + 1) (packet packets from) (judged_packets packets from i) in
    open-case m judge so_far (length places + 1) (packet packets from) (judged_packets packets from i) s
    ∙ ap by (ap outcome_of is ∙ sym (outcome-so_far packets shift from i within))

last-cons : (x y : ℕ) (ys : List ℕ) → last_place (x ∷ y ∷ ys) ≡ last_place (y ∷ ys)
last-cons x y ys = grind (arith, common_steps)

-- one cut more ends a run
pub parts_over-push : (m : Media) (packets : List FlowPacket) (shift : Shift) (number from cut : ℕ) (places : List ℕ)
    → parts_over m packets shift number from (places ++ cut ∷ [])
    ≡ parts_over m packets shift number from places ++ part_between m packets shift (length places + number) (last_place (from ∷ places)) cut
parts_over-push m packets shift number from cut [] =
    let count : number ≡ 0 + number = omega arith in
    append-nil (part_between m packets shift number from cut) ∙ ap (λ k. part_between m packets shift k from cut) count
parts_over-push m packets shift number from cut (b ∷ places) =
    let one = part_between m packets shift number from b in
    let count : length places + (number + 1) ≡ length (b ∷ places) + number = omega arith in
    ap (λ parts. one ++ parts) (parts_over-push m packets shift (number + 1) b cut places)
    ∙ (sym (append_assoc one (parts_over m packets shift (number + 1) b places) _)
    ∙ (ap (λ k. (one ++ parts_over m packets shift (number + 1) b places) ++ part_between m packets shift k (last_place (b ∷ places)) cut) count
    ∙ ap (λ k. (one ++ parts_over m packets shift (number + 1) b places) ++ part_between m packets shift (length (b ∷ places) + number) k cut)
    (sym (last-cons from b places))))

-- all runs are those that are over, and the last
pub parts_between-over : (m : Media) (packets : List FlowPacket) (shift : Shift) (to number from : ℕ) (places : List ℕ)
    → parts_between m packets shift to number from places
    ≡ parts_over m packets shift number from places ++ part_between m packets shift (length places + number) (last_place (from ∷ places)) to
parts_between-over m packets shift to number from [] =
    let count : number ≡ 0 + number = omega arith in ap (λ k. part_between m packets shift k from to) count
parts_between-over m packets shift to number from (b ∷ places) =
    let one = part_between m packets shift number from b in
    let count : length places + (number + 1) ≡ length (b ∷ places) + number = omega arith in
    ap (λ parts. one ++ parts) (parts_between-over m packets shift to (number + 1) b places)
    ∙ (sym (append_assoc one (parts_over m packets shift (number + 1) b places) _)
    ∙ (ap (λ k. (one ++ parts_over m packets shift (number + 1) b places) ++ part_between m packets shift k (last_place (b ∷ places)) to) count
    ∙ ap (λ k. (one ++ parts_over m packets shift (number + 1) b places) ++ part_between m packets shift (length (b ∷ places) + number) k to)
    (sym (last-cons from b places))))

no_places : (xs : List ℕ) → length xs ≡ 0 → xs ≡ []
no_places [] e = refl
no_places (x ∷ xs) e = absurd (omega (arith, e))

parts-case : (m : Media) (packets : List FlowPacket) (shift : Shift) (places : List ℕ) → 0 < length packets → first_fault packets m.pt ≡ None
    → cuts packets (length packets) ≡ places
    → judged_parts m packets shift ≡ parts_between m packets shift (length packets) 1 0 (cuts packets (length packets))
parts-case m packets shift [] some none e =
    let no_cut : length (cuts packets (length packets)) ≡ 0 = ap length e in
    ap (parts_in m packets shift) (judged-one packets m.pt shift some none no_cut)
    ∙ ap (parts_between m packets shift (length packets) 1 0) (sym e)
parts-case m packets shift (cut ∷ places) some none e =
    let a_cut : 0 < length (cuts packets (length packets)) = subst (λ xs. 0 < length xs) (sym e) (omega arith) in
    ap (parts_in m packets shift) (judged-many packets m.pt shift some none a_cut)

-- the judged runs of a flow without a fault
pub judged_parts-sound : (m : Media) (packets : List FlowPacket) (shift : Shift) → 0 < length packets → first_fault packets m.pt ≡ None
    → judged_parts m packets shift ≡ parts_between m packets shift (length packets) 1 0 (cuts packets (length packets))
judged_parts-sound m packets shift some none = parts-case m packets shift (cuts packets (length packets)) some none refl

-- and of one that has no packet
pub judged_parts-none : (m : Media) (packets : List FlowPacket) (shift : Shift) → length packets ≡ 0 → judged_parts m packets shift ≡ []
judged_parts-none m packets shift e = ap (parts_in m packets shift) (judged-none packets m.pt shift e)
