-- The rows of the first packets of a flow are a prefix of those of more packets, and of all.
use Rattle.std.proofs.Common.{◌≡◌, ◌≤◌, ◌<◌, ◌+◌, ◌-◌, ℕ, zero, suc, Bool, true, false, List, [], ◌∷◌, ◌++◌, length, drop, take, Option, Some}
use Rattle.std.proofs.Common.{None, refl, ap, ◌∙◌}
use Rattle.std.proofs.Common.{sym, subst, arith, append-nil, append_assoc, take-add}
use Rattle.std.proofs.Common.{inl, inr}
use Rattle.std.specs.Prelude.{⊤, slice_index, slice_range}
use Rattle.std.proofs.lemmas.Bool.{cases_lt}
use Rattle.timing_base.specs.Shifts.{FlowOptions, Shift}
use Rattle.timing_base.specs.Flows.{FirstFault, IsFirstFault, cuts, earlier_or, fault, first_fault, first_fault_below, has_marker, is_cut, last_place, markers}
use Rattle.timing_base.specs.Flows.{packet}
use Rattle.timing_base.specs.Grouped.{IsSized}
use Rattle.timing_base.specs.Judged.{RunOutcome, no_whole_frame, run_outcome, whole_frames}
use Rattle.timing_base.specs.Media.{IsMedia, Media}
use Rattle.timing_base.specs.Numbered.{numbered}
use Rattle.timing_base.specs.declared.packet.FlowPacket.{FlowPacket}
use Rattle.timing_base.proofs.FirstFaults.{first_fault-is, no_fault-at}
use Rattle.timing_base.proofs.Places.{cuts-here, cuts-other, last_place-le, last_place-push, places-here, places-none, places-other}
use Rattle.run_meter.specs.Runs.{JudgedPart, OpenPart, RunOf}
use Rattle.fail_interval.specs.Parts.{judged_packets, judged_parts, open_at, open_before, open_by, part_between, part_by, parts_before, parts_over}
use Rattle.fail_interval.specs.SoFar.{outcome_of, so_far_by}
use Rattle.fail_interval.proofs.PartsTold.{judged_parts-sound, parts_between-over, parts_over-push, sized-below}
use Rattle.fail_interval.proofs.Runs.{outcome-so_far}
use Rattle.flow_measure.specs.rows.Rows.{AreRows, AreRowsOf}
use Rattle.flow_measure.specs.rows.Told.{AreRowsSoFar}
use Rattle.timing_measure.specs.series.Rows.{AreRowsAsNumbered, AreRowsOfFlow, AreRowsUpTo}
use Rattle.timing_measure.proofs.lemmas.series.Existing.{some-rows}

-- rows behind others
rows-behind : (frames : Bool) (m : Media) (shift : Shift) (number n : ℕ) (before packets more : List FlowPacket) (text rest : List ℕ)
    → AreRows frames m shift number n before packets text → AreRows frames m shift number n (before ++ packets) more rest
    → AreRows frames m shift number n before (packets ++ more) (text ++ rest)
rows-behind frames m shift number n before [] more text rest none next =
    subst (λ t. AreRows frames m shift number n before more (t ++ rest)) (sym none)
    (subst (λ b. AreRows frames m shift number n b more rest) (append-nil before) next)
rows-behind frames m shift number n before (p ∷ packets) more text rest h next = (
  h.0,
  h.1 ++ rest,
  ap (λ t. t ++ rest) h.2 ∙ append_assoc h.0 h.1 rest,
  h.3,
  rows-behind frames m shift number n (before ++ p ∷ []) packets more h.1 rest h.4
      (subst (λ b. AreRows frames m shift number n b more rest) (sym (append_assoc before (p ∷ []) packets)) next),
)

-- the rows of one run more
parts-behind : (frames : Bool) (m : Media) (shift : Shift) (over : List JudgedPart) (part : JudgedPart) (text rest : List ℕ)
    → AreRowsOf frames m shift over text → AreRows frames m shift part.number part.values.n [] part.packets rest
    → AreRowsOf frames m shift (over ++ part ∷ []) (text ++ rest)
parts-behind frames m shift [] part text rest none next =
    (rest, [], ap (λ t. t ++ rest) none ∙ sym (append-nil rest), next, refl)
parts-behind frames m shift (one ∷ over) part text rest h next = (
  h.0,
  h.1 ++ rest,
  ap (λ t. t ++ rest) h.2 ∙ append_assoc h.0 h.1 rest,
  h.3,
  parts-behind frames m shift over part h.1 rest h.4 next,
)

-- the open run is over, and its rows are those of one run more, if it has a complete frame or field
so-far-over : (frames : Bool) (m : Media) (shift : Shift) (number : ℕ) (first : FlowPacket) (packets : List FlowPacket) (over : List JudgedPart)
    (o : RunOutcome)
    (text : List ℕ)
    → AreRowsSoFar frames m shift over (open_by number first packets o) text
    → AreRowsOf frames m shift (over ++ part_by m number first packets o) text
so-far-over frames m shift number first packets over (no_whole_frame head) text h =
    subst (λ l. AreRowsOf frames m shift l text) (sym (append-nil over)) h
so-far-over frames m shift number first packets over (whole_frames run) text h =
    subst (λ t. AreRowsOf frames m shift (over ++ part_by m number first packets (whole_frames run)) t) (sym h.2)
    (parts-behind frames m shift over _ h.0 h.1 h.3 h.4)

-- the open run has more complete frames or fields, or its first ones
abbrev Grows : (old new : Option OpenPart) → Type 0
Grows None None = ⊤
Grows None (Some new) = 1 ≤ new.run.n
Grows (Some old) None = ⊥
Grows (Some old) (Some new) = (new.run ≡ old.run) × (1 ≤ new.run.n) × (later : List FlowPacket) × (new.packets ≡ old.packets ++ later)

-- there are rows of more complete frames or fields, behind those so far
more-open : (frames : Bool) (m : Media) (shift : Shift) (over : List JudgedPart) (old new : Option OpenPart) (text : List ℕ) → IsMedia m → Grows old new
    → AreRowsSoFar frames m shift over old text
    → (more : List ℕ) × AreRowsSoFar frames m shift over new (text ++ more)
more-open frames m shift over None None text is grows h = ([], subst (AreRowsOf frames m shift over) (sym (append-nil text)) h)
more-open frames m shift over None (Some new) text is grows h =
    let rows = some-rows frames m shift new.run.number new.run.n [] new.packets is grows in
    (rows.0, (text, rows.0, refl, h, rows.1))
more-open frames m shift over (Some old) None text is grows h = absurd grows
more-open frames m shift over (Some old) (Some new) text is grows h =
    let r = new.run in
    let later = grows.2 in
    let rows = some-rows frames m shift r.number r.n old.packets later is grows.1 in
    let all : AreRows frames m shift r.number r.n [] (old.packets ++ later) (h.1 ++ rows.0) =
    rows-behind frames m shift r.number r.n [] old.packets later h.1 rows.0
    (subst (λ (o : RunOf). AreRows frames m shift o.number o.n [] old.packets h.1) (sym grows.0) h.4) rows.1 in (
      rows.0,
      (
        h.0,
        h.1 ++ rows.0,
        ap (λ t. t ++ rows.0) h.2 ∙ append_assoc h.0 h.1 rows.0,
        h.3,
        subst (λ l. AreRows frames m shift r.number r.n [] l (h.1 ++ rows.0)) (sym grows.3) all,
      ),
    )

-- the packets from one place on and before another are a prefix of those before a later one
range-longer : (packets : List FlowPacket) (from to more : ℕ) → from ≤ to
    → slice_range packets from (to + more) ≡ slice_range packets from to ++ take more (drop (to - from) (drop from packets))
range-longer packets from to more order =
    let count : (to + more) - from ≡ (to - from) + more = omega (arith, order) in
    ap (λ k. take k (drop from packets)) count ∙ take-add (to - from) more (drop from packets)

-- the judged packets of a run with these markers
abbrev judged_by : List FlowPacket → List ℕ → List FlowPacket
judged_by packets marks = slice_range packets (slice_index marks 0 + 1) (last_place marks + 1)

-- the open part of a run with these markers
abbrev open_marked : (number : ℕ) → FlowPacket → List FlowPacket → (shift : Shift) (from to : ℕ) → List ℕ → Option OpenPart
open_marked number first packets shift from to marks = open_by number first (judged_by packets marks) (outcome_of (so_far_by packets shift from to marks))

open-marks : (number : ℕ) (first : FlowPacket) (packets : List FlowPacket) (shift : Shift) (from to : ℕ) → to ≤ length packets
    → open_by number first (judged_packets packets from to) (run_outcome packets shift from to)
    ≡ open_marked number first packets shift from to (markers packets from to)
open-marks number first packets shift from to within =
    ap (open_by number first (judged_packets packets from to)) (outcome-so_far packets shift from to within)

-- packet `to` has no marker
grows-plain : (number : ℕ) (first : FlowPacket) (packets : List FlowPacket) (shift : Shift) (from to : ℕ) (marks : List ℕ) → IsSized to marks
    → Grows (open_marked number first packets shift from to marks) (open_marked number first packets shift from (to + 1) marks)
grows-plain number first packets shift from to [] sized = tt
grows-plain number first packets shift from to (a ∷ []) sized = tt
grows-plain number first packets shift from to (a ∷ b ∷ rest) sized =
    let some : a < b = sized.some (omega arith) in
    (refl, omega (arith, some), [], sym (append-nil (judged_by packets (a ∷ b ∷ rest))))

at-least : (a last more : ℕ) → last ≡ a + more → a ≤ last
at-least a last more e = omega (arith, e)

-- packet `to` has the marker
grows-marked : (number : ℕ) (first : FlowPacket) (packets : List FlowPacket) (shift : Shift) (from to : ℕ) (marks : List ℕ) → IsSized to marks
    → Grows (open_marked number first packets shift from to marks) (open_marked number first packets shift from (to + 1) (marks ++ to ∷ []))
grows-marked number first packets shift from to [] sized = tt
grows-marked number first packets shift from to (a ∷ []) sized =
    let begun : a < to = sized.begun (omega arith) in omega (arith, begun)
grows-marked number first packets shift from to (a ∷ b ∷ rest) sized =
    let marks = a ∷ b ∷ rest in
    let two : 2 ≤ length marks = omega arith in
    let some : a < b = sized.some two in
    let last : last_place (marks ++ to ∷ []) ≡ to = last_place-push marks to in
    let later : last_place marks < to = sized.later two in
    let order : a ≤ last_place marks = at-least a (last_place marks) _ (sized.whole two) in
    let count : last_place (marks ++ to ∷ []) + 1 ≡ (last_place marks + 1) + (to - last_place marks) = omega (arith, last, later) in (
      refl,
      omega (arith, some),
      take (to - last_place marks) (drop ((last_place marks + 1) - (a + 1)) (drop (a + 1) packets)),
      ap (slice_range packets (a + 1)) count
          ∙ range-longer packets (a + 1) (last_place marks + 1) (to - last_place marks) (omega (arith, order)),
    )

-- the open run has the packets before it and packet `to`
grows-case : (packets : List FlowPacket) (shift : Shift) (places : List ℕ) (to : ℕ) (b : Bool) → has_marker packets to ≡ b
    → last_place (0 ∷ places) ≤ to → to < length packets → IsSized to (markers packets (last_place (0 ∷ places)) to)
    → Grows (open_at packets shift places to) (open_at packets shift places (to + 1))
grows-case packets shift places to b is order within sized =
    let from = last_place (0 ∷ places) in
    let number = length places + 1 in
    let first = packet packets from in
    let marks = markers packets from to in
    subst (λ o. Grows o (open_at packets shift places (to + 1))) (sym (open-marks number first packets shift from to (omega (arith, within))))
    (subst (Grows (open_marked number first packets shift from to marks)) (sym (open-marks number first packets shift from (to + 1) (omega (arith, within))))
    (by-marker number first from b is order sized))
  where
    by-marker : (number : ℕ) (first : FlowPacket) (from : ℕ) (b : Bool) → has_marker packets to ≡ b → from ≤ to → IsSized to (markers packets from to)
        → Grows (open_marked number first packets shift from to (markers packets from to))
        (open_marked number first packets shift from (to + 1) (markers packets from (to + 1)))
    by-marker number first from true is order sized =
        subst (λ l. Grows (open_marked number first packets shift from to (markers packets from to)) (open_marked number first packets shift from (to + 1) l))
        (sym (places-here (has_marker packets) from to order is)) (grows-marked number first packets shift from to (markers packets from to) sized)
    by-marker number first from false is order sized =
        subst (λ l. Grows (open_marked number first packets shift from to (markers packets from to)) (open_marked number first packets shift from (to + 1) l))
        (sym (places-other (has_marker packets) from to is)) (grows-plain number first packets shift from to (markers packets from to) sized)

-- a run that begins with packet i has no complete frame or field with that
starts-marked : (number : ℕ) (first : FlowPacket) (packets : List FlowPacket) (shift : Shift) (i : ℕ) (b : Bool) → has_marker packets i ≡ b
    → open_marked number first packets shift i (i + 1) (markers packets i (i + 1)) ≡ None
starts-marked number first packets shift i true is =
    let none : markers packets i i ≡ [] = places-none (has_marker packets) i i (omega arith) in
    ap (open_marked number first packets shift i (i + 1)) (places-here (has_marker packets) i i (omega arith) is ∙ ap (λ l. l ++ i ∷ []) none)
starts-marked number first packets shift i false is =
    ap (open_marked number first packets shift i (i + 1))
    (places-other (has_marker packets) i i is ∙ places-none (has_marker packets) i i (omega arith))

starts-open : (packets : List FlowPacket) (shift : Shift) (places : List ℕ) (i : ℕ) → last_place (0 ∷ places) ≡ i → i < length packets
    → open_at packets shift places (i + 1) ≡ None
starts-open packets shift places i is within =
    let number = length places + 1 in
    ap (λ from. open_by number (packet packets from) (judged_packets packets from (i + 1)) (run_outcome packets shift from (i + 1))) is
    ∙ open-marks number (packet packets i) packets shift i (i + 1) (omega (arith, within))
    ∙ starts-marked number (packet packets i) packets shift i (has_marker packets i) refl

-- what is so of the rows before packet `to`
abbrev pub RowsBefore : (frames : Bool) → Media → (shift : Shift) → List FlowPacket → (to : ℕ) → List ℕ → Type 0
RowsBefore frames m shift packets to text = AreRowsSoFar frames m shift (parts_before m packets shift to) (open_before packets shift to) text

-- a place or a text may be named otherwise
place-as : (frames : Bool) (m : Media) (shift : Shift) (packets : List FlowPacket) (to same : ℕ) (text other : List ℕ) → to ≡ same → text ≡ other
    → RowsBefore frames m shift packets to text → RowsBefore frames m shift packets same other
place-as frames m shift packets to same text other e f h =
    subst (λ k. RowsBefore frames m shift packets k other) e (subst (RowsBefore frames m shift packets to) f h)

-- the gaps may be named otherwise
gaps-as : (frames : Bool) (m : Media) (shift : Shift) (packets : List FlowPacket) (places same : List ℕ) (to : ℕ) (text : List ℕ) → places ≡ same
    → AreRowsSoFar frames m shift (parts_over m packets shift 1 0 same) (open_at packets shift same to) text
    → AreRowsSoFar frames m shift (parts_over m packets shift 1 0 places) (open_at packets shift places to) text
gaps-as frames m shift packets places same to text e h =
    subst (λ l. AreRowsSoFar frames m shift (parts_over m packets shift 1 0 l) (open_at packets shift l to) text) (sym e) h

-- there are rows up to packet `to`, behind those before it
one-more : (frames : Bool) (m : Media) (shift : Shift) (packets : List FlowPacket) (sound to : ℕ) (b : Bool) (text : List ℕ) → is_cut packets to ≡ b → IsMedia m
    → first_fault_below packets m.pt sound ≡ None → to ≤ sound → to < length packets
    → RowsBefore frames m shift packets to text
    → (more : List ℕ) × RowsBefore frames m shift packets (to + 1) (text ++ more)
one-more frames m shift packets sound to true text cut is none few within h =
    let places = cuts packets to in
    let here : cuts packets (to + 1) ≡ places ++ to ∷ [] = cuts-here packets to cut in
    let from = last_place (0 ∷ places) in
    let number = length places + 1 in
    let over : parts_over m packets shift 1 0 (places ++ to ∷ []) ≡ parts_over m packets shift 1 0 places ++ part_between m packets shift number from to =
    parts_over-push m packets shift 1 0 to places in
    let last : open_at packets shift (places ++ to ∷ []) (to + 1) ≡ None =
    starts-open packets shift (places ++ to ∷ []) to (last_place-push (0 ∷ places) to) within in
    let ended : AreRowsOf frames m shift (parts_over m packets shift 1 0 places ++ part_between m packets shift number from to) text =
    so-far-over frames m shift number (packet packets from) (judged_packets packets from to) (parts_over m packets shift 1 0 places)
    (run_outcome packets shift from to) text h in
    let all : AreRowsSoFar frames m shift (parts_over m packets shift 1 0 (places ++ to ∷ [])) (open_at packets shift (places ++ to ∷ []) (to + 1)) text =
    subst (λ (o : Option OpenPart). AreRowsSoFar frames m shift (parts_over m packets shift 1 0 (places ++ to ∷ [])) o text) (sym last)
    (subst (λ l. AreRowsOf frames m shift l text) (sym over) ended) in (
      [],
      subst (RowsBefore frames m shift packets (to + 1)) (sym (append-nil text))
          (gaps-as frames m shift packets (cuts packets (to + 1)) (places ++ to ∷ []) (to + 1) text here all),
    )
one-more frames m shift packets sound to false text cut is none few within h =
    let places = cuts packets to in
    let here : cuts packets (to + 1) ≡ places = cuts-other packets to cut in
    let order : last_place (0 ∷ places) ≤ to = last_place-le (is_cut packets) to in
    let grows = grows-case packets shift places to (has_marker packets to) refl order within (sized-below packets m.pt sound to none few) in
    let rows =
    more-open frames m shift (parts_over m packets shift 1 0 places) (open_at packets shift places to) (open_at packets shift places (to + 1)) text is
    grows h in (
      rows.0,
      gaps-as frames m shift packets (cuts packets (to + 1)) places (to + 1) (text ++ rows.0) here rows.1,
    )

-- and of any number of packets more
many-more : (frames : Bool) (m : Media) (shift : Shift) (packets : List FlowPacket) (sound to count : ℕ) (text : List ℕ) → IsMedia m
    → first_fault_below packets m.pt sound ≡ None → to + count ≤ sound → to + count ≤ length packets
    → RowsBefore frames m shift packets to text
    → (more : List ℕ) × RowsBefore frames m shift packets (to + count) (text ++ more)
many-more frames m shift packets sound to zero text is none few within h =
    let same : to ≡ to + 0 = omega arith in
    ([], place-as frames m shift packets to (to + 0) text (text ++ []) same (sym (append-nil text)) h)
many-more frames m shift packets sound to (suc count) text is none few within h =
    let before = many-more frames m shift packets sound to count text is none (omega (arith, few)) (omega (arith, within)) h in
    let one =
    one-more frames m shift packets sound (to + count) (is_cut packets (to + count)) (text ++ before.0) refl is none (omega (arith, few))
    (omega (arith, within)) before.1 in
    let next : to + count + 1 ≡ to + suc count = omega arith in (
      before.0 ++ one.0,
      place-as frames m shift packets (to + count + 1) (to + suc count) ((text ++ before.0) ++ one.0) (text ++ (before.0 ++ one.0)) next
          (append_assoc text before.0 one.0) one.1,
    )

-- no packet before a place has a fault
none-below : (packets : List FlowPacket) (pt n : ℕ) → ((k : ℕ) → k < n → fault packets pt k ≡ None) → first_fault_below packets pt n ≡ None
none-below packets pt zero h = refl
none-below packets pt (suc n) h =
    ap (λ first. earlier_or first n (fault packets pt n)) (none-below packets pt n (λ k low. h k (omega (arith, low))))
    ∙ ap (earlier_or None n) (h n (omega arith))

-- the first fault isn't below a place before which there is none
fault-behind : (packets : List FlowPacket) (pt to : ℕ) (first : FirstFault) → IsFirstFault packets pt first → first_fault_below packets pt to ≡ None
    → to ≤ first.index
fault-behind packets pt to first h none = elim (cases_lt first.index to) as (λ _. to ≤ first.index) [
  | inl low ↦ absurd (differ (no_fault-at packets pt to first.index none low))
  | inr high ↦ high
]
  where
    differ : fault packets pt first.index ≡ None → ⊥
    differ e = let both : Some first.fault ≡ None = sym h.has ∙ e in cc

-- the runs of a flow without a fault are over with its last packet
all-over : (frames : Bool) (m : Media) (shift : Shift) (packets : List FlowPacket) (text : List ℕ) → first_fault packets m.pt ≡ None
    → RowsBefore frames m shift packets (length packets) text
    → AreRowsOf frames m shift (judged_parts m packets shift) text
all-over frames m shift [] text none h = h
all-over frames m shift (p ∷ rest) text none h =
    let packets = p ∷ rest in
    let n = length packets in
    let places = cuts packets n in
    let from = last_place (0 ∷ places) in
    let parts = judged_parts-sound m packets shift (omega arith) none ∙ parts_between-over m packets shift n 1 0 places in
    subst (λ l. AreRowsOf frames m shift l text) (sym parts)
    (so-far-over frames m shift (length places + 1) (packet packets from) (judged_packets packets from n) (parts_over m packets shift 1 0 places)
    (run_outcome packets shift from n) text h)

up-to-fault : (frames : Bool) (m : Media) (shift : Shift) (packets : List FlowPacket) (to : ℕ) (text : List ℕ) (o : Option FirstFault) → IsMedia m
    → first_fault packets m.pt ≡ o → first_fault_below packets m.pt to ≡ None → to ≤ length packets
    → RowsBefore frames m shift packets to text
    → (more : List ℕ) × AreRowsUpTo frames m shift packets o (text ++ more)
up-to-fault frames m shift packets to text None is first none within h =
    let count = length packets - to in
    let end : to + count ≡ length packets = omega (arith, within) in
    let rows = many-more frames m shift packets (length packets) to count text is first (omega (arith, end)) (omega (arith, end)) h in
    (rows.0, all-over frames m shift packets (text ++ rows.0) first (subst (λ k. RowsBefore frames m shift packets k (text ++ rows.0)) end rows.1))
up-to-fault frames m shift packets to text (Some found) is first none within h =
    let f = first_fault-is packets m.pt found first in
    let count = found.index - to in
    let end : to + count ≡ found.index = omega (arith, fault-behind packets m.pt to found f none) in
    let rows =
    many-more frames m shift packets found.index to count text is (none-below packets m.pt found.index f.least) (omega (arith, end))
    (omega (arith, end, f.within)) h in
    (rows.0, subst (λ k. RowsBefore frames m shift packets k (text ++ rows.0)) end rows.1)

-- the rows of the first packets of a flow, of which none has a fault, are a prefix of all its rows
pub rows-ahead : (frames : Bool) (m : Media) (shift : Shift) (packets : List FlowPacket) (to : ℕ) (text : List ℕ) → IsMedia m
    → first_fault_below packets m.pt to ≡ None → to ≤ length packets
    → RowsBefore frames m shift packets to text
    → (more : List ℕ) × AreRowsAsNumbered frames m shift packets (text ++ more)
rows-ahead frames m shift packets to text is none within h =
    up-to-fault frames m shift packets to text (first_fault packets m.pt) is refl none within h

-- a flow has rows
pub rows-of-flow : (frames : Bool) (m : Media) (options : FlowOptions) (packets : List FlowPacket) → IsMedia m
    → (rows : List ℕ) × AreRowsOfFlow frames m options packets rows
rows-of-flow frames m options packets is =
    rows-ahead frames m options.shift (numbered options.seq16 packets) 0 [] is refl (omega arith) refl
