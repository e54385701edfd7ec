-- The packet records of captures have one answer of `series`.
use Rattle.std.proofs.Common.{◌≡◌, ◌≤◌, ◌-◌, ◌+◌, ◌*◌, ◌/◌, ◌%◌, ◌++◌, ◌∷◌, ℕ, ℤ, zero, suc, pos, Bool, true, false, List, [], length, Option, Some}
use Rattle.std.proofs.Common.{None, refl, ap, ap₂}
use Rattle.std.proofs.Common.{◌∙◌, sym, subst, arith, length-append}
use Rattle.std.specs.Prelude.{slice_get}
use Rattle.std.proofs.Math.Nat.{suc-mul}
use Rattle.std.proofs.lemmas.Bool.{eqb-true}
use Rattle.std.proofs.lemmas.Int.{ints}
use Rattle.std.proofs.lemmas.List.{length-map}
use Rattle.std.proofs.lemmas.Nat.{div-add-mod'}
use Rattle.timing_base.specs.Captures.{joined}
use Rattle.timing_base.specs.Shifts.{Shift}
use Rattle.timing_base.specs.Flows.{FirstFault, first_fault}
use Rattle.timing_base.specs.Judged.{judged, stamp_of}
use Rattle.timing_base.specs.Jobs.{SeriesJob}
use Rattle.timing_base.specs.Media.{Media}
use Rattle.timing_base.specs.Numbered.{numbered}
use Rattle.timing_base.specs.declared.packet.FlowPacket.{FlowPacket}
use Rattle.fail_interval.specs.Row.{verdict_of}
use Rattle.flow_measure.specs.Occupancy.{buckets_of}
use Rattle.flow_measure.proofs.Bounds.{IsGreatest-same, IsLeast-same}
use Rattle.flow_measure.proofs.Passes.{occupancy-once}
use Rattle.flow_measure.proofs.Unique.{greatest-once, least-once}
use Rattle.flow_measure.specs.report.Rows.{group_row_text, packet_row_text}
use Rattle.flow_measure.specs.declared.report.rows.GroupRow.{GroupRow}
use Rattle.flow_measure.specs.declared.report.rows.PacketRow.{PacketRow}
use Rattle.run_meter.specs.Runs.{JudgedPart, OpenPart, stamps_of}
use Rattle.flow_measure.specs.rows.Told.{AreRowsSoFar}
use Rattle.flow_measure.specs.rows.Rows.{Adds, AddsGroup, AreRows, AreRowsOf, IsHeld, IsOfGroup, IsPacketRow, IsRowOf, ends_group}
use Rattle.fail_interval.specs.Parts.{judged_parts, open_before, parts_before}
use Rattle.timing_steps.specs.Answers.{Answer}
use Rattle.timing_steps.specs.Flows.{OnMedia}
use Rattle.timing_steps.proofs.Onces.{DefinesOnce}
use Rattle.udp_rtp.specs.Flow.{flow}
use Rattle.timing_measure.specs.series.Rows.{AreRowsUpTo}
use Rattle.timing_measure.specs.series.Series.{DefinesSeries, series_of, series_query}

-- a packet has one row
packet-once : (m : Media) (shift : Shift) (number n : ℕ) (before : List FlowPacket) (p : FlowPacket) (r s : PacketRow) → IsPacketRow m shift number n before p r
    → IsPacketRow m shift number n before p s → r ≡ s
packet-once m shift number n before p r s h k =
    let stamps = stamps_of shift (before ++ p ∷ []) in
    let run = h.run ∙ sym k.run in
    let packet = h.packet ∙ sym k.packet in
    let rec = h.rec ∙ sym k.rec in
    let stamp = h.stamp ∙ sym k.stamp in
    let group = h.group ∙ sym k.group in
    let place = h.place ∙ sym k.place in
    let bucket = h.bucket ∙ sym k.bucket in
    let gapped = occupancy-once m n stamps true (length before) r.gapped s.gapped h.gapped k.gapped in
    let linear = occupancy-once m n stamps false (length before) r.linear s.linear h.linear k.linear in
    λ i. record {
      run = run i;
      packet = packet i;
      rec = rec i;
      stamp = stamp i;
      group = group i;
      place = place i;
      bucket = bucket i;
      gapped = gapped i;
      linear = linear i;
    }

-- what the buffer holds at the packets of a group has one least and one greatest number
abbrev SameHeld : (least greatest other_least other_greatest : ℤ) → Type 0
SameHeld least greatest other_least other_greatest = (least ≡ other_least) × (greatest ≡ other_greatest)

held-once : (m : Media) (n : ℕ) (stamps : List ℕ) (gapped : Bool) (k : ℕ) (least greatest other_least other_greatest : ℤ) → k * n + n ≤ length stamps
    → IsHeld m n stamps gapped k least greatest → IsHeld m n stamps gapped k other_least other_greatest → SameHeld least greatest other_least other_greatest
held-once m n stamps gapped k least greatest other_least other_greatest within h j =
    let same : (i : ℕ) → IsOfGroup n k i → h.occupancy i ≡ j.occupancy i =
    λ i of.
    occupancy-once m n stamps gapped i (h.occupancy i) (j.occupancy i) (h.are i (omega (arith, within, of.below))) (j.are i (omega (arith, within, of.below)))
    in (
      least-once h.occupancy (IsOfGroup n k) least other_least h.least_is
          (IsLeast-same j.occupancy h.occupancy (IsOfGroup n k) other_least same j.least_is),
      greatest-once h.occupancy (IsOfGroup n k) greatest other_greatest h.greatest_is
          (IsGreatest-same j.occupancy h.occupancy (IsOfGroup n k) other_greatest same j.greatest_is),
    )

-- a group has one row
row-once : (m : Media) (number n k : ℕ) (stamps : List ℕ) (records timestamp : ℕ → ℕ) (r s : GroupRow) → k * n + n ≤ length stamps
    → IsRowOf m number n k stamps records timestamp r → IsRowOf m number n k stamps records timestamp s → r ≡ s
row-once m number n k stamps records timestamp r s within h j =
    let run = h.run ∙ sym j.run in
    let group = h.group ∙ sym j.group in
    let rec = h.rec ∙ sym j.rec in
    let stamp = h.stamp ∙ sym j.stamp in
    let first = h.first ∙ sym j.first in
    let last = h.last ∙ sym j.last in
    let ticks = h.timestamp_is ∙ sym j.timestamp_is in
    let step = h.step ∙ sym j.step in
    let offset = h.offset ∙ sym j.offset in
    let latency = h.latency ∙ sym j.latency in
    let most = greatest-once (buckets_of m n stamps) (IsOfGroup n k) (pos r.bucket) (pos s.bucket) h.bucket j.bucket in
    let bucket : r.bucket ≡ s.bucket = omega (arith, ints, most) in
    let gapped = held-once m n stamps true k r.gapped_least r.gapped s.gapped_least s.gapped within h.gapped j.gapped in
    let linear = held-once m n stamps false k r.linear_least r.linear s.linear_least s.linear within h.linear j.linear in
    λ i. record {
      run = run i;
      group = group i;
      rec = rec i;
      stamp = stamp i;
      first = first i;
      last = last i;
      timestamp = ticks i;
      step = step i;
      offset = offset i;
      latency = latency i;
      bucket = bucket i;
      gapped_least = gapped.0 i;
      gapped = gapped.1 i;
      linear_least = linear.0 i;
      linear = linear.1 i;
    }

-- the last of so many whole groups is among them
last-group : (q n count : ℕ) → q * n ≡ count → 1 ≤ count → (q - 1) * n + n ≤ count
last-group zero n count e some = absurd (omega (arith, e, some))
last-group (suc j) n count e some =
    let one : suc j - 1 ≡ j = omega arith in
    let whole : j * n + n ≡ count = sym (suc-mul j n) ∙ e in
    subst (λ k. k * n + n ≤ count) (sym one) (omega (arith, whole))

group-within : (shift : Shift) (n : ℕ) (before : List FlowPacket) (p : FlowPacket) → ends_group n (length before) ≡ true
    → (length (before ++ p ∷ []) / n - 1) * n + n ≤ length (stamps_of shift (before ++ p ∷ []))
group-within shift n before p ends =
    let packets = before ++ p ∷ [] in
    let long : length packets ≡ length before + 1 = length-append before (p ∷ []) in
    let stamps : length (stamps_of shift packets) ≡ length packets = length-map packets (stamp_of shift) in
    let none : length packets % n ≡ 0 = ap (λ k. k % n) long ∙ eqb-true ((length before + 1) % n) 0 ends in
    let whole : length packets / n * n ≡ length packets = omega (arith, div-add-mod' (length packets) n, none) in
    let fits = last-group (length packets / n) n (length packets) whole (omega (arith, long)) in
    omega (arith, fits, stamps)

-- what is printed at a packet is one text
group-adds : (m : Media) (shift : Shift) (number n : ℕ) (before : List FlowPacket) (p : FlowPacket) (ends : Bool) (a b : List ℕ)
    → ends_group n (length before) ≡ ends
    → AddsGroup m shift number n (before ++ p ∷ []) ends a → AddsGroup m shift number n (before ++ p ∷ []) ends b → a ≡ b
group-adds m shift number n before p false a b is h k = h ∙ sym k
group-adds m shift number n before p true a b is h k =
    h.2 ∙ ap group_row_text (row-once m number n _ _ _ _ h.0 k.0 (group-within shift n before p is) h.1 k.1) ∙ sym k.2

adds-once : (frames : Bool) (m : Media) (shift : Shift) (number n : ℕ) (before : List FlowPacket) (p : FlowPacket) (a b : List ℕ)
    → Adds frames m shift number n before p a → Adds frames m shift number n before p b → a ≡ b
adds-once false m shift number n before p a b h k = h.2 ∙ ap packet_row_text (packet-once m shift number n before p h.0 k.0 h.1 k.1) ∙ sym k.2
adds-once true m shift number n before p a b h k = group-adds m shift number n before p (ends_group n (length before)) a b refl h k

-- so are the rows of a run, and of runs
rows-once : (frames : Bool) (m : Media) (shift : Shift) (number n : ℕ) (before packets : List FlowPacket) (a b : List ℕ)
    → AreRows frames m shift number n before packets a → AreRows frames m shift number n before packets b → a ≡ b
rows-once frames m shift number n before [] a b h k = h ∙ sym k
rows-once frames m shift number n before (p ∷ packets) a b h k =
    h.2 ∙ ap₂ (λ x y. x ++ y) (adds-once frames m shift number n before p h.0 k.0 h.3 k.3)
    (rows-once frames m shift number n (before ++ p ∷ []) packets h.1 k.1 h.4 k.4) ∙ sym k.2

parts-once : (frames : Bool) (m : Media) (shift : Shift) (parts : List JudgedPart) (a b : List ℕ) → AreRowsOf frames m shift parts a
    → AreRowsOf frames m shift parts b → a ≡ b
parts-once frames m shift [] a b h k = h ∙ sym k
parts-once frames m shift (part ∷ parts) a b h k =
    h.2 ∙ ap₂ (λ x y. x ++ y) (rows-once frames m shift part.number part.values.n [] part.packets h.0 k.0 h.3 k.3)
    (parts-once frames m shift parts h.1 k.1 h.4 k.4) ∙ sym k.2

-- and the rows of a flow, with those of the run that is open at its first fault
so-far-once : (frames : Bool) (m : Media) (shift : Shift) (over : List JudgedPart) (part : Option OpenPart) (a b : List ℕ)
    → AreRowsSoFar frames m shift over part a → AreRowsSoFar frames m shift over part b → a ≡ b
so-far-once frames m shift over None a b h k = parts-once frames m shift over a b h k
so-far-once frames m shift over (Some part) a b h k =
    h.2 ∙ ap₂ (λ x y. x ++ y) (parts-once frames m shift over h.0 k.0 h.3 k.3)
    (rows-once frames m shift part.run.number part.run.n [] part.packets h.1 k.1 h.4 k.4) ∙ sym k.2

up-to-once : (frames : Bool) (m : Media) (shift : Shift) (packets : List FlowPacket) (o : Option FirstFault) (a b : List ℕ)
    → AreRowsUpTo frames m shift packets o a → AreRowsUpTo frames m shift packets o b → a ≡ b
up-to-once frames m shift packets None a b h k = so-far-once frames m shift (judged_parts m packets shift) None a b h k
up-to-once frames m shift packets (Some first) a b h k =
    so-far-once frames m shift (parts_before m packets shift first.index) (open_before packets shift first.index) a b h k

-- no media and packet records have two answers
pub once-series : (job : SeriesJob) → DefinesOnce (series_query job)
once-series job media files notes a b h k = of-media (slice_get media job.flow.media) h k
  where
    Answers : Media → Answer → Type 0
    Answers m answer = DefinesSeries job.frames job.flow.options m (joined files) notes answer

    of-media : (found : Option Media) → OnMedia found (λ m. Answers m a) → OnMedia found (λ m. Answers m b) → a ≡ b
    of-media None h k = absurd h
    of-media (Some m) h k =
        let options = job.flow.options in
        let packets = flow (joined files) m in
        let counted = numbered options.seq16 packets in
        let rows : h.rows ≡ k.rows = up-to-once job.frames m options.shift counted (first_fault counted m.pt) h.rows k.rows h.are k.are in
        h.answer_is ∙ ap (series_of job.frames m notes (verdict_of m (judged packets m.pt options))) rows ∙ sym k.answer_is
