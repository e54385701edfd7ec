-- Each judged packet, and each complete frame or field, has a row.
use Rattle.std.specs.Prelude.{◌≤ℤ◌, slice_index}
use Rattle.std.proofs.Common.{◌≡◌, ◌<◌, ◌≤◌, ◌-◌, ◌+◌, ◌*◌, ◌/◌, ◌%◌, ◌++◌, ◌∷◌, ℕ, ℤ, pos, Bool, true, false, List, [], length, refl, sym, subst, arith}
use Rattle.timing_base.specs.Shifts.{Shift}
use Rattle.timing_base.specs.Judged.{stamp_of}
use Rattle.timing_base.specs.Media.{IsMedia, Media}
use Rattle.timing_base.specs.declared.packet.FlowPacket.{FlowPacket}
use Rattle.drain_bucket.specs.Word.{bucket_of}
use Rattle.run_meter.specs.Runs.{stamps_of}
use Rattle.flow_measure.specs.Groups.{firsts_of, lasts_of, latency_at, offset_at, since_at}
use Rattle.flow_measure.specs.Occupancy.{buckets_of}
use Rattle.flow_measure.specs.Run.{anchor_in}
use Rattle.flow_measure.specs.Summary.{IsGreatest, IsLeast}
use Rattle.flow_measure.proofs.Existing.{summary-some}
use Rattle.flow_measure.proofs.Packets.{occupancies}
use Rattle.flow_measure.proofs.Passes.{occupancy-some}
use Rattle.flow_measure.specs.report.Rows.{group_row_text, packet_row_text}
use Rattle.flow_measure.specs.declared.report.rows.GroupRow.{GroupRow}
use Rattle.flow_measure.specs.declared.report.rows.PacketRow.{PacketRow}
use Rattle.flow_measure.specs.rows.Rows.{Adds, AddsGroup, AreRows, IsHeld, IsOfGroup, IsPacketRow, IsRowOf, ends_group, step_before}

-- a packet has a row
some-packet : (m : Media) (shift : Shift) (number n : ℕ) (before : List FlowPacket) (p : FlowPacket) → IsMedia m → 1 ≤ n
    → (r : PacketRow) × IsPacketRow m shift number n before p r
some-packet m shift number n before p is some =
    let stamps = stamps_of shift (before ++ p ∷ []) in
    let gapped = occupancy-some m n stamps true (length before) is some in
    let linear = occupancy-some m n stamps false (length before) is some in (
      record {
        run = number;
        packet = length before;
        rec = p.rec;
        stamp = stamp_of shift p;
        group = length before / n;
        place = length before % n;
        bucket = bucket_of m n stamps (length before);
        gapped = gapped.0;
        linear = linear.0;
      },
      record {
        run = refl;
        packet = refl;
        rec = refl;
        stamp = refl;
        group = refl;
        place = refl;
        bucket = refl;
        gapped = gapped.1;
        linear = linear.1;
      },
    )

-- the numbers at the packets of a group have a least and a greatest one
abbrev of_group : (ℕ → ℤ) → (n k : ℕ) → ℕ → ℤ
of_group numbers n k j = numbers (k * n + j)

group-least : (numbers : ℕ → ℤ) (n k : ℕ) (x : ℤ) → IsLeast (of_group numbers n k) (λ j. j < n) x → IsLeast numbers (IsOfGroup n k) x
group-least numbers n k x h =
    let r = h.reached in
    record {
      least = λ i of.
          let e : k * n + (i - k * n) ≡ i = omega (arith, of.from) in
          subst (λ j. x ≤ℤ numbers j) e (h.least (i - k * n) (omega (arith, of.from, of.below)));
      reached = (k * n + r.0, record { from = omega arith; below = omega (arith, r.1) }, r.2);
    }

group-greatest : (numbers : ℕ → ℤ) (n k : ℕ) (x : ℤ) → IsGreatest (of_group numbers n k) (λ j. j < n) x → IsGreatest numbers (IsOfGroup n k) x
group-greatest numbers n k x h =
    let r = h.reached in
    record {
      greatest = λ i of.
          let e : k * n + (i - k * n) ≡ i = omega (arith, of.from) in
          subst (λ j. numbers j ≤ℤ x) e (h.greatest (i - k * n) (omega (arith, of.from, of.below)));
      reached = (k * n + r.0, record { from = omega arith; below = omega (arith, r.1) }, r.2);
    }

some-held : (m : Media) (n : ℕ) (stamps : List ℕ) (gapped : Bool) (k : ℕ) → IsMedia m → 1 ≤ n
    → (least greatest : ℤ) × IsHeld m n stamps gapped k least greatest
some-held m n stamps gapped k is some =
    let at = occupancies m n stamps gapped is some in
    let s = summary-some (of_group at.0 n k) n some in (
      s.0.least,
      s.0.greatest,
      record {
        occupancy = at.0;
        are = at.1;
        least_is = group-least at.0 n k s.0.least s.1.least;
        greatest_is = group-greatest at.0 n k s.0.greatest s.1.greatest;
      },
    )

some-bucket : (m : Media) (n : ℕ) (stamps : List ℕ) (k : ℕ) → 1 ≤ n → (x : ℕ) × IsGreatest (buckets_of m n stamps) (IsOfGroup n k) (pos x)
some-bucket m n stamps k some =
    let s = summary-some (of_group (buckets_of m n stamps) n k) n some in
    let g = group-greatest (buckets_of m n stamps) n k s.0.greatest s.1.greatest in
    let r = g.reached in
    (bucket_of m n stamps r.0, subst (IsGreatest (buckets_of m n stamps) (IsOfGroup n k)) (sym r.2) g)

-- a group has a row
some-group : (m : Media) (number n k : ℕ) (stamps : List ℕ) (records timestamp : ℕ → ℕ) → IsMedia m → 1 ≤ n
    → (r : GroupRow) × IsRowOf m number n k stamps records timestamp r
some-group m number n k stamps records timestamp is some =
    let bucket = some-bucket m n stamps k some in
    let gapped = some-held m n stamps true k is some in
    let linear = some-held m n stamps false k is some in (
      record {
        run = number;
        group = k;
        rec = firsts_of n records k;
        stamp = firsts_of n (slice_index stamps) k;
        first = since_at m (anchor_in m stamps) (firsts_of n (slice_index stamps)) k;
        last = since_at m (anchor_in m stamps) (lasts_of n (slice_index stamps)) k;
        timestamp = firsts_of n timestamp k;
        step = step_before (firsts_of n timestamp) k;
        offset = offset_at m (anchor_in m stamps) (firsts_of n timestamp) k;
        latency = latency_at (firsts_of n (slice_index stamps)) (firsts_of n timestamp) k;
        bucket = bucket.0;
        gapped_least = gapped.0;
        gapped = gapped.1;
        linear_least = linear.0;
        linear = linear.1;
      },
      record {
        run = refl;
        group = refl;
        rec = refl;
        stamp = refl;
        first = refl;
        last = refl;
        timestamp_is = refl;
        step = refl;
        offset = refl;
        latency = refl;
        bucket = bucket.1;
        gapped = gapped.2;
        linear = linear.2;
      },
    )

-- something is printed at each packet, be it nothing
group-adds : (m : Media) (shift : Shift) (number n : ℕ) (packets : List FlowPacket) (ends : Bool) → IsMedia m → 1 ≤ n
    → (here : List ℕ) × AddsGroup m shift number n packets ends here
group-adds m shift number n packets false is some = ([], refl)
group-adds m shift number n packets true is some =
    let r = some-group m number n _ _ _ _ is some in
    (group_row_text r.0, (r.0, r.1, refl))

some-adds : (frames : Bool) (m : Media) (shift : Shift) (number n : ℕ) (before : List FlowPacket) (p : FlowPacket) → IsMedia m → 1 ≤ n
    → (here : List ℕ) × Adds frames m shift number n before p here
some-adds false m shift number n before p is some =
    let r = some-packet m shift number n before p is some in
    (packet_row_text r.0, (r.0, r.1, refl))
some-adds true m shift number n before p is some = group-adds m shift number n (before ++ p ∷ []) (ends_group n (length before)) is some

-- packets have rows
pub some-rows : (frames : Bool) (m : Media) (shift : Shift) (number n : ℕ) (before packets : List FlowPacket) → IsMedia m → 1 ≤ n
    → (text : List ℕ) × AreRows frames m shift number n before packets text
some-rows frames m shift number n before [] is some = ([], refl)
some-rows frames m shift number n before (p ∷ packets) is some =
    let here = some-adds frames m shift number n before p is some in
    let rest = some-rows frames m shift number n (before ++ p ∷ []) packets is some in
    (here.0 ++ rest.0, (here.0, rest.0, refl, here.1, rest.1))
