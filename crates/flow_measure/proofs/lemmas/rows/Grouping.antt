-- The row of a group, one packet on.
use Rattle.std.proofs.Common.{◌≡◌, ◌≤◌, ◌<◌, ◌+◌, ◌-◌, ◌*◌, ◌/◌, ◌%◌, ◌++◌, ◌∷◌, [], ℕ, zero, suc, ℤ, pos, Bool, true, false, List, length, slice_index}
use Rattle.std.proofs.Common.{cond, Option, Some, None, inl, inr, refl, ap, ap₂, ◌∙◌, sym, subst, arith, length-append}
use Rattle.std.specs.Prelude.{◌⊎◌, ◌==◌}
use Rattle.std.proofs.Math.Dec.{ltb}
use Rattle.std.proofs.Math.Nat.{add-mul, mul-le-mul_right}
use Rattle.std.proofs.Math.Seq.{get_or-append_seam}
use Rattle.std.proofs.lemmas.Bool.{cases_lt, cond-false, cond-true, le-ltb, lt-ltb}
use Rattle.std.proofs.lemmas.Bool.Decides.{nat_tests}
use Rattle.std.proofs.lemmas.Int.{clamps, ints}
use Rattle.std.proofs.lemmas.List.{get_or_append_left, length-map}
use Rattle.std.proofs.lemmas.Nat.{div-add-mod'}
use Rattle.std.specs.Int.{int_max, int_min}
use Rattle.timing_base.specs.Shifts.{Shift}
use Rattle.sender_params.specs.Reads.{anchor_of}
use Rattle.timing_base.specs.Flows.{no_packet, read_or_zeros}
use Rattle.timing_base.specs.Judged.{stamp_of}
use Rattle.timing_base.specs.Media.{Media}
use Rattle.timing_base.specs.declared.packet.FlowPacket.{FlowPacket}
use Rattle.vrx_buffer.specs.Occupancy.{IsOccupancy}
use Rattle.run_meter.specs.Runs.{stamps_of}
use Rattle.run_meter.specs.declared.run.RunPacket.{RunPacket}
use Rattle.flow_measure.specs.Frames.{after_start, timestamp_latency, timestamp_offset, timestamp_step}
use Rattle.flow_measure.specs.Groups.{firsts_of}
use Rattle.flow_measure.specs.Occupancy.{AreOccupancies, buckets_of}
use Rattle.flow_measure.specs.Packets.{timestamps_of}
use Rattle.flow_measure.specs.Run.{anchor_in}
use Rattle.flow_measure.specs.Summary.{IsGreatest, IsLeast}
use Rattle.flow_measure.specs.declared.report.rows.GroupRow.{GroupRow}
use Rattle.flow_measure.specs.rows.Rows.{IsGroupRow, IsOfGroup, IsRowOf, ends_group, step_before, step_from}
use Rattle.flow_measure.specs.rows.making.Groups.{Begins, BeginsRow, EndsRow, KeepsPlace, KeepsRest, Widens}
use Rattle.flow_measure.specs.rows.making.Stands.{IsBegun, IsKept, OfFront, StandsFor, last_of, records_in, ticks_in}
use Rattle.flow_measure.specs.declared.rows.maker.Kept.{Kept}
use Rattle.flow_measure.specs.declared.rows.maker.RowMaker.{RowMaker}
use Rattle.flow_measure.proofs.Bounds.{IsGreatest-more, IsGreatest-same, IsLeast-more, IsLeast-same}
use Rattle.flow_measure.proofs.Breaks.{end-of-group, within-group}
use Rattle.flow_measure.proofs.Fronts.{bucket-front, front-is, last-is, occupancy-later}
use Rattle.flow_measure.proofs.Judging.{stamps-long, stamps-more, timestamps-more}

-- the numbers of so many packets, and those of one more
pub record Extends {A : Type 0} (count : ℕ) (old new : ℕ → A) (x : A) : Type 0 where
  pub front : (i : ℕ) → i < count → new i ≡ old i
  pub last : new count ≡ x

-- of a list
list-extends : (xs : List ℕ) (x : ℕ) → Extends (length xs) (slice_index xs) (slice_index (xs ++ x ∷ [])) x
list-extends xs x = record { front = λ i few. front-is xs x i few; last = last-is xs x }

stamps-extend : (shift : Shift) (before : List FlowPacket) (p : FlowPacket)
    → Extends (length before) (slice_index (stamps_of shift before)) (slice_index (stamps_of shift (before ++ p ∷ []))) (stamp_of shift p)
stamps-extend shift before p =
    let old = stamps_of shift before in
    let at = stamp_of shift p in
    subst (λ l. Extends (length before) (slice_index old) (slice_index l) at) (sym (stamps-more shift before p))
    (subst (λ k. Extends k (slice_index old) (slice_index (old ++ at ∷ [])) at) (stamps-long shift before) (list-extends old at))

ticks-extend : (before : List FlowPacket) (p : FlowPacket)
    → Extends (length before) (ticks_in before) (ticks_in (before ++ p ∷ [])) (read_or_zeros p.rtp).timestamp
ticks-extend before p =
    let of = λ (q : FlowPacket). (read_or_zeros q.rtp).timestamp in
    let old = timestamps_of before in
    let t = of p in
    subst (λ l. Extends (length before) (slice_index old) (slice_index l) t) (sym (timestamps-more before p))
    (subst (λ k. Extends k (slice_index old) (slice_index (old ++ t ∷ [])) t) (length-map before of) (list-extends old t))

records-extend : (before : List FlowPacket) (p : FlowPacket) → Extends (length before) (records_in before) (records_in (before ++ p ∷ [])) p.rec
records-extend before p = record {
  front = λ i few. ap (λ (q : FlowPacket). q.rec) (get_or_append_left before (p ∷ []) no_packet i few);
  last = ap (λ (q : FlowPacket). q.rec) (get_or-append_seam before p [] no_packet);
}

buckets-extend : (m : Media) (n : ℕ) (stamps : List ℕ) (at bucket : ℕ) → buckets_of m n (stamps ++ at ∷ []) (length stamps) ≡ pos bucket
    → Extends (length stamps) (buckets_of m n stamps) (buckets_of m n (stamps ++ at ∷ [])) (pos bucket)
buckets-extend m n stamps at bucket is = record {
  front = λ i few. ap (λ k. pos k) (bucket-front m n stamps at i few);
  last = is;
}

-- numbers with one more
abbrev extended : (count : ℕ) → (ℕ → ℤ) → ℤ → ℕ → ℤ
extended count old x i = cond (ltb i count) (old i) x

extends-with : (count : ℕ) (old : ℕ → ℤ) (x : ℤ) → Extends count old (extended count old x) x
extends-with count old x = record {
  front = λ i few. cond-true (ltb i count) (old i) x (lt-ltb i count few);
  last = cond-false (ltb count count) (old count) x (le-ltb count count (omega arith));
}

occupancies-more : (m : Media) (n : ℕ) (stamps : List ℕ) (gapped : Bool) (at : ℕ) (old : ℕ → ℤ) (x : ℤ) → AreOccupancies m n stamps gapped old
    → IsOccupancy m n (stamps ++ at ∷ []) gapped (length stamps) x
    → AreOccupancies m n (stamps ++ at ∷ []) gapped (extended (length stamps) old x)
occupancies-more m n stamps gapped at old x are here = λ i few.
    let count = length stamps in
    let new = stamps ++ at ∷ [] in
    let long : length new ≡ count + 1 = length-append stamps (at ∷ []) in
    let more = extends-with count old x in
    elim (cases_lt i count) as (λ _. IsOccupancy m n new gapped i (extended count old x i)) [
      | inl low ↦ subst (IsOccupancy m n new gapped i) (sym (more.front i low)) (occupancy-later m n stamps gapped at i (old i) low (are i low))
      | inr high ↦
          let same : count ≡ i = omega (arith, high, few, long) in
          subst (λ k. IsOccupancy m n new gapped k (extended count old x k)) same (subst (IsOccupancy m n new gapped count) (sym more.last) here)
    ]

-- the first packet of a group is the only one that came of it
one-alone : (numbers : ℕ → ℤ) (n k count i : ℕ) (x : ℤ) → k * n ≡ count → numbers count ≡ x → OfFront n k (count + 1) i → numbers i ≡ x
one-alone numbers n k count i x whole is p =
    let here : i ≡ count = omega (arith, whole, p.0, p.1) in ap numbers here ∙ is

one-reached : (numbers : ℕ → ℤ) (n k count : ℕ) (x : ℤ) → k * n ≡ count → numbers count ≡ x
    → (i : ℕ) × OfFront n k (count + 1) i × (numbers i ≡ x)
one-reached numbers n k count x whole is = (count, (omega (arith, whole), omega arith), is)

-- so its number is both extremes
greatest-one : (numbers : ℕ → ℤ) (n k count : ℕ) (x : ℤ) → k * n ≡ count → numbers count ≡ x → IsGreatest numbers (OfFront n k (count + 1)) x
greatest-one numbers n k count x whole is = record {
  greatest = λ i p. omega (arith, ints, one-alone numbers n k count i x whole is p);
  reached = one-reached numbers n k count x whole is;
}

least-one : (numbers : ℕ → ℤ) (n k count : ℕ) (x : ℤ) → k * n ≡ count → numbers count ≡ x → IsLeast numbers (OfFront n k (count + 1)) x
least-one numbers n k count x whole is = record {
  least = λ i p. omega (arith, ints, one-alone numbers n k count i x whole is p);
  reached = one-reached numbers n k count x whole is;
}

-- and with another packet
front-split : (n k count i : ℕ) → OfFront n k (count + 1) i → OfFront n k count i ⊎ (i ≡ count)
front-split n k count i p = elim (cases_lt i count) as (λ _. OfFront n k count i ⊎ (i ≡ count)) [
  | inl below ↦ inl (p.0, below)
  | inr same ↦ inr (omega (arith, p.1, same))
]

abbrev Grows : (IsExtreme : (ℕ → ℤ) → (ℕ → Type 0) → ℤ → Type 0) → (extreme : ℤ → ℤ → ℤ) → Type 0
Grows IsExtreme extreme = (old new : ℕ → ℤ) (n k count : ℕ) (at x y : ℤ) → k * n ≤ count → Extends count old new at
    → IsExtreme old (OfFront n k count) x → y ≡ extreme x at → IsExtreme new (OfFront n k (count + 1)) y

grows : (IsExtreme : (ℕ → ℤ) → (ℕ → Type 0) → ℤ → Type 0) (extreme : ℤ → ℤ → ℤ)
    → ((numbers others : ℕ → ℤ) (places : ℕ → Type 0) (x : ℤ) → ((i : ℕ) → places i → others i ≡ numbers i) → IsExtreme numbers places x
    → IsExtreme others places x)
    → ((numbers : ℕ → ℤ) (before after : ℕ → Type 0) (new : ℕ) (x y : ℤ) → IsExtreme numbers before x → ((i : ℕ) → before i → after i) → after new
    → ((i : ℕ) → after i → before i ⊎ (i ≡ new)) → y ≡ extreme x (numbers new) → IsExtreme numbers after y)
    → Grows IsExtreme extreme
grows IsExtreme extreme same more old new n k count at x y from e h is =
    more new (OfFront n k count) (OfFront n k (count + 1)) count x y (same old new (OfFront n k count) x (λ i p. e.front i p.1) h)
    (λ i p. (p.0, omega (arith, p.1))) (from, omega arith) (front-split n k count) (is ∙ ap (extreme x) (sym e.last))

greatest-more : Grows IsGreatest int_max
greatest-more = grows IsGreatest int_max IsGreatest-same IsGreatest-more

least-more : Grows IsLeast int_min
least-more = grows IsLeast int_min IsLeast-same IsLeast-more

-- a group before another one begins before it
times-below : (j k n : ℕ) → j < k → 1 ≤ n → j * n < k * n
times-below j k n low some =
    let more : (j + 1) * n ≤ k * n = mul-le-mul_right {m = j + 1} {n = k} n (omega (arith, low)) in
    omega (arith, more, add-mul j 1 n, some)

-- the step to the timestamp of the group that begins
step-is : (f g : ℕ → ℕ) (before : Option ℕ) (k t : ℕ) → before ≡ last_of f k → ((j : ℕ) → j < k → g j ≡ f j) → g k ≡ t
    → step_from before t ≡ step_before g k
step-is f g before zero t is same here = ap (λ b. step_from b t) is
step-is f g before (suc j) t is same here =
    let e : suc j ≡ j + 1 = omega arith in
    ap (λ b. step_from b t) is ∙ ap₂ (λ (a b : ℕ). Some (timestamp_step a b)) (sym (same j (omega arith))) (sym here ∙ ap g e)

-- the group of the epoch to which the first packet belongs, once a group begins
anchor-begun : (m : Media) (k n count : ℕ) (before : Option ℕ) (n0 new : ℤ) (f stamp more : ℕ → ℕ) (at : ℕ) → k * n ≡ count → 1 ≤ n
    → Extends count stamp more at → before ≡ last_of f k → (before ≡ None → new ≡ anchor_of m at)
    → ((b : ℕ) → before ≡ Some b → new ≡ n0) → (0 < count → n0 ≡ anchor_of m (stamp 0))
    → new ≡ anchor_of m (more 0)
anchor-begun m zero n count before n0 new f stamp more at whole some e is first later known =
    let none : 0 ≡ count = omega (arith, whole) in
    first is ∙ ap (anchor_of m) (sym (ap more none ∙ e.last))
anchor-begun m (suc j) n count before n0 new f stamp more at whole some e is first later known =
    let low : 0 * n < suc j * n = times-below 0 (suc j) n (omega arith) some in
    let few : 0 < count = omega (arith, whole, low) in
    later (f j) is ∙ known few ∙ ap (anchor_of m) (sym (e.front 0 few))

-- the packets of a run and one more: their numbers
pub record IsNext (count : ℕ) (stamp more_stamp records more_records timestamp more_timestamp : ℕ → ℕ)
    (bucket more_bucket gapped more_gapped linear more_linear : ℕ → ℤ) (kept : Kept) : Type 0 where
  pub stamps : Extends count stamp more_stamp kept.packet.at
  pub recs : Extends count records more_records kept.packet.rec
  pub ticks : Extends count timestamp more_timestamp kept.packet.timestamp
  pub buckets : Extends count bucket more_bucket (pos kept.level.bucket)
  pub gapped_next : Extends count gapped more_gapped kept.level.gapped.occupancy
  pub linear_next : Extends count linear more_linear kept.level.linear.occupancy

-- a group begins with it
row-begins : (m : Media) (n k count : ℕ) (n0 anchor : ℤ) (before : Option ℕ) (s s2 r r2 ts ts2 : ℕ → ℕ) (b b2 g g2 l l2 : ℕ → ℤ) (kept : Kept)
    (old new : GroupRow) → k * n ≡ count → 1 ≤ n → old.group ≡ k → n0 ≡ anchor → before ≡ last_of (firsts_of n ts) k
    → IsNext count s s2 r r2 ts ts2 b b2 g g2 l l2 kept
    → BeginsRow m n0 before kept old new
    → IsBegun m n k (count + 1) anchor s2 r2 ts2 b2 g2 l2 new
row-begins m n k count n0 anchor before s s2 r r2 ts ts2 b b2 g g2 l l2 kept old new whole some group same is e h =
    let at = kept.packet.at in
    let t = kept.packet.timestamp in
    let here_at : s2 (k * n) ≡ at = ap s2 whole ∙ e.stamps.last in
    let here_t : ts2 (k * n) ≡ t = ap ts2 whole ∙ e.ticks.last in
    let front : (j : ℕ) → j < k → firsts_of n ts2 j ≡ firsts_of n ts j =
    λ j low. e.ticks.front (j * n) (omega (arith, whole, times-below j k n low some)) in
    record {
      rec = h.rec_is ∙ sym (ap r2 whole ∙ e.recs.last);
      stamp_is = h.stamp ∙ sym here_at;
      first = h.first ∙ ap (λ a. after_start m a old.group at) same ∙ ap (λ j. after_start m anchor j at) group
          ∙ ap (after_start m anchor k) (sym here_at);
      timestamp_is = h.timestamp_is ∙ sym here_t;
      step = h.step ∙ step-is (firsts_of n ts) (firsts_of n ts2) before k t is front here_t;
      offset = h.offset ∙ ap (λ a. timestamp_offset m a old.group t) same ∙ ap (λ j. timestamp_offset m anchor j t) group
          ∙ ap (timestamp_offset m anchor k) (sym here_t);
      latency = h.latency ∙ ap₂ (λ (a x : ℕ). timestamp_latency a x) (sym here_at) (sym here_t);
      bucket_is = greatest-one b2 n k count (pos new.bucket) whole (e.buckets.last ∙ ap (λ x. pos x) (sym h.bucket));
      gapped_least = least-one g2 n k count new.gapped_least whole (e.gapped_next.last ∙ sym h.gapped_least);
      gapped_is = greatest-one g2 n k count new.gapped whole (e.gapped_next.last ∙ sym h.gapped);
      linear_least = least-one l2 n k count new.linear_least whole (e.linear_next.last ∙ sym h.linear_least);
      linear_is = greatest-one l2 n k count new.linear whole (e.linear_next.last ∙ sym h.linear);
    }

-- it is another one of its group
row-widens : (m : Media) (n k count : ℕ) (anchor : ℤ) (s s2 r r2 ts ts2 : ℕ → ℕ) (b b2 g g2 l l2 : ℕ → ℤ) (kept : Kept)
    (old new : GroupRow) → k * n < count → 1 ≤ n
    → IsNext count s s2 r r2 ts ts2 b b2 g g2 l l2 kept
    → IsBegun m n k count anchor s r ts b g l old
    → Widens kept.level old new
    → IsBegun m n k (count + 1) anchor s2 r2 ts2 b2 g2 l2 new
row-widens m n k count anchor s s2 r r2 ts ts2 b b2 g g2 l l2 kept old new behind some e o w =
    let level = kept.level in
    let p = w.place in
    let from : k * n ≤ count = omega (arith, behind) in
    let here_at : s (k * n) ≡ s2 (k * n) = sym (e.stamps.front (k * n) behind) in
    let here_t : ts (k * n) ≡ ts2 (k * n) = sym (e.ticks.front (k * n) behind) in
    let front : (j : ℕ) → j < k → firsts_of n ts2 j ≡ firsts_of n ts j =
    λ j low. e.ticks.front (j * n) (omega (arith, behind, times-below j k n low some)) in
    let high : pos new.bucket ≡ int_max (pos old.bucket) (pos level.bucket) = omega (arith, ints, clamps, w.bucket) in
    record {
      rec = p.rec_is ∙ o.rec ∙ sym (e.recs.front (k * n) behind);
      stamp_is = p.stamp ∙ o.stamp_is ∙ here_at;
      first = p.first ∙ o.first ∙ ap (after_start m anchor k) here_at;
      timestamp_is = p.timestamp_is ∙ o.timestamp_is ∙ here_t;
      step = p.step ∙ o.step ∙ step-same (firsts_of n ts) (firsts_of n ts2) k front (sym here_t);
      offset = p.offset ∙ o.offset ∙ ap (timestamp_offset m anchor k) here_t;
      latency = p.latency ∙ o.latency ∙ ap₂ (λ (a x : ℕ). timestamp_latency a x) here_at here_t;
      bucket_is = greatest-more b b2 n k count (pos level.bucket) (pos old.bucket) (pos new.bucket) from e.buckets o.bucket_is high;
      gapped_least = least-more g g2 n k count level.gapped.occupancy old.gapped_least new.gapped_least from e.gapped_next o.gapped_least w.gapped_least;
      gapped_is = greatest-more g g2 n k count level.gapped.occupancy old.gapped new.gapped from e.gapped_next o.gapped_is w.gapped;
      linear_least = least-more l l2 n k count level.linear.occupancy old.linear_least new.linear_least from e.linear_next o.linear_least w.linear_least;
      linear_is = greatest-more l l2 n k count level.linear.occupancy old.linear new.linear from e.linear_next o.linear_is w.linear;
    }
  where
    step-same : (f g : ℕ → ℕ) (k : ℕ) → ((j : ℕ) → j < k → g j ≡ f j) → g k ≡ f k → step_before f k ≡ step_before g k
    step-same f g zero same here = refl
    step-same f g (suc j) same here =
        let e : suc j ≡ j + 1 = omega arith in
        ap₂ (λ (a b : ℕ). Some (timestamp_step a b)) (sym (same j (omega arith))) (ap f (sym e) ∙ sym here ∙ ap g e)

-- the packets came, of which the last is of group k, and its row has all of it that came
pub record IsTaken (m : Media) (shift : Shift) (run n k : ℕ) (x : RowMaker) (packets : List FlowPacket) : Type 0 where
  pub run_is : x.row.run ≡ run
  pub group_is : x.row.group ≡ k
  pub anchor_is : x.n0 ≡ anchor_in m (stamps_of shift packets)
  pub before_is : x.before ≡ Some (firsts_of n (ticks_in packets) k)
  pub gapped : ℕ → ℤ
  pub linear : ℕ → ℤ
  pub gapped_are : AreOccupancies m n (stamps_of shift packets) true gapped
  pub linear_are : AreOccupancies m n (stamps_of shift packets) false linear
  pub begun : IsBegun m n k (length packets) (anchor_in m (stamps_of shift packets)) (slice_index (stamps_of shift packets)) (records_in packets)
      (ticks_in packets) (buckets_of m n (stamps_of shift packets)) gapped linear x.row

-- the numbers of a packet more
next-of : (m : Media) (shift : Shift) (n : ℕ) (before : List FlowPacket) (p : FlowPacket) (kept : Kept) (gapped linear : ℕ → ℤ)
    → IsKept m shift n before p kept
    → IsNext (length before) (slice_index (stamps_of shift before)) (slice_index (stamps_of shift (before ++ p ∷ []))) (records_in before)
    (records_in (before ++ p ∷ [])) (ticks_in before) (ticks_in (before ++ p ∷ [])) (buckets_of m n (stamps_of shift before))
    (buckets_of m n (stamps_of shift (before ++ p ∷ []))) gapped (extended (length before) gapped kept.level.gapped.occupancy) linear
    (extended (length before) linear kept.level.linear.occupancy) kept
next-of m shift n before p kept gapped linear is =
    let old = stamps_of shift before in
    let new = stamps_of shift (before ++ p ∷ []) in
    let q = is.packet_is in
    record {
      stamps = subst (Extends (length before) (slice_index old) (slice_index new)) (sym (ap (λ (x : RunPacket). x.at) q)) (stamps-extend shift before p);
      recs = subst (Extends (length before) (records_in before) (records_in (before ++ p ∷ []))) (sym (ap (λ (x : RunPacket). x.rec) q))
          (records-extend before p);
      ticks = subst (Extends (length before) (ticks_in before) (ticks_in (before ++ p ∷ []))) (sym (ap (λ (x : RunPacket). x.timestamp) q))
          (ticks-extend before p);
      buckets = subst (λ l. Extends (length before) (buckets_of m n old) (buckets_of m n l) (pos kept.level.bucket)) (sym (stamps-more shift before p))
          (subst (λ k. Extends k (buckets_of m n old) (buckets_of m n (old ++ stamp_of shift p ∷ [])) (pos kept.level.bucket)) (stamps-long shift before)
          (buckets-extend m n old (stamp_of shift p) kept.level.bucket
          (ap (λ k. buckets_of m n (old ++ stamp_of shift p ∷ []) k) (stamps-long shift before)
          ∙ ap (λ l. buckets_of m n l (length before)) (sym (stamps-more shift before p)) ∙ ap (λ b. pos b) (sym is.level_is.bucket))));
      gapped_next = extends-with (length before) gapped kept.level.gapped.occupancy;
      linear_next = extends-with (length before) linear kept.level.linear.occupancy;
    }

-- what the buffer holds at the packets, and at one more
occupancies-next : (m : Media) (shift : Shift) (n : ℕ) (before : List FlowPacket) (p : FlowPacket) (gapped : Bool) (numbers : ℕ → ℤ) (x : ℤ)
    → AreOccupancies m n (stamps_of shift before) gapped numbers
    → IsOccupancy m n (stamps_of shift (before ++ p ∷ [])) gapped (length before) x
    → AreOccupancies m n (stamps_of shift (before ++ p ∷ [])) gapped (extended (length before) numbers x)
occupancies-next m shift n before p gapped numbers x are here =
    let old = stamps_of shift before in
    let at = stamp_of shift p in
    let more = stamps-more shift before p in
    let long = stamps-long shift before in
    let last : IsOccupancy m n (old ++ at ∷ []) gapped (length old) x =
    subst (λ k. IsOccupancy m n (old ++ at ∷ []) gapped k x) (sym long) (subst (λ l. IsOccupancy m n l gapped (length before) x) more here) in
    subst (λ l. AreOccupancies m n l gapped (extended (length before) numbers x)) (sym more)
    (subst (λ k. AreOccupancies m n (old ++ at ∷ []) gapped (extended k numbers x)) long (occupancies-more m n old gapped at numbers x are last))

-- a packet more came, and the row says so
row-taken : (m : Media) (shift : Shift) (run n k : ℕ) (x : RowMaker) (before : List FlowPacket) (p : FlowPacket) (gapped linear : ℕ → ℤ)
    → AreOccupancies m n (stamps_of shift (before ++ p ∷ [])) true gapped
    → AreOccupancies m n (stamps_of shift (before ++ p ∷ [])) false linear → x.row.run ≡ run → x.row.group ≡ k
    → x.n0 ≡ anchor_in m (stamps_of shift (before ++ p ∷ [])) → x.before ≡ Some (firsts_of n (ticks_in (before ++ p ∷ [])) k)
    → IsBegun m n k (length before + 1) (anchor_in m (stamps_of shift (before ++ p ∷ []))) (slice_index (stamps_of shift (before ++ p ∷ [])))
    (records_in (before ++ p ∷ [])) (ticks_in (before ++ p ∷ [])) (buckets_of m n (stamps_of shift (before ++ p ∷ []))) gapped linear x.row
    → IsTaken m shift run n k x (before ++ p ∷ [])
row-taken m shift run n k x before p gapped linear gapped_are linear_are run_is group_is anchor_is before_is begun =
    let all = before ++ p ∷ [] in
    let now = stamps_of shift all in
    record {
      run_is = run_is;
      group_is = group_is;
      anchor_is = anchor_is;
      before_is = before_is;
      gapped = gapped;
      linear = linear;
      gapped_are = gapped_are;
      linear_are = linear_are;
      begun = subst (λ c. IsBegun m n k c (anchor_in m now) (slice_index now) (records_in all) (ticks_in all) (buckets_of m n now) gapped linear x.row)
          (sym (length-append before (p ∷ []))) begun;
    }

-- the place of the next packet among the groups
pub record IsPlaced (n count : ℕ) (x : RowMaker) : Type 0 where
  pub place : x.walk.place ≡ count % n
  pub within : x.walk.place < n
  pub group : x.walk.group ≡ count / n
  pub parts : x.walk.group * n + x.walk.place ≡ count

pub placed : (m : Media) (shift : Shift) (run n : ℕ) (x : RowMaker) (before : List FlowPacket) → StandsFor m shift run n x before → IsPlaced n (length before) x
placed m shift run n x before h =
    let w = x.walk in
    let count = length before in
    let place : w.place ≡ count % n = w.place_is ∙ ap (λ s. s % w.n) h.seen ∙ ap (λ k. count % k) h.n_is in
    let group : w.group ≡ count / n = w.group_is ∙ ap (λ s. s / w.n) h.seen ∙ ap (λ k. count / k) h.n_is in
    let same : w.group * n ≡ count / n * n = ap (λ g. g * n) group in
    record {
      place = place;
      within = omega (arith, w.place_within, h.n_is);
      group = group;
      parts = omega (arith, same, place, div-add-mod' count n);
    }

-- so with a packet more
pub taken : (m : Media) (shift : Shift) (run n : ℕ) (old new : RowMaker) (before : List FlowPacket) (p : FlowPacket) (kept : Kept)
    → (old.walk.place ≡ 0 → Begins m kept old new)
    → (0 < old.walk.place → KeepsRest old new × Widens kept.level old.row new.row)
    → IsKept m shift n before p kept
    → StandsFor m shift run n old before
    → IsTaken m shift run n old.walk.group new (before ++ p ∷ [])
taken m shift run n old new before p kept begins widens is h =
    let count = length before in
    let k = old.walk.group in
    let all = before ++ p ∷ [] in
    let past = stamps_of shift before in
    let now = stamps_of shift all in
    let at = placed m shift run n old before h in
    let gapped = extended count h.gapped kept.level.gapped.occupancy in
    let linear = extended count h.linear kept.level.linear.occupancy in
    let gapped_are = occupancies-next m shift n before p true h.gapped kept.level.gapped.occupancy h.gapped_are is.level_is.gapped.occupancy in
    let linear_are = occupancies-next m shift n before p false h.linear kept.level.linear.occupancy h.linear_are is.level_is.linear.occupancy in
    let so = row-taken m shift run n k new before p gapped linear gapped_are linear_are in
    let e = next-of m shift n before p kept h.gapped h.linear is in
    let some : 1 ≤ n = omega (arith, at.within) in
    let row_group : old.row.group ≡ k = old.group_is in
    elim (cases_lt 0 old.walk.place) as (λ _. IsTaken m shift run n k new all) [
      | inl inside ↦
          let w = widens inside in
          let behind : k * n < count = omega (arith, at.parts, inside) in
          let few : 0 < count = omega (arith, behind) in
          let anchors : anchor_in m past ≡ anchor_in m now = ap (anchor_of m) (sym (e.stamps.front 0 few)) in
          so (w.1.place.run ∙ h.run_is) (w.1.place.group ∙ row_group) (w.0.n0_is ∙ h.anchor_is few ∙ anchors)
          (w.0.before_is ∙ h.goes_on inside ∙ ap (λ (x : ℕ). Some x) (sym (e.ticks.front (k * n) behind)))
          (row-widens m n k count (anchor_in m now) (slice_index past) (slice_index now) (records_in before) (records_in all) (ticks_in before)
          (ticks_in all) (buckets_of m n past) (buckets_of m n now) h.gapped gapped h.linear linear kept old.row new.row behind some e
          (subst (λ a. IsBegun m n k count a (slice_index past) (records_in before) (ticks_in before) (buckets_of m n past) h.gapped h.linear old.row)
          anchors (h.begun inside))
          w.1)
      | inr outside ↦
          let zero_place : old.walk.place ≡ 0 = omega (arith, outside) in
          let b = begins zero_place in
          let whole : k * n ≡ count = omega (arith, at.parts, zero_place) in
          let before_is : old.before ≡ last_of (firsts_of n (ticks_in before)) k = h.over zero_place in
          let here_t : ticks_in all (k * n) ≡ kept.packet.timestamp = ap (ticks_in all) whole ∙ e.ticks.last in
          let anchor : new.n0 ≡ anchor_in m now =
          anchor-begun m k n count old.before old.n0 new.n0 (firsts_of n (ticks_in before)) (slice_index past) (slice_index now) kept.packet.at whole some
          e.stamps before_is b.first b.later h.anchor_is in
          so (b.row_is.run ∙ h.run_is) (b.row_is.group ∙ row_group) anchor (b.before_is ∙ ap (λ (x : ℕ). Some x) (sym here_t))
          (row-begins m n k count new.n0 (anchor_in m now) old.before (slice_index past) (slice_index now) (records_in before) (records_in all)
          (ticks_in before) (ticks_in all) (buckets_of m n past) (buckets_of m n now) h.gapped gapped h.linear linear kept old.row new.row
          whole some row_group anchor before_is e b.row_is)
    ]

-- a row with another last packet, and other extremes, is of the same place
pub place-kept : (row : GroupRow) (last : ℤ) (bucket : ℕ) (gapped_least gapped linear_least linear : ℤ)
    → KeepsPlace row (record (row) {
      last = last;
      bucket = bucket;
      gapped_least = gapped_least;
      gapped = gapped;
      linear_least = linear_least;
      linear = linear;
    })
place-kept row last bucket gapped_least gapped linear_least linear = record {
  run = refl;
  group = refl;
  rec_is = refl;
  stamp = refl;
  first = refl;
  timestamp_is = refl;
  step = refl;
  offset = refl;
  latency = refl;
}

-- the group of the packet isn't over
pub goes-on : (m : Media) (shift : Shift) (run n : ℕ) (old x y : RowMaker) (before : List FlowPacket) (p : FlowPacket) → y.row ≡ x.row → y.n0 ≡ x.n0
    → y.before ≡ x.before → y.walk.n ≡ n → y.walk.seen ≡ length before + 1 → y.walk.place ≡ old.walk.place + 1 → y.walk.group ≡ old.walk.group
    → IsTaken m shift run n old.walk.group x (before ++ p ∷ [])
    → StandsFor m shift run n y (before ++ p ∷ [])
goes-on m shift run n old x y before p row n0 earlier size seen place group t =
    let all = before ++ p ∷ [] in
    let now = stamps_of shift all in
    record {
      run_is = ap (λ (r : GroupRow). r.run) row ∙ t.run_is;
      n_is = size;
      seen = seen ∙ sym (length-append before (p ∷ []));
      anchor_is = λ _. n0 ∙ t.anchor_is;
      over = λ none. absurd (omega (arith, none, place));
      goes_on = λ _. earlier ∙ t.before_is ∙ ap (λ g. Some (firsts_of n (ticks_in all) g)) (sym group);
      gapped = t.gapped;
      linear = t.linear;
      gapped_are = t.gapped_are;
      linear_are = t.linear_are;
      begun = λ _. subst (λ g. IsBegun m n g (length all) (anchor_in m now) (slice_index now) (records_in all) (ticks_in all) (buckets_of m n now)
          t.gapped t.linear y.row) (sym group)
          (subst (λ r. IsBegun m n old.walk.group (length all) (anchor_in m now) (slice_index now) (records_in all) (ticks_in all) (buckets_of m n now)
          t.gapped t.linear r) (sym row) t.begun);
    }

-- a group that came whole
front-whole : (n k count i : ℕ) → count ≡ k * n + n → IsOfGroup n k i → OfFront n k count i
front-whole n k count i whole p = (p.from, omega (arith, p.below, whole))

reached-whole : (numbers : ℕ → ℤ) (n k count : ℕ) (x y : ℤ) → count ≡ k * n + n → y ≡ x → (i : ℕ) × OfFront n k count i × (numbers i ≡ x)
    → (i : ℕ) × IsOfGroup n k i × (numbers i ≡ y)
reached-whole numbers n k count x y whole same r =
    (r.0, record { from = r.1.0; below = omega (arith, r.1.1, whole) }, r.2 ∙ sym same)

least-whole : (numbers : ℕ → ℤ) (n k count : ℕ) (x y : ℤ) → count ≡ k * n + n → y ≡ x → IsLeast numbers (OfFront n k count) x
    → IsLeast numbers (IsOfGroup n k) y
least-whole numbers n k count x y whole same h = record {
  least = λ i p. omega (arith, ints, same, h.least i (front-whole n k count i whole p));
  reached = reached-whole numbers n k count x y whole same h.reached;
}

greatest-whole : (numbers : ℕ → ℤ) (n k count : ℕ) (x y : ℤ) → count ≡ k * n + n → y ≡ x → IsGreatest numbers (OfFront n k count) x
    → IsGreatest numbers (IsOfGroup n k) y
greatest-whole numbers n k count x y whole same h = record {
  greatest = λ i p. omega (arith, ints, same, h.greatest i (front-whole n k count i whole p));
  reached = reached-whole numbers n k count x y whole same h.reached;
}

-- the group is over, and its row is
pub ends-row : (m : Media) (shift : Shift) (run n : ℕ) (old x : RowMaker) (before : List FlowPacket) (p : FlowPacket) (at : ℕ) (row : GroupRow)
    → old.walk.place + 1 ≡ n → at ≡ stamp_of shift p
    → IsPlaced n (length before) old
    → EndsRow m x.n0 at x.row row
    → IsTaken m shift run n old.walk.group x (before ++ p ∷ [])
    → IsGroupRow m shift run n (before ++ p ∷ []) row
ends-row m shift run n old x before p at row outside came placed_at ends t =
    let count = length before in
    let k = old.walk.group in
    let all = before ++ p ∷ [] in
    let now = stamps_of shift all in
    let long : length all ≡ count + 1 = length-append before (p ∷ []) in
    let is = placed_at.place in
    let turn = end-of-group count n 1 (omega arith) (omega (arith, is, outside)) in
    let parts = placed_at.parts in
    let whole : length all ≡ k * n + n = omega (arith, long, parts, outside) in
    let group : length all / n ≡ k + 1 = ap (λ c. c / n) long ∙ turn.0 ∙ ap (λ c. c + 1) (sym placed_at.group) in
    let number : k ≡ length all / n - 1 = omega (arith, group) in
    let end : k * n + (n - 1) ≡ count = omega (arith, parts, outside) in
    let last : slice_index now (k * n + (n - 1)) ≡ at = ap (slice_index now) end ∙ (stamps-extend shift before p).last ∙ sym came in
    let b = t.begun in
    let q = ends.place in
    subst (λ j. IsRowOf m run n j now (records_in all) (ticks_in all) row) number (record {
      run = q.run ∙ t.run_is;
      group = q.group ∙ t.group_is;
      rec = q.rec_is ∙ b.rec;
      stamp = q.stamp ∙ b.stamp_is;
      first = q.first ∙ b.first;
      last = ends.last ∙ ap (λ a. after_start m a x.row.group at) t.anchor_is ∙ ap (λ j. after_start m (anchor_in m now) j at) t.group_is
          ∙ ap (after_start m (anchor_in m now) k) (sym last);
      timestamp_is = q.timestamp_is ∙ b.timestamp_is;
      step = q.step ∙ b.step;
      offset = q.offset ∙ b.offset;
      latency = q.latency ∙ b.latency;
      bucket = greatest-whole (buckets_of m n now) n k (length all) (pos x.row.bucket) (pos row.bucket) whole (ap (λ c. pos c) ends.bucket) b.bucket_is;
      gapped = record {
        occupancy = t.gapped;
        are = t.gapped_are;
        least_is = least-whole t.gapped n k (length all) x.row.gapped_least row.gapped_least whole ends.gapped_least b.gapped_least;
        greatest_is = greatest-whole t.gapped n k (length all) x.row.gapped row.gapped whole ends.gapped b.gapped_is;
      };
      linear = record {
        occupancy = t.linear;
        are = t.linear_are;
        least_is = least-whole t.linear n k (length all) x.row.linear_least row.linear_least whole ends.linear_least b.linear_least;
        greatest_is = greatest-whole t.linear n k (length all) x.row.linear row.linear whole ends.linear b.linear_is;
      };
    })

-- and the next one hasn't begun
pub ends-group : (m : Media) (shift : Shift) (run n : ℕ) (old x y : RowMaker) (before : List FlowPacket) (p : FlowPacket) → y.row.run ≡ x.row.run → y.n0 ≡ x.n0
    → y.before ≡ x.before → y.walk.n ≡ n → y.walk.seen ≡ length before + 1 → y.walk.place ≡ 0 → y.walk.group ≡ old.walk.group + 1
    → IsTaken m shift run n old.walk.group x (before ++ p ∷ [])
    → StandsFor m shift run n y (before ++ p ∷ [])
ends-group m shift run n old x y before p run_same n0 earlier size seen place group t =
    let all = before ++ p ∷ [] in
    let f = firsts_of n (ticks_in all) in
    let next : suc old.walk.group ≡ y.walk.group = omega (arith, group) in
    record {
      run_is = run_same ∙ t.run_is;
      n_is = size;
      seen = seen ∙ sym (length-append before (p ∷ []));
      anchor_is = λ _. n0 ∙ t.anchor_is;
      over = λ _. earlier ∙ t.before_is ∙ ap (last_of f) next;
      goes_on = λ some. absurd (omega (arith, some, place));
      gapped = t.gapped;
      linear = t.linear;
      gapped_are = t.gapped_are;
      linear_are = t.linear_are;
      begun = λ some. absurd (omega (arith, some, place));
    }

-- before the first packet
pub rows-none : (m : Media) (shift : Shift) (run n : ℕ) (x : RowMaker) → x.row.run ≡ run → x.walk.n ≡ n → x.walk.seen ≡ 0 → x.walk.place ≡ 0 → x.walk.group ≡ 0
    → x.before ≡ None
    → StandsFor m shift run n x []
rows-none m shift run n x run_is size seen place group before = record {
  run_is = run_is;
  n_is = size;
  seen = seen;
  anchor_is = λ few. absurd (omega (arith, few));
  over = λ _. before ∙ ap (last_of (firsts_of n (ticks_in []))) (sym group);
  goes_on = λ few. absurd (omega (arith, few, place));
  gapped = λ i. pos 0;
  linear = λ i. pos 0;
  gapped_are = λ i few. absurd (omega (arith, few));
  linear_are = λ i few. absurd (omega (arith, few));
  begun = λ few. absurd (omega (arith, few, place));
}

-- whether a packet behind so many ends its group
pub goes : (count n place : ℕ) → place ≡ count % n → place + 1 < n → false ≡ ends_group n count
goes count n place is within =
    let e = within-group count n 1 (omega (arith, is, within)) in
    let more : (count + 1) % n ≡ suc (count % n) = omega (arith, e.1) in
    let later : (suc (count % n) == 0) ≡ false = grind (arith, nat_tests) in
    sym (ap (λ x. x == 0) more ∙ later)

pub ends : (count n place : ℕ) → place ≡ count % n → place + 1 ≡ n → true ≡ ends_group n count
ends count n place is outside =
    let e = end-of-group count n 1 (omega arith) (omega (arith, is, outside)) in
    sym (ap (λ x. x == 0) e.1)
