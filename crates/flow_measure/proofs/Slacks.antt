-- The margins of packets by their parts, with one packet more, and the least of them.
use Rattle.std.proofs.Common.{◌≡◌, ◌≤◌, ◌<◌, ◌+◌, ◌*◌, ◌/◌, ◌%◌, ◌++◌, ◌∷◌, [], max, ℕ, ℤ, Bool, List, length, slice_index, pos, ◌-ℤ◌, ◌+ℤ◌}
use Rattle.std.proofs.Common.{◌*ℤ◌, inl, inr, ap, ◌∙◌, sym, subst, refl, arith, length-append}
use Rattle.std.specs.Int.{int_max}
use Rattle.std.proofs.Math.Nat.{add-mul, zero-div, zero-mod}
use Rattle.std.proofs.lemmas.Bool.{cases_eq}
use Rattle.std.proofs.lemmas.Int.{clamps, ints}
use Rattle.fraction128.specs.Fractions.{floor, floor_of_signed, minus, whole}
use Rattle.timing_base.specs.Media.{Media}
use Rattle.sender_params.specs.Reads.{anchor_of, read_of}
use Rattle.sender_params.specs.Sizes.{AreSizes, HavePer}
use Rattle.sender_params.proofs.Floors.{sub-times}
use Rattle.sender_params.proofs.Lines.{early_of, late_of, parts_at, parts_of, per_of, read_of-num, sizes-scaled}
use Rattle.flow_measure.specs.Margins.{Times, behind, read_in}
use Rattle.flow_measure.specs.Occupancy.{IsSlack, margin_of}
use Rattle.flow_measure.specs.Parts.{AreReadsOf, margin_in_parts, parts_of_read}
use Rattle.flow_measure.specs.Summary.{IsGreatest, IsLeast}
use Rattle.flow_measure.specs.declared.margin.MarginMeter.{MarginMeter}
use Rattle.flow_measure.proofs.Bounds.{IsGreatest-more, IsGreatest-same}
use Rattle.flow_measure.proofs.Floors.{floor-rises, floor-scaled}
use Rattle.flow_measure.proofs.Fronts.{front-is, last-is}
use Rattle.flow_measure.proofs.Grouped.{groups-are, none-left}
use Rattle.flow_measure.proofs.Summarized.{last-split}

-- a whole nanosecond taken from a difference over a denominator
minus-whole : (up down t per : ℕ) → (pos up -ℤ pos down) *ℤ pos 1 -ℤ (pos t *ℤ pos per) ≡ pos up -ℤ pos (t * per + down)
minus-whole up down t per =
    let one = sub-times up down 1 in
    let product : pos t *ℤ pos per ≡ pos (t * per) = refl in
    omega (arith, ints, one)

-- read x less an instant, by their parts
pub margin-by-parts : (m : Media) (n : ℕ) (anchor : ℤ) (gapped : Bool) (a den group step offset x t : ℕ)
    → HavePer m n gapped
    → AreSizes m n gapped den group step offset
    → 1 ≤ den
    → anchor ≡ pos a -ℤ pos 480
    → floor (minus (read_of m n anchor gapped x) (whole t))
    ≡ floor_of_signed (pos (parts_at a group offset step n x) -ℤ pos (parts_of 480 den group t)) den
margin-by-parts m n anchor gapped a den group step offset x t have are some is =
    let s = sizes-scaled m n gapped a 480 den group step offset x t have are some in
    let per = per_of m n gapped in
    let late = late_of m n gapped a x in
    let early = t * per + early_of m n gapped 480 in
    let num = read_of-num m n anchor gapped a 480 x is in
    let whole_num : (minus (read_of m n anchor gapped x) (whole t)).num ≡ pos late -ℤ pos early =
    ap (λ z. z *ℤ pos 1 -ℤ (pos t *ℤ pos per)) num ∙ minus-whole late (early_of m n gapped 480) t per in
    let whole_den : (minus (read_of m n anchor gapped x) (whole t)).den ≡ per = omega arith in
    ap (λ z. floor_of_signed z (per * 1)) whole_num
    ∙ ap (floor_of_signed (pos late -ℤ pos early)) whole_den
    ∙ floor-scaled late early (parts_at a group offset step n x) (parts_of 480 den group t) per den s.per_some s.den_some s.read s.instant

-- the same by the parts of reads that begin at `start`
pub margin-is : (m : Media) (n : ℕ) (anchor : ℤ) (gapped : Bool) (den start group step x t : ℕ)
    → 1 ≤ den
    → AreReadsOf m n anchor gapped den start group step
    → floor (minus (read_of m n anchor gapped x) (whole t))
    ≡ floor_of_signed (pos (parts_of_read start n group step x) -ℤ pos (t * den + 480 * group)) den
margin-is m n anchor gapped den start group step x t some h =
    let place : parts_at h.lifted group h.offset step n x ≡ parts_of_read start n group step x = omega (arith, h.start_is) in
    margin-by-parts m n anchor gapped h.lifted den group step h.offset x t h.have h.sizes some h.anchor_is
    ∙ ap (λ p. floor_of_signed (pos p -ℤ pos (t * den + 480 * group)) den) place

-- the slack, by the least margin in parts
pub slack-is : (m : Media) (n : ℕ) (gapped : Bool) (den start group step : ℕ) (stamps : List ℕ) (least : ℤ)
    → 1 ≤ den
    → AreReadsOf m n (anchor_of m (slice_index stamps 0)) gapped den start group step
    → IsLeast (margin_in_parts den start n group step stamps) (λ i. i < length stamps) least
    → IsSlack m n stamps gapped (floor_of_signed least den)
slack-is m n gapped den start group step stamps least some reads h =
    let anchor = anchor_of m (slice_index stamps 0) in
    let same : (i : ℕ) → margin_of m n stamps gapped i ≡ floor_of_signed (margin_in_parts den start n group step stamps i) den =
    λ i. margin-is m n anchor gapped den start group step i (slice_index stamps i) some reads in
    record {
      least = λ i few.
          omega (arith, ints, same i, floor-rises least (margin_in_parts den start n group step stamps i) den (omega (arith, some)) (h.least i few));
      reached = (
        h.reached.0,
        h.reached.1,
        same h.reached.0 ∙ ap (λ z. floor_of_signed z den) h.reached.2,
      );
    }

-- the packet that is behind most has the least margin
pub least-margin : (n : ℕ) (meter : MarginMeter) (start : ℕ) (stamps : List ℕ) (most : ℤ)
    → IsGreatest (behind n meter stamps) (λ i. i < length stamps) most
    → let group = n * meter.step + meter.turn in
    IsLeast (margin_in_parts meter.den start n group meter.step stamps) (λ i. i < length stamps)
    (pos start -ℤ pos (480 * group) -ℤ most)
least-margin n meter start stamps most h =
    let group = n * meter.step + meter.turn in
    let same : (i : ℕ) → margin_in_parts meter.den start n group meter.step stamps i
    ≡ pos start -ℤ pos (480 * group) -ℤ behind n meter stamps i = λ i. omega (arith, ints) in
    record {
      least = λ i few. omega (arith, ints, same i, h.greatest i few);
      reached = (h.reached.0, h.reached.1, omega (arith, ints, same h.reached.0, h.reached.2));
    }

-- the packets that were fed and one more: `reached` is when it came
pub record TakesIn (b c : MarginMeter) (at : ℕ) : Type 0 where
  pub den_is : c.den ≡ b.den
  pub step_is : c.step ≡ b.step
  pub turn_is : c.turn ≡ b.turn
  pub latest_is : c.latest ≡ max b.latest (at * b.den) + b.step

-- read 0 is at its own place
pub times-none : (m : Media) (n : ℕ) (gapped : Bool) (meter : MarginMeter) → Times m n gapped meter [] 0 → Times m n gapped meter [] (read_in n meter 0)
times-none m n gapped meter h =
    let groups : (0 / n) * (n * meter.step + meter.turn) ≡ 0 * (n * meter.step + meter.turn) = ap (λ k. k * (n * meter.step + meter.turn)) (zero-div n) in
    let reads : (0 % n) * meter.step ≡ 0 * meter.step = ap (λ k. k * meter.step) (zero-mod n) in
    let none : 0 ≡ read_in n meter 0 = omega (arith, groups, reads) in
    subst (Times m n gapped meter []) none h

-- nothing of the schedule changes
read-same : (n : ℕ) (b c : MarginMeter) (x : ℕ) → c.step ≡ b.step → c.turn ≡ b.turn → read_in n c x ≡ read_in n b x
read-same n b c x step turn =
    ap (λ s. parts_of_read 0 n (n * s + c.turn) s x) step ∙ ap (λ t. parts_of_read 0 n (n * b.step + t) b.step x) turn

behind-same : (n : ℕ) (b c : MarginMeter) (stamps : List ℕ) (i : ℕ) → c.den ≡ b.den → c.step ≡ b.step → c.turn ≡ b.turn
    → behind n c stamps i ≡ behind n b stamps i
behind-same n b c stamps i den step turn =
    ap (λ d. pos (slice_index stamps i * d) -ℤ pos (read_in n c i)) den
    ∙ ap (λ r. pos (slice_index stamps i * b.den) -ℤ pos r) (read-same n b c i step turn)

only-one : (i count : ℕ) → count ≡ 0 → i < count + 1 → i ≡ count
only-one i count none few = omega (arith, none, few)

-- the packet that is behind most, with that packet
record IsMost (n : ℕ) (c : MarginMeter) (stamps : List ℕ) (passed : ℕ) : Type 0 where
  most : ℤ
  is : IsGreatest (behind n c stamps) (λ i. i < length stamps) most
  latest : pos c.latest ≡ most +ℤ pos passed

most-one : (n : ℕ) (b c : MarginMeter) (stamps : List ℕ) (at passed : ℕ) → TakesIn b c at → length stamps ≡ 0 → b.latest ≡ 0
    → passed ≡ read_in n b (length stamps)
    → IsMost n c (stamps ++ at ∷ []) (passed + b.step)
most-one n b c stamps at passed t none fresh is =
    let count = length stamps in
    let new = stamps ++ at ∷ [] in
    let long : length new ≡ count + 1 = length-append stamps (at ∷ []) in
    let here : behind n c new count ≡ pos (at * b.den) -ℤ pos passed =
    behind-same n b c new count t.den_is t.step_is t.turn_is ∙ ap (λ a. pos (a * b.den) -ℤ pos (read_in n b count)) (last-is stamps at)
    ∙ ap (λ r. pos (at * b.den) -ℤ pos r) (sym is) in
    let alone : (i : ℕ) → i < length new → i ≡ count = λ i few. only-one i count none (omega (arith, few, long)) in
    record {
      most = pos (at * b.den) -ℤ pos passed;
      is = record {
        greatest = λ i few. omega (arith, ints, ap (behind n c new) (alone i few), here);
        reached = (count, omega (arith, long), here);
      };
      latest = omega (arith, ints, t.latest_is, fresh);
    }

most-more : (n : ℕ) (b c : MarginMeter) (stamps : List ℕ) (at passed : ℕ) (most : ℤ) → TakesIn b c at
    → IsGreatest (behind n b stamps) (λ i. i < length stamps) most → pos b.latest ≡ most +ℤ pos passed
    → passed ≡ read_in n b (length stamps)
    → IsMost n c (stamps ++ at ∷ []) (passed + b.step)
most-more n b c stamps at passed most t h latest is =
    let count = length stamps in
    let new = stamps ++ at ∷ [] in
    let long : length new ≡ count + 1 = length-append stamps (at ∷ []) in
    let here : behind n c new count ≡ pos (at * b.den) -ℤ pos passed =
    behind-same n b c new count t.den_is t.step_is t.turn_is ∙ ap (λ a. pos (a * b.den) -ℤ pos (read_in n b count)) (last-is stamps at)
    ∙ ap (λ r. pos (at * b.den) -ℤ pos r) (sym is) in
    let before : (i : ℕ) → i < count → behind n c new i ≡ behind n b stamps i =
    λ i few. behind-same n b c new i t.den_is t.step_is t.turn_is ∙ ap (λ a. pos (a * b.den) -ℤ pos (read_in n b i)) (front-is stamps at i few) in
    let both = int_max most (behind n c new count) in
    let more = IsGreatest-more (behind n c new) (λ i. i < count) (λ i. i < count + 1) count most both
    (IsGreatest-same (behind n b stamps) (behind n c new) (λ i. i < count) most before h) (λ i few. omega (arith, few)) (omega arith) (last-split count)
    refl in
    record {
      most = both;
      is = subst (λ k. IsGreatest (behind n c new) (λ i. i < k) both) (sym long) more;
      latest = omega (arith, ints, clamps, t.latest_is, latest, here);
    }

pub times-more : (m : Media) (n : ℕ) (gapped : Bool) (b c : MarginMeter) (stamps : List ℕ) (at passed : ℕ)
    → TakesIn b c at
    → Times m n gapped b stamps passed
    → passed ≡ read_in n b (length stamps)
    → Times m n gapped c (stamps ++ at ∷ []) (passed + b.step)
times-more m n gapped b c stamps at passed t h is =
    let new = stamps ++ at ∷ [] in
    let long : length new ≡ length stamps + 1 = length-append stamps (at ∷ []) in
    let it : IsMost n c new (passed + b.step) = elim (cases_eq (length stamps) 0) as (λ _. IsMost n c new (passed + b.step)) [
      | inl none ↦ most-one n b c stamps at passed t none (h.none none) is
      | inr some ↦
          let s = h.some (omega (arith, some)) in
          most-more n b c stamps at passed s.0 t s.1 s.2 is
    ] in
    let sizes = subst (λ d. AreSizes m n gapped d (n * b.step + b.turn) b.step h.offset) (sym t.den_is) h.sizes in
    let stepped = subst (λ s. AreSizes m n gapped c.den (n * s + b.turn) s h.offset) (sym t.step_is) sizes in
    record {
      have = h.have;
      offset = h.offset;
      sizes = subst (λ u. AreSizes m n gapped c.den (n * c.step + u) c.step h.offset) (sym t.turn_is) stepped;
      none = λ none. absurd (omega (arith, none, long));
      some = λ _. (it.most, it.is, it.latest);
    }

-- behind the last packet of a group
pub times-turn : (m : Media) (n : ℕ) (gapped : Bool) (b c : MarginMeter) (stamps : List ℕ) (passed : ℕ)
    → c.den ≡ b.den → c.step ≡ b.step → c.turn ≡ b.turn → c.latest ≡ b.latest + b.turn
    → Times m n gapped b stamps passed
    → 0 < length stamps
    → Times m n gapped c stamps (passed + b.turn)
times-turn m n gapped b c stamps passed den step turn latest h some =
    let s = h.some some in
    let sizes = subst (λ d. AreSizes m n gapped d (n * b.step + b.turn) b.step h.offset) (sym den) h.sizes in
    let stepped = subst (λ s. AreSizes m n gapped c.den (n * s + b.turn) s h.offset) (sym step) sizes in
    record {
      have = h.have;
      offset = h.offset;
      sizes = subst (λ u. AreSizes m n gapped c.den (n * c.step + u) c.step h.offset) (sym turn) stepped;
      none = λ none. absurd (omega (arith, none, some));
      some = λ _. (
        s.0,
        IsGreatest-same (behind n b stamps) (behind n c stamps) (λ i. i < length stamps) s.0 (λ i few. behind-same n b c stamps i den step turn) s.1,
        omega (arith, ints, latest, s.2),
      );
    }

-- the slack of whole groups, by the times of the schedule
pub slack-of : (m : Media) (n groups : ℕ) (gapped : Bool) (meter : MarginMeter) (lifted den group step offset : ℕ) (n0 : ℤ) (stamps : List ℕ) (passed : ℕ)
    → HavePer m n gapped
    → AreSizes m n gapped den group step offset
    → 1 ≤ den
    → 1 ≤ n
    → pos lifted ≡ n0 +ℤ pos 480
    → Times m n gapped meter stamps passed
    → 0 < length stamps
    → length stamps ≡ n * groups
    → n0 ≡ anchor_of m (slice_index stamps 0)
    → passed ≡ read_in n meter (length stamps)
    → IsSlack m n stamps gapped (floor_of_signed (pos ((lifted + groups) * group + offset) -ℤ pos (meter.latest + 480 * group)) den)
slack-of m n groups gapped meter lifted den group step offset n0 stamps passed have sizes some n_some lift h fed whole anchor is =
    let s = h.some fed in
    let start = lifted * group + offset in
    let e_den : meter.den ≡ den = h.sizes.den_is ∙ sym sizes.den_is in
    let e_group : n * meter.step + meter.turn ≡ group = h.sizes.group_is ∙ sym sizes.group_is in
    let e_step : meter.step ≡ step = h.sizes.step_is ∙ sym sizes.step_is in
    let number : anchor_of m (slice_index stamps 0) ≡ pos lifted -ℤ pos 480 = omega (arith, ints, lift, anchor) in
    let reads : AreReadsOf m n (anchor_of m (slice_index stamps 0)) gapped den start group step =
    record { have = have; lifted = lifted; anchor_is = number; offset = offset; sizes = sizes; start_is = refl } in
    let low = pos start -ℤ pos (480 * group) -ℤ s.0 in
    let least = least-margin n meter start stamps s.0 s.1 in
    let first = subst (λ d. IsLeast (margin_in_parts d start n (n * meter.step + meter.turn) meter.step stamps) (λ i. i < length stamps)
    (pos start -ℤ pos (480 * (n * meter.step + meter.turn)) -ℤ s.0)) e_den least in
    let second = subst (λ g. IsLeast (margin_in_parts den start n g meter.step stamps) (λ i. i < length stamps) (pos start -ℤ pos (480 * g) -ℤ s.0))
    e_group first in
    let third = subst (λ t. IsLeast (margin_in_parts den start n group t stamps) (λ i. i < length stamps) low) e_step second in
    let turns : length stamps / n ≡ groups = groups-are (length stamps) n n groups (omega (arith, n_some)) refl whole in
    let left : length stamps % n ≡ 0 = none-left (length stamps) n n groups (omega (arith, n_some)) refl whole in
    let here : passed ≡ groups * group =
    is ∙ ap (λ g. parts_of_read 0 n g meter.step (length stamps)) e_group
    ∙ ap (λ k. 0 + k * group + (length stamps % n) * meter.step) turns ∙ ap (λ k. 0 + groups * group + k * meter.step) left ∙ omega arith in
    let both : (lifted + groups) * group ≡ lifted * group + groups * group = add-mul lifted groups group in
    let value : pos ((lifted + groups) * group + offset) -ℤ pos (meter.latest + 480 * group) ≡ low = omega (arith, ints, both, here, s.2) in
    subst (IsSlack m n stamps gapped) (ap (λ z. floor_of_signed z den) (sym value))
    (slack-is m n gapped den start group step stamps low some reads third)
