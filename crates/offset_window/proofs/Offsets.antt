-- What a later or earlier offset does to one packet.
use Rattle.std.proofs.Common.{◌≡◌, ◌≤◌, ◌<◌, ◌+◌, ◌-◌, ◌*◌, ℕ, ℤ, Bool, true, false, nat_lt, not, min, Option, Some, List, length, slice_index, ap, sym, subst}
use Rattle.std.proofs.Common.{◌∙◌, arith, inl, inr}
use Rattle.std.proofs.lemmas.Bool.{cases_lt, false_from_ne_true, le-ltb}
use Rattle.std.proofs.lemmas.Bool.Decides.{nat_tests}
use Rattle.std.proofs.lemmas.Int.{ints}
use Rattle.std.proofs.lemmas.Option.{same_Some}
use Rattle.std.proofs.Math.Nat.{mul-le-mul_right}
use Rattle.fraction128.specs.Fractions.{AtMost, below, whole}
use Rattle.fraction128.proofs.Order.{at_most-false, at_most-true, fraction_cases}
use Rattle.timing_base.specs.Media.{IsMedia, Media}
use Rattle.timing_base.specs.declared.media.Kind.{Kind}
use Rattle.sender_params.specs.Keeps.{due_among, is_empty, is_over}
use Rattle.sender_params.specs.Limits.{gapped_of, vrx_full_of}
use Rattle.sender_params.specs.Reads.{AreDue, anchor_of, read_of}
use Rattle.sender_params.specs.Times.{group_time, read_step}
use Rattle.sender_params.proofs.Lines.{late_of, read_of-at_least, read_of-at_most}
use Rattle.read_schedule.specs.Parts.{IsGridWithout, parts_of}
use Rattle.read_schedule.specs.declared.grid.Grid.{Grid}
use Rattle.read_schedule.proofs.Held.{due_among-is}
use Rattle.read_schedule.proofs.Rising.{difference, due-some}
use Rattle.offset_window.specs.Parts.{comes_after, comes_before, parts_with}
use Rattle.offset_window.specs.Window.{IsGreatest, IsLeast, IsLowerEnd, IsUpperEnd, IsWindow, Serves, held_with, is_empty_with, is_over_with, read_with}
use Rattle.offset_window.specs.Window.{with_offset}
use Rattle.offset_window.specs.declared.window.Window.{Window}
use Rattle.offset_window.specs.declared.window.WindowEnd.TheVariants.{At}
use Rattle.offset_window.proofs.Ends.{Falls, Rises, clash}

-- a video with an offset within the limits is a video
pub with_offset-is : (m : Media) (micros : ℕ) → IsMedia m → micros ≤ 1000000 → IsMedia (with_offset m micros)
with_offset-is m micros is most = record {
  port_some = is.port_some;
  pt_most = is.pt_most;
  width_some = is.width_some;
  width_most = is.width_most;
  height_some = is.height_some;
  height_most = is.height_most;
  p_some = is.p_some;
  p_most = is.p_most;
  q_some = is.q_some;
  q_most = is.q_most;
  troff_most = λ x e. subst (λ y. y ≤ 1000000) (same_Some micros x e) most;
  cmax_some = is.cmax_some;
  cmax_most = is.cmax_most;
}

-- a read is no earlier with a greater offset
late_of-offset : (m : Media) (n : ℕ) (gapped : Bool) (a i x y : ℕ) → x ≤ y
    → late_of (with_offset m x) n gapped a i ≤ late_of (with_offset m y) n gapped a i
late_of-offset m n gapped a i x y order =
    let more : x * (1000 * (group_time m).1 * (read_step m n gapped).1) ≤ y * (1000 * (group_time m).1 * (read_step m n gapped).1) =
    mul-le-mul_right (1000 * (group_time m).1 * (read_step m n gapped).1) order in
    omega (arith, more)

read-later : (m : Media) (n : ℕ) (anchor : ℤ) (gapped : Bool) (i t x y : ℕ) → x ≤ y
    → AtMost (whole t) (read_with m n anchor gapped x i)
    → AtMost (whole t) (read_with m n anchor gapped y i)
read-later m n anchor gapped i t x y order h =
    let split = difference anchor in
    let from = (read_of-at_least (with_offset m x) n anchor gapped split.0 split.1 i t split.2).0 h in
    (read_of-at_least (with_offset m y) n anchor gapped split.0 split.1 i t split.2).1
    (omega (arith, from, late_of-offset m n gapped split.0 i x y order))

read-earlier : (m : Media) (n : ℕ) (anchor : ℤ) (gapped : Bool) (i t x y : ℕ) → x ≤ y
    → AtMost (read_with m n anchor gapped y i) (whole t)
    → AtMost (read_with m n anchor gapped x i) (whole t)
read-earlier m n anchor gapped i t x y order h =
    let split = difference anchor in
    let from = (read_of-at_most (with_offset m y) n anchor gapped split.0 split.1 i t split.2).0 h in
    (read_of-at_most (with_offset m x) n anchor gapped split.0 split.1 i t split.2).1
    (omega (arith, from, late_of-offset m n gapped split.0 i x y order))

-- a packet that comes after a read comes after it with each smaller offset
pub after-falls : (m : Media) (n : ℕ) (anchor : ℤ) (gapped : Bool) (i t x y : ℕ) → x ≤ y
    → below (read_with m n anchor gapped y i) (whole t) ≡ true
    → below (read_with m n anchor gapped x i) (whole t) ≡ true
after-falls m n anchor gapped i t x y order holds =
    elim (fraction_cases (whole t) (read_with m n anchor gapped x i)) as (λ _. below (read_with m n anchor gapped x i) (whole t) ≡ true) [
      | inr gone ↦ ap not (at_most-false (whole t) (read_with m n anchor gapped x i) gone)
      | inl here ↦
          let later = read-later m n anchor gapped i t x y order here in
          absurd (clash _ holds (ap not (at_most-true (whole t) (read_with m n anchor gapped y i) later)))
    ]

-- a packet that comes before a read comes before it with each greater offset
pub before-rises : (m : Media) (n : ℕ) (anchor : ℤ) (gapped : Bool) (i t x y : ℕ) → x ≤ y
    → below (whole t) (read_with m n anchor gapped x i) ≡ true
    → below (whole t) (read_with m n anchor gapped y i) ≡ true
before-rises m n anchor gapped i t x y order holds =
    elim (fraction_cases (read_with m n anchor gapped y i) (whole t)) as (λ _. below (whole t) (read_with m n anchor gapped y i) ≡ true) [
      | inr gone ↦ ap not (at_most-false (read_with m n anchor gapped y i) (whole t) gone)
      | inl here ↦
          let earlier = read-earlier m n anchor gapped i t x y order here in
          absurd (clash _ holds (ap not (at_most-true (read_with m n anchor gapped x i) (whole t) earlier)))
    ]

-- the same by a grid
pub after-is : (m : Media) (n : ℕ) (anchor : ℤ) (gapped : Bool) (g : Grid) (micros i t : ℕ)
    → IsGridWithout m n anchor gapped g
    → below (read_with m n anchor gapped micros i) (whole t) ≡ comes_after g i t micros
after-is m n anchor gapped g micros i t is =
    let read = read_with m n anchor gapped micros i in
    elim (fraction_cases (whole t) read) as (λ _. below read (whole t) ≡ comes_after g i t micros) [
      | inl here ↦
          let low = (is.after micros i t).0 here in
          ap not (at_most-true (whole t) read here) ∙ sym (le-ltb (parts_with g micros i) (parts_of g t) low)
      | inr gone ↦
          let holds : comes_after g i t micros ≡ true =
          elim (cases_lt (parts_with g micros i) (parts_of g t)) as (λ _. nat_lt (parts_with g micros i) (parts_of g t) ≡ true) [
            | inl less ↦ grind (arith, nat_tests)
            | inr more ↦ absurd (omega (arith, ints, gone, (is.after micros i t).1 more))
          ] in
          ap not (at_most-false (whole t) read gone) ∙ sym holds
    ]

pub before-is : (m : Media) (n : ℕ) (anchor : ℤ) (gapped : Bool) (g : Grid) (micros i t : ℕ)
    → IsGridWithout m n anchor gapped g
    → below (whole t) (read_with m n anchor gapped micros i) ≡ comes_before g i t micros
before-is m n anchor gapped g micros i t is =
    let read = read_with m n anchor gapped micros i in
    elim (fraction_cases read (whole t)) as (λ _. below (whole t) read ≡ comes_before g i t micros) [
      | inl here ↦
          let low = (is.before micros i t).0 here in
          ap not (at_most-true read (whole t) here) ∙ sym (le-ltb (parts_of g t) (parts_with g micros i) low)
      | inr gone ↦
          let holds : comes_before g i t micros ≡ true =
          elim (cases_lt (parts_of g t) (parts_with g micros i)) as (λ _. nat_lt (parts_of g t) (parts_with g micros i) ≡ true) [
            | inl less ↦ grind (arith, nat_tests)
            | inr more ↦ absurd (omega (arith, ints, gone, (is.before micros i t).1 more))
          ] in
          ap not (at_most-false read (whole t) gone) ∙ sym holds
    ]

-- the first packets find room with every offset
pub over-room : (m : Media) (n : ℕ) (anchor : ℤ) (stamps : List ℕ) (kind : Kind) (micros i : ℕ)
    → i < vrx_full_of m n kind
    → is_over_with m n anchor stamps kind micros i ≡ false
over-room m n anchor stamps kind micros i few =
    le-ltb (vrx_full_of m n kind) (held_with m n anchor stamps (gapped_of kind) micros i) (omega (arith, few))

-- each later packet finds too much exactly where it comes before the read VRX_FULL packets before its own
pub over-is : (m : Media) (n : ℕ) (anchor : ℤ) (stamps : List ℕ) (kind : Kind) (micros i : ℕ)
    → IsMedia m
    → 1 ≤ n
    → micros ≤ 1000000
    → vrx_full_of m n kind ≤ i
    → is_over_with m n anchor stamps kind micros i
    ≡ below (whole (slice_index stamps i)) (read_with m n anchor (gapped_of kind) micros (i - vrx_full_of m n kind))
over-is m n anchor stamps kind micros i is some most many =
    let full = vrx_full_of m n kind in
    let g = gapped_of kind in
    let at = slice_index stamps i in
    let v = with_offset m micros in
    let read = read_with m n anchor g micros (i - full) in
    let reads = due-some v n anchor g (whole at) (with_offset-is m micros is most) some (omega arith) in
    let among : due_among v n anchor g (i + 1) (whole at) ≡ min reads.0 (i + 1) = due_among-is v n anchor g (whole at) reads.0 (i + 1) reads.1 in
    let held = held_with m n anchor stamps g micros i in
    elim (cases_lt (i - full) reads.0) as (λ _. nat_lt full held ≡ below (whole at) read) [
      | inl due ↦
          let low : held ≤ full = omega (arith, among, due, many) in
          le-ltb full held low ∙ sym (ap not (at_most-true read (whole at) (reads.1.due (i - full) due)))
      | inr ahead ↦
          let high : full < held = omega (arith, among, ahead, many) in
          let holds : nat_lt full held ≡ true = grind (arith, nat_tests) in
          holds ∙ sym (ap not (at_most-false read (whole at) (reads.1.ahead (i - full) ahead)))
    ]

-- so for all packets
pub empty-falls : (m : Media) (n : ℕ) (anchor : ℤ) (stamps : List ℕ) (kind : Kind) → Falls (is_empty_with m n anchor stamps kind)
empty-falls m n anchor stamps kind x y i order = after-falls m n anchor (gapped_of kind) i (slice_index stamps i) x y order

pub over-rises : (m : Media) (n : ℕ) (anchor : ℤ) (stamps : List ℕ) (kind : Kind) → IsMedia m → 1 ≤ n → Rises (is_over_with m n anchor stamps kind)
over-rises m n anchor stamps kind is some x y i order most holds =
    let full = vrx_full_of m n kind in
    elim (cases_lt i full) as (λ _. is_over_with m n anchor stamps kind y i ≡ true) [
      | inl few ↦ absurd (clash _ holds (over-room m n anchor stamps kind x i few))
      | inr many ↦
          over-is m n anchor stamps kind y i is some most many
          ∙ before-rises m n anchor (gapped_of kind) (i - full) (slice_index stamps i) x y order
          (sym (over-is m n anchor stamps kind x i is some (omega (arith, order, most)) many) ∙ holds)
    ]

pub comes_before-rises : (g : Grid) (i t x y : ℕ) → x ≤ y → comes_before g i t x ≡ true → comes_before g i t y ≡ true
comes_before-rises g i t x y order holds =
    let more : x * (1000 * g.den) ≤ y * (1000 * g.den) = mul-le-mul_right (1000 * g.den) order in
    let low : parts_of g t < parts_with g x i = grind (arith, nat_tests) in
    let high : parts_of g t < parts_with g y i = omega (arith, low, more) in
    grind (arith, nat_tests)

-- with the offset that TROFF gives, the video is itself
with_own : (m : Media) (micros : ℕ) → m.troff ≡ Some micros → with_offset m micros ≡ m
with_own m micros e =
    let with_troff : Option ℕ → Media = λ t. record m { troff = t } in
    ap with_troff (sym e)

pub empty-own : (m : Media) (n : ℕ) (stamps : List ℕ) (kind : Kind) (micros i : ℕ) → m.troff ≡ Some micros
    → is_empty_with m n (anchor_of m (slice_index stamps 0)) stamps kind micros i ≡ is_empty m n stamps kind i
empty-own m n stamps kind micros i e =
    ap (λ v. below (read_of v n (anchor_of m (slice_index stamps 0)) (gapped_of kind) i) (whole (slice_index stamps i))) (with_own m micros e)

pub over-own : (m : Media) (n : ℕ) (stamps : List ℕ) (kind : Kind) (micros i : ℕ) → m.troff ≡ Some micros
    → is_over_with m n (anchor_of m (slice_index stamps 0)) stamps kind micros i ≡ is_over m n stamps kind i
over-own m n stamps kind micros i e =
    ap (λ v. nat_lt (vrx_full_of m n kind) ((i + 1) - due_among v n (anchor_of m (slice_index stamps 0)) (gapped_of kind) (i + 1)
    (whole (slice_index stamps i)))) (with_own m micros e)

-- each offset from the lower end on serves, and each one up to the upper end
pub from-lower : (m : Media) (n : ℕ) (stamps : List ℕ) (kind : Kind) (w : Window) (micros other : ℕ) (binding : Option ℕ)
    → IsWindow m n stamps kind w
    → w.lower ≡ At micros binding
    → micros ≤ other
    → Serves (is_empty_with m n (anchor_of m (slice_index stamps 0)) stamps kind) (length stamps) other
from-lower m n stamps kind w micros other binding is e order i few =
    let broken = is_empty_with m n (anchor_of m (slice_index stamps 0)) stamps kind in
    let least : IsLeast broken (length stamps) micros binding = subst (IsLowerEnd broken (length stamps)) e is.lower in
    false_from_ne_true (broken other i)
    (λ holds. clash (broken micros i) (empty-falls m n (anchor_of m (slice_index stamps 0)) stamps kind micros other i order holds) (least.serves i few))

pub to-upper : (m : Media) (n : ℕ) (stamps : List ℕ) (kind : Kind) (w : Window) (micros other : ℕ) (binding : Option ℕ)
    → IsMedia m
    → 1 ≤ n
    → IsWindow m n stamps kind w
    → w.upper ≡ At micros binding
    → other ≤ micros
    → Serves (is_over_with m n (anchor_of m (slice_index stamps 0)) stamps kind) (length stamps) other
to-upper m n stamps kind w micros other binding video some is e order i few =
    let broken = is_over_with m n (anchor_of m (slice_index stamps 0)) stamps kind in
    let greatest : IsGreatest broken (length stamps) micros binding = subst (IsUpperEnd broken (length stamps)) e is.upper in
    false_from_ne_true (broken other i)
    (λ holds. clash (broken micros i) (over-rises m n (anchor_of m (slice_index stamps 0)) stamps kind video some other micros i order greatest.most holds)
    (greatest.serves i few))

-- the packets up to i less all reads that are due
pub held_with-is : (m : Media) (n : ℕ) (anchor : ℤ) (stamps : List ℕ) (gapped : Bool) (micros i count : ℕ)
    → AreDue (with_offset m micros) n anchor gapped (whole (slice_index stamps i)) count
    → held_with m n anchor stamps gapped micros i ≡ (i + 1) - count
held_with-is m n anchor stamps gapped micros i count are =
    omega (arith, due_among-is (with_offset m micros) n anchor gapped (whole (slice_index stamps i)) count (i + 1) are)
