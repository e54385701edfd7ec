-- From the parts of a grid to the reads of the video.
use Rattle.std.proofs.Common.{◌≡◌, ◌≤◌, ◌<◌, ◌+◌, ◌-◌, ◌^◌, ◌↔◌, ℕ, ℤ, Bool, true, false, cond, nat_lt, ap, subst, sym, ◌∙◌, arith, inl, inr}
use Rattle.std.proofs.Math.Nat.{mul-le-mul_right}
use Rattle.std.proofs.lemmas.Bool.{cases_lt, false_from_ne_true}
use Rattle.std.proofs.lemmas.Bool.Decides.{nat_tests}
use Rattle.std.proofs.lemmas.Int.{ints}
use Rattle.fraction128.specs.Fractions.{Below, at_most, whole}
use Rattle.fraction128.proofs.Order.{at_most-false, at_most-true, fraction_cases}
use Rattle.timing_base.specs.Media.{Media}
use Rattle.sender_params.specs.Reads.{AreDue, read_of}
use Rattle.read_schedule.specs.declared.grid.Grid.{Grid}
use Rattle.read_schedule.specs.Parts.{AreAhead, ArePast, IsGridOf, parts_at, parts_of}
use Rattle.read_schedule.specs.Stands.{MovesTo, StandsBy, is_on_time}
use Rattle.read_schedule.specs.declared.schedule.Schedule.{Schedule}

-- what isn't due is ahead
pub ahead_of : (m : Media) (n : ℕ) (anchor : ℤ) (gapped : Bool) (g : Grid) (x t : ℕ)
    → IsGridOf m n anchor gapped g
    → parts_of g t < parts_at g x
    → Below (whole t) (read_of m n anchor gapped x)
ahead_of m n anchor gapped g x t is h =
    elim (fraction_cases (read_of m n anchor gapped x) (whole t)) as (λ _. Below (whole t) (read_of m n anchor gapped x)) [
      | inl due ↦ absurd (omega (arith, h, (is.before x t).0 due))
      | inr later ↦ later
    ]

-- the reads that are due, by the grid
pub are_due : (m : Media) (n : ℕ) (anchor : ℤ) (gapped : Bool) (g : Grid) (t count : ℕ)
    → IsGridOf m n anchor gapped g
    → ArePast g count (t + 2 ^ 49)
    → AreAhead g count (t + 2 ^ 49)
    → AreDue m n anchor gapped (whole t) count
are_due m n anchor gapped g t count is due ahead = record {
  due = λ x h. (is.before x t).1 (due x h);
  ahead = λ x h. ahead_of m n anchor gapped g x t is (ahead x h);
}

-- what passed by an instant is past at a later one
pub past-later : (m : Media) (n : ℕ) (anchor : ℤ) (gapped : Bool) (s : Schedule) (before at : ℕ)
    → before ≤ at → StandsBy m n anchor gapped s before → ArePast s.grid s.passed (at + 2 ^ 49)
past-later m n anchor gapped s before at order stood = λ x few.
    let order_parts : parts_of s.grid before ≤ parts_of s.grid at = mul-le-mul_right s.grid.den (omega (arith, order)) in
    omega (arith, order_parts, (stood.grid.before x before).0 (stood.passed x few))

-- so the schedule stands by the later one, where what passes meanwhile is past there
pub stands-later : (old new : Schedule) (at : ℕ) → new.grid ≡ old.grid
    → (ArePast old.grid old.passed (at + 2 ^ 49) → ArePast old.grid new.passed (at + 2 ^ 49))
    → MovesTo old new at
stands-later old new at same past = λ m n anchor gapped before order stood. record {
  grid = subst (λ g. IsGridOf m n anchor gapped g) (sym same) stood.grid;
  passed = λ x few. (stood.grid.before x at).1 (past (past-later m n anchor gapped old before at order stood) x few);
}

-- whether the last read that is due is at t, by the grid
pub on_time-is : (m : Media) (n : ℕ) (anchor : ℤ) (gapped : Bool) (g : Grid) (t count : ℕ) (answer : Bool)
    → IsGridOf m n anchor gapped g
    → ((x : ℕ) → x < count → parts_at g x ≤ parts_of g t)
    → (count ≡ 0 → answer ≡ false)
    → (1 ≤ count → (answer ≡ true) ↔ (parts_of g t ≡ parts_at g (count - 1)))
    → answer ≡ is_on_time m n anchor gapped t count
on_time-is m n anchor gapped g t count answer is due none some =
    elim (cases_lt 0 count) as (λ _. answer ≡ is_on_time m n anchor gapped t count) [
      | inr zero_reads ↦
          let e : nat_lt 0 count ≡ false = grind (arith, nat_tests) in
          none (omega (arith, zero_reads)) ∙ sym (ap (λ b. cond b (at_most (whole t) (read_of m n anchor gapped (count - 1))) false) e)
      | inl reads ↦
          let e : nat_lt 0 count ≡ true = grind (arith, nat_tests) in
          let x = count - 1 in
          let last = due x (omega (arith, reads)) in
          let same : answer ≡ at_most (whole t) (read_of m n anchor gapped x) =
          elim (fraction_cases (whole t) (read_of m n anchor gapped x)) as (λ _. answer ≡ at_most (whole t) (read_of m n anchor gapped x)) [
            | inl here ↦
                let low = (is.after x t).0 here in
                (some reads).1 (omega (arith, low, last)) ∙ sym (at_most-true (whole t) (read_of m n anchor gapped x) here)
            | inr gone ↦
                let no : (answer ≡ true) → ⊥ = λ yes. omega (arith, ints, gone, (is.after x t).1 (omega (arith, (some reads).0 yes))) in
                false_from_ne_true answer no ∙ sym (at_most-false (whole t) (read_of m n anchor gapped x) gone)
          ] in
          same ∙ sym (ap (λ b. cond b (at_most (whole t) (read_of m n anchor gapped (count - 1))) false) e)
    ]
