-- Whether a packet comes after its own read, by the reads that are due.
use Rattle.std.proofs.Common.{◌≡◌, ◌≤◌, ◌<◌, ◌+◌, ◌-◌, ℕ, ℤ, Bool, true, false, cond, not, nat_lt, ap, subst, sym, ◌∙◌, arith, inl, inr}
use Rattle.std.proofs.lemmas.Bool.{cases_lt}
use Rattle.std.proofs.lemmas.Bool.Decides.{nat_tests}
use Rattle.std.proofs.lemmas.Int.{ints}
use Rattle.fraction128.specs.Fractions.{AtMost, at_most, below, whole}
use Rattle.fraction128.proofs.Order.{at_most-false, at_most-true}
use Rattle.timing_base.specs.Media.{IsMedia, Media}
use Rattle.sender_params.specs.Reads.{AreDue, read_of}
use Rattle.read_schedule.specs.Stands.{IsDueAt, is_on_time}
use Rattle.read_schedule.specs.declared.schedule.Due.{Due}
use Rattle.read_schedule.proofs.Rising.{read-rises}
use Rattle.vrx_buffer.proofs.Order.{below-at_most}

-- where more reads are due than up to its own, it does; where fewer are, it doesn't
pub late-more : (m : Media) (n : ℕ) (anchor : ℤ) (gapped : Bool) (at i count : ℕ)
    → IsMedia m
    → 1 ≤ n
    → AreDue m n anchor gapped (whole at) count
    → i + 1 < count
    → below (read_of m n anchor gapped i) (whole at) ≡ true
late-more m n anchor gapped at i count is some are more =
    let before = below-at_most (read_of m n anchor gapped i) (read_of m n anchor gapped (i + 1)) (whole at) (omega arith)
    (read-rises m n anchor gapped i is some) (are.due (i + 1) more) in
    ap not (at_most-false (whole at) (read_of m n anchor gapped i) before)

pub late-fewer : (m : Media) (n : ℕ) (anchor : ℤ) (gapped : Bool) (at i count : ℕ)
    → AreDue m n anchor gapped (whole at) count
    → count ≤ i
    → below (read_of m n anchor gapped i) (whole at) ≡ false
late-fewer m n anchor gapped at i count are few =
    let after : AtMost (whole at) (read_of m n anchor gapped i) = omega (arith, ints, are.ahead i few) in
    ap not (at_most-true (whole at) (read_of m n anchor gapped i) after)

-- where its own is the last, it comes at that very instant or after it
pub late-last : (m : Media) (n : ℕ) (anchor : ℤ) (gapped : Bool) (at i : ℕ) (due : Due)
    → IsDueAt m n anchor gapped at due
    → due.count ≡ i + 1
    → below (read_of m n anchor gapped i) (whole at) ≡ not due.on_time
late-last m n anchor gapped at i due are same =
    let some : nat_lt 0 due.count ≡ true = grind (arith, nat_tests) in
    let place : due.count - 1 ≡ i = omega (arith, same) in
    let here : is_on_time m n anchor gapped at due.count ≡ at_most (whole at) (read_of m n anchor gapped (due.count - 1)) =
    ap (λ b. cond b (at_most (whole at) (read_of m n anchor gapped (due.count - 1))) false) some in
    sym (ap not (are.on_time ∙ here ∙ ap (λ x. at_most (whole at) (read_of m n anchor gapped x)) place))

-- so of any answer that goes by these three
pub late-is : (m : Media) (n : ℕ) (anchor : ℤ) (gapped : Bool) (at i : ℕ) (due : Due) (late : Bool)
    → IsMedia m
    → 1 ≤ n
    → IsDueAt m n anchor gapped at due
    → (due.count ≡ i + 1 → late ≡ not due.on_time)
    → (i + 1 < due.count → late ≡ true)
    → (due.count ≤ i → late ≡ false)
    → below (read_of m n anchor gapped i) (whole at) ≡ late
late-is m n anchor gapped at i due late is some are last more fewer =
    elim (cases_lt i due.count) as (λ _. below (read_of m n anchor gapped i) (whole at) ≡ late) [
      | inr few ↦ late-fewer m n anchor gapped at i due.count are.count few ∙ sym (fewer few)
      | inl reads ↦ elim (cases_lt (i + 1) due.count) as (λ _. below (read_of m n anchor gapped i) (whole at) ≡ late) [
        | inl many ↦ late-more m n anchor gapped at i due.count is some are.count many ∙ sym (more many)
        | inr one ↦
            let same : due.count ≡ i + 1 = omega (arith, reads, one) in
            late-last m n anchor gapped at i due are same ∙ sym (last same)
      ]
    ]

-- by the packet's number
pub late-at : (m : Media) (n : ℕ) (anchor : ℤ) (gapped : Bool) (at i packet : ℕ) (due : Due) (late : Bool)
    → packet ≡ i
    → IsMedia m
    → 1 ≤ n
    → IsDueAt m n anchor gapped at due
    → (due.count ≡ packet + 1 → late ≡ not due.on_time)
    → (packet + 1 < due.count → late ≡ true)
    → (due.count ≤ packet → late ≡ false)
    → below (read_of m n anchor gapped i) (whole at) ≡ late
late-at m n anchor gapped at i packet due late same is some are last more fewer =
    subst (λ k. below (read_of m n anchor gapped k) (whole at) ≡ late) same (late-is m n anchor gapped at packet due late is some are last more fewer)
