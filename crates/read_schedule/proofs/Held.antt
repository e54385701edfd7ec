-- What a buffer holds, by the number of reads that are due.
use Rattle.std.proofs.Common.{◌≡◌, ◌≤◌, ◌<◌, ◌+◌, ◌-◌, ℕ, zero, suc, ℤ, Bool, true, false, cond, min, List, slice_index, ap, arith, inl, inr}
use Rattle.std.specs.List.{count_by, range_with_len}
use Rattle.std.proofs.lemmas.Bool.{cases_lt}
use Rattle.std.proofs.lemmas.List.Sums.{sum_by-cons}
use Rattle.fraction128.specs.Fractions.{Fraction, at_most, whole}
use Rattle.fraction128.proofs.Order.{at_most-false, at_most-true}
use Rattle.timing_base.specs.Media.{Media}
use Rattle.sender_params.specs.Keeps.{due_among, held_at}
use Rattle.sender_params.specs.Reads.{AreDue, anchor_of, read_of}

-- a count over a range of what holds below c alone
pub count_by-range : (p : ℕ → Bool) (c a k : ℕ)
    → ((x : ℕ) → x < c → p x ≡ true)
    → ((x : ℕ) → c ≤ x → p x ≡ false)
    → count_by p (range_with_len a k) ≡ min (c - a) k
count_by-range p c a zero below_c from_c = omega arith
count_by-range p c a (suc k) below_c from_c =
    let rest = count_by-range p c (a + 1) k below_c from_c in
    let sum : count_by p (range_with_len a (suc k)) ≡ cond (p a) 1 0 + count_by p (range_with_len (a + 1) k) =
    sum_by-cons (λ y. cond (p y) 1 0) a (range_with_len (a + 1) k) in
    elim (cases_lt a c) as (λ _. count_by p (range_with_len a (suc k)) ≡ min (c - a) (suc k)) [
      | inl below ↦
          let one : cond {A = ℕ} (p a) 1 0 ≡ 1 = ap (λ b. cond b 1 0) (below_c a below) in
          omega (arith, sum, one, rest, below)
      | inr above ↦
          let nothing : cond {A = ℕ} (p a) 1 0 ≡ 0 = ap (λ b. cond b 1 0) (from_c a above) in
          omega (arith, sum, nothing, rest, above)
    ]

-- of the first k reads those are due that are due at all
pub due_among-is : (m : Media) (n : ℕ) (anchor : ℤ) (gapped : Bool) (t : Fraction) (count k : ℕ)
    → AreDue m n anchor gapped t count
    → due_among m n anchor gapped k t ≡ min count k
due_among-is m n anchor gapped t count k are =
    let counted = count_by-range (λ x. at_most (read_of m n anchor gapped x) t) count 0 k
    (λ x few. at_most-true (read_of m n anchor gapped x) t (are.due x few))
    (λ x from. at_most-false (read_of m n anchor gapped x) t (are.ahead x from)) in
    omega (arith, counted)

-- so the buffer holds the packets less the reads
pub held_at-is : (m : Media) (n : ℕ) (stamps : List ℕ) (gapped : Bool) (i count : ℕ)
    → AreDue m n (anchor_of m (slice_index stamps 0)) gapped (whole (slice_index stamps i)) count
    → held_at m n stamps gapped i ≡ (i + 1) - count
held_at-is m n stamps gapped i count are =
    omega (arith, due_among-is m n (anchor_of m (slice_index stamps 0)) gapped (whole (slice_index stamps i)) count (i + 1) are)
