-- The virtual receiver buffer over departures, by its next read.
use Rattle.std.proofs.Common.{◌≡◌, ◌≤◌, ◌<◌, ◌+◌, ◌-◌, ◌*◌, ◌^◌, ◌↔◌, ℕ, ℤ, Bool, subst, sym, inl, inr, arith}
use Rattle.std.proofs.Math.Nat.{mul-le-mul_right}
use Rattle.std.proofs.lemmas.Bool.{cases_lt}
use Rattle.std.proofs.lemmas.Int.{ints}
use Rattle.fraction128.specs.Fractions.{AtMost, Below, Fraction, whole}
use Rattle.timing_base.specs.Media.{IsMedia, Media}
use Rattle.timing_base.specs.declared.media.Kind.{Kind}
use Rattle.sender_params.specs.Limits.{gapped_of}
use Rattle.sender_params.specs.Reads.{AreDue, anchor_of, read_of}
use Rattle.read_schedule.specs.Stands.{IsNextAfter}
use Rattle.read_schedule.specs.declared.schedule.NextRead.{NextRead}
use Rattle.read_schedule.proofs.Held.{due_among-is}
use Rattle.read_schedule.proofs.Rising.{due-some}
use Rattle.flow_shaper.specs.Plan.{models_of}

-- what is due stays due
pub stays_due : (x : Fraction) (a b : ℕ) → a ≤ b → AtMost x (whole a) → AtMost x (whole b)
stays_due x a b order due =
    let product : a * x.den ≤ b * x.den = mul-le-mul_right x.den order in
    omega (arith, ints, due, product)

-- what is due isn't ahead
pub not_both : (x y : Fraction) → AtMost x y → Below y x → ⊥
not_both x y due ahead = omega (arith, ints, due, ahead)

-- the buffer holds the packets less the reads
pub held-is : (m : Media) (n : ℕ) (kind : Kind) (a0 i at count : ℕ)
    → AreDue m n (anchor_of m a0) (gapped_of kind) (whole at) count
    → (models_of m n kind a0).held i at ≡ (i + 1) - count
held-is m n kind a0 i at count are =
    omega (arith, due_among-is m n (anchor_of m a0) (gapped_of kind) (whole at) count (i + 1) are)

-- a read that is due is among those that are
pub due-below : (m : Media) (n : ℕ) (anchor : ℤ) (gapped : Bool) (t count x : ℕ)
    → AreDue m n anchor gapped (whole t) count
    → AtMost (read_of m n anchor gapped x) (whole t)
    → x < count
due-below m n anchor gapped t count x are due = elim (cases_lt x count) as (λ _. x < count) [
  | inl less ↦ less
  | inr more ↦ absurd (not_both (read_of m n anchor gapped x) (whole t) due (are.ahead x more))
]

-- later instants have no fewer reads
pub due-rises : (m : Media) (n : ℕ) (anchor : ℤ) (gapped : Bool) (a b few many : ℕ)
    → a ≤ b
    → AreDue m n anchor gapped (whole a) few
    → AreDue m n anchor gapped (whole b) many
    → few ≤ many
due-rises m n anchor gapped a b few many order first second = elim (cases_lt many few) as (λ _. few ≤ many) [
  | inr more ↦ more
  | inl less ↦
      let x = read_of m n anchor gapped many in
      absurd (not_both x (whole b) (stays_due x a b order (first.due many less)) (second.ahead many (omega arith)))
]

-- the next packet finds room in the buffer where there is some, or the next read has come
pub held-room : (m : Media) (n : ℕ) (kind : Kind) (a0 i last t full : ℕ) (next : NextRead)
    → IsMedia m
    → 1 ≤ n
    → IsNextAfter m n (anchor_of m a0) (gapped_of kind) last next
    → (models_of m n kind a0).held i last ≤ full
    → last ≤ t
    → t < 2 ^ 62
    → ((models_of m n kind a0).held (i + 1) t ≤ full) ↔ (next.number + full ≤ i + 1 → next.at ≤ t)
held-room m n kind a0 i last t full next is some after before order low =
    let anchor = anchor_of m a0 in
    let g = gapped_of kind in
    let have = due-some m n anchor g (whole t) is some (omega arith) in
    let count = have.0 in
    let are = have.1 in
    let old = held-is m n kind a0 i last next.number after.count in
    let new = held-is m n kind a0 (i + 1) t count are in
    let rise : next.number ≤ count = due-rises m n anchor g last t next.number count order after.count are in (
      λ room waits. (after.due t low).0 (are.due next.number (omega (arith, room, waits, old, new, before))),
      λ come. elim (cases_lt (i + 1) (next.number + full)) as (λ _. (models_of m n kind a0).held (i + 1) t ≤ full) [
        | inl free ↦ omega (arith, new, free, rise)
        | inr waits ↦
            let due = due-below m n anchor g t count next.number are ((after.due t low).1 (come waits)) in
            omega (arith, new, due, old, before)
      ],
    )

-- a packet finds room in the buffer where it does with fewer reads
pub held-free : (m : Media) (n : ℕ) (kind : Kind) (a0 i looked t full : ℕ) (next : NextRead)
    → IsMedia m
    → 1 ≤ n
    → IsNextAfter m n (anchor_of m a0) (gapped_of kind) looked next
    → looked ≤ t
    → i < next.number + full
    → (models_of m n kind a0).held i t ≤ full
held-free m n kind a0 i looked t full next is some after order free =
    let have = due-some m n (anchor_of m a0) (gapped_of kind) (whole t) is some (omega arith) in
    omega (
      arith,
      held-is m n kind a0 i t have.0 have.1,
      due-rises m n (anchor_of m a0) (gapped_of kind) looked t next.number have.0 order after.count have.1,
      free,
    )

-- the read after the next one isn't due before the nanosecond after it
pub number-most : (m : Media) (n : ℕ) (anchor : ℤ) (gapped : Bool) (last t : ℕ) (next then : NextRead)
    → IsNextAfter m n anchor gapped last next
    → IsNextAfter m n anchor gapped t then
    → t < 2 ^ 62
    → 1 ≤ t
    → t ≤ next.at
    → then.number ≤ next.number + 1
number-most m n anchor gapped last t next then after now low some early =
    elim (cases_lt (next.number + 1) then.number) as (λ _. then.number ≤ next.number + 1) [
      | inr few ↦ few
      | inl many ↦
          let e : (t - 1) + 1 ≡ t = omega (arith, some) in
          let due : AtMost (read_of m n anchor gapped (next.number + 1)) (whole ((t - 1) + 1)) =
          subst (λ k. AtMost (read_of m n anchor gapped (next.number + 1)) (whole k)) (sym e) (now.count.due (next.number + 1) many) in
          absurd (omega (arith, (after.due (t - 1) (omega (arith, low))).0 (after.apart (t - 1) due), early, some))
    ]
