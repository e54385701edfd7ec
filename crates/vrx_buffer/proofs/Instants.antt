-- Packets and instants: the buffer at its packets says how it is at every instant.
use Rattle.std.proofs.Common.{◌≡◌, ◌≤◌, ◌<◌, ◌+◌, ◌-◌, ◌*◌, ℕ, zero, suc, ℤ, Bool, true, false, cond, min, nat_lt, not, if◌then◌else◌, Some, None, List, []}
use Rattle.std.proofs.Common.{◌∷◌, length, slice_index, refl, ap, sym, ◌∙◌, arith, inl, inr}
use Rattle.std.specs.List.{count_by}
use Rattle.std.proofs.lemmas.Bool.{cases_lt, le-ltb, ltb-false, ltb-true}
use Rattle.std.proofs.lemmas.Int.{ints}
use Rattle.std.proofs.lemmas.List.Sums.{sum_by-cons}
use Rattle.std.proofs.Math.Nat.{mul-le-mul}
use Rattle.fraction128.specs.Fractions.{AtMost, Below, Fraction, at_most, whole}
use Rattle.fraction128.proofs.Order.{at_most-false, at_most-true, fraction_cases}
use Rattle.timing_base.specs.Media.{IsMedia, Media}
use Rattle.timing_base.specs.declared.media.Kind.{Kind}
use Rattle.sender_params.specs.Keeps.{KeepsBuffer, arrived, due_among, held_at, is_empty, is_over}
use Rattle.sender_params.specs.Limits.{gapped_of, vrx_full_of}
use Rattle.sender_params.specs.Reads.{AreDue, anchor_of, read_of}
use Rattle.sender_params.specs.Ticks.{NeverFall}
use Rattle.sender_params.specs.Times.{group_time, offset_time, read_step}
use Rattle.sender_params.proofs.Parts.{have_per}
use Rattle.read_schedule.proofs.Held.{due_among-is, held_at-is}
use Rattle.read_schedule.proofs.Rising.{due-some}
use Rattle.vrx_buffer.specs.Faults.{BreaksNowhere, IsFirstFault}
use Rattle.vrx_buffer.specs.declared.vrx.VrxFault.{VrxFault}
use Rattle.vrx_buffer.specs.declared.vrx.VrxFault.TheVariants.{Over, Empty}
use Rattle.vrx_buffer.proofs.Lateness.{late-fewer}
use Rattle.vrx_buffer.proofs.Order as order

-- true isn't false
true_false : true ≡ false → ⊥
true_false e = cc

-- no fraction is below itself
below_itself : (t : Fraction) → Below t t → ⊥
below_itself t h = omega (arith, ints, h)

-- what is held isn't over the limit where the test says so
not_over : (full held : ℕ) → nat_lt full held ≡ false → held ≤ full
not_over full held e = ltb-false full held e

over_not : (full held : ℕ) → held ≤ full → nat_lt full held ≡ false
over_not full held h = le-ltb full held h

-- so many packets came by t: those before it, and no later one
pub record Came (stamps : List ℕ) (t : Fraction) (k : ℕ) : Type 0 where
  pub within : k ≤ length stamps
  pub came : (j : ℕ) → j < k → AtMost (whole (slice_index stamps j)) t
  pub ahead : (j : ℕ) → k ≤ j → j < length stamps → Below t (whole (slice_index stamps j))

-- a later packet is no earlier
pub came-before : (stamps : List ℕ) (t : Fraction) (j i : ℕ)
    → NeverFall stamps
    → j ≤ i
    → i < length stamps
    → AtMost (whole (slice_index stamps i)) t
    → AtMost (whole (slice_index stamps j)) t
came-before stamps t j i falls low few h =
    let rise = falls j i low few in
    let a : AtMost (whole (slice_index stamps j)) (whole (slice_index stamps i)) = omega (arith, ints, rise) in
    order.at_most-at_most (whole (slice_index stamps j)) (whole (slice_index stamps i)) t (omega arith) a h

-- among the first k of stamps that never fall
came-search : (stamps : List ℕ) (t : Fraction) (k : ℕ)
    → NeverFall stamps
    → k ≤ length stamps
    → ((j : ℕ) → k ≤ j → j < length stamps → Below t (whole (slice_index stamps j)))
    → (c : ℕ) × Came stamps t c
came-search stamps t zero falls few above = (0, record { within = omega arith; came = λ j low. absurd (omega (arith, low)); ahead = above })
came-search stamps t (suc k) falls few above =
    elim (fraction_cases (whole (slice_index stamps k)) t) as (λ _. (c : ℕ) × Came stamps t c) [
      | inl here ↦ (
        suc k,
        record {
          within = few;
          came = λ j low. came-before stamps t j k falls (omega (arith, low)) (omega (arith, few)) here;
          ahead = above;
        },
      )
      | inr later ↦ came-search stamps t k falls (omega (arith, few)) (λ j from size. elim (cases_lt k j) as (λ _. Below t (whole (slice_index stamps j))) [
        | inl past ↦ above j past size
        | inr same ↦
            let e : j ≡ k = omega (arith, from, same) in
            rw e later
      ])
    ]

pub came-some : (stamps : List ℕ) (t : Fraction) → NeverFall stamps → (c : ℕ) × Came stamps t c
came-some stamps t falls =
    came-search stamps t (length stamps) falls (omega arith) (λ j from size. absurd (omega (arith, from, size)))

-- a count over a list of what holds of its first k alone
count_by-first : (p : ℕ → Bool) (xs : List ℕ) (k : ℕ)
    → k ≤ length xs
    → ((j : ℕ) → j < k → p (slice_index xs j) ≡ true)
    → ((j : ℕ) → k ≤ j → j < length xs → p (slice_index xs j) ≡ false)
    → count_by p xs ≡ k
count_by-first p [] k few first_k rest = omega (arith, few)
count_by-first p (x ∷ xs) zero few first_k rest =
    let head : cond {A = ℕ} (p x) 1 0 ≡ 0 = ap (λ b. cond b 1 0) (rest 0 (omega arith) (omega arith)) in
    let tail = count_by-first p xs zero (omega arith) (λ j low. absurd (omega (arith, low)))
    (λ j from size. rest (suc j) (omega arith) (omega (arith, size))) in
    let sum : count_by p (x ∷ xs) ≡ cond (p x) 1 0 + count_by p xs = sum_by-cons (λ y. cond (p y) 1 0) x xs in
    omega (arith, sum, head, tail)
count_by-first p (x ∷ xs) (suc k) few first_k rest =
    let head : cond {A = ℕ} (p x) 1 0 ≡ 1 = ap (λ b. cond b 1 0) (first_k 0 (omega arith)) in
    let tail = count_by-first p xs k (omega (arith, few)) (λ j low. first_k (suc j) (omega (arith, low)))
    (λ j from size. rest (suc j) (omega (arith, from)) (omega (arith, size))) in
    let sum : count_by p (x ∷ xs) ≡ cond (p x) 1 0 + count_by p xs = sum_by-cons (λ y. cond (p y) 1 0) x xs in
    omega (arith, sum, head, tail)

-- so many arrived
pub arrived-is : (stamps : List ℕ) (t : Fraction) (k : ℕ) → Came stamps t k → arrived stamps t ≡ k
arrived-is stamps t k c =
    count_by-first (λ at. at_most (whole at) t) stamps k c.within
    (λ j low. at_most-true (whole (slice_index stamps j)) t (c.came j low))
    (λ j from size. at_most-false (whole (slice_index stamps j)) t (c.ahead j from size))

-- at a later instant no fewer reads are due
pub due-order : (m : Media) (n : ℕ) (anchor : ℤ) (gapped : Bool) (t u : Fraction) (a b : ℕ)
    → 0 < t.den
    → AtMost t u
    → AreDue m n anchor gapped t a
    → AreDue m n anchor gapped u b
    → 0 < (read_of m n anchor gapped b).den
    → a ≤ b
due-order m n anchor gapped t u a b some h first second read_some =
    elim (cases_lt b a) as (λ _. a ≤ b) [
      | inr rest ↦ rest
      | inl fewer ↦
          let due : AtMost (read_of m n anchor gapped b) u = order.at_most-at_most (read_of m n anchor gapped b) t u some (first.due b fewer) h in
          absurd (omega (arith, ints, due, second.ahead b (omega arith)))
    ]

-- the denominator of a read isn't 0
pub read_of-den : (m : Media) (n : ℕ) (anchor : ℤ) (gapped : Bool) (x : ℕ) → IsMedia m → 1 ≤ n → 0 < (read_of m n anchor gapped x).den
read_of-den m n anchor gapped x is some =
    let have = have_per m n gapped is some in
    let product : 1 * 1 ≤ (group_time m).1 * (offset_time m).1 = mul-le-mul have.group have.offset in
    let both : 1 ≤ (group_time m).1 * (offset_time m).1 = omega (arith, product) in
    let all : 1 * 1 ≤ ((group_time m).1 * (offset_time m).1) * (read_step m n gapped).1 = mul-le-mul both have.step in
    omega (arith, all)

-- what is held at an instant, in whole numbers
held-parts : (m : Media) (n : ℕ) (stamps : List ℕ) (gapped : Bool) (t : Fraction) (k c : ℕ)
    → Came stamps t k
    → AreDue m n (anchor_of m (slice_index stamps 0)) gapped t c
    → (arrived stamps t ≡ k) × (due_among m n (anchor_of m (slice_index stamps 0)) gapped (length stamps) t ≡ min c (length stamps))
held-parts m n stamps gapped t k c came are =
    (arrived-is stamps t k came, due_among-is m n (anchor_of m (slice_index stamps 0)) gapped t c (length stamps) are)

-- where no packet breaks the model, the buffer keeps it at every instant
pub packets-keep : (m : Media) (n : ℕ) (stamps : List ℕ) (kind : Kind)
    → IsMedia m
    → 1 ≤ n
    → NeverFall stamps
    → BreaksNowhere m n stamps kind
    → KeepsBuffer m n stamps kind
packets-keep m n stamps kind is some falls none = λ t den_some.
    let g = gapped_of kind in
    let anchor = anchor_of m (slice_index stamps 0) in
    let full = vrx_full_of m n kind in
    let packets = came-some stamps t falls in
    let k = packets.0 in
    let came = packets.1 in
    let reads = due-some m n anchor g t is some den_some in
    let c = reads.0 in
    let are = reads.1 in
    let parts = held-parts m n stamps g t k c came are in
    let low : min c (length stamps) ≤ k = elim (cases_lt k (min c (length stamps))) as (λ _. min c (length stamps) ≤ k) [
      | inr rest ↦ rest
      | inl fewer ↦
          let size : k < length stamps = omega (arith, fewer) in
          let due = are.due k (omega (arith, fewer)) in
          let late = order.at_most-below (read_of m n anchor g k) t (whole (slice_index stamps k))
          (read_of-den m n anchor g k is some) due (came.ahead k (omega arith) size) in
          let empty : is_empty m n stamps kind k ≡ true = ap not (at_most-false (whole (slice_index stamps k)) (read_of m n anchor g k) late) in
          absurd (true_false (sym empty ∙ (none k size).1))
    ] in
    let high : k ≤ full + min c (length stamps) = elim (cases_lt 0 k) as (λ _. k ≤ full + min c (length stamps)) [
      | inr zero_came ↦ omega (arith, zero_came)
      | inl came_some ↦
          let i = k - 1 in
          let size : i < length stamps = omega (arith, came_some, came.within) in
          let here = whole (slice_index stamps i) in
          let then_reads = due-some m n anchor g here is some (omega arith) in
          let d = then_reads.0 in
          let earlier : d ≤ c =
          due-order m n anchor g here t d c (omega arith) (came.came i (omega (arith, came_some))) then_reads.1 are (read_of-den m n anchor g c is some) in
          let held = held_at-is m n stamps g i d then_reads.1 in
          let over : held_at m n stamps g i ≤ full = not_over full (held_at m n stamps g i) ((none i size).0) in
          omega (arith, held, over, earlier, came_some, came.within)
    ] in
    (omega (arith, ints, parts.0, parts.1, low), omega (arith, ints, parts.0, parts.1, high))

-- and where the buffer keeps the model at every instant, no packet breaks it
pub keep-over : (m : Media) (n : ℕ) (stamps : List ℕ) (kind : Kind) (i : ℕ)
    → IsMedia m
    → 1 ≤ n
    → NeverFall stamps
    → KeepsBuffer m n stamps kind
    → i < length stamps
    → is_over m n stamps kind i ≡ false
keep-over m n stamps kind i is some falls keeps size =
    let g = gapped_of kind in
    let anchor = anchor_of m (slice_index stamps 0) in
    let full = vrx_full_of m n kind in
    let t = whole (slice_index stamps i) in
    let packets = came-some stamps t falls in
    let k = packets.0 in
    let reads = due-some m n anchor g t is some (omega arith) in
    let c = reads.0 in
    let parts = held-parts m n stamps g t k c packets.1 reads.1 in
    let held = held_at-is m n stamps g i c reads.1 in
    let here : i < k = elim (cases_lt i k) as (λ _. i < k) [
      | inl before ↦ before
      | inr after ↦ absurd (omega (arith, ints, packets.1.ahead i after size))
    ] in
    let high = (keeps t (omega arith)).1 in
    let most : held_at m n stamps g i ≤ full = omega (arith, ints, high, parts.0, parts.1, held, here, size) in
    over_not full (held_at m n stamps g i) most

pub keep-empty : (m : Media) (n : ℕ) (stamps : List ℕ) (kind : Kind) (i : ℕ)
    → IsMedia m
    → 1 ≤ n
    → NeverFall stamps
    → KeepsBuffer m n stamps kind
    → i < length stamps
    → is_empty m n stamps kind i ≡ false
keep-empty m n stamps kind i is some falls keeps size =
    let g = gapped_of kind in
    let anchor = anchor_of m (slice_index stamps 0) in
    let t = read_of m n anchor g i in
    let t_some = read_of-den m n anchor g i is some in
    elim (fraction_cases (whole (slice_index stamps i)) t) as (λ _. is_empty m n stamps kind i ≡ false) [
      | inl in_time ↦ ap not (at_most-true (whole (slice_index stamps i)) t in_time)
      | inr late ↦
          let packets = came-some stamps t falls in
          let k = packets.0 in
          let reads = due-some m n anchor g t is some t_some in
          let c = reads.0 in
          let parts = held-parts m n stamps g t k c packets.1 reads.1 in
          let few : k ≤ i = elim (cases_lt i k) as (λ _. k ≤ i) [
            | inr rest ↦ rest
            | inl more ↦ absurd (omega (arith, ints, late, packets.1.came i more))
          ] in
          let many : i < c = elim (cases_lt i c) as (λ _. i < c) [
            | inl rest ↦ rest
            | inr fewer ↦ absurd (below_itself t (reads.1.ahead i fewer))
          ] in
          absurd (omega (arith, ints, (keeps t t_some).0, parts.0, parts.1, few, many, size))
    ]

pub keep-packets : (m : Media) (n : ℕ) (stamps : List ℕ) (kind : Kind)
    → IsMedia m
    → 1 ≤ n
    → NeverFall stamps
    → KeepsBuffer m n stamps kind
    → BreaksNowhere m n stamps kind
keep-packets m n stamps kind is some falls keeps i size =
    (keep-over m n stamps kind i is some falls keeps size, keep-empty m n stamps kind i is some falls keeps size)

-- of two tests the first that holds gives a fault
fault_by-none : (over empty : Bool) (a b : VrxFault)
    → (if over then Some a else if empty then Some b else None) ≡ None
    → (over ≡ false) × (empty ≡ false)
fault_by-none true empty a b e = absurd (cc)
fault_by-none false true a b e = absurd (cc)
fault_by-none false false a b e = (refl, refl)

-- where no packet has a fault, none breaks the model, and the other way round
pub first-none : (m : Media) (n : ℕ) (stamps : List ℕ) (kind : Kind)
    → IsFirstFault m n stamps kind None
    → BreaksNowhere m n stamps kind
first-none m n stamps kind h i size =
    fault_by-none (is_over m n stamps kind i) (is_empty m n stamps kind i) (Over i (held_at m n stamps (gapped_of kind) i)) (Empty i) (h i size)

pub none-first : (m : Media) (n : ℕ) (stamps : List ℕ) (kind : Kind)
    → BreaksNowhere m n stamps kind
    → IsFirstFault m n stamps kind None
none-first m n stamps kind h i size =
    let none = h i size in
    ap (λ o. if o then Some (Over i (held_at m n stamps (gapped_of kind) i)) else if is_empty m n stamps kind i then Some (Empty i) else None) none.0
    ∙ ap (λ e. if e then Some (Empty i) else None) none.1

-- a packet that finds more than the buffer may hold isn't late
pub over-in_time : (m : Media) (n : ℕ) (stamps : List ℕ) (kind : Kind) (i : ℕ)
    → IsMedia m
    → 1 ≤ n
    → is_over m n stamps kind i ≡ true
    → is_empty m n stamps kind i ≡ false
over-in_time m n stamps kind i is some over =
    let g = gapped_of kind in
    let anchor = anchor_of m (slice_index stamps 0) in
    let at = slice_index stamps i in
    let reads = due-some m n anchor g (whole at) is some (omega arith) in
    let held = held_at-is m n stamps g i reads.0 reads.1 in
    let more : vrx_full_of m n kind < held_at m n stamps g i = ltb-true (vrx_full_of m n kind) (held_at m n stamps g i) over in
    late-fewer m n anchor g at i reads.0 reads.1 (omega (arith, held, more))
