-- The claimed counts of packets and of reads, by the two of them on either side.
use Rattle.std.proofs.Common.{◌≡◌, ◌≤◌, ◌<◌, ◌+◌, ◌-◌, ◌*◌, ◌↔◌, ◌⊎◌, ℕ, ℤ, zero, suc, Bool, true, false, cond, not, List, [], ◌∷◌, length, refl, ap, sym, ◌∙◌}
use Rattle.std.proofs.Common.{subst, arith, inl, inr}
use Rattle.std.specs.Prelude.{IsTrue, slice_index}
use Rattle.std.specs.List.{count_by, range_with_len}
use Rattle.std.proofs.lemmas.Bool.{false_from_ne_true}
use Rattle.std.proofs.lemmas.List.FromFn.{length-range_with_len, get_or-range_with_len}
use Rattle.std.proofs.lemmas.List.Sums.{sum_by-cons}
use Rattle.std.proofs.Math.Nat.{mul-le-mul_right}
use Rattle.fraction128.specs.Fractions.{at_most, below, whole}
use Rattle.fraction128.proofs.Order.{at_most-true, true-at_most}
use Rattle.timing_base.specs.Media.{Media}
use Rattle.timing_base.specs.declared.media.Kind.{Kind}
use Rattle.sender_params.specs.Keeps.{arrived_by_read, due_among, held_at}
use Rattle.sender_params.specs.Limits.{gapped_of}
use Rattle.sender_params.specs.Reads.{anchor_of, read_of}
use Rattle.sender_params.specs.Ticks.{NeverFall}
use Rattle.interval_checker.specs.Schedule.{AreReads}
use Rattle.interval_checker.specs.declared.reads.Reads.{Reads}
use Rattle.interval_checker.proofs.Schedules.{parts_at-le}

-- a test that holds of no element behind one of which it doesn't
abbrev pub Falls : (ℕ → Bool) → List ℕ → Type 0
Falls p xs = (i j : ℕ) → i ≤ j → j < length xs → p (slice_index xs j) ≡ true → p (slice_index xs i) ≡ true

-- it holds of the first c elements and of no other
record IsCut (p : ℕ → Bool) (xs : List ℕ) (c : ℕ) : Type 0 where
  few : c ≤ length xs
  low : (j : ℕ) → j < c → p (slice_index xs j) ≡ true
  high : (j : ℕ) → c ≤ j → j < length xs → p (slice_index xs j) ≡ false

cut-count : (p : ℕ → Bool) (xs : List ℕ) (c : ℕ) → IsCut p xs c → count_by p xs ≡ c
cut-count p [] c cut = omega (arith, cut.few)
cut-count p (x ∷ xs) zero cut =
    let head : p x ≡ false = cut.high 0 (omega arith) (omega arith) in
    let rest : count_by p xs ≡ 0 = cut-count p xs 0 record {
      few = omega arith;
      low = λ j h. absurd (omega (arith, h));
      high = λ j h l. cut.high (suc j) (omega arith) (omega (arith, l));
    } in
    let none : cond {A = ℕ} (p x) 1 0 ≡ 0 = ap (λ b. cond b 1 0) head in
    omega (arith, sum_by-cons (λ y. cond (p y) 1 0) x xs, rest, none)
cut-count p (x ∷ xs) (suc c) cut =
    let head : p x ≡ true = cut.low 0 (omega arith) in
    let rest : count_by p xs ≡ c = cut-count p xs c record {
      few = omega (arith, cut.few);
      low = λ j h. cut.low (suc j) (omega (arith, h));
      high = λ j h l. cut.high (suc j) (omega (arith, h)) (omega (arith, l));
    } in
    let one : cond {A = ℕ} (p x) 1 0 ≡ 1 = ap (λ b. cond b 1 0) head in
    omega (arith, sum_by-cons (λ y. cond (p y) 1 0) x xs, rest, one)

bool_cases : (b : Bool) → (b ≡ true) ⊎ (b ≡ false)
bool_cases true = inl refl
bool_cases false = inr refl

cut-tail : (p : ℕ → Bool) (x : ℕ) (xs : List ℕ) (c : ℕ) → p x ≡ true → IsCut p xs c → IsCut p (x ∷ xs) (suc c)
cut-tail p x xs c head cut = record { few = omega (arith, cut.few); low = low-at; high = high-at }
  where
    low-at : (j : ℕ) → j < suc c → p (slice_index (x ∷ xs) j) ≡ true
    low-at zero h = head
    low-at (suc j) h = cut.low j (omega (arith, h))

    high-at : (j : ℕ) → suc c ≤ j → j < length (x ∷ xs) → p (slice_index (x ∷ xs) j) ≡ false
    high-at zero h l = absurd (omega (arith, h))
    high-at (suc j) h l = cut.high j (omega (arith, h)) (omega (arith, l))

cut-of : (p : ℕ → Bool) (xs : List ℕ) → Falls p xs → (c : ℕ) × IsCut p xs c
cut-of p [] falls = (0, record { few = omega arith; low = λ j h. absurd (omega (arith, h)); high = λ j h l. absurd (omega (arith, l)) })
cut-of p (x ∷ xs) falls = elim (bool_cases (p x)) as (λ _. (c : ℕ) × IsCut p (x ∷ xs) c) [
  | inl head ↦
      let rest = cut-of p xs (λ i j h l e. falls (suc i) (suc j) (omega (arith, h)) (omega (arith, l)) e) in
      (suc rest.0, cut-tail p x xs rest.0 head rest.1)
  | inr head ↦ (
    0,
    record {
      few = omega arith;
      low = λ j h. absurd (omega (arith, h));
      high = λ j h l. false_from_ne_true (p (slice_index (x ∷ xs) j)) (λ e. differ (sym head ∙ falls 0 j (omega arith) l e));
    },
  )
]
  where
    differ : (false ≡ true) → ⊥
    differ e = cc

-- where the count is d, the test holds of the element before d, and not of the one at d
pub count-tells : (p : ℕ → Bool) (xs : List ℕ) (d : ℕ) → Falls p xs → count_by p xs ≡ d
    → (0 < d → p (slice_index xs (d - 1)) ≡ true) × (d < length xs → p (slice_index xs d) ≡ false)
count-tells p xs d falls is =
    let cut = cut-of p xs falls in
    let same : d ≡ cut.0 = sym is ∙ cut-count p xs cut.0 cut.1 in
    (λ h. cut.1.low (d - 1) (omega (arith, same, h)), λ h. cut.1.high d (omega (arith, same)) h)

-- and the other way round
pub count-is : (p : ℕ → Bool) (xs : List ℕ) (d : ℕ) → Falls p xs → d ≤ length xs
    → (0 < d → p (slice_index xs (d - 1)) ≡ true) → (d < length xs → p (slice_index xs d) ≡ false) → count_by p xs ≡ d
count-is p xs d falls few last next = cut-count p xs d record {
  few = few;
  low = λ j h. falls j (d - 1) (omega (arith, h)) (omega (arith, h, few)) (last (omega (arith, h)));
  high = λ j h l. false_from_ne_true (p (slice_index xs j)) (λ e. differ (sym (next (omega (arith, h, l))) ∙ falls d j h l e));
}
  where
    differ : (false ≡ true) → ⊥
    differ e = cc

-- reads are due in their order
due-falls : (m : Media) (n : ℕ) (anchor : ℤ) (gapped : Bool) (r : Reads) (t k : ℕ) → AreReads m n anchor gapped r
    → Falls (λ x. at_most (read_of m n anchor gapped x) (whole t)) (range_with_len 0 k)
due-falls m n anchor gapped r t k are i j h l e =
    let few : j < k = omega (arith, l, length-range_with_len 0 k) in
    let at_i : slice_index (range_with_len 0 k) i ≡ i = get_or-range_with_len 0 k i 0 (omega (arith, h, few)) ∙ omega arith in
    let at_j : slice_index (range_with_len 0 k) j ≡ j = get_or-range_with_len 0 k j 0 few ∙ omega arith in
    let there : at_most (read_of m n anchor gapped j) (whole t) ≡ true = subst (λ x. at_most (read_of m n anchor gapped x) (whole t) ≡ true) at_j e in
    let later = (are.before j t).0 (true-at_most (read_of m n anchor gapped j) (whole t) there) in
    let order = parts_at-le r i j h in
    let here : at_most (read_of m n anchor gapped i) (whole t) ≡ true =
    at_most-true (read_of m n anchor gapped i) (whole t) ((are.before i t).1 (omega (arith, later, order))) in
    subst (λ x. at_most (read_of m n anchor gapped x) (whole t) ≡ true) (sym at_i) here

-- packets come by a read in their order
arrived-falls : (m : Media) (n : ℕ) (anchor : ℤ) (gapped : Bool) (r : Reads) (stamps : List ℕ) (x : ℕ) → AreReads m n anchor gapped r → NeverFall stamps
    → Falls (λ at. at_most (whole at) (read_of m n anchor gapped x)) stamps
arrived-falls m n anchor gapped r stamps x are rising i j h l e =
    let later = (are.after x (slice_index stamps j)).0 (true-at_most (whole (slice_index stamps j)) (read_of m n anchor gapped x) e) in
    let order : slice_index stamps i * r.den ≤ slice_index stamps j * r.den = mul-le-mul_right r.den (rising i j h l) in
    at_most-true (whole (slice_index stamps i)) (read_of m n anchor gapped x) ((are.after x (slice_index stamps i)).1 (omega (arith, later, order)))

at_range : (P : ℕ → Type 0) (k i : ℕ) → i < k → P (slice_index (range_with_len 0 k) i) → P i
at_range P k i h p =
    let e : slice_index (range_with_len 0 k) i ≡ i = get_or-range_with_len 0 k i 0 h ∙ omega arith in
    subst P e p

from_range : (P : ℕ → Type 0) (k i : ℕ) → i < k → P i → P (slice_index (range_with_len 0 k) i)
from_range P k i h p =
    let e : slice_index (range_with_len 0 k) i ≡ i = get_or-range_with_len 0 k i 0 h ∙ omega arith in
    subst P (sym e) p

-- the count is what the buffer holds, where so many reads are due
held-due : (m : Media) (n : ℕ) (stamps : List ℕ) (gapped : Bool) (to count due : ℕ) → 1 ≤ count → count ≤ to + 1 → due ≡ to + 1 - count
    → (count ≡ held_at m n stamps gapped to) ↔ (due_among m n (anchor_of m (slice_index stamps 0)) gapped (to + 1) (whole (slice_index stamps to)) ≡ due)
held-due m n stamps gapped to count due some few is = (λ h. omega (arith, h, is, some, few), λ h. omega (arith, h, is, some, few))

-- the read before those that aren't done is ahead: the buffer holds more
pub held-more : (m : Media) (n : ℕ) (stamps : List ℕ) (gapped : Bool) (r : Reads) (to count due t : ℕ) (last : Bool)
    → AreReads m n (anchor_of m (slice_index stamps 0)) gapped r
    → 1 ≤ count → count ≤ to + 1 → due ≡ to + 1 - count → t ≡ slice_index stamps to → 0 < due
    → last ≡ at_most (read_of m n (anchor_of m (slice_index stamps 0)) gapped (due - 1)) (whole t) → last ≡ false
    → count ≡ held_at m n stamps gapped to → ⊥
held-more m n stamps gapped r to count due t last are some few is at reads says isnt held =
    let a = anchor_of m (slice_index stamps 0) in
    let p : ℕ → Bool = λ x. at_most (read_of m n a gapped x) (whole (slice_index stamps to)) in
    let counted = (held-due m n stamps gapped to count due some few is).0 held in
    let tells = count-tells p (range_with_len 0 (to + 1)) due (due-falls m n a gapped r (slice_index stamps to) (to + 1) are) counted in
    let holds : p (due - 1) ≡ true = at_range (λ x. p x ≡ true) (to + 1) (due - 1) (omega (arith, is, some, reads)) (tells.0 reads) in
    let same : last ≡ p (due - 1) = says ∙ ap (λ s. at_most (read_of m n a gapped (due - 1)) (whole s)) at in
    differ (sym isnt ∙ (same ∙ holds))
  where
    differ : (false ≡ true) → ⊥
    differ e = cc

below-not : (b : Bool) → not b ≡ true → b ≡ false
below-not true e = cc
below-not false e = refl

-- else it holds so many exactly where the next read is ahead
pub held-says : (m : Media) (n : ℕ) (stamps : List ℕ) (gapped : Bool) (r : Reads) (to count due t : ℕ) (next : Bool)
    → AreReads m n (anchor_of m (slice_index stamps 0)) gapped r
    → 1 ≤ count → count ≤ to + 1 → due ≡ to + 1 - count → t ≡ slice_index stamps to
    → (0 < due → at_most (read_of m n (anchor_of m (slice_index stamps 0)) gapped (due - 1)) (whole t) ≡ true)
    → next ≡ at_most (read_of m n (anchor_of m (slice_index stamps 0)) gapped due) (whole t)
    → IsTrue (not next) ↔ (count ≡ held_at m n stamps gapped to)
held-says m n stamps gapped r to count due t next are some few is at last says =
    let a = anchor_of m (slice_index stamps 0) in
    let p : ℕ → Bool = λ x. at_most (read_of m n a gapped x) (whole (slice_index stamps to)) in
    let falls = due-falls m n a gapped r (slice_index stamps to) (to + 1) are in
    let size : length (range_with_len 0 (to + 1)) ≡ to + 1 = length-range_with_len 0 (to + 1) in
    let both = held-due m n stamps gapped to count due some few is in
    let low : due < to + 1 = omega (arith, is, some) in
    let same : next ≡ p due = says ∙ ap (λ s. at_most (read_of m n a gapped due) (whole s)) at in
    let before : 0 < due → p (due - 1) ≡ true = λ h. subst (λ s. at_most (read_of m n a gapped (due - 1)) (whole s) ≡ true) at (last h) in (
      λ ahead. both.1 (count-is p (range_with_len 0 (to + 1)) due falls (omega (arith, size, low))
          (λ h. from_range (λ x. p x ≡ true) (to + 1) (due - 1) (omega (arith, low)) (before h))
          (λ h. from_range (λ x. p x ≡ false) (to + 1) due low (sym same ∙ below-not next ahead))),
      λ held. ap not (same ∙ at_range (λ x. p x ≡ false) (to + 1) due low
          ((count-tells p (range_with_len 0 (to + 1)) due falls (both.0 held)).1 (omega (arith, size, low)))),
    )

below-is : (b : Bool) → not b ≡ false → b ≡ true
below-is true e = refl
below-is false e = cc

-- the last counted packet comes after the read: fewer came
pub arrived-fewer : (m : Media) (n : ℕ) (stamps : List ℕ) (kind : Kind) (r : Reads) (to count t : ℕ) (last : Bool)
    → AreReads m n (anchor_of m (slice_index stamps 0)) (gapped_of kind) r
    → NeverFall stamps → 0 < count → t ≡ slice_index stamps (count - 1)
    → last ≡ below (read_of m n (anchor_of m (slice_index stamps 0)) (gapped_of kind) to) (whole t) → last ≡ true
    → count ≡ arrived_by_read m n stamps kind to → ⊥
arrived-fewer m n stamps kind r to count t last are rising some at says holds came =
    let a = anchor_of m (slice_index stamps 0) in
    let p : ℕ → Bool = λ s. at_most (whole s) (read_of m n a (gapped_of kind) to) in
    let tells = count-tells p stamps count (arrived-falls m n a (gapped_of kind) r stamps to are rising) (sym came) in
    let isnt : p t ≡ false = below-not (p t) (sym says ∙ holds) in
    let there : p t ≡ true = subst (λ s. p s ≡ true) (sym at) (tells.0 some) in
    differ (sym isnt ∙ there)
  where
    differ : (false ≡ true) → ⊥
    differ e = cc

-- else so many came exactly where the packet behind them comes after the read
pub arrived-says : (m : Media) (n : ℕ) (stamps : List ℕ) (kind : Kind) (r : Reads) (to count t u : ℕ) (next : Bool)
    → AreReads m n (anchor_of m (slice_index stamps 0)) (gapped_of kind) r
    → NeverFall stamps → count < length stamps
    → (0 < count → t ≡ slice_index stamps (count - 1))
    → u ≡ slice_index stamps count
    → (0 < count → below (read_of m n (anchor_of m (slice_index stamps 0)) (gapped_of kind) to) (whole t) ≡ false)
    → next ≡ below (read_of m n (anchor_of m (slice_index stamps 0)) (gapped_of kind) to) (whole u)
    → IsTrue next ↔ (count ≡ arrived_by_read m n stamps kind to)
arrived-says m n stamps kind r to count t u next are rising few at behind last says =
    let a = anchor_of m (slice_index stamps 0) in
    let p : ℕ → Bool = λ s. at_most (whole s) (read_of m n a (gapped_of kind) to) in
    let falls = arrived-falls m n a (gapped_of kind) r stamps to are rising in
    let before : 0 < count → p (slice_index stamps (count - 1)) ≡ true = λ h. subst (λ s. p s ≡ true) (at h) (below-is (p t) (last h)) in (
      λ ahead. sym (count-is p stamps count falls (omega (arith, few)) before
          (λ h. subst (λ s. p s ≡ false) behind (below-not (p u) (sym says ∙ ahead)))),
      λ came. (says ∙ ap not (subst (λ s. p s ≡ false) (sym behind) ((count-tells p stamps count falls (sym came)).1 few))),
    )
