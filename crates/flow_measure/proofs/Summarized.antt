-- A summary of one number more.
use Rattle.std.proofs.Common.{◌≡◌, ◌<◌, ◌≤◌, ◌+◌, ◌-◌, ◌*◌, ◌^◌, ℕ, zero, suc, ℤ, pos, negsuc, neg_ℤ, ◌+ℤ◌}
use Rattle.std.proofs.Common.{◌*ℤ◌, ◌≤ℤ◌, ◌⊎◌, FitsSigned, unsigned_abs, of_z, to_z, inl, inr, refl, ap, ◌∙◌, sym, subst, arith}
use Rattle.std.proofs.Math.IntN.{negsuc-*ℤ-pos, pos-*ℤ-pos}
use Rattle.std.proofs.Math.Nat.{mul-le-mul_right, mul-suc}
use Rattle.std.proofs.lemmas.Bool.{cases_lt}
use Rattle.std.proofs.lemmas.Int.{clamps, fits_signed_mul, ints, to_z-of_z}
use Rattle.std.specs.Int.{int_max, int_min, w128}
use Rattle.flow_measure.specs.Summary.{IsGreatest, IsLeast, IsSummary, sum_of}
use Rattle.flow_measure.specs.Worked.{summary}
use Rattle.flow_measure.specs.declared.summary.Summary.{Summary}
use Rattle.flow_measure.proofs.Bounds.{IsGreatest-more, IsLeast-more}

-- the places below one more are those below it, and it
pub last-split : (count i : ℕ) → i < count + 1 → (i < count) ⊎ (i ≡ count)
last-split count i h = elim (cases_lt i count) as (λ _. (i < count) ⊎ (i ≡ count)) [
  | inl below ↦ inl below
  | inr same ↦ inr (omega (arith, h, same))
]

-- the summary of one number
pub IsSummary-one : (numbers : ℕ → ℤ) (s : Summary)
    → s.least ≡ numbers 0
    → s.greatest ≡ numbers 0
    → s.sum ≡ numbers 0
    → s.first ≡ numbers 0
    → s.last ≡ numbers 0
    → IsSummary numbers 1 s
IsSummary-one numbers s el eg es ef ez =
    record {
      some = omega arith;
      least = record {
        least = λ i few. let e : i ≡ 0 = omega (arith, few) in omega (arith, ints, el, ap numbers e);
        reached = (0, omega arith, sym el);
      };
      greatest = record {
        greatest = λ i few. let e : i ≡ 0 = omega (arith, few) in omega (arith, ints, eg, ap numbers e);
        reached = (0, omega arith, sym eg);
      };
      sum_is = omega (arith, ints, es);
      first = ef;
      last = ez;
    }

-- the summary of one number more
pub IsSummary-more : (numbers : ℕ → ℤ) (count : ℕ) (old new : Summary)
    → IsSummary numbers count old
    → new.least ≡ int_min old.least (numbers count)
    → new.greatest ≡ int_max old.greatest (numbers count)
    → new.sum ≡ old.sum +ℤ numbers count
    → new.first ≡ old.first
    → new.last ≡ numbers count
    → IsSummary numbers (count + 1) new
IsSummary-more numbers count old new h el eg es ef ez =
    let next : count + 1 ≡ suc count = omega arith in
    let back : count ≡ (count + 1) - 1 = omega arith in
    record {
      some = omega arith;
      least = IsLeast-more numbers (λ i. i < count) (λ i. i < count + 1) count old.least new.least h.least
          (λ i few. omega (arith, few)) (omega arith) (last-split count) el;
      greatest = IsGreatest-more numbers (λ i. i < count) (λ i. i < count + 1) count old.greatest new.greatest h.greatest
          (λ i few. omega (arith, few)) (omega arith) (last-split count) eg;
      sum_is = es ∙ ap (λ s. s +ℤ numbers count) h.sum_is ∙ sym (ap (sum_of numbers) next);
      first = ef ∙ h.first;
      last = ez ∙ ap numbers back;
    }

-- a summary with the last number again
pub IsSummary-again : (numbers : ℕ → ℤ) (count : ℕ) (old new : Summary)
    → IsSummary numbers count old
    → numbers count ≡ old.last
    → new.least ≡ old.least
    → new.greatest ≡ old.greatest
    → new.sum ≡ old.sum +ℤ numbers count
    → new.first ≡ old.first
    → new.last ≡ old.last
    → IsSummary numbers (count + 1) new
IsSummary-again numbers count old new h again el eg es ef ez =
    let place : count - 1 < count = omega (arith, h.some) in
    let low = h.least.least (count - 1) place in
    let high = h.greatest.greatest (count - 1) place in
    IsSummary-more numbers count old new h
    (omega (arith, ints, clamps, el, low, h.last, again))
    (omega (arith, ints, clamps, eg, high, h.last, again))
    es ef (ez ∙ sym again)

-- a product with none, and with one more
times-none : (x : ℤ) → x *ℤ pos 0 ≡ pos 0
times-none (pos a) = omega (arith, ints, pos-*ℤ-pos a 0)
times-none (negsuc a) = omega (arith, ints, negsuc-*ℤ-pos a 0)

times-suc : (x : ℤ) (k : ℕ) → x *ℤ pos (suc k) ≡ x *ℤ pos k +ℤ x
times-suc (pos a) k = omega (arith, ints, mul-suc a k, pos-*ℤ-pos a (suc k), pos-*ℤ-pos a k)
times-suc (negsuc a) k = omega (arith, ints, mul-suc (suc a) k, negsuc-*ℤ-pos a (suc k), negsuc-*ℤ-pos a k)

-- a product of a small number
pub product-low : (x : ℤ) (k : ℕ) → neg_ℤ (pos (2 ^ 84)) ≤ℤ x → neg_ℤ (pos (k * 2 ^ 84)) ≤ℤ (x *ℤ pos k)
product-low (pos a) k low = omega (arith, ints, pos-*ℤ-pos a k)
product-low (negsuc a) k low =
    let few : suc a ≤ 2 ^ 84 = omega (arith, ints, low) in
    omega (arith, ints, negsuc-*ℤ-pos a k, mul-le-mul_right {m = suc a} {n = 2 ^ 84} k few)

pub product-high : (x : ℤ) (k : ℕ) → x ≤ℤ pos (2 ^ 84) → (x *ℤ pos k) ≤ℤ pos (k * 2 ^ 84)
product-high (pos a) k high =
    let few : a ≤ 2 ^ 84 = omega (arith, ints, high) in
    omega (arith, ints, pos-*ℤ-pos a k, mul-le-mul_right {m = a} {n = 2 ^ 84} k few)
product-high (negsuc a) k high = omega (arith, ints, negsuc-*ℤ-pos a k)

-- it is computed in 128 bits
pub product-is : (x y : ℤ) (k : ℕ) → FitsSigned w128 x → FitsSigned w128 y → neg_ℤ (pos (2 ^ 84)) ≤ℤ x → x ≤ℤ pos (2 ^ 84) → k ≤ 2 ^ 41
    → y ≡ pos k → to_z w128 (of_z w128 (to_z w128 (of_z w128 x) *ℤ to_z w128 (of_z w128 y))) ≡ x *ℤ pos k
product-is x y k fits_x fits_y low high few is =
    let fits : FitsSigned w128 (x *ℤ y) =
    fits_signed_mul w128 x y (2 ^ 84) (2 ^ 41) (magnitude x low high) (subst (λ z. unsigned_abs z ≤ 2 ^ 41) (sym is) few) (omega arith) in
    ap (λ a. to_z w128 (of_z w128 (a *ℤ to_z w128 (of_z w128 y)))) (to_z-of_z w128 x fits_x)
    ∙ ap (λ b. to_z w128 (of_z w128 (x *ℤ b))) (to_z-of_z w128 y fits_y)
    ∙ to_z-of_z w128 (x *ℤ y) fits
    ∙ ap (λ b. x *ℤ b) is
  where
    magnitude : (x : ℤ) → neg_ℤ (pos (2 ^ 84)) ≤ℤ x → x ≤ℤ pos (2 ^ 84) → unsigned_abs x ≤ 2 ^ 84
    magnitude (pos a) low high = omega (arith, ints, high)
    magnitude (negsuc a) low high = omega (arith, ints, low)

-- a summary with the last number so many times more
pub IsSummary-often : (numbers : ℕ → ℤ) (count times : ℕ) (old new : Summary)
    → IsSummary numbers count old
    → ((j : ℕ) → j < times → numbers (count + j) ≡ old.last)
    → new.least ≡ old.least
    → new.greatest ≡ old.greatest
    → new.sum ≡ old.sum +ℤ old.last *ℤ pos times
    → new.first ≡ old.first
    → new.last ≡ old.last
    → IsSummary numbers (count + times) new
IsSummary-often numbers count zero old new h again el eg es ef ez =
    let none : old.last *ℤ pos 0 ≡ pos 0 = times-none old.last in
    let same : count ≡ count + 0 = omega arith in
    subst (λ k. IsSummary numbers k new) same
    (record {
      some = h.some;
      least = subst (IsLeast numbers (λ i. i < count)) (sym el) h.least;
      greatest = subst (IsGreatest numbers (λ i. i < count)) (sym eg) h.greatest;
      sum_is = omega (arith, ints, es, none, h.sum_is);
      first = ef ∙ h.first;
      last = ez ∙ h.last;
    })
IsSummary-often numbers count (suc k) old new h again el eg es ef ez =
    let mid = summary old.least old.greatest (old.sum +ℤ old.last *ℤ pos k) old.first old.last in
    let before = IsSummary-often numbers count k old mid h (λ j few. again j (omega (arith, few))) refl refl refl refl refl in
    let here : numbers (count + k) ≡ old.last = again k (omega arith) in
    let next : count + k + 1 ≡ count + suc k = omega arith in
    subst (λ n. IsSummary numbers n new) next
    (IsSummary-again numbers (count + k) mid new before here el eg (omega (arith, ints, es, times-suc old.last k, here)) ef ez)
