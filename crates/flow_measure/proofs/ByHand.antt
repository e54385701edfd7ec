-- Extremes of numbers that are worked by hand, by tests that compute.
use Rattle.std.proofs.Common.{◌≡◌, ◌<◌, ℕ, zero, suc, ℤ, ◌≤ℤ◌, Bool, true, false, cond, eqb, nat_lt, inl, inr, refl, ap, ◌∙◌, sym, arith}
use Rattle.std.proofs.lemmas.Bool.{cases_lt, eq-eqb, ltb-true}
use Rattle.std.proofs.lemmas.Int.{ints}
use Rattle.std.specs.Prelude.{int_le}
use Rattle.flow_measure.specs.Columns.{AreExtremes, places_in}
use Rattle.flow_measure.specs.Summary.{IsGreatest, IsLeast}
use Rattle.flow_measure.specs.declared.columns.Extremes.{Extremes}

-- whether all of the first k places pass a test
abbrev pub is_all : (ℕ → Bool) → ℕ → Bool
is_all p zero = true
is_all p (suc k) = cond (p k) (is_all p k) false

all_step : (b rest : Bool) → cond b rest false ≡ true → (b ≡ true) × (rest ≡ true)
all_step true rest e = (refl, e)
all_step false rest e = absurd (cc)

pub all_by : (p : ℕ → Bool) (k : ℕ) → is_all p k ≡ true → (i : ℕ) → i < k → p i ≡ true
all_by p zero e i few = absurd (omega (arith, few))
all_by p (suc k) e i few =
    let step = all_step (p k) (is_all p k) e in
    elim (cases_lt i k) as (λ _. p i ≡ true) [
      | inl early ↦ all_by p k step.1 i early
      | inr late ↦ let same : i ≡ k = omega (arith, few, late) in ap p same ∙ step.0
    ]

-- an order by its test
at_most_by : (x y : ℤ) → int_le x y ≡ true → x ≤ℤ y
at_most_by x y e = grind (arith, ints)

-- an order that is tested where a place belongs to a column
tested : (here c : ℕ) (x y : ℤ) → cond (eqb here c) (int_le x y) true ≡ true → here ≡ c → x ≤ℤ y
tested here c x y e same =
    at_most_by x y (sym (ap (λ b. cond b (int_le x y) true) (eq-eqb here c same)) ∙ e)

-- the extremes of a column, and where they are
pub extremes-by : (column_of : ℕ → ℕ) (numbers : ℕ → ℤ) (count c low high : ℕ) (e : Extremes)
    → is_all (λ i. cond (eqb (column_of i) c) (int_le e.least (numbers i)) true) count ≡ true
    → is_all (λ i. cond (eqb (column_of i) c) (int_le (numbers i) e.greatest) true) count ≡ true
    → nat_lt low count ≡ true
    → column_of low ≡ c
    → numbers low ≡ e.least
    → nat_lt high count ≡ true
    → column_of high ≡ c
    → numbers high ≡ e.greatest
    → AreExtremes numbers (places_in column_of count c) e
extremes-by column_of numbers count c low high e under over fl cl el fh ch eh = record {
  least = record {
    least = λ i p. tested (column_of i) c e.least (numbers i)
        (all_by (λ i. cond (eqb (column_of i) c) (int_le e.least (numbers i)) true) count under i p.0) p.1;
    reached = (low, (ltb-true low count fl, cl), el);
  };
  greatest = record {
    greatest = λ i p. tested (column_of i) c (numbers i) e.greatest
        (all_by (λ i. cond (eqb (column_of i) c) (int_le (numbers i) e.greatest) true) count over i p.0) p.1;
    reached = (high, (ltb-true high count fh, ch), eh);
  };
}

-- the same of all numbers
pub least-by : (numbers : ℕ → ℤ) (count low : ℕ) (x : ℤ)
    → is_all (λ i. int_le x (numbers i)) count ≡ true
    → nat_lt low count ≡ true
    → numbers low ≡ x
    → IsLeast numbers (λ i. i < count) x
least-by numbers count low x under few e = record {
  least = λ i p. at_most_by x (numbers i) (all_by (λ i. int_le x (numbers i)) count under i p);
  reached = (low, ltb-true low count few, e);
}

pub greatest-by : (numbers : ℕ → ℤ) (count high : ℕ) (x : ℤ)
    → is_all (λ i. int_le (numbers i) x) count ≡ true
    → nat_lt high count ≡ true
    → numbers high ≡ x
    → IsGreatest numbers (λ i. i < count) x
greatest-by numbers count high x over few e = record {
  greatest = λ i p. at_most_by (numbers i) x (all_by (λ i. int_le (numbers i) x) count over i p);
  reached = (high, ltb-true high count few, e);
}

-- each place belongs to one of so many columns
pub within-by : (column_of : ℕ → ℕ) (count most : ℕ)
    → is_all (λ i. nat_lt (column_of i) most) count ≡ true
    → (i : ℕ) → i < count → column_of i < most
within-by column_of count most e i few = ltb-true (column_of i) most (all_by (λ i. nat_lt (column_of i) most) count e i few)

-- both of two columns
pub each-two : (P : ℕ → Type 0) → P 0 → P 1 → (c : ℕ) → c < 2 → P c
each-two P zeroth first zero few = zeroth
each-two P zeroth first (suc zero) few = first
each-two P zeroth first (suc (suc c)) few = absurd (omega (arith, few))
