-- The least and the greatest of numbers, with one number more.
use Rattle.std.proofs.Common.{◌≡◌, ℕ, ℤ, ◌≤ℤ◌, ◌⊎◌, inl, inr, refl, ◌∙◌, sym, ap, arith}
use Rattle.std.proofs.lemmas.Int.{clamps, ints}
use Rattle.std.proofs.lemmas.Bool.{cases_cond}
use Rattle.std.specs.Int.{int_max, int_min}
use Rattle.std.specs.Prelude.{int_lt}
use Rattle.flow_measure.specs.Columns.{AreExtremes}
use Rattle.flow_measure.specs.Extremes.{joined}
use Rattle.flow_measure.specs.Summary.{IsGreatest, IsLeast}
use Rattle.flow_measure.specs.declared.columns.Extremes.{Extremes}

-- the least, with the number at one place more
pub IsLeast-more : (numbers : ℕ → ℤ) (before after : ℕ → Type 0) (new : ℕ) (x y : ℤ)
    → IsLeast numbers before x
    → ((i : ℕ) → before i → after i)
    → after new
    → ((i : ℕ) → after i → before i ⊎ (i ≡ new))
    → y ≡ int_min x (numbers new)
    → IsLeast numbers after y
IsLeast-more numbers before after new x y h keeps here split e =
    record {
      least = λ i p. elim (split i p) as (λ _. y ≤ℤ numbers i) [
        | inl old ↦ omega (arith, ints, clamps, h.least i old, e)
        | inr same ↦ omega (arith, ints, clamps, ap numbers same, e)
      ];
      reached = elim (cases_cond (int_lt (numbers new) x) (numbers new) x y e) as (λ _. (i : ℕ) × (after i) × (numbers i ≡ y)) [
        | inl lower ↦ (new, here, sym lower)
        | inr kept ↦ (h.reached.0, keeps h.reached.0 h.reached.1, h.reached.2 ∙ sym kept)
      ];
    }

-- the greatest, with the number at one place more
pub IsGreatest-more : (numbers : ℕ → ℤ) (before after : ℕ → Type 0) (new : ℕ) (x y : ℤ)
    → IsGreatest numbers before x
    → ((i : ℕ) → before i → after i)
    → after new
    → ((i : ℕ) → after i → before i ⊎ (i ≡ new))
    → y ≡ int_max x (numbers new)
    → IsGreatest numbers after y
IsGreatest-more numbers before after new x y h keeps here split e =
    record {
      greatest = λ i p. elim (split i p) as (λ _. numbers i ≤ℤ y) [
        | inl old ↦ omega (arith, ints, clamps, h.greatest i old, e)
        | inr same ↦ omega (arith, ints, clamps, ap numbers same, e)
      ];
      reached = elim (cases_cond (int_lt (numbers new) x) x (numbers new) y e) as (λ _. (i : ℕ) × (after i) × (numbers i ≡ y)) [
        | inl kept ↦ (h.reached.0, keeps h.reached.0 h.reached.1, h.reached.2 ∙ sym kept)
        | inr higher ↦ (new, here, sym higher)
      ];
    }

-- the extremes of one place
pub AreExtremes-one : (numbers : ℕ → ℤ) (after : ℕ → Type 0) (new : ℕ) (e : Extremes)
    → after new
    → ((i : ℕ) → after i → i ≡ new)
    → e.least ≡ numbers new
    → e.greatest ≡ numbers new
    → AreExtremes numbers after e
AreExtremes-one numbers after new e here alone el eg =
    record {
      least = record {
        least = λ i p. omega (arith, ints, ap numbers (alone i p), el);
        reached = (new, here, sym el);
      };
      greatest = record {
        greatest = λ i p. omega (arith, ints, ap numbers (alone i p), eg);
        reached = (new, here, sym eg);
      };
    }

-- the same numbers at the same places
pub AreExtremes-same : (numbers : ℕ → ℤ) (before after : ℕ → Type 0) (e : Extremes)
    → ((i : ℕ) → before i → after i)
    → ((i : ℕ) → after i → before i)
    → AreExtremes numbers before e
    → AreExtremes numbers after e
AreExtremes-same numbers before after e to from h =
    record {
      least = record {
        least = λ i p. h.least.least i (from i p);
        reached = (h.least.reached.0, to h.least.reached.0 h.least.reached.1, h.least.reached.2);
      };
      greatest = record {
        greatest = λ i p. h.greatest.greatest i (from i p);
        reached = (h.greatest.reached.0, to h.greatest.reached.0 h.greatest.reached.1, h.greatest.reached.2);
      };
    }

-- the least and the greatest of numbers that are the same at those places
pub IsLeast-same : (numbers others : ℕ → ℤ) (places : ℕ → Type 0) (x : ℤ)
    → ((i : ℕ) → places i → others i ≡ numbers i)
    → IsLeast numbers places x
    → IsLeast others places x
IsLeast-same numbers others places x same h = record {
  least = λ i p. omega (arith, ints, same i p, h.least i p);
  reached = (h.reached.0, h.reached.1, same h.reached.0 h.reached.1 ∙ h.reached.2);
}

pub IsGreatest-same : (numbers others : ℕ → ℤ) (places : ℕ → Type 0) (x : ℤ)
    → ((i : ℕ) → places i → others i ≡ numbers i)
    → IsGreatest numbers places x
    → IsGreatest others places x
IsGreatest-same numbers others places x same h = record {
  greatest = λ i p. omega (arith, ints, same i p, h.greatest i p);
  reached = (h.reached.0, h.reached.1, same h.reached.0 h.reached.1 ∙ h.reached.2);
}

-- ---- the places of two columns

pub IsLeast-joined : (numbers : ℕ → ℤ) (before other after : ℕ → Type 0) (x y : ℤ)
    → IsLeast numbers before x
    → IsLeast numbers other y
    → ((i : ℕ) → before i → after i)
    → ((i : ℕ) → other i → after i)
    → ((i : ℕ) → after i → before i ⊎ other i)
    → IsLeast numbers after (int_min x y)
IsLeast-joined numbers before other after x y h g keeps adds split =
    record {
      least = λ i p. elim (split i p) as (λ _. int_min x y ≤ℤ numbers i) [
        | inl old ↦ omega (arith, ints, clamps, h.least i old)
        | inr new ↦ omega (arith, ints, clamps, g.least i new)
      ];
      reached = elim (cases_cond (int_lt y x) y x (int_min x y) refl) as (λ _. (i : ℕ) × (after i) × (numbers i ≡ int_min x y)) [
        | inl lower ↦ (g.reached.0, adds g.reached.0 g.reached.1, g.reached.2 ∙ sym lower)
        | inr kept ↦ (h.reached.0, keeps h.reached.0 h.reached.1, h.reached.2 ∙ sym kept)
      ];
    }

pub IsGreatest-joined : (numbers : ℕ → ℤ) (before other after : ℕ → Type 0) (x y : ℤ)
    → IsGreatest numbers before x
    → IsGreatest numbers other y
    → ((i : ℕ) → before i → after i)
    → ((i : ℕ) → other i → after i)
    → ((i : ℕ) → after i → before i ⊎ other i)
    → IsGreatest numbers after (int_max x y)
IsGreatest-joined numbers before other after x y h g keeps adds split =
    record {
      greatest = λ i p. elim (split i p) as (λ _. numbers i ≤ℤ int_max x y) [
        | inl old ↦ omega (arith, ints, clamps, h.greatest i old)
        | inr new ↦ omega (arith, ints, clamps, g.greatest i new)
      ];
      reached = elim (cases_cond (int_lt y x) x y (int_max x y) refl) as (λ _. (i : ℕ) × (after i) × (numbers i ≡ int_max x y)) [
        | inl kept ↦ (h.reached.0, keeps h.reached.0 h.reached.1, h.reached.2 ∙ sym kept)
        | inr higher ↦ (g.reached.0, adds g.reached.0 g.reached.1, g.reached.2 ∙ sym higher)
      ];
    }

pub AreExtremes-joined : (numbers : ℕ → ℤ) (before other after : ℕ → Type 0) (a b : Extremes)
    → AreExtremes numbers before a
    → AreExtremes numbers other b
    → ((i : ℕ) → before i → after i)
    → ((i : ℕ) → other i → after i)
    → ((i : ℕ) → after i → before i ⊎ other i)
    → AreExtremes numbers after (joined a b)
AreExtremes-joined numbers before other after a b h g keeps adds split = record {
  least = IsLeast-joined numbers before other after a.least b.least h.least g.least keeps adds split;
  greatest = IsGreatest-joined numbers before other after a.greatest b.greatest h.greatest g.greatest keeps adds split;
}
