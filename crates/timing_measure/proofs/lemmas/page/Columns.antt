-- Any numbers have columns.
use Rattle.std.proofs.Common.{◌≡◌, ◌≤◌, ◌<◌, ◌+◌, ◌*◌, ◌/◌, ◌%◌, ℕ, zero, suc, ℤ, pos, ◌⊎◌, inl, inr, List, [], ◌∷◌, length, refl, ap, ◌∙◌, sym, subst, arith}
use Rattle.std.specs.Int.{div_ceil, int_max, int_min}
use Rattle.std.proofs.Math.Nat.{div-mul-le_self, mod-eq_of_lt, mod-lt, mul-le-mul_right}
use Rattle.std.proofs.lemmas.Bool.{cases_eq, cases_lt}
use Rattle.std.proofs.lemmas.Grind.{div_ceil_times}
use Rattle.std.proofs.lemmas.Int.{ints}
use Rattle.sender_params.proofs.Parts.{quotient-exact}
use Rattle.flow_measure.specs.Columns.{AreColumns, AreCurve, AreExtremes, AreEye, column_at, places_in, strip_of, width_of}
use Rattle.flow_measure.specs.declared.columns.Extremes.{Extremes}
use Rattle.flow_measure.proofs.Bounds.{IsGreatest-more, IsLeast-more}
use Rattle.flow_measure.proofs.Widths.{ceil-some, width-some}

-- a column of the first so many numbers is empty, or has a least and a greatest
abbrev Found : (column_of : ℕ → ℕ) → (numbers : ℕ → ℤ) → (count c : ℕ) → Type 0
Found column_of numbers count c =
    ((i : ℕ) → places_in column_of count c i → ⊥) ⊎ ((e : Extremes) × AreExtremes numbers (places_in column_of count c) e)

split : (column_of : ℕ → ℕ) (k c i : ℕ) → places_in column_of (suc k) c i → places_in column_of k c i ⊎ (i ≡ k)
split column_of k c i p = elim (cases_eq i k) as (λ _. places_in column_of k c i ⊎ (i ≡ k)) [
  | inl same ↦ inr same
  | inr other ↦ inl (omega (arith, p.0, other), p.1)
]

still : (column_of : ℕ → ℕ) (k c : ℕ) → (column_of k ≡ c → ⊥) → (i : ℕ) → places_in column_of (suc k) c i → places_in column_of k c i
still column_of k c other i p = elim (cases_eq i k) as (λ _. places_in column_of k c i) [
  | inl same ↦ absurd (other (ap column_of (sym same) ∙ p.1))
  | inr less ↦ (omega (arith, p.0, less), p.1)
]

keeps : (column_of : ℕ → ℕ) (k c i : ℕ) → places_in column_of k c i → places_in column_of (suc k) c i
keeps column_of k c i p = (omega (arith, p.0), p.1)

other-column : (column_of : ℕ → ℕ) (numbers : ℕ → ℤ) (k c : ℕ) → (column_of k ≡ c → ⊥) → Found column_of numbers k c → Found column_of numbers (suc k) c
other-column column_of numbers k c other (inl none) = inl (λ i p. none i (still column_of k c other i p))
other-column column_of numbers k c other (inr e) = inr (
  e.0,
  record {
    least = record {
      least = λ i p. e.1.least.least i (still column_of k c other i p);
      reached = (e.1.least.reached.0, keeps column_of k c e.1.least.reached.0 e.1.least.reached.1, e.1.least.reached.2);
    };
    greatest = record {
      greatest = λ i p. e.1.greatest.greatest i (still column_of k c other i p);
      reached = (e.1.greatest.reached.0, keeps column_of k c e.1.greatest.reached.0 e.1.greatest.reached.1, e.1.greatest.reached.2);
    };
  },
)

this-column : (column_of : ℕ → ℕ) (numbers : ℕ → ℤ) (k c : ℕ) → column_of k ≡ c → Found column_of numbers k c → Found column_of numbers (suc k) c
this-column column_of numbers k c same (inl none) = inr (
  record { least = numbers k; greatest = numbers k },
  record {
    least = record { least = λ i p. omega (arith, ints, ap numbers (only i p)); reached = (k, (omega arith, same), refl) };
    greatest = record { greatest = λ i p. omega (arith, ints, ap numbers (only i p)); reached = (k, (omega arith, same), refl) };
  },
)
  where
    only : (i : ℕ) → places_in column_of (suc k) c i → i ≡ k
    only i p = elim (split column_of k c i p) as (λ _. i ≡ k) [
      | inl old ↦ absurd (none i old)
      | inr new ↦ new
    ]
this-column column_of numbers k c same (inr e) =
    let low = int_min e.0.least (numbers k) in
    let high = int_max e.0.greatest (numbers k) in
    inr (
      record { least = low; greatest = high },
      record {
        least = IsLeast-more numbers (places_in column_of k c) (places_in column_of (suc k) c) k e.0.least low e.1.least (keeps column_of k c)
            (omega arith, same) (split column_of k c) refl;
        greatest = IsGreatest-more numbers (places_in column_of k c) (places_in column_of (suc k) c) k e.0.greatest high e.1.greatest (keeps column_of k c)
            (omega arith, same) (split column_of k c) refl;
      },
    )

found : (column_of : ℕ → ℕ) (numbers : ℕ → ℤ) (count c : ℕ) → Found column_of numbers count c
found column_of numbers zero c = inl (λ i p. absurd (omega (arith, p.0)))
found column_of numbers (suc k) c = elim (cases_eq (column_of k) c) as (λ _. Found column_of numbers (suc k) c) [
  | inl same ↦ this-column column_of numbers k c same (found column_of numbers k c)
  | inr other ↦ other-column column_of numbers k c other (found column_of numbers k c)
]

-- its extremes, and where it is empty any
abbrev pick : (column_of : ℕ → ℕ) (numbers : ℕ → ℤ) (count c : ℕ) → Found column_of numbers count c → Extremes
pick column_of numbers count c (inl none) = record { least = pos 0; greatest = pos 0 }
pick column_of numbers count c (inr e) = e.0

picked : (column_of : ℕ → ℕ) (numbers : ℕ → ℤ) (count c i : ℕ) (f : Found column_of numbers count c) → places_in column_of count c i
    → AreExtremes numbers (places_in column_of count c) (pick column_of numbers count c f)
picked column_of numbers count c i (inl none) p = absurd (none i p)
picked column_of numbers count c i (inr e) p = e.1

-- a list of so many
abbrev list-of : (f : ℕ → Extremes) (k l : ℕ) → List Extremes
list-of f k zero = []
list-of f k (suc l) = f k ∷ list-of f (k + 1) l

list-long : (f : ℕ → Extremes) (k l : ℕ) → length (list-of f k l) ≡ l
list-long f k zero = refl
list-long f k (suc l) = ap suc (list-long f (k + 1) l)

list-at : (f : ℕ → Extremes) (k l c : ℕ) → c < l → column_at (list-of f k l) c ≡ f (k + c)
list-at f k zero c few = absurd (omega (arith, few))
list-at f k (suc l) zero few = ap f (omega arith)
list-at f k (suc l) (suc c) few = list-at f (k + 1) l c (omega (arith, few)) ∙ ap f (omega arith)

some-columns : (column_of : ℕ → ℕ) (numbers : ℕ → ℤ) (count long : ℕ) → ((i : ℕ) → i < count → column_of i < long)
    → ((c : ℕ) → c < long → (i : ℕ) × places_in column_of count c i) → (columns : List Extremes) × AreColumns column_of numbers count columns
some-columns column_of numbers count long within reached =
    let f : ℕ → Extremes = λ c. pick column_of numbers count c (found column_of numbers count c) in
    let size = list-long f 0 long in (
      list-of f 0 long,
      record {
        within = λ i few. omega (arith, within i few, size);
        each = λ c few.
            let low : c < long = omega (arith, few, size) in
            let at : column_at (list-of f 0 long) c ≡ f c = list-at f 0 long c low ∙ ap f (omega arith) in
            subst (AreExtremes numbers (places_in column_of count c)) (sym at)
            (picked column_of numbers count c (reached c low).0 (found column_of numbers count c) (reached c low).1);
      },
    )

-- places in strips of a width
strip-within : (size w j : ℕ) → 1 ≤ w → j < size → j / w < div_ceil size w
strip-within size w j some few =
    let fits = (div_ceil_times size w (omega (arith, some))).0 in
    elim (cases_lt (j / w) (div_ceil size w)) as (λ _. j / w < div_ceil size w) [
      | inl less ↦ less
      | inr past ↦
          let p : div_ceil size w * w ≤ j / w * w = mul-le-mul_right w (omega (arith, past)) in
          absurd (omega (arith, p, div-mul-le_self j w, fits, few))
    ]

strip-begins : (size w c : ℕ) → 1 ≤ w → c < div_ceil size w → c * w < size
strip-begins size w c some few =
    let back = (div_ceil_times size w (omega (arith, some))).1 in
    let p : (c + 1) * w ≤ div_ceil size w * w = mul-le-mul_right w (omega (arith, few)) in
    omega (arith, p, back)

pub some-curve : (most : ℕ) (numbers : ℕ → ℤ) (count : ℕ) → 1 ≤ most → (columns : List Extremes) × AreCurve most numbers count columns
some-curve most numbers zero some = ([], record { within = λ i few. absurd (omega (arith, few)); each = λ c few. absurd (omega (arith, few)) })
some-curve most numbers (suc k) some =
    let count = suc k in
    let w = width_of count most in
    let wide : 1 ≤ w = width-some count most in
    some-columns (λ i. i / w) numbers count (div_ceil count w) (λ i few. strip-within count w i wide few)
    (λ c few. (c * w, (strip-begins count w c wide few, quotient-exact c w (c * w) wide refl)))

pub some-eye : (n most : ℕ) (numbers : ℕ → ℤ) (count : ℕ) → 1 ≤ n → n ≤ count → 1 ≤ most → (columns : List Extremes) × AreEye n most numbers count columns
some-eye n most numbers count some fits few =
    let w = strip_of n most in
    let wide : 1 ≤ w = ceil-some n most some few in
    some-columns (λ i. (i % n) / w) numbers count (div_ceil n w) (λ i low. strip-within n w (i % n) wide (mod-lt i (omega (arith, some))))
    (λ c low.
    let begins = strip-begins n w c wide low in
    (c * w, (omega (arith, begins, fits), ap (λ x. x / w) (mod-eq_of_lt begins) ∙ quotient-exact c w (c * w) wide refl)))
