-- What is mapped has what its values have.
use Rattle.std.proofs.Common.{◌≡◌, ◌<◌, ◌+◌, ℕ, zero, suc, List, [], ◌∷◌, length, refl, arith}
use Rattle.std.specs.Prelude.{All, Option, Some, None, get_or, map, option_map}
use Rattle.std.specs.Option.{IfSome}
use Rattle.std.proofs.lemmas.List.Elements.{All-cons}
use Rattle.flow_measure.specs.declared.numbers.KindNumbers.{KindNumbers}
use Rattle.flow_measure.specs.report.Told.{kind_told}
use Rattle.measure_reader.specs.Fits.{FitsToldKind}

pub IfSome-map : {X Y : Type 0} (f : X → Y) (P : Y → Type 0) (found : Option X) → IfSome found (λ x. P (f x)) → IfSome (option_map f found) P
IfSome-map f P None h = h
IfSome-map f P (Some x) h = h

none : {X : Type 0} (P : X → Type 0) → All P []
none P = λ k d l. absurd (omega (arith, l))

-- three types
pub three_fit : (ks : List KindNumbers) → length ks ≡ 3 → (d e f : KindNumbers) → FitsToldKind (kind_told (get_or ks 0 d))
    → FitsToldKind (kind_told (get_or ks 1 e)) → FitsToldKind (kind_told (get_or ks 2 f)) → All FitsToldKind (map kind_told ks)
three_fit [] long d e f n l w = absurd (omega (arith, long))
three_fit (a ∷ []) long d e f n l w = absurd (omega (arith, long))
three_fit (a ∷ b ∷ []) long d e f n l w = absurd (omega (arith, long))
three_fit (a ∷ b ∷ c ∷ []) long d e f n l w =
    All-cons FitsToldKind (kind_told a) (kind_told b ∷ kind_told c ∷ []) n
    (All-cons FitsToldKind (kind_told b) (kind_told c ∷ []) l (All-cons FitsToldKind (kind_told c) [] w (none FitsToldKind)))
three_fit (a ∷ b ∷ c ∷ x ∷ more) long d e f n l w = absurd (omega (arith, long))

pub three_long : (ks : List KindNumbers) → length ks ≡ 3 → length (map kind_told ks) ≡ 3
three_long [] long = absurd (omega (arith, long))
three_long (a ∷ []) long = absurd (omega (arith, long))
three_long (a ∷ b ∷ []) long = absurd (omega (arith, long))
three_long (a ∷ b ∷ c ∷ []) long = refl
three_long (a ∷ b ∷ c ∷ x ∷ more) long = absurd (omega (arith, long))

-- a list each value of which has what it is mapped for
pub all_mapped : {X Y : Type 0} (f : X → Y) (P : Y → Type 0) (xs : List X) → ((k : ℕ) (d : X) → k < length xs → P (f (get_or xs k d))) → All P (map f xs)
all_mapped f P [] h = none P
all_mapped f P (x ∷ xs) h = All-cons P (f x) (map f xs) (h 0 x (omega arith)) (all_mapped f P xs (λ k d l. h (suc k) d (omega (arith, l))))

-- what holds before an index, and at it, holds before the next one
pub all_before : {X : Type 0} (P : X → Type 0) (xs : List X) (n : ℕ) (e : X) → n < length xs → ((k : ℕ) (d : X) → k < n → P (get_or xs k d))
    → P (get_or xs n e) → (k : ℕ) (d : X) → k < n + 1 → P (get_or xs k d)
all_before P [] n e lt h p k d l = absurd (omega (arith, lt))
all_before P (x ∷ xs) zero e lt h p zero d l = p
all_before P (x ∷ xs) zero e lt h p (suc k) d l = absurd (omega (arith, l))
all_before P (x ∷ xs) (suc n) e lt h p zero d l = h zero d (omega arith)
all_before P (x ∷ xs) (suc n) e lt h p (suc k) d l =
    all_before P xs n e (omega (arith, lt)) (λ j c m. h (suc j) c (omega (arith, m))) p k d (omega (arith, l))
