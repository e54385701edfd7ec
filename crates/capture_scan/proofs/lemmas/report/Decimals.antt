-- Decimal numbers, as a description reads them.
use Rattle.std.proofs.Common.{◌≡◌, ◌≢◌, ◌∙◌, ℕ, ◌+◌, ◌-◌, ◌*◌, ◌%◌, ◌^◌, ◌<◌, ◌≤◌, Bool, true, false, ◌==◌, ◌&&◌, [], ◌∷◌, length, refl, ap, ap₂}
use Rattle.std.proofs.Common.{arith, Some, None}
use Rattle.std.specs.Prelude.{if◌then◌else◌, nat_le, not}
use Rattle.std.specs.Option.{option_and_then}
use Rattle.std.specs.Fmt.{decimal}
use Rattle.std.specs.List.{list_all}
use Rattle.std.proofs.lemmas.Fmt.{decimal_by_steps, decimal_nonempty, length-decimal-le}
use Rattle.std.proofs.lemmas.List.Sums.{fold_push}
use Rattle.std.proofs.lemmas.Bool.Decides.{nat_tests}
use Rattle.sdp_reader.specs.Bytes.{digits_of, is_digit, number, number_within, value_of, within}
use Rattle.capture_scan.proofs.lemmas.report.Cutting.{all-append, and_true, lacks}

-- each byte of a decimal number is a digit
pub digits-all : (p : ℕ → Bool) → ((d : ℕ) → d < 10 → p (48 + d) ≡ true) → (n : ℕ) → n < 2 ^ 64 → list_all p (decimal n) ≡ true
digits-all p h n small =
    decimal_by_steps (λ m ds. list_all p ds ≡ true) (λ m l. and_true (p (48 + m)) true (h m l) refl)
    (λ m ds l so. all-append p ds ((48 + m % 10) ∷ []) so (and_true (p (48 + m % 10)) true (h (m % 10) (omega arith)) refl)) n small

different : (x c : ℕ) → x ≢ c → not (x == c) ≡ true
different x c ne = let e : (x == c) ≡ false = grind (arith, nat_tests) in ap not e

-- so none is a byte that is no digit
pub digit-above : (d c : ℕ) → c < 48 → not (48 + d == c) ≡ true
digit-above d c low = different (48 + d) c (λ e. omega (arith, e, low))

pub digit-below : (d c : ℕ) → d < 10 → 57 < c → not (48 + d == c) ≡ true
digit-below d c l high = different (48 + d) c (λ e. omega (arith, e, l, high))

pub below-digits : (c n : ℕ) → c < 48 → n < 2 ^ 64 → lacks c (decimal n) ≡ true
below-digits c n low small = digits-all (λ x. not (x == c)) (λ d l. digit-above d c low) n small

pub above-digits : (c n : ℕ) → 57 < c → n < 2 ^ 64 → lacks c (decimal n) ≡ true
above-digits c n high small = digits-all (λ x. not (x == c)) (λ d l. digit-below d c l high) n small

pub at_most : (a b : ℕ) → a ≤ b → nat_le a b ≡ true
at_most a b h = grind (arith, nat_tests)

digits-are : (n : ℕ) → n < 2 ^ 64 → list_all is_digit (decimal n) ≡ true
digits-are n small =
    digits-all is_digit (λ d l. and_true (nat_le 48 (48 + d)) (nat_le (48 + d) 57) (at_most 48 (48 + d) (omega arith))
    (at_most (48 + d) 57 (omega (arith, l)))) n small

value-is : (n : ℕ) → n < 2 ^ 64 → value_of (decimal n) ≡ n
value-is n small =
    decimal_by_steps (λ m ds. value_of ds ≡ m) (λ m l. omega arith)
    (λ m ds l so. fold_push (λ k b. k * 10 + (b - 48)) 0 ds (48 + m % 10) ∙ ap (λ k. k * 10 + (48 + m % 10 - 48)) so ∙ omega arith) n small

pub read-digits : (most n : ℕ) → n < 2 ^ 64 → length (decimal n) ≤ most → digits_of most (decimal n) ≡ Some n
read-digits most n small fits =
    let some : nat_le 1 (length (decimal n)) ≡ true = at_most 1 (length (decimal n)) (decimal_nonempty n small) in
    let few : nat_le (length (decimal n)) most ≡ true = at_most (length (decimal n)) most fits in
    let ds = decimal n in
    ap (λ (a : Bool). if a && nat_le (length ds) most && list_all is_digit ds then Some (value_of ds) else None) some
    ∙ ap (λ (b : Bool). if true && b && list_all is_digit ds then Some (value_of ds) else None) few
    ∙ ap (λ (c : Bool). if true && true && c then Some (value_of ds) else None) (digits-are n small)
    ∙ ap Some (value-is n small)

-- a number below 10^10
pub read-number : (n : ℕ) → n < 10 ^ 10 → number (decimal n) ≡ Some n
read-number n small = read-digits 10 n (omega arith) (length-decimal-le 10 n (omega arith) small (omega arith))

pub within-is : (low high n : ℕ) → low ≤ n → n ≤ high → within low high n ≡ Some n
within-is low high n least most =
    let l : nat_le low n ≡ true = at_most low n least in
    let m : nat_le n high ≡ true = at_most n high most in
    ap₂ (λ (a b : Bool). if a && b then Some n else None) l m

pub read-within : (low high n : ℕ) → n < 10 ^ 10 → low ≤ n → n ≤ high → number_within low high (decimal n) ≡ Some n
read-within low high n small least most = ap (option_and_then (within low high)) (read-number n small) ∙ within-is low high n least most
