-- A decimal number is read back as itself, where no digit follows.
use Rattle.std.proofs.Common.{◌≡◌, ◌∙◌, ℕ, ◌+◌, ◌-◌, ◌*◌, ◌%◌, ◌^◌, ◌<◌, ◌≤◌, Bool, true, false, ◌==◌, ◌&&◌, List, [], ◌∷◌, ◌++◌, refl, ap}
use Rattle.std.proofs.Common.{arith}
use Rattle.std.specs.Prelude.{if◌then◌else◌, nat_le, not, Option, None, fold}
use Rattle.std.specs.Fmt.{decimal}
use Rattle.std.specs.List.{list_all}
use Rattle.std.proofs.lemmas.Fmt.{decimal_by_steps_wide}
use Rattle.std.proofs.lemmas.List.Sums.{fold_push}
use Rattle.std.proofs.lemmas.Bool.{false≢true}
use Rattle.std.proofs.lemmas.Bool.Decides.{nat_tests}
use Rattle.sdp_reader.specs.Bytes.{is_digit, value_of}
use Rattle.report_reader.specs.Pieces.{begins_with_digit, digits_after, number, line, onto_line}

pub both_true : (a b : Bool) → (a && b) ≡ true → (a ≡ true) × (b ≡ true)
both_true true b h = (refl, h)
both_true false b h = cc

and_true : (a b : Bool) → a ≡ true → b ≡ true → (a && b) ≡ true
and_true a b h k = rw (h, k) refl

all-append : (p : ℕ → Bool) (xs ys : List ℕ) → list_all p xs ≡ true → list_all p ys ≡ true → list_all p (xs ++ ys) ≡ true
all-append p [] ys h k = k
all-append p (x ∷ xs) ys h k =
    let b = both_true (p x) (list_all p xs) h in
    and_true (p x) (list_all p (xs ++ ys)) b.0 (all-append p xs ys b.1 k)

at_most : (a b : ℕ) → a ≤ b → nat_le a b ≡ true
at_most a b h = grind (arith, nat_tests)

digit_is : (d : ℕ) → d < 10 → is_digit (48 + d) ≡ true
digit_is d l = and_true (nat_le 48 (48 + d)) (nat_le (48 + d) 57) (at_most 48 (48 + d) (omega arith)) (at_most (48 + d) 57 (omega (arith, l)))

digits_are : (n : ℕ) → n < 10 ^ 64 → list_all is_digit (decimal n) ≡ true
digits_are n small =
    decimal_by_steps_wide (λ m ds. list_all is_digit ds ≡ true) (λ m l. and_true (is_digit (48 + m)) true (digit_is m l) refl)
    (λ m ds l so. all-append is_digit ds ((48 + m % 10) ∷ []) so (and_true (is_digit (48 + m % 10)) true (digit_is (m % 10) (omega arith)) refl)) n small

value_is : (n : ℕ) → n < 10 ^ 64 → value_of (decimal n) ≡ n
value_is n small =
    decimal_by_steps_wide (λ m ds. value_of ds ≡ m) (λ m l. omega arith)
    (λ m ds l so. fold_push (λ k b. k * 10 + (b - 48)) 0 ds (48 + m % 10) ∙ ap (λ k. k * 10 + (48 + m % 10 - 48)) so ∙ omega arith) n small

-- the digits end where no digit follows
ends_here : {B : Type 0} (value : ℕ) (next : ℕ → List ℕ → Option B) (rest : List ℕ) → begins_with_digit rest ≡ false
    → digits_after value next rest ≡ next value rest
ends_here value next [] h = refl
ends_here value next (b ∷ rest) h = rw h refl

digits_back : {B : Type 0} (value : ℕ) (next : ℕ → List ℕ → Option B) (ds rest : List ℕ) → list_all is_digit ds ≡ true
    → begins_with_digit rest ≡ false
    → digits_after value next (ds ++ rest) ≡ next (fold (λ n b. n * 10 + (b - 48)) value ds) rest
digits_back value next [] rest h e = ends_here value next rest e
digits_back value next (d ∷ ds) rest h e =
    let b = both_true (is_digit d) (list_all is_digit ds) h in
    rw b.0 (digits_back (value * 10 + (d - 48)) next ds rest b.1 e)

begins_on : (ds rest : List ℕ) → begins_with_digit ds ≡ true → begins_with_digit (ds ++ rest) ≡ true
begins_on [] rest h = absurd (false≢true h)
begins_on (d ∷ ds) rest h = h

-- a number begins with a digit
pub begins_decimal : (n : ℕ) → n < 10 ^ 64 → begins_with_digit (decimal n) ≡ true
begins_decimal n small =
    decimal_by_steps_wide (λ m ds. begins_with_digit ds ≡ true) (λ m l. digit_is m l) (λ m ds l so. begins_on ds ((48 + m % 10) ∷ []) so) n small

-- the number that is printed is the one that is read, whatever integer type it has
pub wide_back : {B : Type 0} (next : ℕ → List ℕ → Option B) (n : ℕ) (rest : List ℕ) → n < 10 ^ 64 → begins_with_digit rest ≡ false
    → number next (decimal n ++ rest) ≡ next n rest
unfolding number
wide_back next n rest small e =
    ap (λ b. if b then digits_after 0 next (decimal n ++ rest) else None) (begins_on (decimal n) rest (begins_decimal n small))
    ∙ digits_back 0 next (decimal n) rest (digits_are n small) e ∙ ap (λ m. next m rest) (value_is n small)

-- the same of a number of 64 bits
pub number_back : {B : Type 0} (next : ℕ → List ℕ → Option B) (n : ℕ) (rest : List ℕ) → n < 2 ^ 64 → begins_with_digit rest ≡ false
    → number next (decimal n ++ rest) ≡ next n rest
number_back next n rest small e = wide_back next n rest (omega (arith, small)) e

-- a byte above the control characters
no_newline : (b : ℕ) → nat_le 32 b ≡ true → (b == 10) ≡ false
no_newline b h = grind (arith, nat_tests)

-- a line is read up to its newline
pub line_back : {B : Type 0} (next : List ℕ → List ℕ → Option B) (xs rest : List ℕ) → list_all (λ b. nat_le 32 b && not (b == 127)) xs ≡ true
    → line next (xs ++ 10 ∷ rest) ≡ next xs rest
unfolding line
line_back next [] rest h = refl
line_back next (x ∷ xs) rest h =
    let b = both_true (nat_le 32 x && not (x == 127)) (list_all (λ b. nat_le 32 b && not (b == 127)) xs) h in
    rw (no_newline x (both_true (nat_le 32 x) (not (x == 127)) b.0).0) (line_back (onto_line x next) xs rest b.1)
