-- Numbers and the names of files, as the code tests them.
use Rattle.std.proofs.Common.{◌≡◌, ◌∙◌, ◌&&◌, ◌<◌, ◌≤◌, ◌^◌, Bool, true, false, cond, refl, sym, ap, ap₂, List, [], ◌∷◌, ◌++◌, map, length, Some, None, ℕ}
use Rattle.std.proofs.Common.{Result, Ok, Err, zero, suc, arith}
use Rattle.std.specs.Prelude.{nat_le, nat_lt}
use Rattle.std.specs.Borrow.{Bor}
use Rattle.std.specs.Char.{is_ascii_digit}
use Rattle.std.specs.List.{list_all, slice_index_or}
use Rattle.std.specs.Result.{OkIff, result_ok}
use Rattle.std.specs.Str.Parse.{ParsesUnsigned, digits_value}
use Rattle.std.proofs.lemmas.Bool.{leb-true, le-leb, lt-ltb, ltb-true}
use Rattle.std.proofs.lemmas.Str.Parse.{IsDigitsTest, numerals_by_value, parse_digits}
use Rattle.timing_base.specs.Name.{is_file_name}
use Rattle.timing_words.specs.Line.{Text}
use Rattle.timing_words.specs.Request.{file_name, file_names, is_numeral, passing, written}

pub both_true : (a b : Bool) → (a && b) ≡ true → (a ≡ true) × (b ≡ true)
both_true true b e = (refl, e)
both_true false b e = cc

pub and_true : (a b : Bool) → a ≡ true → b ≡ true → (a && b) ≡ true
and_true a b e f = ap₂ (λ x y. x && y) e f

not_true : (b : Bool) → (b ≡ true → ⊥) → b ≡ false
not_true true h = absurd (h refl)
not_true false h = refl

-- ---- numbers

abbrev AreDigits : Text → Type 0
AreDigits ds = list_all is_ascii_digit ds ≡ true

tells_digits : IsDigitsTest AreDigits
tells_digits = record {
  empty = refl;
  parts = λ c cs e.
      let k = both_true (is_ascii_digit c) (list_all is_ascii_digit cs) e in
      let m = both_true (nat_le 48 c) (nat_le c 57) k.0 in
      ((leb-true 48 c m.0, leb-true c 57 m.1), k.1);
  more = λ c cs k e. and_true (is_ascii_digit c) (list_all is_ascii_digit cs) (and_true (nat_le 48 c) (nat_le c 57) (le-leb 48 c k.0) (le-leb c 57 k.1)) e;
}

-- what a parse of a numeral gives
pub written_is : {E : Type 0} (t : Text) (r : Result ℕ E) → is_numeral t ≡ true → ParsesUnsigned 64 10 t r → result_ok r ≡ written t
written_is {E} t r numeral parses =
    let first = both_true (nat_le 1 (length t)) _ numeral in
    let second = both_true (nat_le (length t) 20) (list_all is_ascii_digit t) first.1 in
    go r (parse_digits (numerals_by_value AreDigits tells_digits) 64 t r parses second.1) (leb-true 1 (length t) first.0)
  where
    go : (r : Result ℕ E) → OkIff r ((0 < length t) × (digits_value 10 t < 2 ^ 64)) (digits_value 10 t) → 1 ≤ length t → result_ok r ≡ written t
    go (Ok n) h some =
        let fits : (is_numeral t && nat_lt (digits_value 10 t) (2 ^ 64)) ≡ true =
        and_true (is_numeral t) _ numeral (lt-ltb (digits_value 10 t) (2 ^ 64) h.0.1) in
        ap (λ x. Some x) h.1 ∙ sym (ap (λ b. cond b (Some (digits_value 10 t)) None) fits)
    go (Err e) h some =
        let over : nat_lt (digits_value 10 t) (2 ^ 64) ≡ false = not_true _ (λ fits. h (omega arith, ltb-true (digits_value 10 t) (2 ^ 64) fits)) in
        let no : (is_numeral t && nat_lt (digits_value 10 t) (2 ^ 64)) ≡ false = ap₂ (λ a b. a && b) numeral over in
        sym (ap (λ b. cond b (Some (digits_value 10 t)) None) no)

-- ---- names of files

-- what `file_name` gives
pub name_given : (t n : Text) → file_name t ≡ Some n → (is_file_name t ≡ true) × (n ≡ t)
name_given t n e = go (is_file_name t) refl e
  where
    go : (b : Bool) → is_file_name t ≡ b → passing b t ≡ Some n → (is_file_name t ≡ true) × (n ≡ t)
    go true p e = let same : t ≡ n = cc in (p, sym same)
    go false p e = cc

pub name_refused : (t : Text) → file_name t ≡ None → is_file_name t ≡ false
name_refused t e = go (is_file_name t) refl e
  where
    go : (b : Bool) → is_file_name t ≡ b → passing b t ≡ None → is_file_name t ≡ false
    go true p e = cc
    go false p e = p

-- a name that is refused refuses the list
pub names_refused : (xs : List (Bor Text)) (i : ℕ) (d : Bor Text) → i < length xs → is_file_name (slice_index_or xs i d).now ≡ false
    → list_all is_file_name (map (λ s. s.now) xs) ≡ false
names_refused [] i d lt e = absurd (omega arith)
names_refused (x ∷ xs) zero d lt e = ap (λ b. b && list_all is_file_name (map (λ s. s.now) xs)) e
names_refused (x ∷ xs) (suc i) d lt e = go (is_file_name x.now) (names_refused xs i d (omega arith) e)
  where
    go : (b : Bool) → list_all is_file_name (map (λ s. s.now) xs) ≡ false → (b && list_all is_file_name (map (λ s. s.now) xs)) ≡ false
    go true rest = rest
    go false rest = refl

-- one name more
pub now_more : (xs : List (Bor Text)) (x : Bor Text) → map (λ s. s.now) (xs ++ x ∷ []) ≡ map (λ s. s.now) xs ++ x.now ∷ []
now_more [] x = refl
now_more (y ∷ ys) x = ap (λ zs. y.now ∷ zs) (now_more ys x)

pub passes_more : (ts : List Text) (t : Text) → list_all is_file_name ts ≡ true → is_file_name t ≡ true → list_all is_file_name (ts ++ t ∷ []) ≡ true
passes_more [] t all e = and_true (is_file_name t) true e refl
passes_more (u ∷ us) t all e =
    let k = both_true (is_file_name u) (list_all is_file_name us) all in
    and_true (is_file_name u) (list_all is_file_name (us ++ t ∷ [])) k.0 (passes_more us t k.1 e)

pub list_refused : (xs : List (Bor Text)) (i : ℕ) (d : Bor Text) (most : ℕ) → file_name (slice_index_or xs i d).now ≡ None → i < length xs
    → file_names most (map (λ s. s.now) xs) ≡ None
list_refused xs i d most e lt =
    let bad = names_refused xs i d lt (name_refused (slice_index_or xs i d).now e) in
    ap (λ b. passing (nat_le 1 (length (map (λ (s : Bor Text). s.now) xs)) && (nat_le (length (map (λ (s : Bor Text). s.now) xs)) most && b))
    (map (λ s. s.now) xs)) bad
    ∙ go (nat_le 1 (length (map (λ (s : Bor Text). s.now) xs))) (nat_le (length (map (λ (s : Bor Text). s.now) xs)) most)
  where
    go : (a b : Bool) → passing (a && (b && false)) (map (λ (s : Bor Text). s.now) xs) ≡ None
    go true true = refl
    go true false = refl
    go false b = refl
