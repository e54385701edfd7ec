-- The bytes of a line: splitting, trimming and numbers.
use Rattle.std.specs.Prelude.{ℕ, ◌+◌, ◌-◌, ◌*◌, ◌==◌, ◌&&◌, ◌||◌, Bool, nat_lt, nat_le, if◌then◌else◌, List, [], ◌∷◌}
use Rattle.std.specs.Prelude.{length, fold, Option, Some, None}
use Rattle.std.specs.Option.{option_and_then}
use Rattle.std.specs.List.{list_all, before_first, after_first, position_or_len}

-- the text before the first byte c, or all of it if there is none
abbrev pub before : ℕ → List ℕ → List ℕ
before c xs = before_first (λ x. x == c) xs

-- the text after the first byte c, or nothing if there is none
abbrev pub after : ℕ → List ℕ → List ℕ
after c xs = after_first (λ x. x == c) xs

-- whether the byte is in the text
abbrev pub holds : ℕ → List ℕ → Bool
holds c xs = nat_lt (position_or_len (λ x. x == c) xs) (length xs)

-- what follows a prefix, if the text begins with it
abbrev pub after_prefix : List ℕ → List ℕ → Option (List ℕ)
after_prefix [] xs = Some xs
after_prefix (p ∷ ps) [] = None
after_prefix (p ∷ ps) (x ∷ xs) = if x == p then after_prefix ps xs else None

-- a space or a tab
abbrev pub is_blank : ℕ → Bool
is_blank b = b == 32 || b == 9

-- the text without the spaces and tabs at its start
abbrev pub trim_start : List ℕ → List ℕ
trim_start [] = []
trim_start (x ∷ xs) = if is_blank x then trim_start xs else x ∷ xs

-- a byte put before a text that was trimmed at its end
abbrev pub onto_trimmed : ℕ → List ℕ → List ℕ
onto_trimmed x [] = if is_blank x then [] else x ∷ []
onto_trimmed x (y ∷ ys) = x ∷ y ∷ ys

-- the text without the spaces and tabs at its end
abbrev pub trim_end : List ℕ → List ℕ
trim_end [] = []
trim_end (x ∷ xs) = onto_trimmed x (trim_end xs)

-- the text without the spaces and tabs around it
abbrev pub trim : List ℕ → List ℕ
trim text = trim_start (trim_end text)

-- an ASCII digit
abbrev pub is_digit : ℕ → Bool
is_digit b = nat_le 48 b && nat_le b 57

-- the decimal value of digits
abbrev pub value_of : List ℕ → ℕ
value_of digits = fold (λ n b. n * 10 + (b - 48)) 0 digits

-- the value of 1 to `most` digits
abbrev pub digits_of : ℕ → List ℕ → Option ℕ
digits_of most xs = if nat_le 1 (length xs) && nat_le (length xs) most && list_all is_digit xs then Some (value_of xs)
    else None

-- a number has 1 to 10 digits
abbrev pub number : List ℕ → Option ℕ
number xs = digits_of 10 xs

-- the number, if it is in a range
abbrev pub within : ℕ → ℕ → ℕ → Option ℕ
within low high n = if nat_le low n && nat_le n high then Some n else None

-- a number from low to high
abbrev pub number_within : ℕ → ℕ → List ℕ → Option ℕ
number_within low high xs = option_and_then (within low high) (number xs)
