-- Readers of the pieces of a text: a word, a number, and the rest of a line. A reader is given what is to be done with
-- its value and the text after it. It gives none if the text doesn't begin with its piece.
use Rattle.std.specs.Prelude.{ℕ, ◌+◌, ◌-◌, ◌*◌, ◌==◌, Bool, false, if◌then◌else◌, List, [], ◌∷◌, Option, Some, None}
use Rattle.std.specs.Prelude.{option_and_then}
use Rattle.sdp_reader.specs.Bytes.{after_prefix, is_digit}

-- goes on after this piece
abbrev pub after : {B : Type 0} → List ℕ → (List ℕ → Option B) → List ℕ → Option B
after piece next text = option_and_then next (after_prefix piece text)

-- the first of two answers that there is
abbrev pub first_of : {B : Type 0} → (List ℕ → Option B) → Option B → Option (List ℕ) → Option B
first_of next other None = other
first_of next other (Some rest) = next rest

-- goes on in the first way if the text begins with this word, and else in the second
abbrev pub either : {B : Type 0} → List ℕ → (List ℕ → Option B) → (List ℕ → Option B) → List ℕ → Option B
either word next others text = first_of next (others text) (after_prefix word text)

-- the value of the first of these words that the text begins with
abbrev pub word : {X B : Type 0} → List (List ℕ × X) → (X → List ℕ → Option B) → List ℕ → Option B
word [] next text = None
word (choice ∷ choices) next text = either choice.0 (next choice.1) (word choices next) text

-- the digits that the text begins with, after those that have this value
abbrev pub digits_after : {B : Type 0} → ℕ → (ℕ → List ℕ → Option B) → List ℕ → Option B
digits_after value next [] = next value []
digits_after value next (b ∷ rest) =
    if is_digit b then digits_after (value * 10 + (b - 48)) next rest else next value (b ∷ rest)

-- whether the text begins with a digit
abbrev pub begins_with_digit : List ℕ → Bool
begins_with_digit [] = false
begins_with_digit (b ∷ rest) = is_digit b

-- a decimal number, of all digits that the text begins with
unfoldable pub number : {B : Type 0} → (ℕ → List ℕ → Option B) → List ℕ → Option B
number next text = if begins_with_digit text then digits_after 0 next text else None

-- a byte put before the bytes of a line
abbrev pub onto_line : {B : Type 0} → ℕ → (List ℕ → List ℕ → Option B) → List ℕ → List ℕ → Option B
onto_line b next line rest = next (b ∷ line) rest

-- the bytes up to the next newline
unfoldable pub line : {B : Type 0} → (List ℕ → List ℕ → Option B) → List ℕ → Option B
line next [] = None
line next (b ∷ rest) = if b == 10 then next [] rest else line (onto_line b next) rest

-- the value, if nothing follows
abbrev pub at_end : {B : Type 0} → B → List ℕ → Option B
at_end value [] = Some value
at_end value (b ∷ rest) = None
