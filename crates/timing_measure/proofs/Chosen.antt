-- The media that are judged, of a session.
use Rattle.std.proofs.Common.{◌≡◌, ◌≤◌, ◌<◌, ◌+◌, ◌-◌, ℕ, List, [], ◌∷◌, length, take, drop, Option, Some, None, arith}
use Rattle.std.specs.Prelude.{All}
use Rattle.std.proofs.lemmas.List.{length-drop}
use Rattle.std.proofs.lemmas.List.Elements.{All-drop, All-nil, All-take, All-weaker}
use Rattle.timing_base.specs.Choices.{chosen, first_chosen}
use Rattle.timing_base.specs.Media.{Media}

-- they are no more than those of the session
one-few : (rest : List Media) → length (take 1 rest) ≤ length rest
one-few [] = omega arith
one-few (m ∷ rest) = omega arith

pub chosen-few : (only : Option ℕ) (session : List Media) → length (chosen only session) ≤ length session
chosen-few None session = omega arith
chosen-few (Some number) session = omega (arith, one-few (drop number session), length-drop number session)

-- each of them is one of the session
pub chosen-all : (P : Media → Type 0) (only : Option ℕ) (session : List Media) → All P session → All P (chosen only session)
chosen-all P None session h = h
chosen-all P (Some number) session h = All-take P 1 (drop number session) (All-drop P number session h)

-- numbers of those that are judged are numbers of the session
numbers-behind : {X : Type 0} (number_of : X → ℕ) (number long : ℕ) (rest : List Media) (xs : List X) → length rest ≡ long - number
    → length xs ≡ length (take 1 rest)
    → All (λ x. number_of x < number + length (take 1 rest)) xs → All (λ x. number_of x < long) xs
numbers-behind number_of number long [] [] e same h = All-nil (λ x. number_of x < long)
numbers-behind number_of number long [] (x ∷ xs) e same h = absurd (omega (arith, same))
numbers-behind number_of number long (m ∷ rest) xs e same h =
    All-weaker (λ x. number_of x < number + length (take 1 (m ∷ rest))) (λ x. number_of x < long) (λ x few. omega (arith, few, e)) xs h

pub chosen-within : {X : Type 0} (number_of : X → ℕ) (only : Option ℕ) (session : List Media) (xs : List X) → length xs ≡ length (chosen only session)
    → All (λ x. number_of x < first_chosen only + length (chosen only session)) xs → All (λ x. number_of x < length session) xs
chosen-within number_of None session xs same h =
    All-weaker (λ x. number_of x < 0 + length session) (λ x. number_of x < length session) (λ x few. omega (arith, few)) xs h
chosen-within number_of (Some number) session xs same h =
    numbers-behind number_of number (length session) (drop number session) xs (length-drop number session) same h
