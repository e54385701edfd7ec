-- The media that are judged, as media of the session: all, or the chosen one under its number.
use Rattle.std.proofs.Common.{◌≡◌, ◌≤◌, ◌<◌, ◌+◌, ◌^◌, ℕ, zero, suc, List, [], ◌∷◌, length, drop, take, Option, Some, None, refl, arith, ap, ◌∙◌}
use Rattle.std.proofs.lemmas.List.Elements.{All-drop, All-map, All-take, All-weaker}
use Rattle.std.specs.Prelude.{All, map, slice_get}
use Rattle.timing_base.specs.Choices.{chosen, first_chosen, key_from, row_from}
use Rattle.timing_base.specs.Jobs.{IsChoice}
use Rattle.timing_base.specs.Media.{Media}
use Rattle.timing_base.specs.Targets.{HaveOwnTargets}
use Rattle.timing_base.specs.declared.row.Row.{Row}
use Rattle.timing_report.specs.Outcomes.{AreOfSession}
use Rattle.timing_steps.specs.Flows.{no_choice, no_media, no_such_media}
use Rattle.timing_steps.proofs.Capturing.{some-none}

-- a media among those that are left after this many
one-get : (first number : ℕ) (session : List Media) (m : Media) → slice_get (take 1 (drop first session)) number ≡ Some m
    → slice_get session (first + number) ≡ Some m
one-get zero number [] m h = cc
one-get (suc first) number [] m h = cc
one-get zero zero (x ∷ xs) m h = h
one-get zero (suc number) (x ∷ xs) m h = cc
one-get (suc first) number (x ∷ xs) m h =
    let next : suc first + number ≡ suc (first + number) = omega arith in
    ap (slice_get (x ∷ xs)) next ∙ one-get first number xs m h

-- a judged media has its number in the session
pub chosen-get : (only : Option ℕ) (session : List Media) (number : ℕ) (m : Media) → slice_get (chosen only session) number ≡ Some m
    → slice_get session (first_chosen only + number) ≡ Some m
chosen-get None session number m h = let same : 0 + number ≡ number = omega arith in ap (slice_get session) same ∙ h
chosen-get (Some first) session number m h = one-get first number session m h

-- what is so of all media is so of those that are judged
pub chosen-all : (P : Media → Type 0) (only : Option ℕ) (session : List Media) → All P session → All P (chosen only session)
chosen-all P None session h = h
chosen-all P (Some first) session h = All-take P 1 (drop first session) (All-drop P first session h)

-- the media that are judged are no more than there are
one-few : (first : ℕ) (session : List Media) → length (take 1 (drop first session)) ≤ length session
one-few zero [] = omega arith
one-few (suc first) [] = omega arith
one-few zero (x ∷ xs) = omega arith
one-few (suc first) (x ∷ xs) = let less = one-few first xs in omega (arith, less)

pub chosen-few : (only : Option ℕ) (session : List Media) → length (chosen only session) ≤ length session
chosen-few None session = omega arith
chosen-few (Some first) session = one-few first session

-- and at least one, if the session has the chosen one
one-some : (first : ℕ) (session : List Media) → no_media (slice_get session first) ≡ None → 1 ≤ length (take 1 (drop first session))
one-some zero [] h = absurd (some-none no_such_media h)
one-some (suc first) [] h = absurd (some-none no_such_media h)
one-some zero (x ∷ xs) h = omega arith
one-some (suc first) (x ∷ xs) h = one-some first xs h

pub chosen-some : (only : Option ℕ) (session : List Media) → no_choice only session ≡ None → 1 ≤ length session → 1 ≤ length (chosen only session)
chosen-some None session h some = some
chosen-some (Some first) session h some = one-some first session h

-- their targets differ, if those of all do
pub chosen-targets : (only : Option ℕ) (session : List Media) → HaveOwnTargets session → HaveOwnTargets (chosen only session)
chosen-targets only session own = λ i j m n at-i at-j same.
    let alike : first_chosen only + i ≡ first_chosen only + j =
    own (first_chosen only + i) (first_chosen only + j) m n (chosen-get only session i m at-i) (chosen-get only session j n at-j) same in
    omega (arith, alike)

-- numbers of judged media are numbers of the session
one-within : (first number : ℕ) (session : List Media) → number < length (take 1 (drop first session)) → first + number < length session
one-within zero number [] h = absurd (omega (arith, h))
one-within zero number (x ∷ xs) h = omega (arith, h)
one-within (suc first) number [] h = absurd (omega (arith, h))
one-within (suc first) number (x ∷ xs) h = let less = one-within first number xs h in omega (arith, less)

chosen-within : (only : Option ℕ) (session : List Media) (number : ℕ) → number < length (chosen only session) → first_chosen only + number < length session
chosen-within None session number h = omega (arith, h)
chosen-within (Some first) session number h = one-within first number session h

-- results of judged media are of the session, under their numbers in it
pub rows-chosen : (only : Option ℕ) (session : List Media) (rows : List Row) → AreOfSession (chosen only session) rows
    → AreOfSession session (map (row_from (first_chosen only)) rows)
rows-chosen only session rows h =
    All-map (λ (row : Row). row.key.media < length session) (row_from (first_chosen only)) rows
    (All-weaker (λ (row : Row). row.key.media < length (chosen only session)) (λ (row : Row). first_chosen only + row.key.media < length session)
    (λ row within. chosen-within only session row.key.media within) rows h)

-- and their numbers have 32 bits
first-few : (only : Option ℕ) → IsChoice only → first_chosen only < 64
first-few None h = omega arith
first-few (Some first) h = h

pub rows-few : (only : Option ℕ) (media : List Media) (rows : List Row) → IsChoice only → length media ≤ 64 → AreOfSession media rows
    → All (λ (row : Row). first_chosen only + row.key.media < 2 ^ 32) rows
rows-few only media rows choice few h =
    All-weaker (λ (row : Row). row.key.media < length media) (λ (row : Row). first_chosen only + row.key.media < 2 ^ 32)
    (λ row within. omega (arith, first-few only choice, within, few)) rows h

-- the flows of results under their numbers
pub keys-chosen : (first : ℕ) (rows : List Row)
    → map (λ (row : Row). row.key) (map (row_from first) rows) ≡ map (key_from first) (map (λ (row : Row). row.key) rows)
keys-chosen first [] = refl
keys-chosen first (row ∷ rows) = ap (λ l. key_from first row.key ∷ l) (keys-chosen first rows)
