-- The pages in a directory, and the search for one: a digital search tree, by the binary digits of a page number from
-- the lowest on.
use Rattle.std.specs.Prelude.{◌≡◌, ◌≢◌, ℕ, zero, suc, ◌/◌, ◌%◌, ◌<◌, ◌==◌, if◌then◌else◌, map, nat_lt, List, [], ◌∷◌}
use Rattle.std.specs.Prelude.{◌++◌, length, slice_get, Some}
use Rattle.std.specs.Option.{option_map_or}
use Rattle.path_skew.specs.declared.directory.Entry.{Entry}

-- the page numbers of entries
abbrev pub pages_in : List Entry → List ℕ
pages_in entries = map (λ e. e.page) entries

-- position at which a search goes on from an entry, by the lowest of the digits left
abbrev pub below : Entry → (digits : ℕ) → ℕ
below entry digits = if digits % 2 == 0 then entry.zero else entry.one

-- an entry with this position for a search by these digits
abbrev pub with_below : Entry → (digits place : ℕ) → Entry
with_below entry digits place = if digits % 2 == 0 then record entry { zero = place } else record entry { one = place }

-- the digits left after so many steps
abbrev pub digits_after : (page steps : ℕ) → ℕ
digits_after page zero = page
digits_after page (suc steps) = digits_after page steps / 2

-- position of the search after so many steps; it begins at the first entry
abbrev pub place_after : List Entry → (page steps : ℕ) → ℕ
place_after entries page zero = 0
place_after entries page (suc steps) = option_map_or (λ e. below e (digits_after page steps))
    (slice_get entries (place_after entries page steps)) 0

-- the entry at a position is of another page, and the search goes on from it to position `next`
pub record GoesOn (entries : List Entry) (page place digits next : ℕ) : Type 0 where
  pub entry : Entry
  pub here : slice_get entries place ≡ Some entry
  pub other : entry.page ≢ page
  pub below : below entry digits ≡ next
  pub some : next ≢ 0

-- the entry at a position, if there is one, is of this page, or there is none below it by these digits
abbrev pub Ends : List Entry → (page place digits : ℕ) → Type 0
Ends entries page place digits = (entry : Entry) → slice_get entries place ≡ Some entry → entry.page ≢ page
    → below entry digits ≡ 0

-- the search comes to a position after so many steps, and to no entry of the page before
pub record IsWay (entries : List Entry) (page steps place : ℕ) : Type 0 where
  pub to : place_after entries page steps ≡ place
  pub goes_on : (k : ℕ) → k < steps → GoesOn entries page (place_after entries page k) (digits_after page k)
      (place_after entries page (suc k))

-- the search comes to a position, with these digits left
pub record IsAt (entries : List Entry) (page place digits : ℕ) : Type 0 where
  pub steps : ℕ
  pub way : IsWay entries page steps place
  pub left : digits_after page steps ≡ digits

-- the search ends at a position, with these digits left
pub record IsEnd (entries : List Entry) (page place digits : ℕ) : Type 0 where
  pub at : IsAt entries page place digits
  pub ends : Ends entries page place digits

-- each entry is at a position to which the search for its page comes
abbrev pub IsFound : List Entry → Type 0
IsFound entries = (place : ℕ) (entry : Entry) → slice_get entries place ≡ Some entry
    → (steps : ℕ) × IsWay entries entry.page steps place

-- the entry below another, if there is one, comes after it
abbrev pub IsBehind : (place count below : ℕ) → Type 0
IsBehind place count below = below ≢ 0 → (place < below) × (below < count)

-- entries below an entry come after it
abbrev pub IsLinked : List Entry → Type 0
IsLinked entries = (place : ℕ) (entry : Entry) → slice_get entries place ≡ Some entry
    → IsBehind place (length entries) entry.zero × IsBehind place (length entries) entry.one

-- a page that isn't among those before is appended, and every other page stays; `place` is the page's position
pub record Enters (old new : List ℕ) (page place : ℕ) : Type 0 where
  pub at : slice_get new place ≡ Some page
  pub pages : new ≡ (if nat_lt place (length old) then old else old ++ page ∷ [])
