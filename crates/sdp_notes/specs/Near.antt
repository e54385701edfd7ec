-- Names that are nearly that of a known parameter. This project's profile: a name is near a known one if they are equal
-- without blanks and without regard to ASCII case, but for at most one edit, which adds, removes or changes a byte.
use Rattle.std.specs.Prelude.{ℕ, ◌==◌, ◌||◌, not, Bool, true, if◌then◌else◌, List, [], ◌∷◌, ◌++◌, ◌≡◌, ◌≤◌, length}
use Rattle.std.specs.Prelude.{codes, find, Option}
use Rattle.std.specs.List.{filter}
use Rattle.std.specs.Str.{bytes_eq, str_to_ascii_lowercase}
use Rattle.sdp_reader.specs.Bytes.{is_blank}

-- the names of the known parameters, as the standards write them
abbrev pub known_names : List (List ℕ)
known_names =
    codes "width" ∷ codes "height" ∷ codes "exactframerate" ∷ codes "interlace" ∷ codes "segmented" ∷ codes "TP"
    ∷ codes "TROFF" ∷ codes "CMAX" ∷ codes "MAXUDP" ∷ []

-- the name without spaces and tabs, in lower case
abbrev pub bare : List ℕ → List ℕ
bare name = str_to_ascii_lowercase (filter (λ b. not (is_blank b)) name)

-- at most one edit makes one text of the other: behind the bytes that they begin with in common, the rests are equal
-- without the first byte of one of them, or of both
abbrev pub is_within_an_edit : List ℕ → List ℕ → Bool
is_within_an_edit [] [] = true
is_within_an_edit [] (y ∷ ys) = length ys == 0
is_within_an_edit (x ∷ xs) [] = length xs == 0
is_within_an_edit (x ∷ xs) (y ∷ ys) =
    if x == y then is_within_an_edit xs ys
    else bytes_eq xs ys || (bytes_eq xs (y ∷ ys) || bytes_eq (x ∷ xs) ys)

-- the same as a relation: the texts differ in one place at most, where each has at most one byte
pub record DifferInOnePlace (one other : List ℕ) : Type 0 where
  pub front : List ℕ
  pub back : List ℕ
  pub of_one : List ℕ
  pub of_other : List ℕ
  pub one_is : one ≡ front ++ (of_one ++ back)
  pub other_is : other ≡ front ++ (of_other ++ back)
  pub one_few : length of_one ≤ 1
  pub other_few : length of_other ≤ 1

-- the first of the known names that this one is near
abbrev pub meant : List ℕ → Option (List ℕ)
meant name = find (λ known. is_within_an_edit (bare name) (str_to_ascii_lowercase known)) known_names
