-- How the arguments after a command are separated into options with their values, flags, and positional arguments.
-- This project's profile. Arguments are the bytes of UTF-8 text; `Word` is an argument, `name` a positional one.
use Rattle.std.specs.Prelude.{ℕ, ◌==◌, ◌&&◌, Bool, true, false, not, List, [], ◌∷◌, map, find}
use Rattle.std.specs.Prelude.{Option, Some, None, option_map, option_and_then, if◌then◌else◌}
use Rattle.std.specs.List.{before_first, after_first, list_any}
use Rattle.std.specs.Str.{bytes_eq}

-- the bytes of an argument, or of a part of one
abbrev pub Text : Type 0
Text = List ℕ

-- an option, which has a value, or a flag, which has none
pub record Sort : Type 0 where
  pub name : Text
  pub valued : Bool

-- a part of a command line: an option with its value, a flag, or a positional argument
pub data Part : Type 0 where
  option : Text → Text → Part
  flag : Text → Part
  name : Text → Part

-- an argument before `--` that isn't the value of an option: a part of the command line, an option with its value in
-- the next argument, `--` itself, or an invalid argument
pub data Word : Type 0 where
  whole : Part → Word
  opens : Text → Word
  dashes : Word
  wrong : Word

-- the argument begins with a hyphen and is longer than one byte, so it is no value and not positional
abbrev pub is_hyphened : Text → Bool
is_hyphened [] = false
is_hyphened (x ∷ []) = false
is_hyphened (x ∷ y ∷ rest) = x == 45

-- what follows the first `=` (61), if there is one
abbrev pub value_in : Text → Option Text
value_in text = if list_any (λ x. x == 61) text then Some (after_first (λ x. x == 61) text) else None

-- `--name` or `--name=value`, of a flag or an option
abbrev pub sorted : Bool → Text → Option Text → Word
sorted true n (Some v) = whole (option n v)
sorted true n None = opens n
sorted false n (Some v) = wrong
sorted false n None = whole (flag n)

-- `--name` or `--name=value`, if the command takes this name
abbrev pub named : Option Sort → Option Text → Word
named None v = wrong
named (Some s) v = sorted s.valued s.name v

-- an argument that begins with two hyphens, by what follows them
abbrev pub long_word : List Sort → Text → Word
long_word sorts [] = dashes
long_word sorts (x ∷ rest) = named
    (find (λ s. bytes_eq s.name (before_first (λ b. b == 61) (x ∷ rest))) sorts)
    (value_in (x ∷ rest))

-- an argument that begins with a hyphen
abbrev pub hyphened : List Sort → Text → Word
hyphened sorts [] = wrong
hyphened sorts (x ∷ []) = wrong
hyphened sorts (x ∷ y ∷ rest) = if y == 45 then long_word sorts rest else wrong

-- an argument that isn't the value of an option
abbrev pub word_of : List Sort → Text → Word
word_of sorts w = if is_hyphened w then hyphened sorts w else whole (name w)

-- this part and then the others, if there are any
abbrev pub before : Part → Option (List Part) → Option (List Part)
before p = option_map (λ ps. p ∷ ps)

-- the parts from an argument on; `next` gives those of the arguments after it, and takes the option that still needs
-- a value
abbrev pub from_word : Word → (Option Text → Option (List Part)) → List Text → Option (List Part)
from_word (whole p) next after = before p (next None)
from_word (opens n) next after = next (Some n)
from_word dashes next after = Some (map name after)
from_word wrong next after = None

-- the parts of the arguments, in order; the last parameter is the option that still needs a value, if there is one
abbrev pub cut : List Sort → List Text → Option Text → Option (List Part)
cut sorts [] None = Some []
cut sorts [] (Some n) = None
cut sorts (w ∷ ws) None = from_word (word_of sorts w) (cut sorts ws) ws
cut sorts (w ∷ ws) (Some n) = if is_hyphened w then None else before (option n w) (cut sorts ws None)

-- the name is one of these
abbrev pub is_among : Text → List Text → Bool
is_among n names = list_any (λ m. bytes_eq m n) names

-- no option or flag occurs twice or is one of `seen`
abbrev pub is_once : List Text → List Part → Bool
is_once seen [] = true
is_once seen (option n v ∷ ps) = not (is_among n seen) && is_once (n ∷ seen) ps
is_once seen (flag n ∷ ps) = not (is_among n seen) && is_once (n ∷ seen) ps
is_once seen (name w ∷ ps) = is_once seen ps

-- the parts, if no option or flag occurs twice
abbrev pub once : List Part → Option (List Part)
once ps = if is_once [] ps then Some ps else None

-- the parts of a command line, if it can be separated
abbrev pub line : List Sort → List Text → Option (List Part)
line sorts words = option_and_then once (cut sorts words None)

-- the value of an option, if it is given
abbrev pub value_of : Text → List Part → Option Text
value_of n [] = None
value_of n (option m v ∷ ps) = if bytes_eq m n then Some v else value_of n ps
value_of n (flag m ∷ ps) = value_of n ps
value_of n (name w ∷ ps) = value_of n ps

-- the flag is given
abbrev pub has_flag : Text → List Part → Bool
has_flag n [] = false
has_flag n (option m v ∷ ps) = has_flag n ps
has_flag n (flag m ∷ ps) = if bytes_eq m n then true else has_flag n ps
has_flag n (name w ∷ ps) = has_flag n ps

-- the positional arguments, in order
abbrev pub names_of : List Part → List Text
names_of [] = []
names_of (option n v ∷ ps) = names_of ps
names_of (flag n ∷ ps) = names_of ps
names_of (name w ∷ ps) = w ∷ names_of ps

-- the contents of a command line: the value of each option that is given, which flags are given, and the positional
-- arguments
pub record Stands : Type 0 where
  pub value : Text → Option Text
  pub flag : Text → Bool
  pub names : List Text

-- the contents of a command line with these parts
abbrev pub stands : List Part → Stands
stands ps = record { value = λ n. value_of n ps; flag = λ n. has_flag n ps; names = names_of ps }
