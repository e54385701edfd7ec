-- The `clap` parser of a command: its options, flags and positional arguments, without rules between them.
use Rattle.std.specs.Prelude.{◌≡◌, Bool, true, false, List, [], ◌∷◌, map, Some, None, codes, find}
use Rattle.std.specs.Prelude.{⊤, IsUtf8, is_some, option_map, unwrap_or}
use Rattle.std.specs.Str.{bytes_eq}
use Rattle.clap.specs.Words.{App, Rule, with_rule, new_app, new_rule, first_value, matched_of, raw_values}
use Rattle.clap.specs.declared.parser.matches.Found.{Found}
use Rattle.clap.specs.Faults.{is_simple_and_free}
use Rattle.clap.specs.declared.builder.ArgAction.TheVariants.{Set, Append}
use Rattle.timing_words.specs.Line.{Part, Sort, Stands, Text, has_flag, line, names_of, value_of}

-- an option, with text as its value, or a flag, which is an argument without a value
abbrev pub told : Bool → Text → Rule
told true n = record (new_rule n) { long = Some n; action = Some Set }
told false n = record (new_rule n) {
  long = Some n;
  action = Some Set;
  range = Some (record { start_inclusive = 0; end_inclusive = 0 });
}

-- the id of the positional arguments
abbrev pub names_id : Text
names_id = codes "names"

-- any number of positional arguments
abbrev pub names_told : Rule
names_told = record (new_rule names_id) { action = Some Append }

-- a parser with these options and flags, and no positional arguments yet
abbrev pub bare : List Sort → App
bare sorts = record {
  top = record (new_app (codes "command")).top {
    rules = map (λ s. told s.valued s.name) sorts;
    no_binary_name = true;
    disable_help_flag = true;
  };
  subs = [];
}

-- a parser with these options and flags, and positional arguments
abbrev pub app : List Sort → App
app sorts = with_rule (bare sorts) names_told

-- the result of `clap` for such a parser is defined
abbrev pub IsTold : List Sort → Type 0
IsTold sorts = (is_simple_and_free (app sorts) ≡ true)
    × (find (λ s. bytes_eq s.name names_id) sorts ≡ None)

-- each argument is UTF-8
abbrev pub AreTexts : List Text → Type 0
AreTexts [] = ⊤
AreTexts (w ∷ ws) = IsUtf8 w × AreTexts ws

-- the command takes an option, or a flag, of this name
abbrev pub IsTaken : List Sort → Bool → Text → Type 0
IsTaken sorts valued n = find (λ s. bytes_eq s.name n) sorts ≡ Some (record { name = n; valued = valued })

-- the matches of a parse have the values, flags and positional arguments of these parts
pub record Says (sorts : List Sort) (found : Found) (ps : List Part) : Type 0 where
  pub value : (n : Text) → IsTaken sorts true n → first_value found n ≡ value_of n ps
  pub flag : (n : Text) → IsTaken sorts false n → is_some (matched_of found n) ≡ has_flag n ps
  pub names : unwrap_or (option_map raw_values (matched_of found names_id)) [] ≡ names_of ps

-- the arguments can be separated, and the matches have their parts
pub record IsLine (sorts : List Sort) (words : List Text) (found : Found) : Type 0 where
  pub parts : List Part
  pub are : line sorts words ≡ Some parts
  pub says : Says sorts found parts

-- the contents of the matches of a parse
abbrev pub found_stands : Found → Stands
found_stands found = record {
  value = λ n. first_value found n;
  flag = λ n. is_some (matched_of found n);
  names = unwrap_or (option_map raw_values (matched_of found names_id)) [];
}
