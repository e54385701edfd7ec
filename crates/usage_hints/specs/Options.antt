-- The options, flags and commands that a hint can name.
use Rattle.std.specs.Prelude.{◌≡◌, List, Option, is_none, map, option_map}
use Rattle.clap.specs.Words.{Rule}
use Rattle.timing_words.specs.Help.{name_of}
use Rattle.timing_words.specs.Line.{Sort, Text}
use Rattle.timing_words.specs.Request.{sorts}
use Rattle.timing_words.specs.declared.command.Command.{Command}
use Rattle.usage_hints.specs.declared.options.Choice.{Choice}

-- an option or flag as in the grammar of `timing_words`
abbrev pub sort_of : Choice → Sort
sort_of c = record { name = c.name.now; valued = c.valued }

-- the option or flag of a parser's argument; the positional arguments have no long name
abbrev pub sort_in : Rule → Option Sort
sort_in r = option_map (λ n. record { name = n; valued = is_none r.range }) r.long

-- the names of options and flags
abbrev pub names_in : List Choice → List Text
names_in choices = map (λ c. c.name.now) choices

-- the names of the options and flags of a command
abbrev pub option_names : Command → List Text
option_names c = map (λ s. s.name) (sorts c)

-- a command has this name
abbrev pub IsCommandName : Text → Type 0
IsCommandName n = (c : Command) × (n ≡ name_of c)
