-- The output of `help` for the arguments of a `clap` parser.
use Rattle.std.specs.Prelude.{Bool, Option, Some, None, [], is_none}
use Rattle.clap.specs.Words.{Rule}
use Rattle.timing_words.specs.Help.{told, word}
use Rattle.timing_words.specs.Line.{Sort, Text}
use Rattle.timing_words.specs.declared.command.Command.{Command}

-- the text of an option or flag, which has a long name; nothing for the positional arguments
abbrev pub of_long : (Sort → Text) → Option Text → Bool → Text
of_long f None valued = []
of_long f (Some n) valued = f (record { name = n; valued = valued })

-- an option or flag as in the arguments of a command; a flag is an argument with a range of values
abbrev pub word_in : Command → Rule → Text
word_in c r = of_long (word c) r.long (is_none r.range)

-- an option or flag with its meaning, on a line of its own
abbrev pub told_in : Rule → Text
told_in r = of_long told r.long (is_none r.range)
