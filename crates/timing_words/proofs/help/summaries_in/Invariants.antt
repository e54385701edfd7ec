use Rattle.std.proofs.Common.{◌≡◌, ◌++◌, drop}
use Rattle.std.specs.Prelude.{string_bytes}
use Rattle.std.specs.List.{flat_map}
use Rattle.timing_words.specs.Help.{summary}
use Rattle.timing_words.proofs.help.summaries_in.Given as goal

abbrev pub invariant-loop-command : goal.invariant-loop-command
invariant-loop-command l =
    string_bytes l.text ++ flat_map summary (drop l.command-index l.commands) ≡ flat_map summary l.commands
