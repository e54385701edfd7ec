use Rattle.std.proofs.Common.{◌≡◌, ◌++◌, drop}
use Rattle.std.specs.Prelude.{string_bytes}
use Rattle.std.specs.List.{flat_map}
use Rattle.clap.specs.Walk.{rule_of}
use Rattle.timing_words.specs.Parsers.{word_in}
use Rattle.timing_words.proofs.help.words_in.Given as goal

abbrev pub invariant-loop-arg : goal.invariant-loop-arg
invariant-loop-arg l =
    string_bytes l.text ++ flat_map (λ a. word_in l.command (rule_of a)) (drop l.arg-index l.args) ≡ flat_map (λ a. word_in l.command (rule_of a)) l.args
