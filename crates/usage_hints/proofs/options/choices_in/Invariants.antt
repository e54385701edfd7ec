use Rattle.std.proofs.Common.{◌≡◌, ◌++◌, drop, map, filter_map}
use Rattle.clap.specs.Walk.{rule_of}
use Rattle.usage_hints.specs.Options.{sort_in, sort_of}
use Rattle.usage_hints.proofs.options.choices_in.Given as goal

abbrev pub invariant-loop-arg : goal.invariant-loop-arg
invariant-loop-arg l =
    map sort_of l.choices.items ++ filter_map (λ a. sort_in (rule_of a)) (drop l.arg-index l.args) ≡ filter_map (λ a. sort_in (rule_of a)) l.args
