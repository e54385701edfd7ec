use Rattle.std.proofs.Common.{Contains, IfSome}
use Rattle.usage_hints.specs.Options.{names_in}
use Rattle.usage_hints.proofs.nearest.nearest_in.Given as goal

abbrev pub invariant-loop-choice : goal.invariant-loop-choice
invariant-loop-choice l = IfSome l.nearest.name (λ n. Contains (names_in l.choices) n.now)
