use Rattle.std.proofs.Common.{IfSome}
use Rattle.usage_hints.specs.Options.{IsCommandName}
use Rattle.usage_hints.proofs.nearest.nearest_of.Given as goal

abbrev pub invariant-loop-command : goal.invariant-loop-command
invariant-loop-command l = IfSome l.nearest.name (λ n. IsCommandName n.now)
