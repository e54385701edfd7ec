use Rattle.std.specs.Prelude.{IfSome}
use Rattle.usage_hints.specs.Places.{IsPlace}
use Rattle.usage_hints.proofs.joined.place_of.Given as goal

abbrev pub invariant-loop-capture : goal.invariant-loop-capture
invariant-loop-capture l = IfSome l.found (λ place. IsPlace l.starts l.capture l.joined place.capture place.number)
