use Rattle.std.proofs.Common.{}
use Rattle.std.specs.Io.KnownBytes.{Keeps}
use Rattle.timing_outside.proofs.files.write_some.Given as goal

abbrev pub invariant-loop : goal.invariant-loop
invariant-loop g l = Keeps (g.W.Write.contents l.fn.stream) (g.W.Write.contents l.stream)
