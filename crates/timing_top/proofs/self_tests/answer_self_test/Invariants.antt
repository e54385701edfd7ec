use Rattle.std.proofs.Common.{string_bytes}
use Rattle.timing_top.specs.SelfTest.{HasLines}
use Rattle.timing_top.proofs.self_tests.answer_self_test.Given as goal

abbrev pub invariant-loop-flaw : goal.invariant-loop-flaw
invariant-loop-flaw g l = HasLines l.frames l.flaw (string_bytes l.text)
