use Rattle.std.proofs.Common.{◌≡◌, take}
use Rattle.std.specs.Prelude.{All}
use Rattle.timing_explain.proofs.flows.run_of.Given as goal

abbrev pub invariant-loop-run : goal.invariant-loop-run
invariant-loop-run l = All (λ run. run.run ≡ l.number → ⊥) (take l.run-index l.runs)
