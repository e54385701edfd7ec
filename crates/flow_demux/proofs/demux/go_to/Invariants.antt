use Rattle.std.proofs.Common.{◌≡◌, take}
use Rattle.std.specs.Prelude.{All}
use Rattle.timing_base.specs.Targets.{target_of}
use Rattle.flow_demux.proofs.demux.go_to.Given as goal

abbrev pub invariant-loop-flow : goal.invariant-loop-flow
invariant-loop-flow g l = All (λ f. target_of f.media ≡ l.target → ⊥) (take l.flow-index l.flows)
