use Rattle.std.proofs.Common.{refl, arith}
use Rattle.std.proofs.lemmas.Bool.{le-ltb}
use Rattle.flow_measure.proofs.laws.runs_by_hand.Goals as goal

pub returns-clause-first : goal.returns-clause-first
returns-clause-first c = (omega arith, refl, λ k few. le-ltb 1 k (omega (arith, few)))

pub returns-clause-none : goal.returns-clause-none
returns-clause-none c = λ i few. le-ltb 9 i (omega (arith, few))
