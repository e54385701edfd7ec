use Rattle.std.proofs.Common.{◌<◌, arith}
use Rattle.std.proofs.lemmas.List.Elements.{All-replicate}
use Rattle.flow_worker.specs.Expecting.{IsExpected}
use Rattle.flow_worker.specs.declared.upcoming.Expected.{Expected}
use Rattle.flow_worker.proofs.upcoming.Upcoming.new.Goals as goal

pub invariant_of-result-clause-within : goal.invariant_of-result-clause-within
invariant_of-result-clause-within c = All-replicate (λ (e : Expected). e.after < 64) 64 c.nothing.result (omega (arith, c.nothing.ensures.after))

pub returns : goal.returns
returns c = λ media. All-replicate (IsExpected media) 64 c.nothing.result (c.nothing.ensures.expected media)
