use Rattle.std.specs.Prelude.{All, take}
use Rattle.timing_top.specs.verify.Found.{Asks}
use Rattle.timing_top.proofs.verify.asks.asked_of.Given as goal

abbrev pub invariant-loop-claim : goal.invariant-loop-claim
invariant-loop-claim l = All (Asks l.asked l.file l.media) (take l.claim-index l.claims)
