use Rattle.std.proofs.Common.{rules, subst, take_all}
use Rattle.std.proofs.lemmas.List.Elements.{All-nil}
use Rattle.std.specs.Prelude.{All}
use Rattle.timing_top.specs.verify.Found.{Asks}
use Rattle.timing_top.proofs.lemmas.verify.Served.{asks-more}
use Rattle.timing_top.proofs.verify.asks.asked_of.Goals as goal

pub loop-claim-init : goal.loop-claim-init
loop-claim-init c = All-nil (Asks c.new-asked.result c.args.file c.args.media)

pub loop-claim-preserved : goal.loop-claim-preserved
loop-claim-preserved c =
    asks-more c.loop-claim.asked c.ask_claim.new.asked c.args.file c.args.media c.loop-claim.claim-index c.args.claims.now _ (search rules)
    c.ask_claim.ensures.no_less c.loop-claim.invariant c.in_ok-ask_claim.ensures.asks

pub returns : goal.returns
returns c =
    subst (All (Asks c.loop-claim.asked c.args.file c.args.media)) (take_all c.loop-claim.claim-index c.args.claims.now c.loop-claim-test.false)
    c.loop-claim.invariant
