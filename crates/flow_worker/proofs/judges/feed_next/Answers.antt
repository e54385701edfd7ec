use Rattle.std.proofs.Common.{Ok, ap}
use Rattle.flow_worker.proofs.Fed.{takes-expected}
use Rattle.flow_worker.proofs.judges.feed_next.Goals as goal

-- the judge took the packet that it expects
pub returns-then-branch : goal.returns-then-branch
returns-then-branch c =
    let took = c.in_ok-feed_judged.ensures.took (ap Ok c.if-branch.true) in
    record {
      fed = took.fed;
      stands = takes-expected c.args.judge.now c.feed_judged.new.self c.args.rec c.args.at c.args.rtp (c.is_expected.ensures c.if-is_expected.true) took;
      spends = tt;
      stays = λ spent. absurd (took.going spent);
    }
