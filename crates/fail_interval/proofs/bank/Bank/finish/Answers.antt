use Rattle.std.proofs.Common.{◌≡◌, length, rules}
use Rattle.timing_base.specs.Keys.{key_of}
use Rattle.udp_rtp.specs.Flow.{flow}
use Rattle.fail_interval.proofs.Banks.{rows-all, rows-more}
use Rattle.fail_interval.proofs.bank.Bank.finish.Goals as goal

pub loop-flow-preserved : goal.loop-flow-preserved
loop-flow-preserved c = λ media file options items h.
    rows-more options file media items c.args.rows.now.items c.loop-flow.rows.items c.push.new.self.items c.in-Some.flow c.loop-flow.flow-iterator.rest.items
    c.next.new.self.rest.items c.in_ok-row.row c.in-Some.ensures.steps.0 c.in_ok-push.ensures.items
    (λ m number is. c.in_ok-row.ensures.row m (key_of file number) options (flow items m) is.judge) (c.loop-flow.invariant media file options items h)

pub returns : goal.returns
returns c = record {
  rows = λ media file options items h.
      let none : length c.loop-flow.flow-iterator.rest.items ≡ 0 = search rules in
      rows-all options file media items c.args.rows.now.items c.loop-flow.rows.items c.loop-flow.flow-iterator.rest.items none
      (c.loop-flow.invariant media file options items h);
}
