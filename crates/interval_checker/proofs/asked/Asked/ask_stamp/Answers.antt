use Rattle.std.proofs.Common.{rules}
use Rattle.interval_checker.proofs.Asks.{put-no_less}
use Rattle.interval_checker.proofs.asked.Asked.ask_stamp.Goals as goal

pub returns-clause-no_less : goal.returns-clause-no_less
returns-clause-no_less c = record {
  stamps = λ r p there.
      put-no_less c.insert.result c.args.run c.args.place r p _ (λ s. s.at) c.args.self.now.stamps c.insert.new.self
      c.insert.ensures.updates (search rules) there;
  endings = λ r there. there;
}
