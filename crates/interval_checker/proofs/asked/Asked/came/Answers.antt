use Rattle.std.proofs.Common.{sym, ◌∙◌}
use Rattle.interval_checker.proofs.Asks.{put-asked}
use Rattle.interval_checker.proofs.asked.Asked.came.Goals as goal

pub returns-then-contains_key-clause-stamps : goal.returns-then-contains_key-clause-stamps
returns-then-contains_key-clause-stamps c = λ r p.
    put-asked c.insert.result c.args.run c.args.place r p _ (λ s. s.at) c.args.self.now.stamps c.insert.new.self
    c.insert.ensures.updates c.insert.ensures.absent (sym c.contains_key.ensures ∙ c.if-contains_key.true)
