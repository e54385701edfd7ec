use Rattle.interval_checker.proofs.Asks.{came-no_less, no_less-same}
use Rattle.interval_checker.proofs.walk.Walk.keep.Goals as goal

pub returns-in-Some-clause-asked : goal.returns-in-Some-clause-asked
returns-in-Some-clause-asked c =
    came-no_less c.args.self.now.asked c.came.new.self _ _ _ record { stamps = c.came.ensures.stamps; endings = c.came.ensures.endings }

pub returns-in_default-clause-asked : goal.returns-in_default-clause-asked
returns-in_default-clause-asked c = no_less-same c.args.self.now.asked
