use Rattle.std.proofs.Common.{refl}
use Rattle.timing_base.specs.Flows.{cuts}
use Rattle.interval_checker.proofs.Asks.{over-no_less}
use Rattle.interval_checker.proofs.Walking.{cut-keeps}
use Rattle.interval_checker.proofs.walk.Walk.cut.Goals as goal

pub returns-clause-asked : goal.returns-clause-asked
returns-clause-asked c =
    over-no_less c.args.self.now.asked c.over.new.self c.args.self.now.cuts c.ending_here-ending.result
    record { endings = c.over.ensures.endings; stamps = c.over.ensures.stamps }

pub returns-clause-keeps : goal.returns-clause-keeps
returns-clause-keeps c = λ pt shift packets i k e.
    cut-keeps pt shift packets i c.args.self.now _ c.ending_here-ending.result k e
    record {
      fed = refl;
      before = refl;
      cut_count = refl;
      start = refl;
      marks = refl;
      asked = record { endings = c.over.ensures.endings; stamps = c.over.ensures.stamps };
    }
    (c.ending_here-ending.ensures pt shift packets i (cuts packets i) k)
