use Rattle.interval_checker.specs.Taking.{TakesUpTo}
use Rattle.interval_checker.proofs.records.CheckingTaker.take.Given as goal

abbrev pub invariant-loop-reading : goal.invariant-loop-reading
invariant-loop-reading l =
    TakesUpTo record { number = l.number; stamp = l.at; bytes = l.frame } l.reading-index l.fn.self.readings.items l.reading-items
