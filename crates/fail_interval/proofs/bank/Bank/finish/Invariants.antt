use Rattle.std.proofs.Common.{ℕ, List}
use Rattle.timing_base.specs.Shifts.{FlowOptions}
use Rattle.timing_base.specs.Captures.{Record}
use Rattle.timing_base.specs.Media.{Media}
use Rattle.fail_interval.specs.BankStands.{StandsFor}
use Rattle.fail_interval.specs.Taken.{HasRows}
use Rattle.fail_interval.proofs.bank.Bank.finish.Given as goal

abbrev pub invariant-loop-flow : goal.invariant-loop-flow
invariant-loop-flow l = (media : List Media) (file : ℕ) (options : FlowOptions) (items : List Record) → StandsFor media file options l.fn.self items
    → HasRows options file media items l.fn.rows.items l.rows.items l.flow-iterator.rest.items
