use Rattle.std.proofs.Common.{refl}
use Rattle.read_schedule.proofs.Spans.{from-next, up_to-next}
use Rattle.read_schedule.proofs.between.Between.go_on.Goals as goal

pub returns-clause-from : goal.returns-clause-from
returns-clause-from c = λ m n anchor gapped early left is. from-next m n anchor gapped c.args.self.now _ early left refl refl refl is

pub returns-clause-up_to : goal.returns-clause-up_to
returns-clause-up_to c = λ m n anchor gapped late left is. up_to-next m n anchor gapped c.args.self.now _ late left refl refl refl is
