use Rattle.frame_group.proofs.Expecting.{last-none, last-some}
use Rattle.frame_group.proofs.grouper.Grouper.last_number.Goals as goal

pub returns-in-None : goal.returns-in-None
returns-in-None c = λ pt packets s none. last-none c.args.self.now pt packets s none c.in-None.is

pub returns-in-Some : goal.returns-in-Some
returns-in-Some c = λ pt packets s none. last-some c.args.self.now c.in-Some.before pt packets s none c.in-Some.is
