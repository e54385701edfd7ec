use Rattle.fail_interval.proofs.Judging.{not-sound}
use Rattle.fail_interval.proofs.judge.State.last_number.Goals as goal

pub returns-in_default : goal.returns-in_default
returns-in_default g c = λ media shift packets is none. absurd (not-sound media shift packets c.args.self.now c.in_default.not-Going is none)
