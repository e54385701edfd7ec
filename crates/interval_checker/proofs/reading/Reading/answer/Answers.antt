use Rattle.interval_checker.proofs.Takings.{says-refused}
use Rattle.interval_checker.proofs.reading.Reading.answer.Goals as goal

pub returns-in-Some : goal.returns-in-Some
returns-in-Some c = λ items h asked.
    says-refused c.args.self.now items c.in-Some.why c.args.kind c.args.proof.now c.args.run c.in-Some.is h
