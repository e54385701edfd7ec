use Rattle.std.proofs.Common.{arith}
use Rattle.interval_checker.proofs.Outcomes.{at-beyond, at-done, at-open}
use Rattle.interval_checker.proofs.walk.Walk.ending.Goals as goal

pub returns-then-run-self : goal.returns-then-run-self
returns-then-run-self c = λ pt shift f packets i places k asked.
    at-open pt shift packets i places c.args.self.now c.args.run c.ending_here.result k (omega (arith, c.if-run-self.true))
    (c.ending_here.ensures pt shift packets i places k)

pub returns-then-run-self-2 : goal.returns-then-run-self-2
returns-then-run-self-2 c = λ pt shift f packets i places k asked.
    at-done pt shift packets i places c.args.self.now c.args.run c.ending.result k (omega (arith, c.if-run-self-2.true)) c.ending.ensures asked.ending

pub returns : goal.returns
returns c = λ pt shift f packets i places k asked.
    at-beyond pt shift packets i places c.args.self.now c.args.run k (omega (arith, c.if-run-self.false, c.if-run-self-2.false))
