use Rattle.std.proofs.Common.{◌∙◌}
use Rattle.frame_group.proofs.Expecting.{expected-is, none-after, none-before, some-after}
use Rattle.frame_group.proofs.grouper.Grouper.expected.Goals as goal

pub returns-in_default-clause-is : goal.returns-in_default-clause-is
returns-in_default-clause-is c = none-before c.args.self.now.pt c.args.self.now.before c.in_default.is

pub returns-in_default-clause-follows : goal.returns-in_default-clause-follows
returns-in_default-clause-follows c = λ pt packets s.
    none-before c.args.self.now.pt c.args.self.now.before c.in_default.is ∙ expected-is c.args.self.now pt packets s

pub returns-then-before-clause-is : goal.returns-then-before-clause-is
returns-then-before-clause-is c = none-after c.args.self.now.pt c.args.self.now.before c.in-Some.before c.in-Some.is c.if-before.true

pub returns-then-before-clause-follows : goal.returns-then-before-clause-follows
returns-then-before-clause-follows c = λ pt packets s.
    none-after c.args.self.now.pt c.args.self.now.before c.in-Some.before c.in-Some.is c.if-before.true ∙ expected-is c.args.self.now pt packets s

pub returns-clause-is : goal.returns-clause-is
returns-clause-is c = some-after c.args.self.now.pt c.args.self.now.before c.in-Some.before c.in-Some.is c.if-before.false

pub returns-clause-follows : goal.returns-clause-follows
returns-clause-follows c = λ pt packets s.
    some-after c.args.self.now.pt c.args.self.now.before c.in-Some.before c.in-Some.is c.if-before.false ∙ expected-is c.args.self.now pt packets s
