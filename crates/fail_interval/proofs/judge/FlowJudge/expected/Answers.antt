use Rattle.std.proofs.Common.{◌∙◌}
use Rattle.fail_interval.proofs.Expecting.{expected-stands, nothing-expected, some-expected}
use Rattle.fail_interval.proofs.judge.FlowJudge.expected.Goals as goal

pub returns-in_ok-expected-in-Going-clause-is : goal.returns-in_ok-expected-in-Going-clause-is
returns-in_ok-expected-in-Going-clause-is g c =
    some-expected c.args.self.now c.in-Going.flow _ c.in_ok-expected-in-Going.field-0 _ c.in-Going.is c.expected.ensures.is c.in_ok-expected-in-Going.was
    c.own.ensures

pub returns-in_ok-expected-in-Going-clause-follows : goal.returns-in_ok-expected-in-Going-clause-follows
returns-in_ok-expected-in-Going-clause-follows g c = λ media key options packets s.
    some-expected c.args.self.now c.in-Going.flow _ c.in_ok-expected-in-Going.field-0 _ c.in-Going.is c.expected.ensures.is c.in_ok-expected-in-Going.was
    c.own.ensures
    ∙ expected-stands media key options c.args.self.now packets s

pub returns-in_default-clause-is : goal.returns-in_default-clause-is
returns-in_default-clause-is g c = nothing-expected c.args.self.now c.in_default.not-Going

pub returns-in_default-clause-follows : goal.returns-in_default-clause-follows
returns-in_default-clause-follows g c = λ media key options packets s.
    nothing-expected c.args.self.now c.in_default.not-Going ∙ expected-stands media key options c.args.self.now packets s
