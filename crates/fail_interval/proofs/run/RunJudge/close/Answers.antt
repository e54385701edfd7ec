use Rattle.fail_interval.proofs.Going.{groups-verdict}
use Rattle.fail_interval.proofs.RunTold.{close-tells}
use Rattle.fail_interval.proofs.run.RunJudge.close.Goals as goal

pub returns-clause-verdict : goal.returns-clause-verdict
returns-clause-verdict g c = λ m so_far s.
    groups-verdict m c.args.self c.in-Groups.groups c.in_ok-close-in-Groups.field-0 so_far c.in-Groups.is c.in_ok-close-in-Groups.ensures.judged s

pub returns-clause-tells : goal.returns-clause-tells
returns-clause-tells g c = λ past m shift number first over so_far fed committed s whole was.
    let closed = c.in_ok-close-in-Groups.ensures in
    close-tells g.M.RunMeter.stands g.M.RunMeter.tells past m c.args.self c.in-Groups.groups c.in_ok-close-in-Groups.field-0 c.args.out.now c.close.new.out
    shift number first over so_far fed committed c.in-Groups.is (record { judged = closed.judged; closes = closed.tells }) s whole was
