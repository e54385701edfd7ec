use Rattle.fail_interval.proofs.RunTold.{close-told}
use Rattle.fail_interval.proofs.run.WholeGroups.close.Goals as goal

pub returns-clause-tells : goal.returns-clause-tells
returns-clause-tells g c = λ past m so_far shift number first over fed committed s are stood telling.
    close-told g.M.RunMeter.stands g.M.RunMeter.tells past m c.args.self so_far c.judged-judged.result c.args.out.now c.close.new.out shift number first over
    fed
    committed c.in_ok-close.ensures s are (c.judged-judged.ensures m so_far s) stood telling
