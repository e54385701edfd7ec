use Rattle.std.proofs.Common.{refl, rules}
use Rattle.fail_interval.proofs.Told.{begun-told}
use Rattle.fail_interval.proofs.Whole.{first-whole}
use Rattle.fail_interval.proofs.run.WholeGroups.first.Goals as goal

pub returns-clause-whole : goal.returns-clause-whole
returns-clause-whole g c = first-whole _ _ _ _ c.of-params.ensures.media (search rules) refl refl c.requires.some c.in_ok-meters.ensures.stands c.judged.ensures

pub returns-clause-told : goal.returns-clause-told
returns-clause-told g c = λ past shift opening over packets heads kept_so telling.
    let commits = c.in_ok-commit.ensures in
    let now = begun-told g.M.RunMeter.stands g.M.RunMeter.tells past c.args.media.now c.of-params.result c.in_ok-meter.meter c.meter_first.new.meter
    c.commit.new.self
    c.args.out.now c.commit.new.out shift c.args.run.now opening c.args.first.now over packets c.of-params.ensures.media (search rules) c.requires.some
    g.met.M.RunMeter.opens c.in_ok-meter.ensures c.in_ok-meters.ensures.told (record { told_so = commits.stands; tells_so = commits.tells }) heads kept_so
    telling in
    (now.stands_so, now.tells_so)
