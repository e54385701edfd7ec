use Rattle.std.proofs.Common.{◌≤◌, ap, arith, length, rules}
use Rattle.timing_measure.proofs.Chosen.{chosen-few}
use Rattle.timing_measure.proofs.flows.judged.judged_media.Goals as goal

pub returns-clause-few : goal.returns-clause-few
returns-clause-few c =
    let few : length c.args.session.now ≤ 64 = search rules in
    omega (arith, few, chosen-few c.job.inside.media c.args.session.now, ap length c.chosen_media.ensures)
