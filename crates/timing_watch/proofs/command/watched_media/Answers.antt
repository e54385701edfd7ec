use Rattle.std.proofs.Common.{◌≡◌, ◌≤◌, ap, arith, length, rules}
use Rattle.timing_base.specs.Choices.{chosen}
use Rattle.timing_watch.proofs.Answering.{chosen-few}
use Rattle.timing_watch.proofs.command.watched_media.Goals as goal

pub returns-clause-few : goal.returns-clause-few
returns-clause-few c =
    let only = c.args.job.now.flows.media in
    let few : length c.args.session.now ≤ 64 = search rules in
    let are : c.chosen_media.result.now ≡ chosen only c.args.session.now = search rules in
    omega (arith, few, chosen-few only c.args.session.now, ap length are)
