use Rattle.std.proofs.Common.{◌≡◌, ◌≤◌, ap, arith, length, rules, subst}
use Rattle.timing_base.specs.Choices.{chosen}
use Rattle.timing_top.proofs.Choosing.{chosen-few, chosen-some}
use Rattle.timing_top.proofs.check.judged_media.Goals as goal

pub returns-clause-few : goal.returns-clause-few
returns-clause-few c =
    let are : c.chosen_media.result.now ≡ chosen c.args.job.now.media c.args.session.now = search rules in
    let all : c.session.inside.media ≡ c.args.session.now = search rules in
    omega (arith, chosen-few c.args.job.now.media c.args.session.now, ap length are, ap length all, c.session.invariant.few)

pub returns-clause-some : goal.returns-clause-some
returns-clause-some c = λ unsettled.
    let are : c.chosen_media.result.now ≡ chosen c.args.job.now.media c.args.session.now = search rules in
    let all : c.session.inside.media ≡ c.args.session.now = search rules in
    let some = chosen-some c.args.job.now.media c.args.session.now unsettled (subst (λ l. 1 ≤ length l) all c.session.invariant.some) in
    omega (arith, some, ap length are)
