use Rattle.std.proofs.Common.{◌≡◌, ◌+◌, ap, length, rules, ◌∙◌}
use Rattle.std.specs.Prelude.{Some}
use Rattle.fail_interval.proofs.Currents.{no-open, one-open, told_run_if}
use Rattle.fail_interval.proofs.flow.Flow.open_run.Goals as goal

pub returns-in-None : goal.returns-in-None
returns-in-None g c = λ packets h. no-open c.args.self.now packets h c.in-None.is

pub returns-in-Some : goal.returns-in-Some
returns-in-Some g c = λ packets h.
    let number : c.len.result + 1 ≡ length c.args.self.now.done.items + 1 = search rules in
    ap (λ whole. Some (told_run_if (c.len.result + 1) c.in-Some.open whole)) c.has_groups.ensures
    ∙ one-open c.args.self.now packets c.in-Some.open (c.len.result + 1) h c.in-Some.is number
