use Rattle.std.proofs.Common.{ap, ◌∙◌}
use Rattle.timing_base.specs.Verdicts.{Judged}
use Rattle.fail_interval.proofs.Whole.{tail_is, with-tail}
use Rattle.fail_interval.proofs.run.WholeGroups.judged.Goals as goal

pub returns : goal.returns
returns g c = λ m so_far s.
    ap (λ (j : Judged). tail_is j c.tail.result) c.judged.view_is ∙ with-tail m c.args.self.now so_far c.tail.result s (c.tail.ensures m so_far s)
