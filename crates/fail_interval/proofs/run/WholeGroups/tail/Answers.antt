use Rattle.std.proofs.Common.{◌∙◌, subst, sym}
use Rattle.fail_interval.specs.Groups.{IsWhole}
use Rattle.fail_interval.specs.declared.run.WholeGroups.{WholeGroups}
use Rattle.fail_interval.proofs.Whole.{tail-size}
use Rattle.fail_interval.proofs.run.WholeGroups.tail.Goals as goal

pub returns : goal.returns
returns g c = λ m so_far s.
    c.saturating_sub.ensures ∙ tail-size m _ so_far c.seen.result (subst (λ (w : WholeGroups _). IsWhole m w so_far) (sym c.self.view_is) s) c.seen.ensures
