use Rattle.std.proofs.Common.{◌+◌, ap, ◌∙◌, refl}
use Rattle.flow_measure.proofs.Breaks.{group-over}
use Rattle.flow_measure.proofs.Counted.{number-of}
use Rattle.flow_measure.proofs.broken.BrokenGroups.end_group.Goals as goal

pub returns-clause-stands : goal.returns-clause-stands
returns-clause-stands c = λ n broken seen.
    let b = c.args.self.now in
    group-over n b _ broken seen refl (ap (λ k. b.broken + k) (c.from.ensures ∙ number-of b.here)) refl
