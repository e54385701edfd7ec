use Rattle.std.proofs.Common.{◌≡◌, ◌∙◌, None, ap, not, sym}
use Rattle.frame_group.specs.Cuts.{cut_at}
use Rattle.frame_group.proofs.Steps.{enters-run, no-cut, no-fault}
use Rattle.frame_group.proofs.grouper.Grouper.goes_on.Goals as goal

pub returns-clause-cut : goal.returns-clause-cut
returns-clause-cut c = λ _ packets i stamp kept read.
    sym (no-cut _ (sym c.if-is_some.ensures)) ∙ c.cut.ensures packets i stamp kept read

pub returns-clause-sound : goal.returns-clause-sound
returns-clause-sound c = λ none packets i kept read.
    let cut : None ≡ cut_at packets i = sym (no-cut _ (sym c.if-is_some.ensures)) ∙ c.cut.ensures packets i c.args.at kept read in
    let here = c.fault_at.ensures.is packets i kept read cut (enters-run packets i c.args.self.now.group (sym cut) kept.group) in
    sym here ∙ no-fault _ (c.is_none-2.ensures ∙ ap not none)
