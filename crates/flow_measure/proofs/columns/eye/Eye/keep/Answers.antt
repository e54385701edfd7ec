use Rattle.std.proofs.Common.{◌≡◌, ap, ◌∙◌, sym, refl}
use Rattle.flow_measure.specs.Columns.{strip_of}
use Rattle.flow_measure.proofs.Eyed.{eye-same}
use Rattle.flow_measure.proofs.columns.eye.Eye.keep.Goals as goal

pub returns-clause-draws : goal.returns-clause-draws
returns-clause-draws g c = λ numbers h.
    let s = c.args.self.now in
    let o = c.args.other.now in
    let width : s.width ≡ o.width =
    s.width_is ∙ ap (λ x. strip_of x s.most) c.requires.group ∙ ap (strip_of o.group) c.requires.most ∙ sym o.width_is in
    eye-same g.N.Integer.value o _ numbers c.requires.group width refl refl (c.copy_from_slice.ensures.items ∙ c.deref.ensures.value) h
