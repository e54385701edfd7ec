use Rattle.std.proofs.Common.{FitsSigned, rules, sym, ◌∙◌, subst}
use Rattle.std.proofs.lemmas.Int.{to_z-of_z}
use Rattle.std.specs.Int.{w128}
use Rattle.flow_measure.specs.Groups.{firsts_of, lasts_of}
use Rattle.flow_page.specs.drawing.drawing.Columns.{DrawsCurves}
use Rattle.flow_page.proofs.lemmas.drawing.Keeping.{curves-kept, groups-rise}
use Rattle.flow_page.proofs.drawing.groups.GroupColumns.keep.Goals as goal

pub returns-clause-draws : goal.returns-clause-draws
returns-clause-draws c = λ m n stamps more timestamps ticks h k.
    let s = c.args.self.now in
    let o = c.args.other.now in
    let fits : FitsSigned w128 o.n0 = search rules in
    let same = to_z-of_z w128 o.n0 fits in
    record {
      n_is = k.n_is;
      seen_is = k.seen_is;
      same = k.same;
      anchor_is = λ some. same ∙ k.anchor_is some;
      begun = k.begun;
      curves_draw = λ stamp timestamp are listed.
          subst (λ a. DrawsCurves m a c.keep.new.self (firsts_of n stamp) (lasts_of n stamp) (firsts_of n timestamp)) (sym same)
          (c.keep.ensures.draws m o.n0 (firsts_of n stamp) (lasts_of n stamp) (firsts_of n timestamp)
          (groups-rise m n s o stamps more timestamps ticks h k)
          (curves-kept m n s o stamps more timestamps ticks stamp timestamp h k are listed) (k.curves_draw stamp timestamp are listed));
    }
