use Rattle.std.proofs.Common.{◌∙◌, [], arith, subst}
use Rattle.flow_page.specs.drawing.drawing.Columns.{DrawsPackets}
use Rattle.flow_page.proofs.drawing.columns.RunColumns.new.Goals as goal

pub returns-clause-draws : goal.returns-clause-draws
returns-clause-draws c =
    let m = c.args.params.now.media in
    record {
      packets_draw = subst (λ k. DrawsPackets m k c.in_ok-new.field-0 []) (c.from.ensures ∙ c.n.ensures.value) (c.in_ok-new.ensures.draws m);
      groups_draw = c.in_ok-new-2.ensures.draws;
      first_is = λ few. absurd (omega (arith, few));
      last_is = λ few. absurd (omega (arith, few));
    }
