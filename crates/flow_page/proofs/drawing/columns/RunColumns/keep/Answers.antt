use Rattle.flow_page.proofs.drawing.columns.RunColumns.keep.Goals as goal

pub returns-clause-draws : goal.returns-clause-draws
returns-clause-draws c = λ m n stamps more timestamps ticks h k. record {
  packets_draw = c.keep.ensures.draws m n stamps more h.packets_draw k.packets_draw;
  groups_draw = c.keep-2.ensures.draws m n stamps more timestamps ticks h.groups_draw k.groups_draw;
  first_is = k.first_is;
  last_is = k.last_is;
}
