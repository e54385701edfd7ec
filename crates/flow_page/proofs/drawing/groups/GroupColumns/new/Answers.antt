use Rattle.std.proofs.Common.{refl, arith}
use Rattle.flow_page.proofs.drawing.groups.GroupColumns.new.Goals as goal

pub returns-clause-draws : goal.returns-clause-draws
returns-clause-draws c = record {
  n_is = c.new.ensures.n;
  seen_is = c.new.ensures.seen;
  same = refl;
  anchor_is = λ some. absurd (omega (arith, some));
  begun = λ some. absurd (omega (arith, some, c.new.ensures.place));
  curves_draw = λ stamp timestamp are listed. c.in_ok-new.ensures.draws _ _ _ _ _;
}
