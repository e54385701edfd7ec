use Rattle.std.proofs.Common.{refl}
use Rattle.flow_page.proofs.drawing.packets.PacketColumns.new.Goals as goal

pub returns-clause-draws : goal.returns-clause-draws
returns-clause-draws c = λ m. record {
  n_is = refl;
  seen_is = refl;
  bucket_draws = λ level are. c.in_ok-new.ensures.draws level;
  gapped_draws = λ level are. c.in_ok-new-2.ensures.draws level;
  linear_draws = λ level are. c.in_ok-new-3.ensures.draws level;
}
