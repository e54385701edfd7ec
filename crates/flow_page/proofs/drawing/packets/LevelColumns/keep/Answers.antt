use Rattle.std.proofs.Common.{arith}
use Rattle.flow_page.proofs.drawing.packets.LevelColumns.keep.Goals as goal

pub returns-clause-draws : goal.returns-clause-draws
returns-clause-draws c = λ level more h k.
    let s = c.args.self.now in
    let o = c.args.other.now in
    record {
      curve_draws = c.keep.ensures.draws level h.curve_draws (omega (arith, more, s.curve_is, o.curve_is)) k.curve_draws;
      eye_draws = c.keep-2.ensures.draws level k.eye_draws;
    }
