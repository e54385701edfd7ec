use Rattle.std.proofs.Common.{arith}
use Rattle.sender_params.proofs.Turns.{next_group}
use Rattle.read_schedule.proofs.Turns.{parts_at-turn}
use Rattle.read_schedule.proofs.schedule.Schedule.turn_ahead.Goals as goal

pub returns : goal.returns
returns c =
    let s = c.args.self.now in
    record {
      reach = omega (arith, parts_at-turn s.grid s.passed _ (omega arith) s.turn_is);
      left = s.turn_left;
      some = s.turn_some;
      small = omega (arith, s.turn_small);
      place_is = (next_group s.passed s.grid.n (omega arith)).1;
    }
