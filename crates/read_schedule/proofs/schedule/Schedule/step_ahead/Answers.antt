use Rattle.std.proofs.Common.{arith}
use Rattle.sender_params.proofs.Turns.{same_group}
use Rattle.read_schedule.proofs.Turns.{parts_at-step}
use Rattle.read_schedule.proofs.schedule.Schedule.step_ahead.Goals as goal

pub returns : goal.returns
returns c =
    let s = c.args.self.now in
    record {
      reach = omega (arith, parts_at-step s.grid s.passed (omega arith), s.step_is);
      left = s.step_left;
      some = s.step_some;
      small = omega (arith, s.step_small);
      place_is = omega (arith, (same_group s.passed s.grid.n (omega arith)).1, s.place_is);
    }
