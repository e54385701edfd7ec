use Rattle.std.proofs.Common.{rules, arith}
use Rattle.measure_reader.proofs.limits.runs_fit.Goals as goal

pub returns : goal.returns
returns c = record {
  run = search rules;
  rec = search rules;
  number = search rules;
  judged = record {
    n = omega (arith, c.judged_fit.ensures.is.n_most);
    frames = c.judged_fit.ensures.frames;
    packets = c.judged_fit.ensures.packets;
    head = c.judged_fit.ensures.head;
    tail = c.judged_fit.ensures.tail;
    narrow = c.judged_fit.ensures.n;
    linear = c.judged_fit.ensures.nl;
    wide = c.judged_fit.ensures.w;
  };
  numbers = c.numbers_fit.ensures;
}
