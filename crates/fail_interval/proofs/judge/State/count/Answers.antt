use Rattle.std.proofs.Common.{ap, ◌∙◌}
use Rattle.frame_group.specs.Expected.{with_number}
use Rattle.timing_base.specs.Numbered.{counted}
use Rattle.fail_interval.proofs.judge.State.count.Goals as goal

pub returns : goal.returns
returns g c = record {
  seq16 = c.count.ensures.seq16;
  plain = λ plain. let is = c.if-not-counting.false in cc;
  counts = λ _ media shift packets is none.
      c.count.ensures.counted
      ∙ ap (λ last. with_number (counted last c.args.rtp.number) c.args.rtp) (c.last_number.ensures media shift packets is none);
  raise = λ _. c.count.ensures.raise;
  few = λ _. c.count.ensures.few;
}
