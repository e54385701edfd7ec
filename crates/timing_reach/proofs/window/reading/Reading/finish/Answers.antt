use Rattle.std.proofs.Common.{ap, subst, sym}
use Rattle.timing_base.specs.Judged.{RunOutcome}
use Rattle.timing_base.specs.declared.row.Row.{Row}
use Rattle.timing_reach.specs.window.Gauging.{AreWindowsIn}
use Rattle.timing_reach.proofs.Numbers.{outcome-numbered}
use Rattle.timing_reach.proofs.window.reading.Reading.finish.Goals as goal

pub returns : goal.returns
returns c = λ m key options packets h. record {
  verdict_is = ap (λ (r : Row). r.verdict) (c.in_ok-row.ensures.row m key options packets h.judge);
  windows_are = subst (λ (o : RunOutcome). AreWindowsIn m o c.windows.result) (sym (outcome-numbered options.seq16 packets options.shift))
      (c.windows.ensures m options.shift packets h.gauge);
}
