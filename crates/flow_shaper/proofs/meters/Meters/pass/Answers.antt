use Rattle.std.proofs.Common.{◌∙◌, ap, subst, sym, arith}
use Rattle.fraction128.specs.Clocks.{StandsAt}
use Rattle.fraction128.specs.declared.clock.Clock.{Clock}
use Rattle.read_schedule.specs.Stands.{IsNextAfter, MovesTo, Tells}
use Rattle.read_schedule.specs.declared.schedule.NextRead.{NextRead}
use Rattle.read_schedule.specs.declared.schedule.Schedule.{Schedule}
use Rattle.flow_shaper.proofs.meters.Meters.pass.Goals as goal

pub returns-clause-passed : goal.returns-clause-passed
returns-clause-passed c =
    let d = c.drain.ensures in
    let l = c.look.ensures in
    let old = c.args.self.now in
    let number = ap (λ (x : NextRead). x.number) d.read in
    record {
      last = l.last;
      bucket = λ origin before order stood.
          let h = d.drained origin before order stood in
          record {
            drained = h.drained;
            ticks = h.ticks;
            tick = subst (λ (x : Clock). StandsAt c.args.params.now.drain x origin c.args.at) (sym l.tick) h.tick;
            count = l.count ∙ h.count;
            fresh = λ one. l.begin ∙ h.fresh (sym l.count ∙ one);
            kept = λ many. l.begin ∙ h.kept (omega (arith, many, l.count));
          };
      room = λ free.
          let same = l.room (omega (arith, free, number, c.vrx_full.ensures)) in
          (same.0 ∙ d.read, same.1 ∙ d.schedule);
      read = λ waits. subst (λ (x : Schedule). Tells IsNextAfter x c.args.at c.look.new.self.read) d.schedule
          (l.read (omega (arith, waits, number, c.vrx_full.ensures)));
      reads = λ waits. subst (λ (x : Schedule). MovesTo x c.look.new.self.schedule c.args.at) d.schedule
          (l.reads (omega (arith, waits, number, c.vrx_full.ensures)));
    }
