use Rattle.std.proofs.Common.{refl, rules}
use Rattle.timing_measure.specs.declared.series.flow.SeriesFlow.{SeriesFlow}
use Rattle.timing_measure.proofs.lemmas.series.Pouring.{poured-out}
use Rattle.timing_measure.proofs.series.flow.SeriesFlow.pour_all.Goals as goal

pub returns-in-Ok-clause-poured : goal.returns-in-Ok-clause-poured
returns-in-Ok-clause-poured g c =
    let old = c.args.self.now in
    let new : SeriesFlow = record {
      flow = record {
        media = old.flow.media;
        taker = record {
          judge = old.flow.taker.judge;
          out = record { text = c.clear.new.self; frames = old.flow.taker.out.frames; row = old.flow.taker.out.row };
        };
        awaited = old.flow.awaited;
      };
      waiting = 0;
    } in
    (search rules, poured-out old new c.requires.some refl refl refl c.clear.ensures.items refl)
