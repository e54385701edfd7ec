use Rattle.std.proofs.Common.{[], refl, sym, subst}
use Rattle.flow_measure.specs.rows.making.Stands.{StandsFor}
use Rattle.flow_measure.proofs.lemmas.rows.Rowing.{kept-none}
use Rattle.flow_measure.proofs.rows.meter.RowsMeterRunMeter.begin.Goals as goal

pub returns : goal.returns
returns c = λ shift r head size.
    let m = c.args.params.now.media in
    record {
      maker_is = subst (λ k. StandsFor m shift r.number k c.new.result []) (sym size)
          (subst (λ k. StandsFor m shift k c.args.params.now.n c.new.result []) head.run (c.new.ensures shift));
      rest = [];
      whole = refl;
      kept_are = kept-none m shift r.n [] c.new-2.result.items c.new-2.ensures.items;
    }
