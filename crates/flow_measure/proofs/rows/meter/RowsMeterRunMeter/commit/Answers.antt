use Rattle.std.proofs.Common.{[], append-nil, sym, subst}
use Rattle.std.specs.Prelude.{Some}
use Rattle.flow_measure.specs.rows.Told.{Tells}
use Rattle.flow_measure.specs.rows.making.Stands.{StandsFor}
use Rattle.flow_measure.proofs.lemmas.rows.Rowing.{kept-none, puts-same, told-more}
use Rattle.flow_measure.proofs.rows.meter.RowsMeterRunMeter.commit.Goals as goal

pub returns-clause-stands : goal.returns-clause-stands
returns-clause-stands c = λ shift r fed committed size whole h.
    let m = c.args.params.now.media in
    let s = c.args.self.now in
    let put = puts-same c.args.out.now.frames m c.args.params.now.n r.n s.maker c.put_rows.new.maker _ s.kept.items _ _ (sym size)
    c.as_slice.ensures.value c.in_ok-put_rows.ensures.puts in
    record {
      maker_is = subst (StandsFor m shift r.number r.n c.put_rows.new.maker) (sym h.whole) (put.stands shift r.number committed h.rest h.kept_are h.maker_is);
      rest = [];
      whole = sym (append-nil fed);
      kept_are = kept-none m shift r.n fed c.clear.new.self.items c.clear.ensures.items;
    }

pub returns-clause-tells : goal.returns-clause-tells
returns-clause-tells c = λ past shift r over fed committed size whole h tells.
    let m = c.args.params.now.media in
    let s = c.args.self.now in
    let out = c.args.out.now in
    let new = c.put_rows.new.to in
    let put = puts-same out.frames m c.args.params.now.n r.n s.maker c.put_rows.new.maker _ s.kept.items _ _ (sym size) c.as_slice.ensures.value
    c.in_ok-put_rows.ensures.puts in
    subst (λ l. Tells past new m shift over (Some (record { run = r; packets = l }))) (sym h.whole)
    (told-more past out new m shift r over committed h.rest put.here c.in_ok-put_rows.ensures.frames put.text_is
    (put.are shift r.number committed h.rest h.kept_are h.maker_is) tells)
