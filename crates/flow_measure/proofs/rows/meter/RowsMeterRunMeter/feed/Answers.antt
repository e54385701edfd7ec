use Rattle.std.proofs.Common.{◌++◌, ◌∷◌, [], ap, ◌∙◌, sym, subst, append_assoc}
use Rattle.flow_measure.specs.rows.making.Meters.{AreKept}
use Rattle.flow_measure.specs.rows.making.Stands.{IsKept}
use Rattle.flow_measure.specs.declared.rows.maker.Kept.{Kept}
use Rattle.flow_measure.proofs.lemmas.rows.Rowing.{kept-more}
use Rattle.flow_measure.proofs.rows.meter.RowsMeterRunMeter.feed.Goals as goal

pub returns : goal.returns
returns c = λ shift r fed committed p size told few rising level h.
    let m = c.args._params.now.media in
    let one : Kept = record { packet = c.args.packet; level = c.args.level; in_time = c.push-arg-2-1.given.0 } in
    let is : IsKept m shift r.n fed p one = record { packet_is = told; few = few; rising = rising; level_is = level } in
    record {
      maker_is = h.maker_is;
      rest = h.rest ++ p ∷ [];
      whole = ap (λ l. l ++ p ∷ []) h.whole ∙ append_assoc committed h.rest (p ∷ []);
      kept_are = subst (AreKept m shift r.n committed (h.rest ++ p ∷ [])) (sym c.in_ok-push.ensures.items)
          (kept-more m shift r.n committed h.rest p c.args.self.now.kept.items one h.kept_are (subst (λ l. IsKept m shift r.n l p one) h.whole is));
    }
