use Rattle.std.proofs.Common.{◌≡◌, ◌≤◌, ◌<◌, refl, ◌∙◌, sym, arith}
use Rattle.flow_measure.specs.Columns.{column_at}
use Rattle.flow_measure.specs.Extremes.{extremes_of}
use Rattle.flow_measure.specs.Stands.{curve_columns}
use Rattle.flow_measure.proofs.Curved.{column-read, copied-more, curve-kept, kept-more}
use Rattle.flow_measure.proofs.columns.curve.Curve.keep.Goals as goal

pub loop-column-preserved : goal.loop-column-preserved
loop-column-preserved g c =
    let value = g.N.Integer.value in
    let s = c.loop-column.self in
    let o = c.args.other.now in
    let p = c.loop-column.column in
    let h = c.loop-column.invariant in
    let few : p < o.begun = omega (arith, c.loop-column-test.true, h.end) in
    let read = column-read value o p c.index.result.now (omega (arith, few, o.begun_most)) c.index.ensures in
    record {
      most = h.most;
      past = omega (arith, h.past);
      end = refl;
      kept = kept-more value s.columns.items (curve_columns value c.args.self.now) c.unchanged_in-column.result p c.index.result.now h.past h.kept;
      copied = copied-more value s.columns.items (curve_columns value o) c.unchanged_in-column.result p c.index.result.now
          (omega (arith, few, o.begun_most, h.most, c.requires, s.columns_most, s.columns.ok.0)) (sym read) h.copied;
    }

pub returns-clause-draws : goal.returns-clause-draws
returns-clause-draws g c = λ numbers drawn more other_drawn.
    let s = c.args.self.now in
    let o = c.args.other.now in
    let h = c.loop-column.invariant in
    let from = c.unchanged_in-column in
    curve-kept g.N.Integer.value s o _ numbers from.result refl refl refl from.ensures.same from.ensures.doubled
    h.kept (λ k past few. h.copied k past (omega (arith, few, c.loop-column-test.false, h.end))) drawn more other_drawn
