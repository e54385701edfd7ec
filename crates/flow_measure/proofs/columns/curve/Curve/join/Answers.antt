use Rattle.std.proofs.Common.{◌≡◌, ◌≤◌, ◌<◌, ◌+◌, ◌*◌, ◌/◌, ap, ◌∙◌, sym, arith}
use Rattle.flow_measure.specs.Columns.{column_at}
use Rattle.flow_measure.specs.Extremes.{extremes_of, joined}
use Rattle.flow_measure.specs.Stands.{curve_columns}
use Rattle.flow_measure.proofs.Curved.{column-read, pairs-more, pairs-rest}
use Rattle.flow_measure.proofs.columns.curve.Curve.join.Goals as goal

pub loop-pair-preserved : goal.loop-pair-preserved
loop-pair-preserved g c =
    let value = g.N.Integer.value in
    let s = c.loop-pair.self in
    let p = c.loop-pair.pair in
    let h = c.loop-pair.invariant in
    let columns = curve_columns value c.args.self.now in
    let few : p < s.most / 2 = omega (arith, c.loop-pair-test.true, h.pairs, h.most) in
    let first = c.index.result.now in
    let second = c.index-in-loop-pair.result.now in
    let a : column_at columns (2 * p) ≡ extremes_of value first =
    sym (h.rest (2 * p) (omega arith)) ∙ column-read value s (2 * p) first (omega (arith, few)) c.index.ensures in
    let b : column_at columns (2 * p + 1) ≡ extremes_of value second =
    sym (h.rest (2 * p + 1) (omega arith)) ∙ column-read value s (2 * p + 1) second (omega (arith, few)) c.index-in-loop-pair.ensures in
    record {
      most = h.most;
      seen = h.seen;
      width = h.width;
      room = h.room;
      begun = h.begun;
      pairs = h.pairs;
      joined = pairs-more value s.columns.items columns p c.joined.result (omega (arith, few, s.columns.ok.0, s.columns_most))
          (c.joined.ensures ∙ ap (λ x. joined x (extremes_of value second)) (sym a) ∙ ap (joined (column_at columns (2 * p))) (sym b))
          h.joined;
      rest = pairs-rest value s.columns.items columns p c.joined.result h.rest;
    }
