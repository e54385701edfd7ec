use Rattle.std.proofs.Common.{◌≡◌, ◌<◌, ◌≤◌, ◌+◌, ◌*◌, ◌/◌, ℕ}
use Rattle.flow_measure.specs.Columns.{column_at}
use Rattle.flow_measure.specs.Extremes.{joined}
use Rattle.flow_measure.specs.Stands.{curve_columns}
use Rattle.flow_measure.proofs.columns.curve.Curve.join.Given as goal

abbrev pub invariant-loop-pair : goal.invariant-loop-pair
invariant-loop-pair g l = record {
  most : l.self.most ≡ l.initial.self.most;
  seen : l.self.seen ≡ l.initial.self.seen;
  width : l.self.width ≡ l.initial.self.width;
  room : l.self.room ≡ l.initial.self.room;
  begun : l.self.begun ≡ l.initial.self.begun;
  pairs : l.pair-end ≡ l.initial.self.most / 2;
  joined : (k : ℕ) → k < l.pair → column_at (curve_columns g.N.Integer.value l.self) k
      ≡ joined (column_at (curve_columns g.N.Integer.value l.initial.self) (2 * k)) (column_at (curve_columns g.N.Integer.value l.initial.self) (2 * k + 1));
  rest : (k : ℕ) → l.pair ≤ k → column_at (curve_columns g.N.Integer.value l.self) k ≡ column_at (curve_columns g.N.Integer.value l.initial.self) k;
}
