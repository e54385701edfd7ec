use Rattle.std.proofs.Common.{◌≡◌, ◌<◌, ◌≤◌, ℕ}
use Rattle.flow_measure.specs.Columns.{column_at}
use Rattle.flow_measure.specs.Stands.{curve_columns}
use Rattle.flow_measure.proofs.columns.curve.Curve.keep.Given as goal

abbrev pub invariant-loop-column : goal.invariant-loop-column
invariant-loop-column g l = record {
  most : l.self.most ≡ l.initial.self.most;
  past : l.initial.column ≤ l.column;
  end : l.column-end ≡ l.other.begun;
  kept : (k : ℕ) → k < l.initial.column
      → column_at (curve_columns g.N.Integer.value l.self) k ≡ column_at (curve_columns g.N.Integer.value l.initial.self) k;
  copied : (k : ℕ) → l.initial.column ≤ k → k < l.column
      → column_at (curve_columns g.N.Integer.value l.self) k ≡ column_at (curve_columns g.N.Integer.value l.other) k;
}
