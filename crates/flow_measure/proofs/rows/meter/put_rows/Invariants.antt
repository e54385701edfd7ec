use Rattle.std.proofs.Common.{◌≡◌, ℕ, List, drop}
use Rattle.flow_measure.specs.rows.making.Meters.{PutsRows}
use Rattle.flow_measure.specs.declared.rows.maker.RowMaker.{RowMaker}
use Rattle.flow_measure.proofs.rows.meter.put_rows.Given as goal

abbrev pub invariant-loop-one : goal.invariant-loop-one
invariant-loop-one l = record {
  frames : l.to.frames ≡ l.fn.to.frames;
  puts : (new : RowMaker) (after : List ℕ)
      → PutsRows l.fn.to.frames l.params.media l.params.n l.maker new (drop l.one-index l.kept) l.to.text.items after
      → PutsRows l.fn.to.frames l.params.media l.params.n l.fn.maker new l.kept l.fn.to.text.items after;
}
