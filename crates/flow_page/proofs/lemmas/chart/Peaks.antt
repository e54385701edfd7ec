-- The band of a column reaches over all its numbers.
use Rattle.std.proofs.Common.{◌<◌, ℕ, ℤ, refl, ap, List, length}
use Rattle.flow_measure.specs.Columns.{AreColumns, AreExtremes, column_at, places_in}
use Rattle.flow_measure.specs.declared.columns.Extremes.{Extremes}
use Rattle.flow_page.specs.chart.Curve.{EndsAtNumbers, Spans}
use Rattle.flow_page.specs.chart.Marks.{y_of}
use Rattle.flow_page.specs.declared.chart.plot.Plot.{Plot}
use Rattle.flow_page.proofs.lemmas.chart.Rises.{stands_above}

spans_all : (p : Plot) (numbers : ℕ → ℤ) (places : ℕ → Type 0) (e : Extremes) (i : ℕ) → AreExtremes numbers places e → places i → Spans p e (numbers i)
spans_all p numbers places e i h here =
    (stands_above p (numbers i) e.greatest (h.greatest.greatest i here), stands_above p e.least (numbers i) (h.least.least i here))

pub spans_each : (p : Plot) (column_of : ℕ → ℕ) (numbers : ℕ → ℤ) (count i : ℕ) (columns : List Extremes)
    → AreColumns column_of numbers count columns → i < count → Spans p (column_at columns (column_of i)) (numbers i)
spans_each p column_of numbers count i columns h within =
    spans_all p numbers (places_in column_of count (column_of i)) (column_at columns (column_of i)) i
    (h.each (column_of i) (h.within i within)) (within, refl)

ends_of : (p : Plot) (numbers : ℕ → ℤ) (places : ℕ → Type 0) (e : Extremes) → AreExtremes numbers places e → EndsAtNumbers p numbers places e
ends_of p numbers places e h =
    let g = h.greatest.reached in
    let l = h.least.reached in
    record { top = (g.0, g.1, ap (y_of p) g.2); bottom = (l.0, l.1, ap (y_of p) l.2) }

pub ends_each : (p : Plot) (column_of : ℕ → ℕ) (numbers : ℕ → ℤ) (count c : ℕ) (columns : List Extremes)
    → AreColumns column_of numbers count columns → c < length columns
    → EndsAtNumbers p numbers (places_in column_of count c) (column_at columns c)
ends_each p column_of numbers count c columns h within = ends_of p numbers (places_in column_of count c) (column_at columns c) (h.each c within)
