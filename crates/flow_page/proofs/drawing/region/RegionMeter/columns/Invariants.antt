use Rattle.std.proofs.Common.{◌≡◌, ◌≤◌, ◌-◌, ℕ, ℤ, max}
use Rattle.flow_measure.specs.Stands.{DrawsCurve}
use Rattle.flow_page.specs.drawing.drawing.Regions.{ShowsFrom}
use Rattle.flow_page.proofs.drawing.region.RegionMeter.columns.Given as goal

abbrev pub invariant-loop-place : goal.invariant-loop-place
invariant-loop-place l = record {
  most : l.columns.most ≡ 400;
  past : l.start ≤ l.place;
  within : l.place ≤ max l.start l.end;
  seen : l.columns.seen ≡ l.place - l.start;
  draws : (numbers : ℕ → ℤ) → ShowsFrom l.self l.model l.start l.place numbers → DrawsCurve (λ x. x) l.columns numbers;
}
