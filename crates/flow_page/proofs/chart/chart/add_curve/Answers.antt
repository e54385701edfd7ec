use Rattle.std.proofs.Common.{List, ℕ, ◌++◌}
use Rattle.std.specs.Prelude.{string_bytes}
use Rattle.timing_report.proofs.Appends.{two_ok}
use Rattle.flow_page.specs.chart.Curve.{band_text}
use Rattle.flow_page.specs.chart.Grid.{frame_rules, grid_text, marks_across, units_text}
use Rattle.flow_page.specs.chart.Lines.{lines_text}
use Rattle.flow_page.specs.chart.Shades.{shade_text}
use Rattle.flow_page.proofs.chart.chart.add_curve.Goals as goal

pub returns : goal.returns
returns c =
    let r = c.add_lines.result in
    let p = c.args.plot in
    let s = c.args.scene in
    let a : List ℕ = grid_text p s.unit in
    let b : List ℕ = marks_across p in
    let d : List ℕ = units_text p s.unit s.along in
    let e : List ℕ = frame_rules p s.every in
    let f : List ℕ = shade_text p s.unit s.shade in
    let g : List ℕ = band_text p c.args.columns.now in
    let h : List ℕ = lines_text p c.args.lines.now in
    two_ok r (string_bytes c.args.text.now) a (b ++ (d ++ (e ++ (f ++ (g ++ h))))) _ _ c.in_ok-add_grid.ensures
    (two_ok r _ b (d ++ (e ++ (f ++ (g ++ h)))) _ _ c.in_ok-add_marks_across.ensures
    (two_ok r _ d (e ++ (f ++ (g ++ h))) _ _ c.in_ok-add_units.ensures
    (two_ok r _ e (f ++ (g ++ h)) _ _ c.in_ok-add_frame_rules.ensures
    (two_ok r _ f (g ++ h) _ _ c.in_ok-add_shade.ensures
    (two_ok r _ g h _ _ c.in_ok-add_band.ensures c.add_lines.ensures)))))
