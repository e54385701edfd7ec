use Rattle.std.proofs.Common.{List, ℕ, ◌++◌, ap, ◌∙◌}
use Rattle.std.specs.Prelude.{codes, string_bytes}
use Rattle.timing_report.proofs.Appends.{two_ok}
use Rattle.flow_page.specs.chart.Figures.{figure_open, svg_open, told}
use Rattle.flow_page.proofs.chart.figure.add_figure_start.Goals as goal

pub returns : goal.returns
returns c =
    let r = c.add_markup-5.result in
    let title = c.args.title.now in
    let detail : List ℕ = c.args.detail.now in
    let a : List ℕ = told (figure_open c.args.wide) title in
    let b : List ℕ = codes " <span>" in
    let d : List ℕ = told (svg_open c.args.wide) title in
    let e : List ℕ = codes "</title><desc>" in
    let f : List ℕ = codes "</desc>" in
    two_ok r (string_bytes c.args.text.now) a (b ++ (detail ++ (d ++ (e ++ (detail ++ f))))) _ _
    (c.in_ok-add_told.ensures ∙ ap (λ s. string_bytes c.args.text.now ++ told s title) c.figure_open.ensures)
    (two_ok r _ b (detail ++ (d ++ (e ++ (detail ++ f)))) _ _ c.in_ok-add_markup.ensures
    (two_ok r _ detail (d ++ (e ++ (detail ++ f))) _ _ c.in_ok-add_markup-2.ensures
    (two_ok r _ d (e ++ (detail ++ f)) _ _
    (c.in_ok-add_told-2.ensures ∙ ap (λ s. string_bytes c.add_markup-2.new.text ++ told s title) c.svg_open.ensures)
    (two_ok r _ e (detail ++ f) _ _ c.in_ok-add_markup-3.ensures
    (two_ok r _ detail f _ _ c.in_ok-add_markup-4.ensures c.add_markup-5.ensures)))))
