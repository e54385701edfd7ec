use Rattle.std.proofs.Common.{List, ℕ, ◌++◌, ap, ◌∙◌}
use Rattle.std.specs.Prelude.{codes, string_bytes}
use Rattle.timing_report.proofs.Appends.{two_ok}
use Rattle.flow_page.specs.Around.{around_figures}
use Rattle.flow_page.specs.Levels.{level_figures}
use Rattle.flow_page.specs.Often.{gap_figure, often_from}
use Rattle.flow_page.specs.Page.{run_grid}
use Rattle.flow_page.specs.Timings.{period_of, timing_figures}
use Rattle.flow_page.specs.declared.levels.View.TheVariants.{Eye, WholeRun}
use Rattle.flow_page.specs.declared.shown.Region.{Region}
use Rattle.flow_page.proofs.page.add_run_grid.Goals as goal

pub returns : goal.returns
unfolding run_grid
returns c =
    let r = c.add_markup-2.result in
    let m = c.args.media.now in
    let s = c.args.shown.now in
    let types = c.args.types.now in
    let timings : ℕ → List ℕ = λ period. timing_figures m period s in
    let start : List ℕ = codes "<div class=\"grid\">\n" in
    let a : List ℕ = level_figures m s types WholeRun in
    let b : List ℕ = level_figures m s types Eye in
    let d : List ℕ = timings (period_of m) in
    let e : List ℕ = often_from s.run.numbers 0 s.run.numbers.kinds in
    let f : List ℕ = gap_figure s.run.numbers.gap in
    let g : List ℕ = around_figures types s.regions in
    let end : List ℕ = codes "</div>\n" in
    two_ok r (string_bytes c.args.text.now) start (a ++ (b ++ (d ++ (e ++ (f ++ (g ++ end)))))) _ _ c.in_ok-add_markup.ensures
    (two_ok r _ a (b ++ (d ++ (e ++ (f ++ (g ++ end))))) _ _ c.in_ok-add_level_figures.ensures
    (two_ok r _ b (d ++ (e ++ (f ++ (g ++ end)))) _ _ c.in_ok-add_level_figures-2.ensures
    (two_ok r _ d (e ++ (f ++ (g ++ end))) _ _
    (c.in_ok-add_timing_figures.ensures
    ∙ ap (λ p. string_bytes c.add_level_figures-2.new.text ++ timings p) c.period_of-period.ensures.value)
    (two_ok r _ e (f ++ (g ++ end)) _ _ c.in_ok-add_often_of.ensures
    (two_ok r _ f (g ++ end) _ _ c.in_ok-add_gap_figure.ensures
    (two_ok r _ g end _ _
    (c.in_ok-add_around_figures.ensures
    ∙ ap (λ (regions : List Region). string_bytes c.add_gap_figure.new.text ++ around_figures types regions) c.as_slice.ensures)
    c.add_markup-2.ensures))))))
