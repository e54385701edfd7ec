use Rattle.std.proofs.Common.{List, ℕ, ◌++◌}
use Rattle.std.specs.Prelude.{string_bytes}
use Rattle.timing_report.proofs.Appends.{two_ok}
use Rattle.flow_page.specs.Levels.{level_figure}
use Rattle.flow_page.specs.declared.levels.Level.{Level}
use Rattle.flow_page.specs.declared.levels.Level.TheVariants.{Bucket, Gapped, Linear}
use Rattle.flow_page.proofs.levels.add_level_figures.Goals as goal

pub returns : goal.returns
returns c =
    let r = c.add_level_figure-3.result in
    let piece : Level → List ℕ = level_figure c.args.media.now c.args.shown.now c.args.types.now c.args.view in
    two_ok r (string_bytes c.args.text.now) (piece Bucket) (piece Gapped ++ piece Linear) _ _ c.in_ok-add_level_figure.ensures
    (two_ok r _ (piece Gapped) (piece Linear) _ _ c.in_ok-add_level_figure-2.ensures c.add_level_figure-3.ensures)
