use Rattle.std.proofs.Common.{ℕ, ap, ◌∙◌}
use Rattle.std.specs.Prelude.{string_bytes}
use Rattle.flow_page.specs.Page.{run_heading}
use Rattle.flow_page.specs.Times.{file_time}
use Rattle.flow_page.proofs.Texts.{added_ok}
use Rattle.flow_page.proofs.page.add_run_title.Goals as goal

pub returns : goal.returns
returns c =
    let s = c.args.shown.now in
    added_ok c.add_run_heading.result (string_bytes c.args.text.now) _ _ _ c.add_run_heading.ensures
    (ap (λ (first : ℕ). run_heading s.run.run s.run.«record» first c.file_time-last.result) c.file_time-first.ensures
    ∙ ap (λ (last : ℕ). run_heading s.run.run s.run.«record» (file_time c.args.shift s.first_at) last) c.file_time-last.ensures)
