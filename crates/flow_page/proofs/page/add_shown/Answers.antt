use Rattle.std.proofs.Common.{List, ℕ, ◌+◌, ◌++◌, ap, ◌∙◌}
use Rattle.std.specs.Prelude.{string_bytes}
use Rattle.timing_base.specs.Targets.{target_of}
use Rattle.flow_measure.specs.declared.numbers.MeasuredRun.{MeasuredRun}
use Rattle.timing_report.proofs.Appends.{two_ok}
use Rattle.timing_report.specs.Words.{group_name}
use Rattle.flow_page.specs.Page.{flow_heading, run_grid, run_heading, run_part, run_tables, words_list}
use Rattle.flow_page.specs.Timings.{steps_line}
use Rattle.flow_page.specs.Times.{file_time}
use Rattle.flow_page.specs.declared.shown.TypeShown.{TypeShown}
use Rattle.flow_page.proofs.Texts.{added_ok}
use Rattle.flow_page.proofs.page.add_shown.Goals as goal

pub returns : goal.returns
unfolding run_part
returns c =
    let r = c.add_run_tables.result in
    let shift = c.args.shift in
    let m = c.args.media.now in
    let flow = c.args.flow.now in
    let s = c.args.shown.now in
    let types : List TypeShown = c.as_slice-types.result.now in
    let a : List ℕ = flow_heading (flow.media + 1) (target_of m) in
    let b : List ℕ = run_heading s.run.run s.run.«record» (file_time shift s.first_at) (file_time shift s.last_at) in
    let d : List ℕ = words_list types (group_name m.interlaced) shift in
    let e : List ℕ = steps_line m s.run.judged.frames s.run.numbers.step in
    let f : List ℕ = run_grid m s types in
    let g : List ℕ = run_tables m s types flow.runs in
    added_ok r (string_bytes c.args.text.now) _ _ _
    (two_ok r (string_bytes c.args.text.now) a (b ++ (d ++ (e ++ (f ++ g)))) _ _ c.in_ok-add_flow_title.ensures
    (two_ok r _ b (d ++ (e ++ (f ++ g))) _ _ c.in_ok-add_run_title.ensures
    (two_ok r _ d (e ++ (f ++ g)) _ _ c.in_ok-add_types_told.ensures
    (two_ok r _ e (f ++ g) _ _ c.in_ok-add_steps.ensures
    (two_ok r _ f g _ _ c.in_ok-add_run_grid.ensures
    (added_ok r _ _ _ g c.add_run_tables.ensures (ap (λ (runs : List MeasuredRun). run_tables m s types runs) c.as_slice.ensures)))))))
    (ap (λ (types : List TypeShown). run_part shift m flow s types) (c.as_slice-types.ensures.value ∙ c.in_ok-types.ensures))
