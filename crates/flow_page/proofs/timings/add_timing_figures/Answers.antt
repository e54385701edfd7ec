use Rattle.std.proofs.Common.{List, ℕ, ◌++◌}
use Rattle.std.specs.Prelude.{string_bytes}
use Rattle.timing_report.proofs.Appends.{two_ok}
use Rattle.flow_page.specs.Timings.{timing_figure}
use Rattle.flow_page.specs.declared.timings.Timing.{Timing}
use Rattle.flow_page.specs.declared.timings.Timing.TheVariants.{First, Last, Offset, Latency}
use Rattle.flow_page.proofs.timings.add_timing_figures.Goals as goal

pub returns : goal.returns
returns c =
    let r = c.add_timing_figure-4.result in
    let piece : Timing → List ℕ = timing_figure c.args.media.now c.args.period c.args.shown.now in
    let a : List ℕ = piece First in
    let b : List ℕ = piece Last in
    let d : List ℕ = piece Offset in
    let e : List ℕ = piece Latency in
    two_ok r (string_bytes c.args.text.now) a (b ++ (d ++ e)) _ _ c.in_ok-add_timing_figure.ensures
    (two_ok r _ b (d ++ e) _ _ c.in_ok-add_timing_figure-2.ensures
    (two_ok r _ d e _ _ c.in_ok-add_timing_figure-3.ensures c.add_timing_figure-4.ensures))
