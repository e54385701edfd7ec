use Rattle.std.proofs.Common.{List, ℕ, ◌≡◌, ◌++◌, ◌∙◌, sym, length, false, ◌==◌, subst}
use Rattle.std.specs.Prelude.{IfOk, string_bytes}
use Rattle.flow_measure.specs.Columns.{column_at}
use Rattle.timing_report.proofs.Appends.{two_ok}
use Rattle.flow_page.specs.chart.Curve.{band_end, over_text, under_text}
use Rattle.flow_page.specs.chart.Marks.{y_of}
use Rattle.flow_page.proofs.lemmas.chart.Texts.{band_some}
use Rattle.flow_page.proofs.chart.curve.add_band.Goals as goal

pub returns : goal.returns
returns c =
    let r = c.add_end.result in
    let p = c.args.plot in
    let xs = c.args.columns.now in
    let b : List ℕ = over_text p 0 (y_of p (column_at xs 0).greatest) xs in
    let d : List ℕ = under_text p 0 xs in
    let e : List ℕ = band_end p in
    let some : (length xs == 0) ≡ false = sym c.is_empty.ensures ∙ c.if-is_empty.false in
    subst (λ whole. IfOk r (λ _. string_bytes c.add_end.new.text ≡ string_bytes c.args.text.now ++ whole)) (band_some p xs _ some)
    (two_ok r (string_bytes c.args.text.now) _ (b ++ (d ++ e)) _ _ c.in_ok-add_start.ensures
    (two_ok r _ b (d ++ e) _ _ c.in_ok-add_over.ensures
    (two_ok r _ d e _ _ c.in_ok-add_under.ensures c.add_end.ensures)))
