use Rattle.std.proofs.Common.{List, ℕ, ap, true, false}
use Rattle.std.specs.Prelude.{codes, string_bytes}
use Rattle.timing_report.proofs.Appends.{two_ok}
use Rattle.flow_measure.specs.declared.summary.Summary.{Summary}
use Rattle.flow_page.specs.Often.{held_in, often_figure, often_kind}
use Rattle.flow_page.specs.declared.chart.grid.UnitAcross.TheVariants.{Bucket, Buffer}
use Rattle.flow_page.proofs.Texts.{added_ok}
use Rattle.flow_page.proofs.often.add_often_kind.Goals as goal

pub returns : goal.returns
unfolding often_kind
returns c =
    let n = c.args.numbers.now in
    let k = c.args.k.now in
    let kind = c.args.kind in
    let a : List ℕ = often_figure (codes "bucket") kind Bucket false n.bucket k.first_bucket k.bucket in
    let b : List ℕ = often_figure (codes "buffer") kind Buffer true (held_in n kind) k.first_over k.buffer in
    two_ok c.add_often_figure-2.result (string_bytes c.args.text.now) a b _ _ c.in_ok-add_often_figure.ensures
    (added_ok c.add_often_figure-2.result _ _ _ b c.add_often_figure-2.ensures
    (ap (λ (s : Summary). often_figure (codes "buffer") kind Buffer true s k.first_over k.buffer) c.held_in-held.ensures))
