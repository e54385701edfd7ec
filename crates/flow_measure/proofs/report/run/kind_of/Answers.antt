use Rattle.std.proofs.Common.{ap, ◌∙◌}
use Rattle.std.specs.Prelude.{string_bytes}
use Rattle.timing_base.specs.declared.row.KindVerdict.{KindVerdict}
use Rattle.flow_measure.specs.report.Json.{kind_text, result_text}
use Rattle.flow_measure.specs.report.Told.{kind_told}
use Rattle.flow_measure.proofs.lemmas.report.Joined.{kind-is, kind_pieces, text_ok}
use Rattle.flow_measure.proofs.report.run.kind_of.Goals as goal

pub returns : goal.returns
unfolding kind_text
returns c =
    let told = kind_told c.args.numbers.now in
    text_ok c.format.result (λ s. string_bytes s)
    (kind_pieces (string_bytes c.in_ok-bucket.bucket) (string_bytes c.in_ok-buffer.buffer) (string_bytes c.in_ok-breaks.breaks)
    (string_bytes c.in_ok-ending.ending) c.kind_name-name.result.now)
    _ c.format.ensures.ok
    (kind-is _ _ _ _ _ _ _ _ _ _ c.in_ok-bucket.ensures c.in_ok-buffer.ensures c.in_ok-breaks.ensures
    (c.in_ok-ending.ensures ∙ ap (λ (v : KindVerdict). result_text v told) c.verdict_on.ensures) c.kind_name-name.ensures)
