use Rattle.std.proofs.Common.{ap, ◌∙◌}
use Rattle.std.specs.Prelude.{string_bytes}
use Rattle.timing_base.specs.Media.{Media}
use Rattle.timing_base.specs.Verdicts.{Judged}
use Rattle.flow_measure.specs.report.Json.{flag_text}
use Rattle.flow_measure.specs.report.Told.{numbers_told}
use Rattle.flow_measure.proofs.lemmas.report.Joined.{added_ok, middle-is, middle_pieces}
use Rattle.flow_measure.proofs.report.run.add_middle.Goals as goal

pub returns : goal.returns
returns c =
    let n = numbers_told c.args.numbers.now in
    added_ok c.write.result (string_bytes c.args.text.now) (string_bytes c.write.new.self)
    (middle_pieces n c.judged.inside.head c.flag_name-interlaced.result.now) _ c.write.ensures.bytes
    (middle-is n _ _ _ _ (ap (λ (j : Judged). j.head) c.judged.view_is)
    (c.flag_name-interlaced.ensures ∙ ap (λ (m : Media). flag_text m.interlaced) c.media.view_is))
