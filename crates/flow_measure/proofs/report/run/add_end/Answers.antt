use Rattle.std.proofs.Common.{List, ap, ◌∙◌}
use Rattle.std.specs.Prelude.{string_bytes, map}
use Rattle.timing_base.specs.Verdicts.{Judged}
use Rattle.flow_measure.specs.declared.numbers.KindNumbers.{KindNumbers}
use Rattle.flow_measure.specs.report.Json.{kinds_text}
use Rattle.flow_measure.specs.report.Told.{kind_told, run_told}
use Rattle.flow_measure.proofs.lemmas.report.Joined.{added_ok, end-is, end_pieces}
use Rattle.flow_measure.proofs.report.run.add_end.Goals as goal

pub returns : goal.returns
returns c =
    let run = run_told c.args.run.now in
    added_ok c.write.result (string_bytes c.args.text.now) (string_bytes c.write.new.self)
    (end_pieces run c.judged.inside.tail (string_bytes c.in_ok-types.types)) _ c.write.ensures.bytes
    (end-is run _ _ _ _ (ap (λ (j : Judged). j.tail) c.judged.view_is)
    (c.in_ok-types.ensures ∙ ap (λ (ks : List KindNumbers). kinds_text c.args.judged.now (map kind_told ks)) c.as_slice.ensures))
