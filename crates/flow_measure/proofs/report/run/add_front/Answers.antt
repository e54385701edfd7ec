use Rattle.std.proofs.Common.{ap}
use Rattle.std.specs.Prelude.{string_bytes}
use Rattle.timing_base.specs.Verdicts.{Judged}
use Rattle.flow_measure.specs.report.Told.{numbers_told}
use Rattle.flow_measure.proofs.lemmas.report.Joined.{added_ok, front-is, front_pieces}
use Rattle.flow_measure.proofs.report.run.add_front.Goals as goal

pub returns : goal.returns
returns c =
    let n = numbers_told c.args.numbers.now in
    added_ok c.write.result (string_bytes c.args.text.now) (string_bytes c.write.new.self)
    (front_pieces n c.judged.inside.frames (string_bytes c.in_ok-gap.gap)) _ c.write.ensures.bytes
    (front-is n _ _ _ _ (ap (λ (j : Judged). j.frames) c.judged.view_is) c.in_ok-gap.ensures)
