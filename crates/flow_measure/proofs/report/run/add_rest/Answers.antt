use Rattle.std.proofs.Common.{ap}
use Rattle.std.specs.Prelude.{string_bytes}
use Rattle.timing_base.specs.Verdicts.{Judged}
use Rattle.flow_measure.specs.report.Told.{run_told}
use Rattle.flow_measure.proofs.lemmas.report.Joined.{added_ok, rest-is, rest_pieces}
use Rattle.flow_measure.proofs.report.run.add_rest.Goals as goal

pub returns : goal.returns
returns c =
    let run = run_told c.args.run.now in
    added_ok c.write.result (string_bytes c.args.text.now) (string_bytes c.write.new.self)
    (rest_pieces run c.judged.inside.n c.judged.inside.packets) _ c.write.ensures.bytes
    (rest-is run _ _ _ _ (ap (λ (j : Judged). j.n) c.judged.view_is) (ap (λ (j : Judged). j.packets) c.judged.view_is))
