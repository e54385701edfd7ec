use Rattle.std.proofs.Common.{◌∙◌, ap, sym, None}
use Rattle.timing_measure.specs.Measured.{source_or}
use Rattle.timing_measure.proofs.Sources.{source-kept, source-none}
use Rattle.timing_measure.proofs.flows.source.source_with.Goals as goal

pub returns-in-Some : goal.returns-in-Some
returns-in-Some c = λ packets e. sym (source-kept packets c.args.packet.now c.in-Some.source (sym e ∙ c.in-Some.is))

pub returns-in-Ok : goal.returns-in-Ok
returns-in-Ok c = λ packets e. sym (source-none packets c.args.packet.now (sym e ∙ c.in-None.is) ∙ ap (λ r. source_or r None) c.in-Ok.is)

pub returns-in-Err : goal.returns-in-Err
returns-in-Err c = λ packets e. sym (source-none packets c.args.packet.now (sym e ∙ c.in-None.is) ∙ ap (λ r. source_or r None) c.in-Err.is)
