use Rattle.std.proofs.Common.{◌∙◌}
use Rattle.pcapng_reader.proofs.Texts.{text-over}
use Rattle.pcapng_reader.proofs.converter.Converter.end.Goals as goal

pub returns-clause-text : goal.returns-clause-text
returns-clause-text c = λ left. text-over _ _ _ _ ∙ c.keep_only.ensures.kept
