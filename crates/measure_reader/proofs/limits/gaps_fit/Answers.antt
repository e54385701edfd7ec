use Rattle.std.proofs.Common.{rules, subst}
use Rattle.std.specs.Prelude.{All}
use Rattle.table_reader.specs.Fits.{IsWord}
use Rattle.measure_reader.proofs.limits.gaps_fit.Goals as goal

pub returns : goal.returns
returns c = record { summary = search rules; classes = subst (All IsWord) c.counts.ensures.value c.words_fit.ensures }
