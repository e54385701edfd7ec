use Rattle.timing_explain.proofs.Spans.{span-differs}
use Rattle.timing_explain.proofs.laws.span_is_a_difference.Goals as goal

pub returns : goal.returns
returns c = span-differs
