use Rattle.timing_explain.proofs.OfVerdict.{known-agree}
use Rattle.timing_explain.proofs.laws.numbers_are_of_the_verdict.Goals as goal

pub returns : goal.returns
returns c = known-agree
