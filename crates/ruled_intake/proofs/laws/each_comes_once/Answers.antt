use Rattle.ruled_intake.proofs.Steps.{all_sent_is_all}
use Rattle.ruled_intake.proofs.laws.each_comes_once.Goals as goal

pub returns : goal.returns
returns c = all_sent_is_all
