use Rattle.sdp_reader.proofs.Targets.{targets-own}
use Rattle.sdp_reader.proofs.laws.targets_are_own.Goals as goal

pub returns : goal.returns
returns c = λ bytes media h. targets-own bytes media h
