use Rattle.sdp_reader.proofs.Within.{session-within}
use Rattle.sdp_reader.proofs.laws.media_are_within.Goals as goal

pub returns : goal.returns
returns c = λ bytes media h. session-within bytes media h
