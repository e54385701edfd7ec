use Rattle.std.proofs.Common.{refl}
use Rattle.udp_rtp.proofs.laws.awaited_by_hand.Goals as goal

pub returns-clause-numbers : goal.returns-clause-numbers
returns-clause-numbers c = λ a d h t r. rw (d, h, t, r) refl

pub returns-clause-nothing : goal.returns-clause-nothing
returns-clause-nothing c = λ a d. rw d refl
