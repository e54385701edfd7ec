use Rattle.std.proofs.Common.{◌≡◌, Ok, true, rules}
use Rattle.timing_reach.proofs.skew.pairing.PairingTaker.take.Goals as goal

pub returns-then-branch-clause-room : goal.returns-then-branch-clause-room
returns-then-branch-clause-room c =
    let took : c.take_second.result ≡ Ok true = search rules in
    λ count h. c.take_second.ensures.room count took h
