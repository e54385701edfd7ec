use Rattle.std.proofs.Common.{refl}
use Rattle.interval_checker.proofs.Walking.{new-keeps}
use Rattle.interval_checker.proofs.walk.Walk.new.Goals as goal

pub returns-clause-stands : goal.returns-clause-stands
returns-clause-stands c =
    λ pt shift. record { ahead = λ rest. new-keeps pt shift rest _ record { fed = refl; before = refl; cut_count = refl; start = refl; marks = refl } }
