use Rattle.std.proofs.Common.{refl, rules}
use Rattle.timing_reach.proofs.Scannings.{scanned-in}
use Rattle.timing_reach.proofs.scan.read_capture.Goals as goal

pub returns-clause-told : goal.returns-clause-told
returns-clause-told g c = λ text whole.
    scanned-in text c.new-scan.result c.take_capture.new.taker c.in_ok-taken.taken _ c.new-scan.ensures.stands
    (c.in_ok-taken.ensures.told text (search rules)) (λ records h. c.in_ok-found.ensures records h) refl
