use Rattle.std.proofs.Common.{subst}
use Rattle.interval_checker.specs.Asking.{EndsAs}
use Rattle.interval_checker.proofs.Outcomes.{says-frames, says-head}
use Rattle.interval_checker.proofs.walk.Walk.answer.Goals as goal

pub returns-in-NoWholeFrame : goal.returns-in-NoWholeFrame
returns-in-NoWholeFrame c = λ o asked ends.
    let claim = c.args.claim.now in
    let a = c.args.self.now.asked in
    says-head claim.media claim.kind claim.proof a c.args.run claim.shift c.in-NoWholeFrame.head o
    (subst (EndsAs a c.args.run claim.shift o) c.in-NoWholeFrame.is ends)

pub returns-in-WholeFrames : goal.returns-in-WholeFrames
returns-in-WholeFrames c = λ o asked ends.
    let claim = c.args.claim.now in
    let a = c.args.self.now.asked in
    says-frames claim.media claim.kind claim.proof a c.args.run claim.shift c.in-WholeFrames.frames c.of-sample.result c.is_confirmed.result o
    (subst (EndsAs a c.args.run claim.shift o) c.in-WholeFrames.is ends)
    (λ raw count kept rising. c.of-sample.ensures raw count kept asked rising) c.is_confirmed.ensures
