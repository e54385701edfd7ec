use Rattle.std.proofs.Common.{◌≡◌, subst, sym, arith, map, false}
use Rattle.std.specs.Prelude.{Ok}
use Rattle.std.proofs.lemmas.Option.{MatchOption-at_none, MatchOption-at_some}
use Rattle.timing_base.specs.Judged.{FlowRun, runs_between}
use Rattle.interval_checker.specs.Asking.{IsAsked}
use Rattle.interval_checker.specs.Checked.{SaysAt}
use Rattle.interval_checker.proofs.Outcomes.{says-at, says-beyond}
use Rattle.interval_checker.proofs.walk.Walk.answer_here.Goals as goal

pub returns-in-None : goal.returns-in-None
returns-in-None c = λ pt packets i places k asked.
    let claim = c.args.claim.now in
    let a = c.args.self.now.asked in
    let same : c.from-run.result ≡ claim.run = omega (arith, c.from-run.ensures) in
    let os = map (λ (r : FlowRun). r.outcome) (runs_between packets claim.shift i 0 places) in
    let at = c.ending.ensures pt claim.shift claim.proof packets i places k (subst (λ r. IsAsked a r claim.proof) (sym same) asked) in
    subst (λ r. SaysAt claim.media claim.kind claim.proof os r (Ok false)) same
    (says-beyond claim.media claim.kind claim.proof c.from-run.result os (MatchOption-at_none _ _ c.in-None.is at))

pub returns-in-Some : goal.returns-in-Some
returns-in-Some c = λ pt packets i places k asked.
    let claim = c.args.claim.now in
    let a = c.args.self.now.asked in
    let same : c.from-run.result ≡ claim.run = omega (arith, c.from-run.ensures) in
    let os = map (λ (r : FlowRun). r.outcome) (runs_between packets claim.shift i 0 places) in
    let is = subst (λ r. IsAsked a r claim.proof) (sym same) asked in
    let at = c.ending.ensures pt claim.shift claim.proof packets i places k is in
    subst (λ r. SaysAt claim.media claim.kind claim.proof os r c.answer.result) same
    (says-at claim.media claim.kind claim.proof a c.from-run.result claim.shift c.from-run.result os c.in-Some.ending c.answer.result
    (MatchOption-at_some _ _ c.in-Some.ending c.in-Some.is at) (λ o ends. c.answer.ensures o is ends))
