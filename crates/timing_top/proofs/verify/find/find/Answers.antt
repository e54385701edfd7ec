use Rattle.std.proofs.Common.{◌≡◌, [], ◌∷◌, ◌++◌, sym, ap, ◌∙◌, subst, arith}
use Rattle.std.specs.Prelude.{slice_get}
use Rattle.interval_checker.specs.Asking.{IsAsked}
use Rattle.interval_checker.specs.Readings.{AreSame, asked_by}
use Rattle.timing_top.proofs.lemmas.verify.Confirming.{one-read}
use Rattle.timing_top.proofs.verify.find.find.Goals as goal

pub returns-clause-told : goal.returns-clause-told
returns-clause-told g c = λ texts told.
    let claim = c.args.claim.now in
    let first = c.new.result in
    let items : c.push.new.self.items ≡ first ∷ [] = c.in_ok-push.ensures.items ∙ ap (λ l. l ++ first ∷ []) c.new-readings.ensures.items in
    let same : c.from.result ≡ claim.run = omega (arith, c.from.ensures) in
    let asked : IsAsked (asked_by first) claim.run claim.proof =
    subst (λ a. IsAsked a claim.run claim.proof) (sym c.new.ensures.asked)
    (subst (λ r. IsAsked c.ask.new.self r claim.proof) same c.in_ok-ask.ensures.asked) in
    one-read c.args.media.now claim c.args.options texts first c.in_ok-read.read.items c.answer_of.result c.new.ensures.media c.new.ensures.options asked
    (subst (λ l. AreSame l c.in_ok-read.read.items) items c.in_ok-read.ensures.same) (c.in_ok-read.ensures.told texts told)
    (λ x t l r e is. c.answer_of.ensures x t l r (ap (λ rs. slice_get rs 0) c.deref.ensures.value ∙ e) is)
