use Rattle.std.proofs.Common.{◌≡◌, List, Some, None, sym, subst}
use Rattle.std.specs.Prelude.{slice_get}
use Rattle.timing_base.specs.Captures.{Record}
use Rattle.timing_base.specs.Judged.{judged}
use Rattle.udp_rtp.specs.Flow.{flow}
use Rattle.interval_checker.specs.Asking.{IsAsked}
use Rattle.interval_checker.specs.Checked.{Says}
use Rattle.interval_checker.specs.Readings.{HasRead, asked_by, media_of, options_of}
use Rattle.interval_checker.specs.declared.reading.Reading.{Reading}
use Rattle.timing_top.proofs.lemmas.verify.Confirming.{finds-answer, no-reading, same-reading}
use Rattle.timing_top.proofs.verify.read.answer_of.Goals as goal

pub returns-in-Some : goal.returns-in-Some
returns-in-Some c = λ m options texts r e is.
    let claim = c.args.claim.now in
    let here : slice_get c.args.readings.now c.args.number ≡ Some c.in-Some.reading.now = sym c.in-Some.ensures in
    let same : c.in-Some.reading.now ≡ r = same-reading (slice_get c.args.readings.now c.args.number) c.in-Some.reading.now r here e in
    finds-answer m claim options texts r c.answer.result is
    (subst (λ (x : Reading). (items : List Record) → HasRead x items → IsAsked (asked_by x) claim.run claim.proof
    → Says (media_of x) claim.kind claim.proof claim.run (judged (flow items (media_of x)) (media_of x).pt (options_of x)) c.answer.result) same
    c.answer.ensures)

pub returns-in-None : goal.returns-in-None
returns-in-None c = λ m options texts r e is.
    let none : slice_get c.args.readings.now c.args.number ≡ None = sym c.in-None.ensures in
    absurd (no-reading (slice_get c.args.readings.now c.args.number) r none e)
