use Rattle.std.proofs.Common.{◌++◌, ◌∷◌, [], Some, None, refl, sym, subst, arith}
use Rattle.run_meter.specs.Runs.{part_of}
use Rattle.flow_measure.specs.Measured.{AreMeasured, HasNumbers}
use Rattle.flow_measure.proofs.Judging.{Finishes, finished, measured-more}
use Rattle.flow_measure.proofs.numbers_meter.NumbersMeterRunMeter.close.Goals as goal

pub returns-in_ok-push-in-Some : goal.returns-in_ok-push-in-Some
returns-in_ok-push-in-Some c = λ past shift r over fed committed size judged h tells.
    let m = c.args.params.now.media in
    let x = c.args.self.committed in
    let part = part_of r c.args.judged.now committed in
    let finishes = subst (λ n. Finishes m n x (Some c.in-Some.numbers)) (sym size) c.in-Some.ensures in
    let numbers = finished m shift r x committed c.args.judged.now (Some c.in-Some.numbers) finishes judged h.committed_are in
    subst (AreMeasured (HasNumbers m shift) (over ++ part ∷ [])) (sym c.in_ok-push-in-Some.ensures.items)
    (measured-more (HasNumbers m shift) over c.args.out.now.runs.items part _ tells
    (record { run_is = h.head_is.run; record_is = h.head_is.rec; number = h.head_is.number; judged_is = refl; numbers = numbers }))

pub returns-in-None : goal.returns-in-None
returns-in-None c = λ past shift r over fed committed size judged h tells.
    let m = c.args.params.now.media in
    let x = c.args.self.committed in
    let finishes = subst (λ n. Finishes m n x None) (sym size) c.in-None.ensures in
    absurd (omega (arith, finished m shift r x committed c.args.judged.now None finishes judged h.committed_are, judged.some))
