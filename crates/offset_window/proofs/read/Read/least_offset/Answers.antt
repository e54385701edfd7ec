use Rattle.std.proofs.Common.{◌≡◌, ◌+◌, ◌-◌, ◌/◌, refl, ap, ◌∙◌, arith}
use Rattle.read_schedule.specs.Parts.{parts_at, parts_of}
use Rattle.offset_window.specs.Parts.{comes_after}
use Rattle.offset_window.proofs.Steps.{after-false, after-true, least-is, true-after}
use Rattle.offset_window.proofs.read.Read.least_offset.Goals as goal

pub returns-then-micros-from : goal.returns-then-micros-from
returns-then-micros-from c =
    let s = c.args.self.now in
    let g = s.grid in
    let late = true-after g s.number c.args.at 0 c.requires.late in
    let quotient = (c.reached.result - s.at - 1) / c.micro.result in
    let less : quotient + 1 - 1 ≡ quotient = omega arith in
    let is = least-is (parts_at g s.number) (parts_of g c.args.at) g.den (c.reached.result - s.at) c.micro.result quotient
    (omega (arith, late)) (omega (arith, c.reached.ensures.value, s.at_is)) c.micro.ensures.value c.micro.ensures.some refl in (
      omega arith,
      omega (arith, c.if-micros-from.true, c.from.ensures),
      after-false g s.number c.args.at (quotient + 1) is.0,
      ap (comes_after g s.number c.args.at) less ∙ after-true g s.number c.args.at quotient is.1,
    )
