use Rattle.std.proofs.Common.{◌-◌, refl, arith}
use Rattle.read_schedule.specs.Parts.{parts_at, parts_of}
use Rattle.offset_window.proofs.Steps.{before-false, before-true, greatest-is, offset-less, true-before}
use Rattle.offset_window.proofs.read.Read.greatest_offset.Goals as goal

pub returns : goal.returns
returns c =
    let s = c.args.self.now in
    let g = s.grid in
    let early = true-before g s.number c.args.at c.args.before c.requires.early in
    let is = greatest-is (parts_at g s.number) (parts_of g c.args.at) g.den (c.reached-reached.result - s.at) c.micro.result _
    (omega (arith, c.reached-reached.ensures.value, s.at_is, c.if-reached-self.false))
    (omega (arith, c.reached-reached.ensures.value, s.at_is)) c.micro.ensures.value c.micro.ensures.some refl in (
      offset-less (parts_at g s.number) (parts_of g c.args.at) g.den _ c.args.before is.0 early,
      before-false g s.number c.args.at _ is.0,
      before-true g s.number c.args.at _ is.1,
    )
