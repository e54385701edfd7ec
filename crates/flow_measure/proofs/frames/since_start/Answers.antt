use Rattle.std.proofs.Common.{◌≡◌, ◌+◌, ◌*◌, pos, ◌-ℤ◌, ◌∙◌, FitsSigned, rules, arith}
use Rattle.std.proofs.lemmas.Int.{ints, to_z-of_z}
use Rattle.std.specs.Int.{w128}
use Rattle.fraction128.specs.Fractions.{floor_of_signed}
use Rattle.flow_measure.specs.Frames.{frame_start}
use Rattle.flow_measure.proofs.Epoch.{reached-small, since-is}
use Rattle.flow_measure.proofs.frames.since_start.Goals as goal

pub returns-clause-value : goal.returns-clause-value
returns-clause-value c =
    let s = c.start_of-start in
    let x = s.result in
    let at = c.args.at in
    let value : c.floor_difference.result ≡ floor_of_signed (pos (at * x.den + x.before) -ℤ pos x.num) x.den =
    rw c.from.ensures at c.floor_difference.ensures.value in
    let fits : FitsSigned w128 c.floor_difference.result = search rules in
    let n0_fits = c.ranges.n0 in
    let num = simp to_z-of_z at c.start_of-start.ensures.num in
    to_z-of_z w128 c.floor_difference.result fits ∙ value
    ∙ since-is (frame_start c.args.params.now.media c.args.n0 c.args.k) at x.num x.before x.den num s.ensures.den

pub returns-clause-high : goal.returns-clause-high
returns-clause-high c =
    let s = c.start_of-start in
    let small = reached-small c.from.result s.result.den (omega (arith, c.from.ensures)) s.ensures.den_small in
    omega (arith, ints, c.floor_difference.ensures.high, small, s.ensures.before_small)
