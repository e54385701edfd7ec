use Rattle.std.proofs.Common.{◌≡◌, pos, ◌-ℤ◌, ap, ◌∙◌, FitsSigned, of_z, to_z, rules, arith}
use Rattle.std.proofs.lemmas.Int.{ints, to_z-of_z}
use Rattle.std.specs.Int.{w128}
use Rattle.flow_measure.specs.Frames.{clock_at, frame_start, wrapped}
use Rattle.flow_measure.proofs.Epoch.{clock-is}
use Rattle.flow_measure.proofs.frames.offset_of.Goals as goal

pub wrap-requires-clause-low : goal.wrap-requires-clause-low
wrap-requires-clause-low c =
    let s = c.start_of-start in
    let d = c.floor_difference-clock.ensures in
    omega (arith, ints, d.high, d.low, s.ensures.num_small, s.ensures.before_small, c.from.ensures)

pub wrap-requires-clause-high : goal.wrap-requires-clause-high
wrap-requires-clause-high c =
    let s = c.start_of-start in
    let d = c.floor_difference-clock.ensures in
    omega (arith, ints, d.high, d.low, s.ensures.num_small, s.ensures.before_small, c.from.ensures)

pub returns-clause-value : goal.returns-clause-value
returns-clause-value c =
    let s = c.start_of-start in
    let start = frame_start c.args.params.now.media c.args.n0 c.args.k in
    let n0_fits = c.ranges.n0 in
    let num = simp to_z-of_z at c.start_of-start.ensures.num in
    let clock = c.floor_difference-clock.ensures.value ∙ clock-is start s.result.num s.result.before s.result.den num s.ensures.den in
    let difference : to_z w128 (of_z w128 (to_z w128 (of_z w128 c.from.result) -ℤ to_z w128 (of_z w128 c.floor_difference-clock.result)))
    ≡ pos c.args.timestamp -ℤ clock_at start =
    omega (
      arith,
      ints,
      c.floor_difference-clock.ensures.high,
      c.floor_difference-clock.ensures.low,
      s.ensures.num_small,
      s.ensures.before_small,
      c.from.ensures,
      clock,
    ) in
    let fits : FitsSigned w128 c.wrap.result = search rules in
    to_z-of_z w128 c.wrap.result fits ∙ c.wrap.ensures.value ∙ ap wrapped difference
