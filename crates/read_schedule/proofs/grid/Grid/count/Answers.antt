use Rattle.std.proofs.Common.{◌≡◌, ◌-◌, ◌*◌, arith}
use Rattle.read_schedule.proofs.Turns.{count-ahead, count-due, groups-few}
use Rattle.read_schedule.proofs.grid.Grid.count.Goals as goal

pub overflow_mul-result : goal.overflow_mul-result
overflow_mul-result c =
    let g = c.args.self.now in
    let reached : c.from.result * c.from-2.result ≡ c.args.t * g.den = cc (c.from.ensures, c.from-2.ensures) in
    let few = groups-few g (c.from.result * c.from-2.result - g.start) c.args.t (omega (arith, reached)) in
    omega (arith, few)

pub overflow_add-result : goal.overflow_add-result
overflow_add-result c =
    let g = c.args.self.now in
    let reached : c.from.result * c.from-2.result ≡ c.args.t * g.den = cc (c.from.ensures, c.from-2.ensures) in
    let few = groups-few g (c.from.result * c.from-2.result - g.start) c.args.t (omega (arith, reached)) in
    omega (arith, few)

pub overflow_add-result-2 : goal.overflow_add-result-2
overflow_add-result-2 c =
    let g = c.args.self.now in
    let reached : c.from.result * c.from-2.result ≡ c.args.t * g.den = cc (c.from.ensures, c.from-2.ensures) in
    let few = groups-few g (c.from.result * c.from-2.result - g.start) c.args.t (omega (arith, reached)) in
    omega (arith, few)

pub returns-clause-due : goal.returns-clause-due
returns-clause-due c = λ x low.
    let g = c.args.self.now in
    let reached : c.from.result * c.from-2.result ≡ c.args.t * g.den = cc (c.from.ensures, c.from-2.ensures) in
    let since = c.from.result * c.from-2.result - g.start in
    omega (arith, reached, count-due g since c.min.result x (rw (← c.from-3.ensures) c.min.ensures) low)

pub returns-clause-ahead : goal.returns-clause-ahead
returns-clause-ahead c = λ x high.
    let g = c.args.self.now in
    let reached : c.from.result * c.from-2.result ≡ c.args.t * g.den = cc (c.from.ensures, c.from-2.ensures) in
    let since = c.from.result * c.from-2.result - g.start in
    omega (arith, reached, count-ahead g since c.min.result x (rw (← c.from-3.ensures) c.min.ensures) high)
