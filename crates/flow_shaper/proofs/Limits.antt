-- The limits are never 0, and the ticks of the drain rise slowly.
use Rattle.std.proofs.Common.{◌≡◌, ◌≤◌, ◌<◌, ◌+◌, ◌-◌, ◌*◌, ◌↔◌, ℕ, Bool, true, false, cond, Option, Some, None, arith, refl}
use Rattle.std.specs.Option.{ForSome, unwrap_or}
use Rattle.fraction128.specs.Clocks.{StandsAt, passed_by}
use Rattle.fraction128.specs.declared.clock.Clock.{Clock}
use Rattle.fraction128.proofs.Due.{next_is_due}
use Rattle.std.proofs.lemmas.Nat.{div_below}
use Rattle.timing_base.specs.Media.{IsMedia, Media}
use Rattle.timing_base.specs.declared.media.Kind.{Kind}
use Rattle.timing_base.specs.declared.media.Kind.TheVariants.{N, NL, W}
use Rattle.sender_params.specs.Limits.{c_max_by_rate, c_max_of, is_declared, vrx_full_of}
use Rattle.sender_params.specs.Ticks.{ticks_of}
use Rattle.sender_params.specs.declared.params.Params.{Params}

-- C_MAX by the rate
rate-some : (m : Media) (n : ℕ) (kind : Kind) → 1 ≤ c_max_by_rate m n kind
rate-some m n N = omega arith
rate-some m n NL = omega arith
rate-some m n W = omega arith

or_some : (d : Bool) (cmax : Option ℕ) (limit : ℕ) → ForSome cmax (λ x. 1 ≤ x) → 1 ≤ limit → 1 ≤ cond d (unwrap_or cmax limit) limit
or_some true (Some x) limit h some = h x refl
or_some true None limit h some = some
or_some false cmax limit h some = some

pub c_max-some : (m : Media) (n : ℕ) (kind : Kind) → IsMedia m → 1 ≤ c_max_of m n kind
c_max-some m n kind is = or_some (is_declared m.declared kind) m.cmax (c_max_by_rate m n kind) is.cmax_some (rate-some m n kind)

pub vrx_full-some : (m : Media) (n : ℕ) (kind : Kind) → 8 ≤ vrx_full_of m n kind
vrx_full-some m n N = omega arith
vrx_full-some m n NL = omega arith
vrx_full-some m n W = omega arith

-- the line of the drain has the ticks as its instants
pub ticks-are : (params : Params) (a0 at : ℕ) → passed_by params.drain a0 at ≡ ticks_of params.media params.n a0 at
ticks-are params a0 at = rw (params.drain_num, params.drain_den) refl

-- the next tick has come exactly where there are more ticks
pub tick-due : (params : Params) (clock : Clock) (a0 last t : ℕ)
    → StandsAt params.drain clock a0 last
    → (clock.due ≤ t) ↔ (ticks_of params.media params.n a0 last < ticks_of params.media params.n a0 t)
tick-due params clock a0 last t stands =
    let some : 1 ≤ params.drain.num = omega (arith, params.drain.some, params.drain.slow) in
    let due = next_is_due params.drain.num params.drain.den a0 (passed_by params.drain a0 last) clock.due clock.slack t some stands in
    let here = ticks-are params a0 last in
    let there = ticks-are params a0 t in (
      λ come. omega (arith, due.0 come, here, there),
      λ more. due.1 (omega (arith, more, here, there)),
    )

-- and then there is one more
pub tick-one : (params : Params) (clock : Clock) (a0 last : ℕ)
    → StandsAt params.drain clock a0 last
    → ticks_of params.media params.n a0 clock.due ≤ ticks_of params.media params.n a0 last + 1
tick-one params clock a0 last stands =
    let line = params.drain in
    let some : 1 ≤ line.num = omega (arith, line.some, line.slow) in
    let count = passed_by line a0 last in
    let below : (clock.due - a0) * line.den < (count + 2) * line.num = omega (arith, stands.reached, stands.least, line.slow) in
    let quotient : passed_by line a0 clock.due < count + 2 = div_below ((clock.due - a0) * line.den) line.num (count + 2) some below in
    omega (arith, quotient, ticks-are params a0 last, ticks-are params a0 clock.due)
