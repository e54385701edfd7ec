-- Marks rise with numbers.
use Rattle.std.proofs.Common.{◌≡◌, ◌<◌, ◌≤◌, ◌-◌, ◌*◌, ◌/◌, ℕ, max, ap, ◌∙◌, ◌≤ℤ◌, ◌<ℤ◌, arith}
use Rattle.std.proofs.lemmas.Bool.Decides.{nat_tests}
use Rattle.std.proofs.lemmas.Int.{ints}
use Rattle.std.proofs.lemmas.Nat.{le-div, mul-le}
use Rattle.std.proofs.Math.Nat.{div-le_of_le-mul, div-mul-le_self, mul-div_cancel}
use Rattle.std.specs.Prelude.{ℤ}
use Rattle.flow_page.specs.chart.Marks.{high, mark, rise, span, y_of}
use Rattle.flow_page.specs.declared.chart.axis.Axis.{Axis}
use Rattle.flow_page.specs.declared.chart.plot.Plot.{Plot}

falls : (n m k : ℕ) → 0 < k → n ≤ m → n / k ≤ m / k
falls n m k some below =
    let e : n / k * k ≤ n = div-mul-le_self n k in
    let f : n / k * k ≤ m = omega arith in
    le-div (n / k) m k some f

-- what rises more has its mark no lower
pub mark_falls : (height : ℕ) (a : Axis) (x y : ℤ) → rise a x ≤ rise a y → mark height a y ≤ mark height a x
unfolding mark
mark_falls height a x y more =
    let left : span a - rise a y ≤ span a - rise a x = omega arith in
    let same : height ≤ height = omega arith in
    let some : 0 < max 1 (span a) = omega arith in
    let product : height * (span a - rise a y) ≤ height * (span a - rise a x) = mul-le height (span a - rise a y) height (span a - rise a x) same left in
    falls (height * (span a - rise a y)) (height * (span a - rise a x)) (max 1 (span a)) some product

-- the greater number is no less far above the low end
pub rises : (a : Axis) (x y : ℤ) → x ≤ℤ y → rise a x ≤ rise a y
rises a x y up = grind (arith, ints, nat_tests)

-- and the one above another is further, on the axis
pub rises_above : (a : Axis) (limit x : ℤ) → a.low ≤ℤ limit → limit <ℤ x → x ≤ℤ high a → rise a limit < rise a x
rises_above a limit x low more within = grind (arith, ints, nat_tests)

-- the ends rise by nothing and by the span
low_rises : (a : Axis) → rise a a.low ≡ 0
low_rises a = grind (arith, ints, nat_tests)

high_rises : (a : Axis) → rise a (high a) ≡ span a
high_rises a = grind (arith, ints, nat_tests)

pub low_stands : (height : ℕ) (a : Axis) → 0 < span a → mark height a a.low ≡ height
unfolding mark
low_stands height a some =
    let same : max 1 (span a) ≡ span a = omega arith in
    let whole : span a - rise a a.low ≡ span a = omega (arith, low_rises a) in
    ap (λ n. height * n / max 1 (span a)) whole ∙ ap (λ n. height * span a / n) same ∙ mul-div_cancel height some

pub high_stands : (height : ℕ) (a : Axis) → mark height a (high a) ≡ 0
unfolding mark
high_stands height a =
    let none : span a - rise a (high a) ≡ 0 = omega (arith, high_rises a) in
    let nothing : height * 0 ≤ max 1 (span a) * 0 = omega arith in
    let least : height * 0 / max 1 (span a) ≤ 0 = div-le_of_le-mul (max 1 (span a)) nothing in
    omega (arith, ap (λ n. height * n / max 1 (span a)) none, least)

-- each mark stands in the picture
pub stands_within : (height : ℕ) (a : Axis) (x : ℤ) → mark height a x ≤ height
unfolding mark
stands_within height a x =
    let part : span a - rise a x ≤ max 1 (span a) = omega arith in
    let same : height ≤ height = omega arith in
    let product : height * (span a - rise a x) ≤ height * max 1 (span a) = mul-le height (span a - rise a x) height (max 1 (span a)) same part in
    let turned : height * (span a - rise a x) ≤ max 1 (span a) * height = omega (arith, product) in
    div-le_of_le-mul (max 1 (span a)) turned

-- a greater number stands no lower in a panel
pub stands_above : (p : Plot) (x y : ℤ) → x ≤ℤ y → y_of p y ≤ y_of p x
unfolding y_of
stands_above p x y up =
    let m : mark p.panel.height p.axis y ≤ mark p.panel.height p.axis x = mark_falls p.panel.height p.axis x y (rises p.axis x y up) in
    omega (arith, m)
