-- The next instant of a line, rounded up.
use Rattle.std.proofs.Common.{◌≡◌, ◌≤◌, ◌<◌, ◌+◌, ◌-◌, ◌*◌, ◌/◌, ℕ, ap, inl, inr, subst, arith}
use Rattle.std.proofs.lemmas.Bool.{cases_lt}
use Rattle.std.proofs.lemmas.Nat.{div_below, le-div, div-add-mod'}
use Rattle.std.proofs.Math.Nat.{add-mul, mul-le-mul_left, mul-le-mul_right, lt_of_mul-lt-mul_right}
use Rattle.fraction128.specs.Clocks.{HasPassed, StandsAfter, passed_by}
use Rattle.fraction128.specs.Instants.{IsNext, NextIsDue, instants_of}
use Rattle.fraction128.specs.declared.clock.Clock.{Clock}
use Rattle.fraction128.specs.declared.clock.Line.{Line}

-- the next instant has come where `due` has
pub passed : (num den origin count due slack t : ℕ) → 1 ≤ num → IsNext num den origin count due slack → due ≤ t → count + 1 ≤ instants_of num den origin t
passed num den origin count due slack t some next come =
    let product : (due - origin) * den ≤ (t - origin) * den = mul-le-mul_right den (omega (arith, come)) in
    le-div (count + 1) ((t - origin) * den) num some (omega (arith, product, next.reached))

-- an instant that is next comes after the origin
pub after_origin : (num den origin count due slack : ℕ) → 1 ≤ num → IsNext num den origin count due slack → origin < due
after_origin num den origin count due slack some next = elim (cases_lt origin due) as (λ _. origin < due) [
  | inl after ↦ after
  | inr before ↦
      let none : due - origin ≡ 0 = omega (arith, before) in
      let product : (due - origin) * den ≡ 0 * den = ap (λ d. d * den) none in
      let more : 1 * num ≤ (count + 1) * num = mul-le-mul_right num (omega arith) in
      absurd (omega (arith, product, more, next.reached, some))
]

-- and it hasn't where `due` hasn't
pub ahead : (num den origin count due slack t : ℕ) → 1 ≤ num → IsNext num den origin count due slack → t < due → instants_of num den origin t ≤ count
ahead num den origin count due slack t some next before =
    let far : (t - origin) + 1 ≤ due - origin = omega (arith, before, after_origin num den origin count due slack some next) in
    let product : ((t - origin) + 1) * den ≤ (due - origin) * den = mul-le-mul_right den far in
    let below : (t - origin) * den < (count + 1) * num = omega (arith, product, add-mul (t - origin) 1 den, next.reached, next.least) in
    let quotient : (t - origin) * den / num < count + 1 = div_below ((t - origin) * den) num (count + 1) some below in
    omega (arith, quotient)

pub next_is_due : NextIsDue
next_is_due num den origin count due slack t some next = (
  λ come. omega (arith, passed num den origin count due slack t some next come),
  λ more. elim (cases_lt t due) as (λ _. due ≤ t) [
    | inl before ↦ absurd (omega (arith, more, ahead num den origin count due slack t some next before))
    | inr come ↦ come
  ],
)

-- the instants never become fewer
pub instants-rise : (num den origin before t : ℕ) → 1 ≤ num → before ≤ t → instants_of num den origin before ≤ instants_of num den origin t
instants-rise num den origin before t some order =
    let product : (before - origin) * den ≤ (t - origin) * den = mul-le-mul_right den (omega (arith, order)) in
    let parts = div-add-mod' ((before - origin) * den) num in
    le-div ((before - origin) * den / num) ((t - origin) * den) num some (omega (arith, product, parts))

-- one instant more
pub next-step : (num den origin count due slack whole part more left : ℕ)
    → 1 ≤ num
    → whole * den + part ≡ num
    → slack + more * den ≡ part + left
    → left < den
    → IsNext num den origin count due slack
    → IsNext num den origin (count + 1) (due + (whole + more)) left
next-step num den origin count due slack whole part more left some split less small next =
    let far : due + (whole + more) - origin ≡ (due - origin) + (whole + more) = omega (arith, after_origin num den origin count due slack some next) in
    let product : (due + (whole + more) - origin) * den ≡ ((due - origin) + (whole + more)) * den = ap (λ d. d * den) far in
    record {
      least = small;
      reached = omega (arith, product, add-mul (due - origin) (whole + more) den, add-mul whole more den, add-mul (count + 1) 1 num, next.reached, split, less);
    }

-- all instants up to t: `more` ones after the next, and then `rest` parts
pub next-leap : (num den origin count due slack t more rest up left : ℕ)
    → 1 ≤ num
    → due ≤ t
    → more * num + rest ≡ (t - due) * den + slack
    → rest < num
    → up * den ≡ (num - rest) + left
    → left < den
    → IsNext num den origin count due slack
    → IsNext num den origin (count + (1 + more)) (t + up) left
next-leap num den origin count due slack t more rest up left some come lots few ahead small next =
    let far : t + up - origin ≡ ((due - origin) + (t - due)) + up = omega (arith, come, after_origin num den origin count due slack some next) in
    let product : (t + up - origin) * den ≡ (((due - origin) + (t - due)) + up) * den = ap (λ d. d * den) far in
    let count_is : (count + (1 + more) + 1) * num ≡ ((count + 1) + (more + 1)) * num = ap (λ k. k * num) (omega arith) in
    record {
      least = small;
      reached = omega (
        arith,
        product,
        count_is,
        add-mul ((due - origin) + (t - due)) up den,
        add-mul (due - origin) (t - due) den,
        add-mul (count + 1) (more + 1) num,
        add-mul more 1 num,
        next.reached,
        lots,
        few,
        ahead,
      );
    }

-- and they have all come
pub leap-passed : (num den origin count due slack t more rest : ℕ)
    → 1 ≤ num
    → due ≤ t
    → more * num + rest ≡ (t - due) * den + slack
    → IsNext num den origin count due slack
    → count + (1 + more) ≤ instants_of num den origin t
leap-passed num den origin count due slack t more rest some come lots next =
    let far : t - origin ≡ (due - origin) + (t - due) = omega (arith, come, after_origin num den origin count due slack some next) in
    let product : (t - origin) * den ≡ ((due - origin) + (t - due)) * den = ap (λ d. d * den) far in
    let count_is : (count + (1 + more)) * num ≡ ((count + 1) + more) * num = ap (λ k. k * num) (omega arith) in
    le-div (count + (1 + more)) ((t - origin) * den) num some (omega (
      arith,
      product,
      count_is,
      add-mul (due - origin) (t - due) den,
      add-mul (count + 1) more num,
      next.reached,
      lots,
    ))

-- no more instants than whole numbers, but for what the slack brings
pub leap-few : (num den gap slack more rest most : ℕ)
    → 1 ≤ num
    → den ≤ num
    → slack < most
    → more * num + rest ≡ gap * den + slack
    → more < gap + most
leap-few num den gap slack more rest most some slow small lots =
    let product : gap * den ≤ gap * num = mul-le-mul_left gap slow in
    let slack_many : most * 1 ≤ most * num = mul-le-mul_left most some in
    let below : more * num < (gap + most) * num = omega (arith, lots, product, slack_many, small, add-mul gap most num) in
    lt_of_mul-lt-mul_right num below

-- the instants counted are those up to t, where all of them have come and the next one hasn't
pub has_passed : (line : Line) (clock : Clock) (origin before t count total : ℕ)
    → total ≡ passed_by line origin before + count
    → StandsAfter line clock origin total
    → total ≤ passed_by line origin t
    → t < clock.due
    → HasPassed line clock origin before t count
has_passed line clock origin before t count total sum stands low early =
    let some : 1 ≤ line.num = omega (arith, line.some, line.slow) in
    let high = ahead line.num line.den origin total clock.due clock.slack t some stands early in
    let same : total ≡ passed_by line origin t = omega (arith, low, high) in
    record { exact = omega (arith, sum, same); stands = subst (λ k. StandsAfter line clock origin k) same stands }

-- one instant passes, and has come by t
pub one_more : (line : Line) (clock : Clock) (origin count t : ℕ) → StandsAfter line clock origin count → clock.due ≤ t → count + 1 ≤ passed_by line origin t
one_more line clock origin count t stands come =
    passed line.num line.den origin count clock.due clock.slack t (omega (arith, line.some, line.slow)) stands come

-- the instants up to t are no fewer than those before
pub so_far : (line : Line) (origin before t : ℕ) → before ≤ t → passed_by line origin before ≤ passed_by line origin t
so_far line origin before t order = instants-rise line.num line.den origin before t (omega (arith, line.some, line.slow)) order

-- where an interval is no shorter than from one instant to the next, some instant is in it
pub one_in : (line : Line) (origin before t : ℕ) → origin ≤ before → before + line.whole < t → passed_by line origin before + 1 ≤ passed_by line origin t
one_in line origin before t begun far =
    let some : 1 ≤ line.num = omega (arith, line.some, line.slow) in
    let wide : ((before - origin) + (line.whole + 1)) * line.den ≤ (t - origin) * line.den = mul-le-mul_right line.den (omega (arith, begun, far)) in
    let parts = div-add-mod' ((before - origin) * line.den) line.num in
    le-div (passed_by line origin before + 1) ((t - origin) * line.den) line.num some (omega (
      arith,
      wide,
      add-mul (before - origin) (line.whole + 1) line.den,
      add-mul line.whole 1 line.den,
      add-mul (passed_by line origin before) 1 line.num,
      line.split,
      line.part_small,
      parts,
    ))
