-- The packets to come that move neither end.
use Rattle.std.proofs.Common.{◌≡◌, ◌≤◌, ◌<◌, ◌+◌, ◌-◌, ◌*◌, ◌/◌, ◌%◌, ◌^◌, ℕ, Bool, false, refl, ap, subst, ◌∙◌, arith, inl}
use Rattle.std.proofs.lemmas.Nat.{div-add-mod', mod_below, le-div}
use Rattle.std.proofs.Math.Nat.{mul-le-mul_right, div-mul-le_self}
use Rattle.sender_params.proofs.Turns.{same_group}
use Rattle.read_schedule.specs.Parts.{parts_at}
use Rattle.read_schedule.specs.declared.grid.Grid.{Grid}
use Rattle.read_schedule.proofs.Turns.{parts_at-step}
use Rattle.offset_window.specs.Moves.{MovesBy}
use Rattle.offset_window.specs.Parts.{comes_after, comes_before, parts_with}
use Rattle.offset_window.specs.Quiets.{Holds, IsBetween, IsQuiet, early_of, late_of}
use Rattle.offset_window.specs.declared.quiet.Quiet.{Quiet}
use Rattle.offset_window.specs.declared.window.WindowEnd.{WindowEnd}
use Rattle.offset_window.specs.declared.window.WindowEnd.TheVariants.{Absent, At}
use Rattle.offset_window.proofs.Steps.{after-false, before-false}

-- an instant that isn't past the front is no later than the read
last-le : (front there den parts : ℕ) → there ≤ front / 2 ^ 64 → front * den < (parts + 1) * 2 ^ 64 → there * den ≤ parts
last-le front there den parts most late =
    let low : (front / 2 ^ 64) * 2 ^ 64 ≤ front = div-mul-le_self front (2 ^ 64) in
    let whole : there * 2 ^ 64 ≤ front = omega (arith, most, low) in
    let scaled : (there * 2 ^ 64) * den ≤ front * den = mul-le-mul_right den whole in
    omega (arith, scaled, late)

-- one that is within the width of the front is no earlier than the other read
first-le : (front there den parts width rest : ℕ)
    → front / 2 ^ 64 ≤ there + width
    → (parts + (width + 1) * den) * 2 ^ 64 + rest ≤ front * den
    → parts ≤ there * den
first-le front there den parts width rest most early =
    let split : (front / 2 ^ 64) * 2 ^ 64 + front % 2 ^ 64 ≡ front = div-add-mod' front (2 ^ 64) in
    let left : front % 2 ^ 64 < 2 ^ 64 = mod_below front (2 ^ 64) (omega arith) in
    let high : front ≤ (there + width + 1) * 2 ^ 64 = omega (arith, split, left, most) in
    let scaled : front * den ≤ ((there + width + 1) * 2 ^ 64) * den = mul-le-mul_right den high in
    omega (arith, scaled, early)

-- a packet that came at its time doesn't come after its own read
pub quiet-after : (g : Grid) (late early seen at : ℕ) (q : Quiet) → IsQuiet g late early seen q → Holds q seen at
    → comes_after g seen at late ≡ false
quiet-after g late early seen at q is holds =
    after-false g seen at late (last-le q.front (at + 2 ^ 49) g.den (parts_with g late seen) holds.last is.late_is)

-- nor before the read that makes room for it
pub quiet-before : (g : Grid) (late early seen at : ℕ) (q : Quiet) → IsQuiet g late early seen q → Holds q seen at
    → comes_before g (seen - q.back) at early ≡ false
quiet-before g late early seen at q is holds =
    before-false g (seen - q.back) at early
    (first-le q.front (at + 2 ^ 49) g.den (parts_with g early (seen - q.back)) q.width ((q.until - seen) * g.den) holds.first is.early_is)

-- after it there is one packet less
pub quiet-next : (g : Grid) (late early seen : ℕ) (old new : Quiet)
    → IsQuiet g late early seen old
    → seen + 1 < old.until
    → new.until ≡ old.until
    → new.front ≡ old.front + old.step
    → new.step ≡ old.step
    → new.width ≡ old.width
    → new.back ≡ old.back
    → IsQuiet g late early (seen + 1) new
quiet-next g late early seen old new is more eu ef es ew eb =
    let own = same_group seen g.n (omega (arith, is.own_group, more)) in
    let next : seen + 1 - new.back ≡ seen - old.back + 1 = omega (arith, eb, is.begun) in
    let freeing = same_group (seen - old.back) g.n (omega (arith, is.freeing_group, more)) in
    let named : (seen + 1 - new.back) % g.n ≡ (seen - old.back + 1) % g.n = ap (λ x. x % g.n) next in
    let left : new.until - (seen + 1) + 1 ≡ old.until - seen = omega (arith, eu, more) in
    let rest : (new.until - (seen + 1) + 1) * g.den ≡ (old.until - seen) * g.den = ap (λ x. x * g.den) left in
    let front : new.front * g.den ≡ (old.front + old.step) * g.den = ap (λ x. x * g.den) ef in
    let step : new.step * g.den ≡ old.step * g.den = ap (λ x. x * g.den) es in
    let width : (new.width + 1) * g.den ≡ (old.width + 1) * g.den = ap (λ x. (x + 1) * g.den) ew in
    let own_at = parts_at-step g seen (omega (arith, is.own_group, more)) in
    let freeing_at = parts_at-step g (seen - old.back) (omega (arith, is.freeing_group, more)) in
    let freeing_named : parts_at g (seen + 1 - new.back) ≡ parts_at g (seen - old.back + 1) = ap (parts_at g) next in
    record {
      begun = omega (arith, eb, is.begun);
      own_group = omega (arith, own.1, left, is.own_group);
      freeing_group = omega (arith, freeing.1, named, left, is.freeing_group);
      step_low = omega (arith, step, is.step_low);
      step_high = omega (arith, step, is.step_high);
      late_is = omega (arith, front, own_at, is.step_low, is.late_is);
      early_is = omega (arith, front, rest, width, freeing_at, freeing_named, is.step_high, is.early_is);
    }

-- the front is before so much that another step fits
pub front-small : (q : Quiet) (seen at : ℕ) → Holds q seen at → at < 2 ^ 62 → q.front < 2 ^ 127 + 2 ^ 120
front-small q seen at holds early =
    let split : (q.front / 2 ^ 64) * 2 ^ 64 + q.front % 2 ^ 64 ≡ q.front = div-add-mod' q.front (2 ^ 64) in
    let left : q.front % 2 ^ 64 < 2 ^ 64 = mod_below q.front (2 ^ 64) (omega arith) in
    omega (arith, split, left, holds.first, early, q.width_small)

-- the front and its step, as they are divided for
pub between-is : (g : Grid) (first last den whole part step width : ℕ) (q : Quiet)
    → den ≡ g.den
    → whole ≡ last / den
    → part ≡ ((last % den + 1) * 2 ^ 64 - 1) / den
    → step ≡ (g.step * 2 ^ 64) / den
    → first + 2 * den ≤ last
    → width ≤ (last - first) / den - 2
    → q.front ≡ whole * 2 ^ 64 + part
    → q.step ≡ step
    → q.width ≡ width
    → IsBetween g first last q
between-is g first last den whole part step width q ed ew ep es some wide ef est ewi =
    let positive : 0 < den = omega (arith, ed, g.den_some) in
    let small : den < 2 ^ 48 = omega (arith, ed, g.den_small) in
    let split : (last / den) * den + last % den ≡ last = div-add-mod' last den in
    let wholes : whole * den ≡ (last / den) * den = ap (λ x. x * den) ew in
    let top = (last % den + 1) * 2 ^ 64 - 1 in
    let part_split : (top / den) * den + top % den ≡ top = div-add-mod' top den in
    let part_left : top % den < den = mod_below top den positive in
    let parts : part * den ≡ (top / den) * den = ap (λ x. x * den) ep in
    let step_split : ((g.step * 2 ^ 64) / den) * den + (g.step * 2 ^ 64) % den ≡ g.step * 2 ^ 64 = div-add-mod' (g.step * 2 ^ 64) den in
    let step_left : (g.step * 2 ^ 64) % den < den = mod_below (g.step * 2 ^ 64) den positive in
    let steps : q.step * den ≡ ((g.step * 2 ^ 64) / den) * den = ap (λ x. x * den) (omega (arith, est, es)) in
    let front : q.front * den ≡ (whole * 2 ^ 64 + part) * den = ap (λ x. x * den) ef in
    let below : ((last - first) / den) * den ≤ last - first = div-mul-le_self (last - first) den in
    let two : 2 * den ≤ last - first = omega (arith, some) in
    let twice : 2 ≤ (last - first) / den = le-div 2 (last - first) den positive two in
    let scaled : (width + 2) * den ≤ ((last - first) / den) * den = mul-le-mul_right den (omega (arith, wide, twice)) in
    let widths : (q.width + 2) * den ≡ (width + 2) * den = ap (λ x. (x + 2) * den) ewi in
    let step_named : q.step * den ≡ q.step * g.den = ap (λ x. q.step * x) ed in
    let front_named : q.front * den ≡ q.front * g.den = ap (λ x. q.front * x) ed in
    let width_named : (q.width + 2) * den ≡ (q.width + 2) * g.den = ap (λ x. (q.width + 2) * x) ed in
    record {
      step_low = omega (arith, steps, step_split, step_named);
      step_high = omega (arith, steps, step_split, step_left, step_named, ed);
      late = omega (arith, front, parts, wholes, split, part_split, front_named);
      early = omega (arith, front, parts, wholes, split, part_split, part_left, small, below, scaled, widths, some, front_named, width_named);
    }

-- the same times under other names
pub between-same : (g : Grid) (first last a b : ℕ) (q : Quiet) → first ≡ a → last ≡ b → IsBetween g first last q → IsBetween g a b q
between-same g first last a b q ea eb is =
    subst (λ x. IsBetween g x b q) ea (subst (λ x. IsBetween g first x q) eb is)

-- where a read is with an offset, and what is left of its group, under another name
pub with-same : (g h : Grid) (micros x y parts : ℕ) → h ≡ g → y ≡ x → parts ≡ parts_with h micros y → parts ≡ parts_with g micros x
with-same g h micros x y parts eg ex is =
    is ∙ ap (λ (k : Grid). parts_with k micros y) eg ∙ ap (parts_with g micros) ex

pub left-same : (g h : Grid) (x y left : ℕ) → h ≡ g → y ≡ x → y % h.n + left + 1 ≡ h.n → x % g.n + left + 1 ≡ g.n
left-same g h x y left eg ex is =
    subst (λ z. z % g.n + left + 1 ≡ g.n) ex (subst (λ (k : Grid). y % k.n + left + 1 ≡ k.n) eg is)

-- a time between two reads, for so many packets
pub quiet-from : (g : Grid) (late early seen own freeing left : ℕ) (q : Quiet)
    → q.back ≤ seen
    → IsBetween g (parts_with g early (seen - q.back)) (parts_with g late seen) q
    → q.until ≤ seen + left
    → seen < q.until
    → seen % g.n + own + 1 ≡ g.n
    → (seen - q.back) % g.n + freeing + 1 ≡ g.n
    → left ≤ own
    → left ≤ freeing
    → q.until < 2 ^ 64
    → IsQuiet g late early seen q
quiet-from g late early seen own freeing left q begun is until some own_is freeing_is own_most freeing_most few =
    let rest : (q.until - seen) * g.den ≤ 2 ^ 64 * g.den = mul-le-mul_right g.den (omega (arith, few)) in
    record {
      begun = begun;
      own_group = omega (arith, until, some, own_is, own_most);
      freeing_group = omega (arith, until, some, freeing_is, freeing_most);
      step_low = is.step_low;
      step_high = is.step_high;
      late_is = is.late;
      early_is = omega (arith, rest, is.early);
    }

-- an end stays where the packet isn't broken at it
pub lower-quiet : (ends : WindowEnd → Type 0) (broken : ℕ → Bool) (end : WindowEnd) → broken (late_of end) ≡ false → MovesBy ends broken end end
lower-quiet ends broken Absent holds = refl
lower-quiet ends broken (At micros binding) holds = inl (holds, refl)

pub upper-quiet : (ends : WindowEnd → Type 0) (broken : ℕ → Bool) (end : WindowEnd) → broken (early_of end) ≡ false → MovesBy ends broken end end
upper-quiet ends broken Absent holds = refl
upper-quiet ends broken (At micros binding) holds = inl (holds, refl)
