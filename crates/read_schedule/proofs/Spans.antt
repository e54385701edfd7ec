-- The instants between two reads, by the grid.
use Rattle.std.proofs.Common.{◌≡◌, ◌≤◌, ◌<◌, ◌+◌, ◌-◌, ◌*◌, ◌/◌, ◌%◌, ◌^◌, ℕ, ℤ, Bool, sym, ap, ◌∙◌, arith, subst}
use Rattle.std.proofs.lemmas.Nat.{div-mul-add, mod-mul-add, div-add-mod'}
use Rattle.std.proofs.Math.Nat.{add-mul, mul_assoc, mul-le-mul_left, mul-le-mul_right}
use Rattle.fraction128.specs.Fractions.{AtMost, Below, whole}
use Rattle.timing_base.specs.Media.{Media}
use Rattle.sender_params.specs.Reads.{read_of}
use Rattle.read_schedule.specs.Between.{HoldsAfter, IsFrom, IsUpTo}
use Rattle.read_schedule.specs.Parts.{IsGridOf, parts_at}
use Rattle.read_schedule.specs.declared.between.Between.{Between}
use Rattle.read_schedule.specs.declared.grid.Grid.{Grid}
use Rattle.read_schedule.proofs.Instants.{ahead_of}

-- a later read of the same group
same_place : (x n j : ℕ) → x % n + j < n → ((x + j) / n ≡ x / n) × ((x + j) % n ≡ x % n + j)
same_place x n j inside =
    let split : (x / n) * n + (x % n + j) ≡ x + j = omega (arith, div-add-mod' x n) in
    (sym (ap (λ y. y / n) split) ∙ div-mul-add (x / n) n (x % n + j) inside, sym (ap (λ y. y % n) split) ∙ mod-mul-add (x / n) n (x % n + j) inside)

-- so many steps within a group
parts_at-steps : (g : Grid) (x j : ℕ) → x % g.n + j < g.n → parts_at g (x + j) ≡ parts_at g x + j * g.step
parts_at-steps g x j inside =
    let e = same_place x g.n j inside in
    let before : ((x + j) / g.n) * g.group ≡ (x / g.n) * g.group = ap (λ k. k * g.group) e.0 in
    let part : ((x + j) % g.n) * g.step ≡ (x % g.n + j) * g.step = ap (λ k. k * g.step) e.1 in
    omega (arith, before, part, add-mul (x % g.n) j g.step)

-- the earlier read and those after it are due
pub from-due : (m : Media) (n : ℕ) (anchor : ℤ) (gapped : Bool) (g : Grid) (b : Between) (early left long part : ℕ)
    → IsGridOf m n anchor gapped g
    → b.step ≡ long + 1
    → long * g.den + part ≡ g.step
    → part < g.den
    → left ≤ g.n - early % g.n
    → ((at : ℕ) → at < 2 ^ 62 → b.from ≤ at → parts_at g early ≤ (b.from + 2 ^ 49) * g.den)
    → IsFrom m n anchor gapped early left b
from-due m n anchor gapped g b early left long part is step split small fits due = record {
  due = λ j at low h.
      let first = due at h.in_time (omega (arith, h.from)) in
      let each : g.step ≤ b.step * g.den = omega (arith, ap (λ s. s * g.den) step, split, small, add-mul long 1 g.den) in
      let steps : j * g.step ≤ j * (b.step * g.den) = mul-le-mul_left j each in
      let all : (b.from + 2 ^ 49 + j * b.step) * g.den ≤ (at + 2 ^ 49) * g.den = mul-le-mul_right g.den (omega (arith, h.from)) in
      let here = parts_at-steps g early j (omega (arith, low, fits)) in
      (is.before (early + j) at).1 (omega (arith, here, first, steps, all, add-mul (b.from + 2 ^ 49) (j * b.step) g.den, mul_assoc j b.step g.den));
}

-- the later read and those after it aren't
pub up_to-ahead : (m : Media) (n : ℕ) (anchor : ℤ) (gapped : Bool) (g : Grid) (b : Between) (late left long part to lasts : ℕ)
    → IsGridOf m n anchor gapped g
    → b.step ≡ long + 1
    → long * g.den + part ≡ g.step
    → left ≤ g.n - late % g.n
    → left ≤ lasts
    → b.wide ≡ (to - b.from) - lasts
    → (1 ≤ to → (to + 2 ^ 49) * g.den < parts_at g late + g.den)
    → IsUpTo m n anchor gapped late left b
up_to-ahead m n anchor gapped g b late left long part to lasts is step split fits long_enough wide ahead = record {
  ahead = λ j at low h.
      let first = ahead (omega (arith, h.from, h.up_to, wide)) in
      let each : long * g.den ≤ g.step = omega (arith, split) in
      let steps : j * (long * g.den) ≤ j * g.step = mul-le-mul_left j each in
      let long_is : j * b.step ≡ j * long + j = ap (λ s. j * s) step ∙ omega arith in
      let all : (at + 2 ^ 49 + 1) * g.den ≤ (to + 2 ^ 49 + j * long) * g.den =
      mul-le-mul_right g.den (omega (arith, h.from, h.up_to, wide, long_is, low, long_enough)) in
      let here = parts_at-steps g late j (omega (arith, low, fits)) in
      ahead_of m n anchor gapped g (late + j) at is
      (omega (arith, here, first, steps, all, add-mul (to + 2 ^ 49) (j * long) g.den, add-mul (at + 2 ^ 49) 1 g.den, mul_assoc j long g.den));
}

-- a read more
next : (b c : Between) (j at : ℕ) → c.from ≡ b.from + b.step → c.wide ≡ b.wide → c.step ≡ b.step → HoldsAfter c j at → HoldsAfter b (j + 1) at
next b c j at from wide step h =
    let here : j * c.step ≡ j * b.step = ap (λ s. j * s) step in
    record {
      in_time = h.in_time;
      from = omega (arith, h.from, from, here, add-mul j 1 b.step);
      up_to = omega (arith, h.up_to, from, wide, here, add-mul j 1 b.step);
    }

pub from-next : (m : Media) (n : ℕ) (anchor : ℤ) (gapped : Bool) (b c : Between) (early left : ℕ)
    → c.from ≡ b.from + b.step → c.wide ≡ b.wide → c.step ≡ b.step
    → IsFrom m n anchor gapped early (left + 1) b
    → IsFrom m n anchor gapped (early + 1) left c
from-next m n anchor gapped b c early left from wide step is = record {
  due = λ j at low h.
      let e : early + (j + 1) ≡ (early + 1) + j = omega arith in
      subst (λ x. AtMost (read_of m n anchor gapped x) (whole at)) e (is.due (j + 1) at (omega (arith, low)) (next b c j at from wide step h));
}

pub up_to-next : (m : Media) (n : ℕ) (anchor : ℤ) (gapped : Bool) (b c : Between) (late left : ℕ)
    → c.from ≡ b.from + b.step → c.wide ≡ b.wide → c.step ≡ b.step
    → IsUpTo m n anchor gapped late (left + 1) b
    → IsUpTo m n anchor gapped (late + 1) left c
up_to-next m n anchor gapped b c late left from wide step is = record {
  ahead = λ j at low h.
      let e : late + (j + 1) ≡ (late + 1) + j = omega arith in
      subst (λ x. Below (whole at) (read_of m n anchor gapped x)) e (is.ahead (j + 1) at (omega (arith, low)) (next b c j at from wide step h));
}
