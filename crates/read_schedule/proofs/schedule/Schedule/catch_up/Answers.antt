use Rattle.std.proofs.Common.{◌≡◌, ◌≤◌, ◌<◌, ◌+◌, ◌*◌, ◌^◌, ℕ, arith, inl, inr, refl, subst, sym, ◌∙◌}
use Rattle.std.proofs.lemmas.Bool.{cases_lt}
use Rattle.read_schedule.specs.Parts.{parts_at}
use Rattle.read_schedule.specs.declared.grid.Grid.{Grid}
use Rattle.read_schedule.specs.declared.schedule.Schedule.{Schedule}
use Rattle.read_schedule.proofs.Rounding.{rounded-after, rounded-before}
use Rattle.read_schedule.proofs.Turns.{parts_at-le}
use Rattle.read_schedule.proofs.schedule.Schedule.catch_up.Goals as goal

-- no read is due from the next one on, where that one isn't
none_more : (s : Schedule) (t x : ℕ) → t < s.next.at → s.passed ≤ x → t * s.grid.den < parts_at s.grid x
none_more s t x early high =
    let next : t * s.grid.den < parts_at s.grid s.passed =
    rounded-after s.next.at t s.grid.den _ s.next.slack s.next_low s.next_left early in
    omega (arith, next, parts_at-le s.grid s.passed x high)

-- the next read is due, where it comes by then
is_due : (s : Schedule) (t : ℕ) → s.next.at ≤ t → t < 2 ^ 63 → parts_at s.grid s.passed ≤ t * s.grid.den
is_due s t late low = rounded-before s.next.at t s.grid.den _ s.next.slack (s.next_is (omega (arith, late, low))) late

-- so are all up to it
are_due : (s : Schedule) (t passed x : ℕ) → passed ≡ s.passed + 1 → s.next.at ≤ t → t < 2 ^ 63
    → ((y : ℕ) → y < s.passed → parts_at s.grid y ≤ t * s.grid.den)
    → x < passed
    → parts_at s.grid x ≤ t * s.grid.den
are_due s t passed x e late low old few =
    elim (cases_lt x s.passed) as (λ _. parts_at s.grid x ≤ t * s.grid.den) [
      | inl before ↦ old x before
      | inr last ↦
          let same : x ≡ s.passed = omega (arith, last, few, e) in
          rw same (is_due s t late low)
    ]

pub returns-then-t-self : goal.returns-then-t-self
returns-then-t-self c = record { grid = refl; due = λ old. old; ahead = λ x high. none_more c.args.self.now c.args.t x c.if-t-self.true high }

pub returns-then-t-self-2 : goal.returns-then-t-self-2
returns-then-t-self-2 c = record {
  grid = c.pass.ensures.grid;
  due = λ old x few. are_due c.args.self.now c.args.t _ x c.pass.ensures.passed c.if-t-self.false c.requires.in_time old few;
  ahead = λ x high.
      subst (λ (g : Grid). c.args.t * g.den < parts_at g x) c.pass.ensures.grid
      (none_more c.pass.new.self c.args.t x c.if-t-self-2.true high);
}

pub returns : goal.returns
returns c =
    let e = c.pass.ensures in
    let r = c.race.ensures in
    record {
      grid = r.grid ∙ e.grid;
      due = λ old x few.
          subst (λ (g : Grid). parts_at g x ≤ c.args.t * g.den) e.grid
          (r.due
          (λ y low. subst (λ (g : Grid). parts_at g y ≤ c.args.t * g.den) (sym e.grid)
          (are_due c.args.self.now c.args.t _ y e.passed c.if-t-self.false c.requires.in_time old low))
          x few);
      ahead = λ x high. subst (λ (g : Grid). c.args.t * g.den < parts_at g x) e.grid (r.ahead x high);
    }
