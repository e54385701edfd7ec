use Rattle.std.proofs.Common.{◌≡◌, ◌≤◌, ◌<◌, ◌*◌, arith, inl, inr}
use Rattle.std.proofs.lemmas.Bool.{cases_lt}
use Rattle.read_schedule.specs.Parts.{parts_at}
use Rattle.read_schedule.proofs.Rounding.{rounded-after, rounded-before}
use Rattle.read_schedule.proofs.Turns.{parts_at-le}
use Rattle.read_schedule.proofs.schedule.Schedule.race.Goals as goal

pub loop-self-preserved : goal.loop-self-preserved
loop-self-preserved c =
    let f = c.args.self.now in
    let s = c.loop-self.self in
    let i = c.loop-self.invariant in
    let e = c.pass.ensures in
    let was = s.next_is (omega (arith, c.loop-self-test.true, c.requires.in_time)) in
    let here : parts_at s.grid s.passed ≤ c.args.t * s.grid.den =
    rounded-before s.next.at c.args.t s.grid.den _ s.next.slack was c.loop-self-test.true in
    record {
      grid = cc;
      due = λ old x few. elim (cases_lt x s.passed) as (λ _. parts_at f.grid x ≤ c.args.t * f.grid.den) [
        | inl before ↦ i.due old x before
        | inr last ↦
            let same : x ≡ s.passed = omega (arith, last, few, e.passed) in
            rw (same, ← i.grid) here
      ];
    }

pub returns : goal.returns
returns c =
    let s = c.loop-self.self in
    let i = c.loop-self.invariant in
    let next : c.args.t * s.grid.den < parts_at s.grid s.passed =
    rounded-after s.next.at c.args.t s.grid.den _ s.next.slack s.next_low s.next_left c.loop-self-test.false in
    record { grid = i.grid; due = i.due; ahead = λ x high. rw (← i.grid) (omega (arith, next, parts_at-le s.grid s.passed x high)) }
