use Rattle.std.proofs.Common.{◌≡◌, ◌<◌, ◌+◌, ◌-◌, ℕ, Bool, false, Option, Some, None, inl, inr, ap, ◌∙◌, arith}
use Rattle.std.proofs.lemmas.Bool.{cases_lt}
use Rattle.std.proofs.lemmas.Grind.{common_steps}
use Rattle.flow_measure.specs.First.{IsFirst}
use Rattle.flow_measure.proofs.first.first_with.Goals as goal

-- none of them passes
none-pass : (test : ℕ → Bool) (packet times : ℕ) (found : Option ℕ)
    → ((j : ℕ) → j < times → test (packet + j) ≡ false)
    → IsFirst test packet found
    → IsFirst test (packet + times) found
none-pass test packet times (Some i) all h = (omega (arith, h.0), h.1, h.2)
none-pass test packet times None all h = λ i few. elim (cases_lt i packet) as (λ _. test i ≡ false) [
  | inl before ↦ h i before
  | inr after ↦
      let e : i ≡ packet + (i - packet) = omega (arith, after) in
      ap test e ∙ all (i - packet) (omega (arith, few, after))
]

pub returns-then-not-passes : goal.returns-then-not-passes
returns-then-not-passes c = λ test h all.
    let no : c.args.passes ≡ false = grind (arith, common_steps, c.if-not-passes.true) in
    none-pass test c.args.packet c.args.times c.args.found (λ j few. all j few ∙ no) h
