use Rattle.std.proofs.Common.{◌≤◌, ◌<◌, ℕ, zero, suc, List, [], ◌∷◌, slice_index, arith}
use Rattle.std.proofs.lemmas.Grind.{common_steps}
use Rattle.flow_shaper.specs.Plan.{IsPlan}
use Rattle.flow_shaper.specs.Worked.{small}
use Rattle.flow_shaper.proofs.laws.plans_by_hand.Goals as goal

bucket : IsPlan (small 1 9) (5 ∷ 5 ∷ []) (5 ∷ 10 ∷ [])
bucket = grind (arith, common_steps)

-- the second leaves at the first tick or later
later : (others : List ℕ) → IsPlan (small 1 9) (5 ∷ 5 ∷ []) others → (i : ℕ) → i < 2 → slice_index (5 ∷ 10 ∷ []) i ≤ slice_index others i
later others p zero few = omega (arith, p.after 0 (omega arith))
later others p (suc zero) few = omega (arith, p.after 0 (omega arith), p.bucket 0 1 (omega arith) (omega (arith, p.each)))
later others p (suc (suc i)) few = absurd (omega (arith, few))

pub returns-clause-least : goal.returns-clause-least
returns-clause-least c = record { plan = bucket; least = later }

pub returns-clause-not_least : goal.returns-clause-not_least
returns-clause-not_least c = λ s. let h = s.least (5 ∷ 10 ∷ []) bucket 1 (omega arith) in omega (arith, h)
