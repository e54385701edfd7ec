-- The times from each packet to the next. `stamp` gives the capture timestamp of each packet in nanoseconds, counted
-- from 0, and `count` is how many packets there are.
use Rattle.std.specs.Prelude.{◌≡◌, ◌+◌, ◌-◌, ℕ, pos}
use Rattle.flow_measure.specs.Stands.{Classifies}
use Rattle.flow_measure.specs.Summary.{IsSummary}
use Rattle.flow_measure.specs.declared.classes.Classes.{Classes}
use Rattle.flow_measure.specs.declared.numbers.Gaps.{Gaps}

-- the nanoseconds from packet i to the next one
abbrev pub gap_after : (stamp : ℕ → ℕ) → ℕ → ℕ
gap_after stamp i = stamp (i + 1) - stamp i

-- the classes hold the first `count` numbers
pub record AreClassesOf (numbers : ℕ → ℕ) (count : ℕ) (c : Classes) : Type 0 where
  pub seen : c.seen ≡ count
  pub counts : Classifies c numbers

-- the times between the first `count` packets
pub record AreGapsOf (stamp : ℕ → ℕ) (count : ℕ) (g : Gaps) : Type 0 where
  pub summary : IsSummary (λ i. pos (gap_after stamp i)) (count - 1) g.summary
  pub classes : AreClassesOf (gap_after stamp) (count - 1) g.classes
