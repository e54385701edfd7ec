-- The state kept of the markers of a run. Markers are given by the places of their packets in the flow.
use Rattle.std.specs.Prelude.{◌≡◌, ◌≤◌, ℕ, List, [], length, slice_index, Option, Some, None}
use Rattle.timing_base.specs.Flows.{group_len, last_place}
use Rattle.interval_checker.specs.declared.marks.Marks.{Marks}

-- these are the markers of a run that has at least one
pub record AreMarks (marks : List ℕ) (m : Marks) : Type 0 where
  pub some : 1 ≤ length marks
  pub first : m.first ≡ slice_index marks 0
  pub last : m.last ≡ last_place marks
  pub alone : length marks ≡ 1 → m.size ≡ None
  pub more : 2 ≤ length marks → m.size ≡ Some (group_len marks)

-- these are the markers of a run
abbrev pub AreMarked : List ℕ → Option Marks → Type 0
AreMarked marks None = marks ≡ []
AreMarked marks (Some m) = AreMarks marks m
