-- The state of a frame or field before packet i of the flow, by the places of the markers before it in the run.
use Rattle.std.specs.Prelude.{◌≡◌, ◌≤◌, ◌+◌, ℕ, List, [], length, Option, Some, None}
use Rattle.timing_base.specs.Flows.{group_len, place_in_group}
use Rattle.frame_group.specs.declared.group.Group.{Group}

-- packet i belongs to this frame or field
pub record IsGroup (marks : List ℕ) (i : ℕ) (g : Group) : Type 0 where
  pub frame : g.frame + 1 ≡ length marks
  pub place : g.place + 1 ≡ place_in_group marks i
  -- the first frame or field has a limit, and each later one the size of the first
  pub first : length marks ≡ 1 → g.most ≡ 262144
  pub later : 2 ≤ length marks → g.most ≡ group_len marks

-- packet i belongs to this frame or field; without a marker before it, to none
abbrev pub IsIn : List ℕ → ℕ → Option Group → Type 0
IsIn marks i None = marks ≡ []
IsIn marks i (Some g) = IsGroup marks i g
