-- The lines of a flow, before and after a frame or field is added to them.
use Rattle.std.specs.Prelude.{◌≡◌, ◌≤◌, ◌<◌, List, [], ◌∷◌, ◌++◌, Option, Some, None, string_bytes}
use Rattle.flow_watch.specs.Lines.{stretch_line}
use Rattle.flow_watch.specs.Watched.{left_line}
use Rattle.flow_watch.specs.making.Stretches.{IsJoinedStretch, groups_of}
use Rattle.flow_watch.specs.declared.lines.WatchLines.{WatchLines}
use Rattle.flow_watch.specs.declared.stretch.Stretch.{Stretch}

-- the open stretch with a frame or field more
abbrev pub GoesOnWith : Option Stretch → (group next : Stretch) → Type 0
GoesOnWith None group next = next ≡ group
GoesOnWith (Some so_far) group next = IsJoinedStretch so_far group next

-- a frame or field was added to the open stretch; if that is then complete, its line was added
pub record Adds (group : Stretch) (old new : WatchLines) : Type 0 where
  pub form_is : new.form ≡ old.form
  pub every_is : new.every ≡ old.every
  pub stretch : Stretch
  pub goes_on : GoesOnWith old.open group stretch
  pub stays : groups_of stretch < old.every
      → (new.open ≡ Some stretch) × (string_bytes new.text ≡ string_bytes old.text)
  pub ends : old.every ≤ groups_of stretch
      → (new.open ≡ None) × (string_bytes new.text ≡ string_bytes old.text ++ stretch_line old.form stretch)

-- these frames or fields were added, in order
abbrev pub AddsEach : List Stretch → (old new : WatchLines) → Type 0
AddsEach [] old new = new ≡ old
AddsEach (group ∷ groups) old new = (between : WatchLines) × Adds group old between × AddsEach groups between new

-- the line of what was left of a stretch was added, if anything was
pub record EndsOpen (old new : WatchLines) : Type 0 where
  pub form_is : new.form ≡ old.form
  pub every_is : new.every ≡ old.every
  pub open_is : new.open ≡ None
  pub text_is : string_bytes new.text ≡ string_bytes old.text ++ left_line old.form old.open
