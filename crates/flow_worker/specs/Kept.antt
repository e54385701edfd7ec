-- The properties of the state machine that hold at every moment.
use Rattle.std.specs.Prelude.{◌≡◌, ◌≤◌, ◌==◌, ℕ, Bool, nat_lt, if◌then◌else◌, List, ◌++◌, length, IsTrue, All}
use Rattle.timing_base.specs.declared.key.FlowKey.{FlowKey}
use Rattle.timing_base.specs.declared.row.Row.{Row}
use Rattle.ruled_intake.specs.declared.message.Message.{Message}
use Rattle.flow_worker.specs.Messages.{IsPrefix, has_end, of_file}
use Rattle.flow_worker.specs.Opening.{Capture, Setting, for_lane, messages}
use Rattle.flow_worker.specs.Posting.{is_key, key_lane, key_row}
use Rattle.flow_worker.specs.World.{State, times}

-- the messages of a file that were taken from a lane are a prefix of all that there are, with its end among them
pub record HasTaken (s : Setting) (captures : List Capture) (lane : ℕ) (taken : List Message) (file : ℕ) : Type 0 where
  pub in_order : IsPrefix (of_file file taken) (messages s captures file lane)
  pub ended : IsTrue (has_end file taken)

-- whether a flow is in this file: the file is its own, or the files are joined
abbrev pub is_in_file : Setting → (files : ℕ) → FlowKey → ℕ → Bool
is_in_file s files key file = if s.joined then nat_lt file files else file == key.file

-- for each file that the flow is in, what was taken is a prefix of all that there is, with the end among it
abbrev pub HasTakenAll : Setting → List Capture → FlowKey → List Message → Type 0
HasTakenAll s captures key taken = (file : ℕ) → IsTrue (is_in_file s (length captures) key file)
    → HasTaken s captures (key_lane s key) taken file

-- for each file and lane, what was taken, what is held and what is to be sent are the messages of the file for the lane
abbrev pub IsInOrder : Setting → List Capture → State → Type 0
IsInOrder s captures state = (file lane : ℕ)
    → of_file file (state.taken lane) ++ (of_file file (state.held lane) ++ for_lane lane (state.todo file))
    ≡ messages s captures file lane

-- a result is that of its key, which is a key of the run
pub record IsKeyRow (s : Setting) (captures : List Capture) (r : Row) : Type 0 where
  pub key : IsTrue (is_key s (length captures) r.key)
  pub row : r ≡ key_row s captures r.key

-- each posted result is that of its key, and no key is posted twice
pub record HasPosted (s : Setting) (captures : List Capture) (state : State) : Type 0 where
  pub rows : All (IsKeyRow s captures) state.posted
  pub once : (key : FlowKey) → times key state.posted ≤ 1
