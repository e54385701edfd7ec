-- The intakes and workers as a state machine: what intakes have still to send, what lanes hold, what workers took, and
-- the results that they posted. There is a lane for each worker. Files, lanes and media count from 0.
use Rattle.std.specs.Prelude.{◌≡◌, ℕ, Bool, false, ◌==◌, ◌&&◌, if◌then◌else◌, List, [], ◌∷◌, ◌++◌, count_by, length}
use Rattle.timing_base.specs.declared.key.FlowKey.{FlowKey}
use Rattle.timing_base.specs.declared.row.Row.{Row}
use Rattle.ruled_intake.specs.declared.message.Message.{Message}
use Rattle.flow_worker.specs.Opening.{Addressed, Capture, Setting, sends}
use Rattle.flow_worker.specs.Posting.{is_key, is_whole, key_lane, taken_row}

-- a state of the machine
pub record State : Type 0 where
  -- messages of each file that aren't sent yet, in order
  pub todo : ℕ → List Addressed
  -- messages that each lane holds, in order
  pub held : ℕ → List Message
  -- messages taken from each lane, in order
  pub taken : ℕ → List Message
  -- posted results, in order
  pub posted : List Row

-- a step: an intake sends a message, a worker takes one from its lane, or a worker posts the result of a flow
pub data Step : Type 0 where
  sends_next : (file : ℕ) → Step
  takes_front : (lane : ℕ) → Step
  posts_row : (lane : ℕ) (key : FlowKey) → Step

-- lists by place, with this one now at `place`
abbrev pub changed : {X : Type 0} → ℕ → List X → (ℕ → List X) → ℕ → List X
changed place xs lists i = if i == place then xs else lists i

-- the first message that a file has to send is appended to its lane
abbrev pub after_send : ℕ → List Addressed → State → State
after_send file [] state = state
after_send file (a ∷ later) state = record {
  todo = changed file later state.todo;
  held = changed a.lane (state.held a.lane ++ a.message ∷ []) state.held;
  taken = state.taken;
  posted = state.posted;
}

-- the first message of a lane is taken
abbrev pub after_take : ℕ → List Message → State → State
after_take lane [] state = state
after_take lane (m ∷ later) state = record {
  todo = state.todo;
  held = changed lane later state.held;
  taken = changed lane (state.taken lane ++ m ∷ []) state.taken;
  posted = state.posted;
}

-- whether two keys are equal
abbrev pub is_same_key : FlowKey → FlowKey → Bool
is_same_key a b = (a.file == b.file) && (a.media == b.media)

-- number of results of this flow
abbrev pub times : FlowKey → List Row → ℕ
times key rows = count_by (λ (r : Row). is_same_key r.key key) rows

-- whether the worker of a lane may post the result of a flow: the flow is its own, all of it was taken, and it isn't
-- posted
abbrev pub may_post : Setting → (files lane : ℕ) → FlowKey → State → Bool
may_post s files lane key state =
    is_key s files key && (key_lane s key == lane) && (times key state.posted == 0)
    && is_whole s files (state.taken lane) key

-- the result is posted if it may be
abbrev pub after_post : Bool → Row → State → State
after_post may row state = if may then
    record { todo = state.todo; held = state.held; taken = state.taken; posted = state.posted ++ row ∷ [] }
    else state

-- one step, in a run with so many files; it changes nothing if it can't be taken
abbrev pub after : Setting → (files : ℕ) → Step → State → State
after s files (sends_next file) state = after_send file (state.todo file) state
after s files (takes_front lane) state = after_take lane (state.held lane) state
after s files (posts_row lane key) state = after_post (may_post s files lane key state)
    (taken_row s files (state.taken lane) key) state

-- steps, one after the other
abbrev pub run : Setting → (files : ℕ) → List Step → State → State
run s files [] state = state
run s files (step ∷ steps) state = run s files steps (after s files step state)

-- the initial state: all is still to be sent, in batches of at most `size` packets
abbrev pub opening_by : (size : ℕ) → Setting → List Capture → State
opening_by size s captures = record { todo = sends size s captures; held = λ w. []; taken = λ w. []; posted = [] }

-- the initial state of a run, with batches of at most 256 packets
abbrev pub opening : Setting → List Capture → State
opening s captures = opening_by 256 s captures

-- the state after these steps
abbrev pub after_steps : Setting → List Capture → List Step → State
after_steps s captures steps = run s (length captures) steps (opening s captures)

-- no step can change anything any more
pub record HasEnded (s : Setting) (files : ℕ) (state : State) : Type 0 where
  pub todo : (file : ℕ) → state.todo file ≡ []
  pub held : (lane : ℕ) → state.held lane ≡ []
  pub posts : (lane : ℕ) (key : FlowKey) → may_post s files lane key state ≡ false
