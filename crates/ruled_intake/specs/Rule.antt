-- The rule between the state of each pass of a lane and the contents of the lane, and the result of each step. `seat`
-- has the number of each sender's pass, `sent` what each sender has sent, `got` what was taken.
use Rattle.std.specs.Prelude.{◌≡◌, ◌≤◌, ◌<◌, ◌+◌, ◌^◌, ◌++◌, ◌∷◌, ℕ, ⊤, List, [], length, slice_index_or}
use mathlib.Core.Option.{Option, some, none}
use lib.ListN.{get_elem?}
use Rattle.crossbeam_queue.specs.Fifo.{Learns}
use Rattle.ruled_intake.specs.declared.message.Message.{Message}
use Rattle.ruled_intake.specs.declared.rule.Entry.{Entry}
use Rattle.ruled_intake.specs.declared.rule.View.{View}
use Rattle.ruled_intake.specs.declared.rule.View.TheVariants.{Sends, Takes, Spent}
use Rattle.ruled_intake.specs.Lanes.{IsWithin, Taker, messages, of}

-- the state of the taker is right: what it took, that senders not yet made have sent nothing, and what those have sent
-- that it took back
pub record FitsTaker (reader : ℕ) (seat : ℕ → Option ℕ) (sent : ℕ → List Message) (got : List Entry) (pass : ℕ)
    (mine : List Entry) (made : ℕ) (known : List (List Message)) : Type 0 where
  pub here : pass ≡ reader
  pub mine_is : mine ≡ got
  pub few_made : made ≤ 16
  pub later : (f : ℕ) → made ≤ f → (seat f ≡ none) × (sent f ≡ [])
  pub ended : (f : ℕ) → f < length known → (seat f ≡ none) × (slice_index_or known f [] ≡ sent f)
  pub few_known : length known ≤ made

-- the state of the pass with this number is right
abbrev pub Fits : (reader : ℕ) (seat : ℕ → Option ℕ) (sent : ℕ → List Message) (got : List Entry) → ℕ → View → Type 0
Fits reader seat sent got pass (Sends from put) = (seat from ≡ some pass) × (put ≡ sent from)
Fits reader seat sent got pass (Takes mine made known) = FitsTaker reader seat sent got pass mine made known
Fits reader seat sent got pass Spent = ⊤

-- for each sender, what was taken and then what the lane holds is what it sent, within its limits
pub record Delivers (items : List Entry) (views : List View) : Type 0 where
  pub reader : ℕ
  pub seat : ℕ → Option ℕ
  pub sent : ℕ → List Message
  pub got : List Entry
  pub tells : (f : ℕ) → of f (got ++ items) ≡ sent f
  pub within : (f : ℕ) → IsWithin (2 ^ 37) (sent f)
  pub fits : (pass : ℕ) (v : View) → get_elem? views pass ≡ some v → Fits reader seat sent got pass v

-- the taker of a new lane
abbrev pub new_taker : View
new_taker = Takes [] 0 []

-- the taker after it has made one more sender
abbrev pub with_one_more : View → View
with_one_more (Takes got made known) = Takes got (made + 1) known
with_one_more v = v

-- the sender that the taker makes
abbrev pub new_sender : View → View
new_sender (Takes got made known) = Sends made []
new_sender v = v

-- the taker after it has taken back one more sender
abbrev pub with_known : View → View → View
with_known (Takes got made known) (Sends from put) = Takes got made (known ++ put ∷ [])
with_known v w = v

-- the sender has sent one more message
abbrev pub HasPut : View → Entry → View → Type 0
HasPut (Sends from put) e w = w ≡ Sends from (put ++ e.message ∷ [])
HasPut v e w = ⊤

-- the taker has taken one more message, and few in all
abbrev pub HasGot : View → Entry → View → Type 0
HasGot (Takes got made known) e w = (w ≡ Takes (got ++ e ∷ []) made known)
    × IsWithin (2 ^ 41) (messages (got ++ e ∷ []))
HasGot v e w = ⊤

-- the taker has taken at most 2^41 messages, with at most as many packets
abbrev pub HasFew : View → Type 0
HasFew (Takes got made known) = IsWithin (2 ^ 41) (messages got)
HasFew v = ⊤

-- if all senders were taken back, then for each sender what was taken and what the lane holds is what it sent
abbrev pub HasCompared : View → List Entry → Type 0
HasCompared (Takes got made known) items = length known ≡ made → (f : ℕ) → of f (got ++ items)
    ≡ slice_index_or known f []
HasCompared v items = ⊤

-- state of a taker
abbrev pub view_of : Taker → View
view_of taker = Takes taker.taken taker.senders []

-- a lesson that the taker may learn: by the rule it holds for the contents of the lane at each moment
abbrev pub MayLearn : (fact : View → List Entry → Type 0) → Taker → Type 0
MayLearn fact taker = (pass : ℕ) → Learns Delivers pass (view_of taker) (fact (view_of taker))

-- at one step of a call the lane was empty, and the taker learned what the lesson states of that
abbrev pub HeldNothing : (fact : View → List Entry → Type 0) → Taker → Type 0
HeldNothing fact taker = fact (view_of taker) []
