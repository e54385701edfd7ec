-- The state of a lane and its passes in contracts. Senders count from 0.
use Rattle.std.specs.Prelude.{◌≡◌, ◌≤◌, ◌<◌, ◌+◌, ◌^◌, ◌==◌, ◌++◌, ℕ, List, [], ◌∷◌, length, map, filter, sum_by}
use Rattle.std.specs.Prelude.{slice_index_or}
use Rattle.std.specs.declared.alloc.Global.{Global}
use Rattle.crossbeam_queue.specs.SegTies.{SegId}
use Rattle.ruled_intake.specs.declared.message.Message.{Message}
use Rattle.ruled_intake.specs.declared.message.Message.TheVariants.{Batch, End}
use Rattle.ruled_intake.specs.declared.rule.Entry.{Entry}

-- identity of a lane
abbrev pub LaneId : Type 0
LaneId = SegId Global

-- the pass of a sender: its lane, the number of the sender, and what it has sent, in order
pub record Sender : Type 0 where
  pub lane : LaneId
  pub from : ℕ
  pub sent : List Message

-- the pass of the taker: its lane, the number of senders, and what was taken, in order
pub record Taker : Type 0 where
  pub lane : LaneId
  pub senders : ℕ
  pub taken : List Entry

-- a message with the number of its sender
abbrev pub entry : ℕ → Message → Entry
entry from message = record { from = from; message = message }

-- the sender's pass after it has sent this message too
abbrev pub with_sent : Sender → Message → Sender
with_sent s message = record { lane = s.lane; from = s.from; sent = s.sent ++ message ∷ [] }

-- the taker has taken this message, of some sender, and nothing else has changed
abbrev pub HasTaken : (old new : Taker) → Message → Type 0
HasTaken old new message = (from : ℕ)
    × (new ≡ record { lane = old.lane; senders = old.senders; taken = old.taken ++ entry from message ∷ [] })

-- messages of entries, in order
abbrev pub messages : List Entry → List Message
messages entries = map (λ e. e.message) entries

-- messages of one sender, in order
abbrev pub of : ℕ → List Entry → List Message
of f entries = messages (filter (λ e. e.from == f) entries)

-- number of packets of a message
abbrev pub count_of : Message → ℕ
count_of (Batch batch) = length batch.packets
count_of (End end) = 0

-- number of packets of messages
abbrev pub packets : List Message → ℕ
packets sent = sum_by count_of sent

-- at most `most` messages, and at most as many packets
pub record IsWithin (most : ℕ) (sent : List Message) : Type 0 where
  pub few_messages : length sent ≤ most
  pub few_packets : packets sent ≤ most

-- what each sender has sent, in the order of these passes
abbrev pub all_sent : List Sender → List (List Message)
all_sent senders = map (λ s. s.sent) senders

-- what sender f has sent: nothing if there is no such sender
abbrev pub sent_of : List Sender → ℕ → List Message
sent_of senders f = slice_index_or (all_sent senders) f []

-- the pass is that of sender f of this lane
pub record IsSender (lane : LaneId) (f : ℕ) (s : Sender) : Type 0 where
  pub lane_is : s.lane ≡ lane
  pub from_is : s.from ≡ f

-- these are passes of the lane, and the number of each sender is its position
abbrev pub AreSenders : LaneId → List Sender → Type 0
AreSenders lane senders = (f : ℕ) (d : Sender) → f < length senders → IsSender lane f (slice_index_or senders f d)

-- the first list is a prefix of the second
abbrev pub IsPrefix : List Message → List Message → Type 0
IsPrefix some whole = (rest : List Message) × (some ++ rest ≡ whole)
