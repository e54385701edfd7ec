-- The ends of lanes. Senders count from 0.
use Rattle.std.specs.Prelude.{◌≡◌, ⊤, ℕ, List, [], ◌∷◌, length}
use Rattle.ruled_intake.specs.Lanes.{AreSenders, IsPrefix, LaneId, Sender, Taker, of, sent_of}

-- these are all passes of the lane
pub record HasAll (lane : LaneId) (senders : List Sender) (taker : Taker) : Type 0 where
  pub are : AreSenders lane senders
  pub count : length senders ≡ taker.senders
  pub taker_is : taker.lane ≡ lane

-- these are all passes of each lane
abbrev pub CanClose : List LaneId → List (List Sender) → List Taker → Type 0
CanClose [] [] [] = ⊤
CanClose (lane ∷ lanes) (s ∷ senders) (t ∷ takers) = HasAll lane s t × CanClose lanes senders takers
CanClose lanes senders takers = ⊥

-- for each sender of a lane, what was taken is a prefix of what it sent
abbrev pub IsClosed : List Sender → Taker → Type 0
IsClosed senders taker = (f : ℕ) → IsPrefix (of f taker.taken) (sent_of senders f)

-- for each sender of each lane, what was taken is a prefix of what it sent
abbrev pub AreClosed : List (List Sender) → List Taker → Type 0
AreClosed [] [] = ⊤
AreClosed (s ∷ senders) (t ∷ takers) = IsClosed s t × AreClosed senders takers
AreClosed senders takers = ⊥
