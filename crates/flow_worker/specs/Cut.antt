-- The messages that the intake of a file has sent to one lane, so far and in all.
use Rattle.std.specs.Prelude.{◌≡◌, ℕ, ⊤, List, [], ◌∷◌, ◌++◌}
use Rattle.timing_base.specs.declared.capture.FileNote.{FileNote}
use Rattle.ruled_intake.specs.Packets.{Packet}
use Rattle.ruled_intake.specs.declared.message.Message.{Message}
use Rattle.ruled_intake.specs.declared.message.Message.TheVariants.{Batch, End}
use Rattle.flow_worker.specs.Messages.{packets_in, batch, ending}
use Rattle.flow_worker.specs.Opening.{for_lane, full_batches, lane_packets, rest}

-- the messages are batches of the file
abbrev pub AreBatches : ℕ → List Message → Type 0
AreBatches f [] = ⊤
AreBatches f (Batch batch ∷ ms) = (batch.file ≡ f) × AreBatches f ms
AreBatches f (End end ∷ ms) = ⊥

-- the messages are batches of the file with these packets, and then its end
pub record AreWhole (file : ℕ) (packets : List Packet) (note : FileNote) (records : ℕ) (messages : List Message) : Type
    0 where
  pub batches : List Message
  pub whole : messages ≡ batches ++ ending file note records ∷ []
  pub are : AreBatches file batches
  pub have : packets_in batches ≡ packets

-- of these packets of a file, the full batches for the lane were sent, and those that fill none are left
pub record HasCut (size file : ℕ) (lane : Packet → ℕ) (w : ℕ) (packets : List Packet) (sent : List Message)
    (left : List Packet) : Type 0 where
  pub full : sent ≡ for_lane w (full_batches size file lane [] packets)
  pub open_batch : left ≡ rest size (lane_packets lane w packets)
