-- The messages that an intake has sent when it ends. Files and lanes count from 0.
use Rattle.std.specs.Prelude.{◌≡◌, ◌<◌, ℕ, List, [], ◌++◌, length, slice_index_or, Option, Some, None}
use Rattle.timing_base.specs.Captures.{Record}
use Rattle.timing_base.specs.declared.capture.FileNote.{FileNote}
use Rattle.timing_base.specs.declared.capture.FileNote.TheVariants.{Refused}
use Rattle.timing_base.specs.declared.capture.PcapFault.TheVariants.{ReadFault}
use Rattle.pcap_reader.specs.Readers.{GivesNote}
use Rattle.ruled_intake.specs.Lanes.{LaneId, Sender}
use Rattle.ruled_intake.specs.declared.message.Message.{Message}
use Rattle.flow_worker.specs.Messages.{IsPrefix}
use Rattle.flow_worker.specs.Opening.{Capture, Setting, file_sends, for_lane}

-- the passes are those of a file for these lanes, in order, and exactly these messages were sent with them
pub record HaveSent (file : ℕ) (lanes : List LaneId) (sent : (lane : ℕ) → List Message) (passes : List Sender) : Type 0
  where
    pub count : length passes ≡ length lanes
    pub each : (lane : ℕ) (d : Sender) (l : LaneId) → lane < length lanes
        → slice_index_or passes lane d ≡ record { lane = slice_index_or lanes lane l; from = file; sent = sent lane }

-- nothing was sent
abbrev pub HaveSentNothing : (file : ℕ) → List LaneId → List Sender → Type 0
HaveSentNothing file lanes passes = HaveSent file lanes (λ lane. []) passes

-- the passes are those of a file for these lanes, in order
abbrev pub AreOfFile : (file : ℕ) → List LaneId → List Sender → Type 0
AreOfFile file lanes passes = (sent : (lane : ℕ) → List Message) × HaveSent file lanes sent passes

-- the messages that a file has to send to a lane
abbrev pub lane_sends : Setting → (file : ℕ) → Capture → (lane : ℕ) → List Message
lane_sends s file c lane = for_lane lane (file_sends 256 s file c)

-- `part` is what is to be sent of a capture: all of it, or if a read failed, the records before that
pub record IsToSend (whole part : Capture) : Type 0 where
  pub later : List Record
  pub records_are : whole.records ≡ part.records ++ later
  pub ends : GivesNote part.note later whole.note

-- what was sent to each lane is a prefix of what the file had to send to it
pub record HasBegun (s : Setting) (file : ℕ) (lanes : List LaneId) (c : Capture) (passes : List Sender) : Type 0 where
  pub part : Capture
  pub is_part : IsToSend c part
  pub sent : (lane : ℕ) → List Message
  pub have_sent : HaveSent file lanes sent passes
  pub begins : (lane : ℕ) → IsPrefix (sent lane) (lane_sends s file part lane)

-- a read failed: the messages for all records before that were sent
pub record HasBroken (s : Setting) (file : ℕ) (lanes : List LaneId) (items : List Record) (passes : List Sender) : Type
    0 where
  pub before : List Record
  pub later : List Record
  pub whole : items ≡ before ++ later
  pub have_sent : HaveSent file lanes (lane_sends s file (record { records = before; note = Refused ReadFault })) passes

-- the whole file was sent, and the note is how it ends
pub record HasSentAll (s : Setting) (file : ℕ) (lanes : List LaneId) (c : Capture) (note : FileNote)
    (passes : List Sender) : Type 0 where
  pub note_is : note ≡ c.note
  pub have_sent : HaveSent file lanes (lane_sends s file c) passes

-- what an intake with this note has sent of a capture; without a note, memory ran out
abbrev pub HasTold : Setting → (file : ℕ) → List LaneId → Capture → Option FileNote → List Sender → Type 0
HasTold s file lanes c None passes = HasBegun s file lanes c passes
HasTold s file lanes c (Some (Refused ReadFault)) passes = HasBroken s file lanes c.records passes
HasTold s file lanes c (Some note) passes = HasSentAll s file lanes c note passes
