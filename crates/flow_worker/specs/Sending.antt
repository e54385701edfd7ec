-- The state with which an intake sends, and the result of each part of its work. Lanes count from 0.
use Rattle.std.specs.Prelude.{◌≡◌, ◌≤◌, ◌<◌, ◌+◌, ◌^◌, ℕ, List, [], ◌∷◌, ◌++◌, length, map, slice_index_or, None}
use Rattle.timing_base.specs.Captures.{Record}
use Rattle.timing_base.specs.Keys.{key_of}
use Rattle.timing_base.specs.Routes.{route}
use Rattle.timing_base.specs.declared.capture.FileNote.{FileNote}
use Rattle.pcap_reader.specs.Readers.{GivesNote, end_note, frame_count, most_of}
use Rattle.pcap_reader.specs.declared.reader.PcapReader.{PcapReader}
use Rattle.ruled_intake.specs.Lanes.{packets, sent_of as sent_by}
use Rattle.ruled_intake.specs.Packets.{Packet}
use Rattle.ruled_intake.specs.declared.message.Message.{Message}
use Rattle.flow_worker.specs.Cut.{HasCut}
use Rattle.flow_worker.specs.Intakes.{HaveSent}
use Rattle.flow_worker.specs.Messages.{IsPrefix, batch, ending}
use Rattle.flow_worker.specs.Opening.{for_lane, full_batches, sent_of, session_packets, unless_empty}
use Rattle.flow_worker.specs.declared.outboxes.Outboxes.{Outboxes}
use Rattle.flow_worker.specs.declared.routing.Routing.{Routing}

-- `dealt` has the lane of each of the first `count` media of a file, by the media's number
abbrev pub AreDealt : (file media lanes count : ℕ) → List ℕ → Type 0
AreDealt file media lanes count dealt =
    (length dealt ≡ 64) × ((m : ℕ) → m < count → slice_index_or dealt m 0 ≡ route (key_of file m) media lanes)

-- lane of a packet
abbrev pub route_of : Routing → Packet → ℕ
route_of r p = route (key_of r.file p.media) (length r.media.now) r.lanes

-- the values of a routing are within their limits
pub record IsRouting (r : Routing) : Type 0 where
  pub file : r.file < 16
  pub some_media : 1 ≤ length r.media.now
  pub few_media : length r.media.now ≤ 64
  pub some_lanes : 1 ≤ r.lanes
  pub few_lanes : r.lanes ≤ 16
  pub dealt : AreDealt r.file (length r.media.now) r.lanes (length r.media.now) r.dealt

-- messages sent to a lane
abbrev pub sent_to : Outboxes → ℕ → List Message
sent_to o w = sent_by o.passes.items w

-- packets for a lane that don't fill a batch yet
abbrev pub open_for : Outboxes → ℕ → List Packet
open_for o w = slice_index_or o.batches.items w []

-- for each lane there are a pass of the file and an open batch
pub record AreOutboxes (o : Outboxes) : Type 0 where
  pub passes : HaveSent o.file o.lanes.now (sent_to o) o.passes.items
  pub batch_count : length o.batches.items ≡ length o.lanes.now

-- both are of the same file and for the same lanes
pub record AreSame (old new : Outboxes) : Type 0 where
  pub are : AreOutboxes new
  pub file : new.file ≡ old.file
  pub lanes : new.lanes.now ≡ old.lanes.now

-- at most n messages were sent to lane w, and at most n packets were sent or are left
pub record HaveFew (n : ℕ) (o : Outboxes) (w : ℕ) : Type 0 where
  pub messages : length (sent_to o w) ≤ n
  pub all_packets : packets (sent_to o w) + length (open_for o w) ≤ n

-- to each lane at most n messages were sent, and for each at most n packets were sent or are left
abbrev pub HaveAllFew : ℕ → Outboxes → Type 0
HaveAllFew n o = (w : ℕ) → w < length o.lanes.now → HaveFew n o w

-- nothing more was sent
pub record Stays (old new : Outboxes) : Type 0 where
  pub same : AreSame old new
  pub sent : (w : ℕ) → sent_to new w ≡ sent_to old w

-- one message was sent, and no packet was put
pub record Sends (old new : Outboxes) (lane : ℕ) (message : Message) : Type 0 where
  pub same : AreSame old new
  pub here : sent_to new lane ≡ sent_to old lane ++ message ∷ []
  pub others : (w : ℕ) → (lane ≡ w → ⊥) → sent_to new w ≡ sent_to old w
  pub open_same : (w : ℕ) → open_for new w ≡ open_for old w

-- a packet was put into its batch, which was sent if that filled it
pub record Puts (old new : Outboxes) (lane : ℕ) (packet : Packet) : Type 0 where
  pub same : AreSame old new
  pub within : length (open_for old lane) + 1 ≤ 256
  pub more : length (open_for old lane) + 1 < 256
      → (sent_to new lane ≡ sent_to old lane) × (open_for new lane ≡ open_for old lane ++ packet ∷ [])
  pub full : length (open_for old lane) + 1 ≡ 256
      → (sent_to new lane ≡ sent_to old lane ++ batch old.file (open_for old lane ++ packet ∷ []) ∷ [])
      × (open_for new lane ≡ [])
  pub others : (w : ℕ) → (lane ≡ w → ⊥) → (sent_to new w ≡ sent_to old w) × (open_for new w ≡ open_for old w)

-- what was sent to a lane, and then the packets that don't fill a batch
abbrev pub with_rest : Outboxes → ℕ → List Message
with_rest o w = sent_to o w ++ map (batch o.file) (unless_empty (open_for o w))

-- what was sent to a lane, then the packets that don't fill a batch, and then the end of the file
abbrev pub with_end : Outboxes → FileNote → (records : ℕ) → ℕ → List Message
with_end o note records w = with_rest o w ++ ending o.file note records ∷ []

-- the packets that don't fill a batch were sent to a lane
pub record SendsRest (old new : Outboxes) (lane : ℕ) : Type 0 where
  pub same : AreSame old new
  pub here : sent_to new lane ≡ with_rest old lane
  pub others : (w : ℕ) → (lane ≡ w → ⊥) → (sent_to new w ≡ sent_to old w) × (open_for new w ≡ open_for old w)

-- for each lane these packets were divided into batches, and the full ones were sent
abbrev pub AreCut : (Packet → ℕ) → List Packet → Outboxes → Type 0
AreCut lane ps o = (w : ℕ) → w < length o.lanes.now → HasCut 256 o.file lane w ps (sent_to o w) (open_for o w)

-- an intake before the first record of a file: the reader has returned none, and nothing was sent or put
pub record BeginsFile {S : Type 0} (r : Routing) (reader : PcapReader S) (o : Outboxes) : Type 0 where
  pub routing : IsRouting r
  pub lanes : r.lanes ≡ length o.lanes.now
  pub are : AreOutboxes o
  pub fresh : end_note reader ≡ None
  pub first : frame_count reader ≡ 0
  pub most : most_of reader ≤ 2 ^ 40
  pub few : HaveAllFew 0 o
  pub none : AreCut (route_of r) [] o

-- these packets were divided into batches, after those before
abbrev pub Cuts : (Packet → ℕ) → (old new : Outboxes) → List Packet → Type 0
Cuts lane old new more = (ps : List Packet) → AreCut lane ps old → AreCut lane (ps ++ more) new

-- `count` of these records were read, and their packets divided into batches, up to an end with this note: all records,
-- unless a read failed
pub record HasCutAll (r : Routing) (o : Outboxes) (note : FileNote) (count : ℕ) (items : List Record) (end : FileNote) :
    Type 0 where
  pub before : List Record
  pub later : List Record
  pub whole : items ≡ before ++ later
  pub ends : GivesNote note later end
  pub count_is : length before ≡ count
  pub cut : AreCut (route_of r) (session_packets r.media.now before) o

-- the full batches of a prefix of these records were sent
pub record HasLeftOff (r : Routing) (o : Outboxes) (items : List Record) : Type 0 where
  pub before : List Record
  pub later : List Record
  pub whole : items ≡ before ++ later
  pub full : (w : ℕ) → w < length o.lanes.now
      → sent_to o w ≡ for_lane w (full_batches 256 o.file (route_of r) [] (session_packets r.media.now before))

-- the messages that a file with these records has to send to a lane
abbrev pub sends_to : Routing → (file lane : ℕ) → List Record → FileNote → List Message
sends_to r file lane items note =
    for_lane lane (sent_of 256 file (route_of r) (session_packets r.media.now items) r.lanes
    (ending file note (length items)))

-- all messages for these records were sent, up to an end with this note: for all records, unless a read failed
pub record HasSentFile (r : Routing) (o : Outboxes) (note : FileNote) (items : List Record) (end : FileNote) : Type 0
  where
    pub before : List Record
    pub later : List Record
    pub whole : items ≡ before ++ later
    pub ends : GivesNote note later end
    pub all : (w : ℕ) → w < length o.lanes.now → sent_to o w ≡ sends_to r o.file w before note

-- what was sent is a prefix of what is to be sent of these records: of all of them, unless a read failed
pub record HasBegunFile (r : Routing) (o : Outboxes) (items : List Record) (end : FileNote) : Type 0 where
  pub note : FileNote
  pub before : List Record
  pub later : List Record
  pub whole : items ≡ before ++ later
  pub ends : GivesNote note later end
  pub begins : (w : ℕ) → w < length o.lanes.now → IsPrefix (sent_to o w) (sends_to r o.file w before note)
