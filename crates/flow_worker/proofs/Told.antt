-- The records of a file, as their packets are cut one after the other, and what an intake has sent of them when it ends.
use Rattle.std.proofs.Common.{◌≡◌, ◌<◌, ℕ, Bool, if◌then◌else◌, List, [], ◌++◌, length, inl, inr, refl, sym, ap, ◌∙◌, subst, append-nil}
use Rattle.std.proofs.Common.{arith}
use Rattle.std.specs.Prelude.{map, Option, None, Some}
use Rattle.std.proofs.lemmas.Bool.{cases_lt}
use Rattle.std.proofs.lemmas.List.Elements.{filter_map-append}
use Rattle.timing_base.specs.Shifts.{FlowOptions}
use Rattle.timing_base.specs.Captures.{Record, raised}
use Rattle.timing_base.specs.Keys.{key_of}
use Rattle.timing_base.specs.Media.{Media}
use Rattle.timing_base.specs.Routes.{route}
use Rattle.timing_base.specs.declared.capture.FileNote.{FileNote}
use Rattle.timing_base.specs.declared.capture.FileNote.TheVariants as file_note
use Rattle.timing_base.specs.declared.capture.PcapFault.TheVariants as fault
use Rattle.pcap_reader.specs.Readers.{GivesNote}
use Rattle.pcap_reader.specs.Taken.{HasTaken}
use Rattle.pcap_reader.proofs.Captures.{map-raised}
use Rattle.ruled_intake.specs.Lanes.{LaneId, Sender}
use Rattle.ruled_intake.specs.Packets.{Packet}
use Rattle.ruled_intake.specs.declared.message.Message.{Message}
use Rattle.flow_worker.specs.Cut.{HasCut}
use Rattle.flow_worker.specs.Intakes.{HasBegun, HasSentAll, HasTold, HaveSent, HaveSentNothing, lane_sends}
use Rattle.flow_worker.specs.Messages.{IsPrefix, ending}
use Rattle.flow_worker.specs.Opening.{Capture, Setting, for_lane, full_batches, lane_packets, packet_from, rest, sent_of, session_packets}
use Rattle.flow_worker.specs.Sending.{AreCut, AreSame, HasBegunFile, HasCutAll, HasLeftOff, HasSentFile, open_for, route_of, sends_to, sent_to, with_end}
use Rattle.flow_worker.specs.Sorting.{LeavesOff, Sorts}
use Rattle.flow_worker.specs.declared.intakes.Sorter.{Sorter}
use Rattle.flow_worker.specs.declared.outboxes.Outboxes.{Outboxes}
use Rattle.flow_worker.specs.declared.routing.Routing.{Routing}
use Rattle.flow_worker.proofs.Cutting.{HasCut-all, HasCut-prefix}
use Rattle.flow_worker.proofs.Passes.{HaveSent-as, sent_of-past}

-- the packets of records and then of more
pub session_packets-append : (ms : List Media) (xs ys : List Record) → session_packets ms (xs ++ ys) ≡ session_packets ms xs ++ session_packets ms ys
session_packets-append ms xs ys = filter_map-append (packet_from 0 ms) xs ys

-- the packets of all records that were taken were cut
pub taken-cut : {R : Type 0} (old new : Sorter R) (note : FileNote) (count : ℕ) (items : List Record) (end : FileNote)
    → AreCut (route_of old.routing) [] old.outboxes → HasTaken Sorts 0 old new note count items end
    → HasCutAll old.routing new.outboxes note count items end
taken-cut old new note count items end none h = record {
  before = h.taken;
  later = h.rest;
  whole = h.whole;
  ends = h.ends;
  count_is = h.count_is;
  cut =
      subst (λ (l : List Record). AreCut (route_of old.routing) (session_packets old.routing.media.now l) new.outboxes) (map-raised h.taken)
      (h.fed.cuts [] none);
}

-- the packets of the records before the one at which memory ran out were cut
pub taken-left : {R : Type 0} (old new : Sorter R) (items : List Record) → AreCut (route_of old.routing) [] old.outboxes
    → LeavesOff old new (map (raised 0) items) → HasLeftOff old.routing new.outboxes items
taken-left old new items none h = record {
  before = h.before;
  later = h.later;
  whole = sym (map-raised items) ∙ h.whole;
  full = λ w below. h.full [] none w below;
}

-- all that is sent to a lane, once its packets are cut
ends-are : (r : Routing) (o : Outboxes) (note : FileNote) (count w : ℕ) (items : List Record) → length items ≡ count → w < r.lanes
    → HasCut 256 o.file (route_of r) w (session_packets r.media.now items) (sent_to o w) (open_for o w) → with_end o note count w
    ≡ sends_to r o.file w items note
ends-are r o note count w items long below cut =
    HasCut-all 256 o.file (route_of r) w (session_packets r.media.now items) (sent_to o w) (open_for o w) r.lanes (ending o.file note count) below cut
    ∙ ap (λ (n : ℕ). for_lane w (sent_of 256 o.file (route_of r) (session_packets r.media.now items) r.lanes (ending o.file note n))) (sym long)

-- all was sent
pub sent-file : (r : Routing) (mid new : Outboxes) (note : FileNote) (count : ℕ) (items : List Record) (end : FileNote) → r.lanes ≡ length mid.lanes.now
    → AreSame mid new
    → ((w : ℕ) → w < length mid.lanes.now → sent_to new w ≡ with_end mid note count w) → HasCutAll r mid note count items end → HasSentFile r new note items end
sent-file r mid new note count items end lanes same all h = record {
  before = h.before;
  later = h.later;
  whole = h.whole;
  ends = h.ends;
  all = λ w below.
      let within : w < length mid.lanes.now = omega (arith, ap length same.lanes) in
      all w within ∙ ends-are r mid note count w h.before h.count_is (omega (arith, within, lanes)) (h.cut w within)
      ∙ ap (λ (f : ℕ). sends_to r f w h.before note) (sym same.file);
}

-- memory ran out while the last batches or the ends were sent
pub begun-late : (r : Routing) (mid new : Outboxes) (note : FileNote) (count : ℕ) (items : List Record) (end : FileNote) → r.lanes ≡ length mid.lanes.now
    → AreSame mid new
    → ((w : ℕ) → w < length mid.lanes.now → IsPrefix (sent_to new w) (with_end mid note count w)) → HasCutAll r mid note count items end
    → HasBegunFile r new items end
begun-late r mid new note count items end lanes same begun h = record {
  note = note;
  before = h.before;
  later = h.later;
  whole = h.whole;
  ends = h.ends;
  begins = λ w below.
      let within : w < length mid.lanes.now = omega (arith, ap length same.lanes) in
      let t = begun w within in (
        t.0,
        t.1 ∙ ends-are r mid note count w h.before h.count_is (omega (arith, within, lanes)) (h.cut w within)
            ∙ ap (λ (f : ℕ). sends_to r f w h.before note) (sym same.file),
      );
}

-- a note and nothing before it
pub gives-all : (end : FileNote) → GivesNote end [] end
gives-all file_note.End = (refl, refl)
gives-all (file_note.Cut at) = (refl, refl)
gives-all (file_note.Refused fault.ReadFault) = tt
gives-all (file_note.Refused fault.BadMagic) = (refl, refl)
gives-all (file_note.Refused fault.BadVersion) = (refl, refl)
gives-all (file_note.Refused fault.BadLink) = (refl, refl)
gives-all (file_note.Refused (fault.BadStamp n)) = (refl, refl)
gives-all (file_note.Refused (fault.BadLength n)) = (refl, refl)
gives-all (file_note.Refused fault.TooLong) = (refl, refl)

-- memory ran out at a record
pub begun-early : (r : Routing) (o : Outboxes) (items : List Record) (end : FileNote) → HasLeftOff r o items → HasBegunFile r o items end
begun-early r o items end h =
    let ps = session_packets r.media.now h.before in
    let more = session_packets r.media.now h.later in
    let all : session_packets r.media.now items ≡ ps ++ more = ap (session_packets r.media.now) h.whole ∙ session_packets-append r.media.now h.before h.later in
    record {
      note = end;
      before = items;
      later = [];
      whole = sym (append-nil items);
      ends = gives-all end;
      begins = λ w below.
          let last = ending o.file end (length items) in
          let full = for_lane w (full_batches 256 o.file (route_of r) [] ps) in
          let cut : HasCut 256 o.file (route_of r) w ps full (rest 256 (lane_packets (route_of r) w ps)) = record { full = refl; open_batch = refl } in
          let t = HasCut-prefix 256 o.file (route_of r) w ps more full (rest 256 (lane_packets (route_of r) w ps)) r.lanes last cut in (
            t.0,
            ap (λ (l : List Message). l ++ t.0) (h.full w below) ∙ t.1
                ∙ ap (λ (l : List Packet). for_lane w (sent_of 256 o.file (route_of r) l r.lanes last)) (sym all),
          );
    }

-- the setting by which a file is routed
abbrev setting_by : Routing → (joined : Bool) → (options : FlowOptions) → Setting
setting_by r joined options = record { media = r.media.now; workers = r.lanes; joined = joined; options = options }

-- what is to be sent of a file, for the whole run
sends-are : (r : Routing) (joined : Bool) (options : FlowOptions) (file w : ℕ) (items : List Record) (note : FileNote) → r.file ≡ (if joined then 0 else file)
    → sends_to r file w items note ≡ lane_sends (setting_by r joined options) file (record { records = items; note = note }) w
sends-are r joined options file w items note e =
    ap (λ (f : ℕ). for_lane w (sent_of 256 file (λ p. route (key_of f p.media) (length r.media.now) r.lanes) (session_packets r.media.now items) r.lanes
    (ending file note (length items)))) e

-- what is to be sent of a file with such a note was sent by these passes
abbrev SentTo : (s : Setting) (file : ℕ) → List LaneId → List Sender → List Record → FileNote → Type 0
SentTo s file lanes passes items note = HaveSent file lanes (lane_sends s file (record { records = items; note = note })) passes

-- all was sent: the note is that of the capture
told-all : (s : Setting) (file : ℕ) (lanes : List LaneId) (passes : List Sender) (note end : FileNote) (items before later : List Record)
    → items ≡ before ++ later → (later ≡ []) × (end ≡ note) → SentTo s file lanes passes before note
    → HasSentAll s file lanes (record { records = items; note = end }) note passes
told-all s file lanes passes note end items before later whole ends sent =
    let same : before ≡ items = sym (append-nil before) ∙ ap (λ (l : List Record). before ++ l) (sym ends.0) ∙ sym whole in
    record {
      note_is = sym ends.1;
      have_sent = subst (λ (l : List Record). SentTo s file lanes passes l end) same (subst (SentTo s file lanes passes before) (sym ends.1) sent);
    }

-- what an intake tells by its note
told-by : (s : Setting) (file : ℕ) (lanes : List LaneId) (passes : List Sender) (note end : FileNote) (items before later : List Record)
    → items ≡ before ++ later → GivesNote note later end → SentTo s file lanes passes before note
    → HasTold s file lanes (record { records = items; note = end }) (Some note) passes
told-by s file lanes passes file_note.End end items before later whole ends sent = told-all s file lanes passes file_note.End end items before later whole ends
    sent
told-by s file lanes passes (file_note.Cut at) end items before later whole ends sent = told-all s file lanes passes (file_note.Cut at) end items before later
    whole ends sent
told-by s file lanes passes (file_note.Refused fault.ReadFault) end items before later whole ends sent =
    record { before = before; later = later; whole = whole; have_sent = sent }
told-by s file lanes passes (file_note.Refused fault.BadMagic) end items before later whole ends sent =
    told-all s file lanes passes (file_note.Refused fault.BadMagic) end items before later whole ends sent
told-by s file lanes passes (file_note.Refused fault.BadVersion) end items before later whole ends sent =
    told-all s file lanes passes (file_note.Refused fault.BadVersion) end items before later whole ends sent
told-by s file lanes passes (file_note.Refused fault.BadLink) end items before later whole ends sent =
    told-all s file lanes passes (file_note.Refused fault.BadLink) end items before later whole ends sent
told-by s file lanes passes (file_note.Refused (fault.BadStamp n)) end items before later whole ends sent =
    told-all s file lanes passes (file_note.Refused (fault.BadStamp n)) end items before later whole ends sent
told-by s file lanes passes (file_note.Refused (fault.BadLength n)) end items before later whole ends sent =
    told-all s file lanes passes (file_note.Refused (fault.BadLength n)) end items before later whole ends sent
told-by s file lanes passes (file_note.Refused fault.TooLong) end items before later whole ends sent =
    told-all s file lanes passes (file_note.Refused fault.TooLong) end items before later whole ends sent

-- passes of outboxes that are of the same file
pub of-same : (old new : Outboxes) → AreSame old new → HaveSent old.file old.lanes.now (sent_to new) new.passes.items
of-same old new same =
    let first : HaveSent old.file new.lanes.now (sent_to new) new.passes.items =
    subst (λ (f : ℕ). HaveSent f new.lanes.now (sent_to new) new.passes.items) same.file same.are.passes in
    subst (λ (l : List LaneId). HaveSent old.file l (sent_to new) new.passes.items) same.lanes first

-- all was sent, or all of the records before a read that failed
pub told-file : (r : Routing) (old new : Outboxes) (joined : Bool) (options : FlowOptions) (note end : FileNote) (items : List Record) → r.file
    ≡ (if joined then 0 else old.file) → AreSame old new
    → HasSentFile r new note items end
    → HasTold (setting_by r joined options) old.file old.lanes.now (record { records = items; note = end }) (Some note) new.passes.items
told-file r old new joined options note end items e same h =
    let s = setting_by r joined options in
    let sent : SentTo s old.file old.lanes.now new.passes.items h.before note =
    HaveSent-as old.file old.lanes.now new.passes.items (sent_to new) (lane_sends s old.file (record { records = h.before; note = note }))
    (λ w below.
    let within : w < length new.lanes.now = omega (arith, ap length same.lanes) in
    h.all w within ∙ ap (λ (f : ℕ). sends_to r f w h.before note) same.file ∙ sends-are r joined options old.file w h.before note e)
    (of-same old new same) in
    told-by s old.file old.lanes.now new.passes.items note end items h.before h.later h.whole h.ends sent

-- memory ran out
pub told-stopped : (r : Routing) (old new : Outboxes) (joined : Bool) (options : FlowOptions) (end : FileNote) (items : List Record) → r.file
    ≡ (if joined then 0 else old.file) → AreSame old new
    → HasBegunFile r new items end
    → HasBegun (setting_by r joined options) old.file old.lanes.now (record { records = items; note = end }) new.passes.items
told-stopped r old new joined options end items e same h =
    let s = setting_by r joined options in
    let have = of-same old new same in
    record {
      part = record { records = h.before; note = h.note };
      is_part = record { later = h.later; records_are = h.whole; ends = h.ends };
      sent = sent_to new;
      have_sent = have;
      begins = λ w.
          let whole = lane_sends s old.file (record { records = h.before; note = h.note }) w in
          elim (cases_lt w (length old.lanes.now)) as (λ _. IsPrefix (sent_to new w) whole) [
            | inl below ↦
                let within : w < length new.lanes.now = omega (arith, below, ap length same.lanes) in
                let t = h.begins w within in
                (t.0, t.1 ∙ ap (λ (f : ℕ). sends_to r f w h.before h.note) same.file ∙ sends-are r joined options old.file w h.before h.note e)
            | inr past ↦ (whole, ap (λ (l : List Message). l ++ whole) (sent_of-past new.passes.items w (omega (arith, past, have.count))))
          ];
    }

-- memory ran out before the first read
pub told-nothing : (s : Setting) (file : ℕ) (lanes : List LaneId) (passes : List Sender) (items : List Record) (end : FileNote)
    → HaveSentNothing file lanes passes
    → HasBegun s file lanes (record { records = items; note = end }) passes
told-nothing s file lanes passes items end h = record {
  part = record { records = items; note = end };
  is_part = record { later = []; records_are = sym (append-nil items); ends = gives-all end };
  sent = λ w. [];
  have_sent = h;
  begins = λ w. (lane_sends s file (record { records = items; note = end }) w, refl);
}

-- memory ran out, and the passes are those that were left
pub told-stop : (s : Setting) (file : ℕ) (lanes : List LaneId) (c : Capture) (passes now : List Sender) (note : Option FileNote) → note ≡ None → now ≡ passes
    → HasBegun s file lanes c passes → HasTold s file lanes c note now
told-stop s file lanes c passes now note e same h =
    let here : HasBegun s file lanes c now = subst (λ (ps : List Sender). HasBegun s file lanes c ps) (sym same) h in
    subst (λ (x : Option FileNote). HasTold s file lanes c x now) (sym e) here
