-- What a reader has still to give, and what each call gives of it.
use Rattle.std.specs.Prelude.{◌≡◌, ◌≤◌, ℕ, ◌+◌, ◌*◌, List, [], ◌∷◌, length, Option, Some, None, Result, Ok, Err}
use Rattle.std.specs.Io.KnownBytes.{prepend_known}
use Rattle.timing_base.specs.Captures.{Record, IsStamp}
use Rattle.timing_base.specs.declared.capture.PcapFault.{PcapFault}
use Rattle.timing_base.specs.declared.capture.FileNote.{FileNote}
use Rattle.timing_base.specs.declared.capture.FileNote.TheVariants as file_note
use Rattle.timing_outside.specs.Causes.{Rose}
use Rattle.pcap_reader.specs.declared.window.Window.{Window}
use Rattle.pcap_reader.specs.declared.reader.PcapReader.{PcapReader}
use Rattle.pcap_reader.specs.declared.stage.Stage.{Stage}
use Rattle.pcap_reader.specs.declared.stage.Stage.TheVariants as stage
use Rattle.pcap_reader.specs.declared.reader.Step.{Step}
use Rattle.pcap_reader.specs.declared.reader.Step.TheVariants as step
use Rattle.pcap_reader.specs.Records.{Records, RecordsFrom, UnlessReadFault, OnReadFault}
use Rattle.pcap_reader.specs.Stages.{stage_note}
use Rattle.pcap_reader.specs.Windows.{held_bytes, taken_length, Takes}

-- the source of a reader
abbrev pub under : {S : Type 0} → PcapReader S → S
under r = r.source

-- the number of packet records that it has returned
abbrev pub frame_count : {S : Type 0} → PcapReader S → ℕ
frame_count r = r.window.count

-- the greatest length of its capture, in bytes
abbrev pub most_of : {S : Type 0} → PcapReader S → ℕ
most_of r = r.window.most

-- the number of bytes that it has taken from its source
abbrev pub taken_count : {S : Type 0} → PcapReader S → ℕ
taken_count r = taken_length r.window

-- how the records have ended, if they have
abbrev pub end_note : {S : Type 0} → PcapReader S → Option FileNote
end_note r = stage_note r.window.stage

-- the bytes still to come, if those of the source are known
abbrev pub ahead : {S : Type 0} → (S → Option (List ℕ)) → PcapReader S → Option (List ℕ)
ahead left r = prepend_known (held_bytes r.window) (left r.source)

-- no packet record was to be given, only this note; if a read failed, anything may have been to be given
abbrev pub GivesNote : FileNote → List Record → FileNote → Type 0
GivesNote told items note = UnlessReadFault told ((items ≡ []) × (note ≡ told))

-- at this stage and with these bytes to come, these packet records and then this note are still to be given
abbrev pub StageGives : Stage → Window → Option (List ℕ) → List Record → FileNote → Type 0
StageGives stage.Header w known items note =
    (text : List ℕ) × (known ≡ Some text) × Records text w.most items note
StageGives (stage.Records layout) w known items note =
    (text : List ℕ) × (known ≡ Some text)
    × RecordsFrom layout w.most (w.count + 1) w.place text items note
StageGives (stage.Ended told) w known items note = GivesNote told items note

-- the reader has still to give these packet records and then this note
abbrev pub WillGive : {S : Type 0} → (S → Option (List ℕ)) → PcapReader S → List Record → FileNote
    → Type 0
WillGive left r items note = StageGives r.window.stage r.window (ahead left r) items note

-- how the records end by a result, if it is no packet record
abbrev pub answer_note : Result Step PcapFault → Option FileNote
answer_note (Ok (step.Frame at bytes)) = None
answer_note (Ok step.End) = Some file_note.End
answer_note (Ok (step.Cut at)) = Some (file_note.Cut at)
answer_note (Err fault) = Some (file_note.Refused fault)

-- a result is the first packet record that was to be given, or the note
abbrev pub Gives : {S : Type 0} → (S → Option (List ℕ)) → PcapReader S → Result Step PcapFault
    → List Record → FileNote → Type 0
Gives left new (Ok (step.Frame at bytes)) items note =
    (later : List Record)
    × (items ≡ record { number = frame_count new; stamp = at; bytes = bytes.now } ∷ later)
    × WillGive left new later note
Gives left new (Ok step.End) items note = GivesNote file_note.End items note
Gives left new (Ok (step.Cut at)) items note = GivesNote (file_note.Cut at) items note
Gives left new (Err fault) items note = GivesNote (file_note.Refused fault) items note

-- a packet record is within the limits, and is counted
abbrev pub Counts : ℕ → ℕ → Result Step PcapFault → Type 0
Counts old new (Ok (step.Frame at bytes)) =
    IsStamp at × (length bytes.now ≤ 262144) × (new ≡ old + 1)
Counts old new (Ok step.End) = new ≡ old
Counts old new (Ok (step.Cut at)) = new ≡ old
Counts old new (Err fault) = new ≡ old

-- the claim, if the result is that a read failed
abbrev pub OnFailedRead : Result Step PcapFault → Type 0 → Type 0
OnFailedRead (Ok answer) P = Unit {0}
OnFailedRead (Err fault) P = OnReadFault (file_note.Refused fault) P

-- the result of `next`, and the state it leaves
pub record Steps {S : Type 0} (left : S → Option (List ℕ)) (name : S → List ℕ) (faults : S → ℕ)
    (old new : PcapReader S) (result : Result Step PcapFault) : Type 0 where
  -- whatever the reader had still to give, the result is the first of it
  pub gives : (items : List Record) (note : FileNote) → WillGive left old items note
      → Gives left new result items note
  -- the reader continues only after a packet record
  pub tells : end_note new ≡ answer_note result
  -- after an end nothing is taken or changed, so each further call returns that end
  pub again : (note : FileNote) → end_note old ≡ Some note → new ≡ old
  -- for every source
  pub counts : Counts (frame_count old) (frame_count new) result
  pub few : 16 * frame_count new ≤ most_of new
  -- the bytes missing from the source were taken, and there is a limit to them
  pub takes : Takes (left (under old)) (left (under new)) (taken_count old) (taken_count new)
  pub few_taken : taken_count new ≤ most_of new + 16
  pub same_most : most_of new ≡ most_of old
  pub same_name : name (under new) ≡ name (under old)
  pub later : faults (under old) ≤ faults (under new)
  pub failed : end_note old ≡ None
      → OnFailedRead result (Rose (faults (under old)) (faults (under new)))
