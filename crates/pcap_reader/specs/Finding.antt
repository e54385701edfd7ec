-- Guarantees between the reader's own functions: buffering bytes, reading a header, reading a packet record, and
-- finding the next one.
use Rattle.std.specs.Prelude.{◌≡◌, ◌≤◌, ◌<◌, ℕ, ◌+◌, List, ◌∷◌, length, Bool, false, IsTrue, Option, None, Result, Ok}
use Rattle.std.specs.Prelude.{Err, IfOk, IfErr}
use Rattle.std.specs.Io.KnownBytes.{Keeps, IsAtEnd}
use Rattle.timing_base.specs.Captures.{Record, IsStamp}
use Rattle.timing_base.specs.declared.capture.PcapFault.{PcapFault}
use Rattle.timing_base.specs.declared.capture.PcapFault.TheVariants.{ReadFault}
use Rattle.timing_base.specs.declared.capture.FileNote.{FileNote}
use Rattle.timing_base.specs.declared.capture.FileNote.TheVariants.{Refused}
use Rattle.timing_outside.specs.Causes.{Rose}
use Rattle.pcap_reader.specs.declared.layout.Layout.{Layout}
use Rattle.pcap_reader.specs.declared.window.Window.{Window}
use Rattle.pcap_reader.specs.declared.reader.PcapReader.{PcapReader}
use Rattle.pcap_reader.specs.declared.stage.Head.{Head}
use Rattle.pcap_reader.specs.Records.{UnlessReadFault, OnReadFault}
use Rattle.pcap_reader.specs.Windows.{held_bytes, last_bytes, SameRecord, Takes}
use Rattle.pcap_reader.specs.Readers.{under, frame_count, most_of, taken_count, end_note, ahead, GivesNote, StageGives}
use Rattle.pcap_reader.specs.Readers.{WillGive}

-- the parts of a reader that stay unchanged, and what was taken from its source
pub record Moves {S : Type 0} (left : S → Option (List ℕ)) (name : S → List ℕ) (faults : S → ℕ)
    (old new : PcapReader S) : Type 0 where
  pub takes : Takes (left (under old)) (left (under new)) (taken_count old) (taken_count new)
  pub same_most : most_of new ≡ most_of old
  pub same_name : name (under new) ≡ name (under old)
  pub later : faults (under old) ≤ faults (under new)

-- if the result is that a read failed, the source's count of faults rose
abbrev pub OnRose : {A S : Type 0} → (S → ℕ) → (old new : PcapReader S) → Result A FileNote → Type 0
OnRose faults old new result =
    IfErr result (λ told. OnReadFault told (Rose (faults (under old)) (faults (under new))))

-- `need` bytes are buffered, or the source has no more, or a read failed
pub record Holds {S : Type 0} (left : S → Option (List ℕ)) (name : S → List ℕ) (faults : S → ℕ)
    (need : ℕ) (old new : PcapReader S) (result : Result Bool FileNote) : Type 0 where
  pub bytes : Keeps (ahead left old) (ahead left new)
  pub same : SameRecord old.window new.window
  pub moves : Moves left name faults old new
  pub failed : OnRose faults old new result
  pub fault : IfErr result (λ note. note ≡ Refused ReadFault)
  pub enough : IfOk result (λ b. IsTrue b → need ≤ length (held_bytes new.window))
  pub few : IfOk result (λ b. b ≡ false → length (held_bytes new.window) < need)
  pub end : IfOk result (λ b. b ≡ false → IsAtEnd (left new.source))

-- the header of a text, or how the capture ends because of it
abbrev pub HeaderIs : Result Layout PcapFault → Result Layout FileNote → Type 0
HeaderIs header (Ok layout) = header ≡ Ok layout
HeaderIs header (Err (Refused fault)) = UnlessReadFault (Refused fault) (header ≡ Err fault)
HeaderIs header (Err note) = ⊥

-- the packet record is the first that was to be given, or only this note was
abbrev pub FoundGives : Window → Option (List ℕ) → Result Head FileNote → List Record → FileNote
    → Type 0
FoundGives new known (Ok head) items note =
    (later : List Record)
    × (items
    ≡ record { number = new.count; stamp = head.at; bytes = last_bytes head.captured new } ∷ later)
    × StageGives new.stage new known later note
FoundGives new known (Err told) items note = GivesNote told items note

-- the packet record is within the limits, is directly before the buffered bytes, and was counted; or there is none
abbrev pub FoundCounts : (before : ℕ) → (new : Window) → Result Head FileNote → Type 0
FoundCounts before new (Ok head) =
    IsStamp head.at × (head.captured ≤ 262144) × (head.captured ≤ new.start)
    × (new.count ≡ before + 1)
FoundCounts before new (Err told) = new.count ≡ before

-- the result of finding the next packet record
pub record Finds {S : Type 0} (left : S → Option (List ℕ)) (name : S → List ℕ) (faults : S → ℕ)
    (old new : PcapReader S) (result : Result Head FileNote) : Type 0 where
  pub gives : (items : List Record) (note : FileNote) → WillGive left old items note
      → FoundGives new.window (ahead left new) result items note
  pub counts : FoundCounts (frame_count old) new.window result
  pub moves : Moves left name faults old new
  pub failed : end_note old ≡ None → OnRose faults old new result
