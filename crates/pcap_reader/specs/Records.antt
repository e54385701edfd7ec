-- The packet records of a whole capture, defined from its contents. Places are bytes from the start of the contents,
-- capture timestamps are nanoseconds since 1970-01-01 00:00:00, packet records count from 1.
-- From pcap-savefile(5): the header of 16 bytes, the places of its fields, and the captured bytes behind it.
-- This project's profile: a fraction is below a second, at most 262,144 bytes are captured, and a capture has at most
-- `most` bytes; the order of the faults, and that nothing is read after a fault.
use Rattle.std.specs.Prelude.{◌≡◌, ⊤, ℕ, ◌+◌, ◌*◌, ◌^◌, ◌==◌, nat_lt, if◌then◌else◌, List, [], ◌∷◌, length, take, drop}
use Rattle.std.specs.Prelude.{Option, Some, None, Result, Ok, Err}
use Rattle.timing_base.specs.Captures.{Record}
use Rattle.timing_base.specs.declared.capture.PcapFault.{PcapFault}
use Rattle.timing_base.specs.declared.capture.PcapFault.TheVariants.{ReadFault, BadStamp, BadLength, TooLong}
use Rattle.pcap_reader.specs.declared.layout.Fraction.{Fraction}
use Rattle.pcap_reader.specs.declared.layout.Layout.{Layout}
use Rattle.timing_base.specs.declared.capture.FileNote.{FileNote}
use Rattle.timing_base.specs.declared.capture.FileNote.TheVariants.{End, Cut, Refused}
use Rattle.pcap_reader.specs.Header.{number, nanos, per_second, header}

-- the whole seconds in the header of the packet record at the start of these bytes
abbrev pub seconds : Layout → List ℕ → ℕ
seconds layout rest = number layout.order 4 (drop 0 rest)

-- the fraction of a second in that header, in units of the layout
abbrev pub fraction : Layout → List ℕ → ℕ
fraction layout rest = number layout.order 4 (drop 4 rest)

-- the captured length in that header, in bytes
abbrev pub captured : Layout → List ℕ → ℕ
captured layout rest = number layout.order 4 (drop 8 rest)

-- the capture timestamp in that header, in nanoseconds
abbrev pub stamp : Layout → List ℕ → ℕ
stamp layout rest = seconds layout rest * 10 ^ 9 + fraction layout rest * nanos layout.fraction

-- why a packet record with this header can't be read: the fraction, the captured length, the greatest length of a
-- capture, or the end of the text after `long` bytes
abbrev pub note_by : Fraction → (most number place long fraction captured : ℕ) → Option FileNote
note_by unit most number place long fraction captured =
    if nat_lt fraction (per_second unit) then
    (if nat_lt 262144 captured then Some (Refused (BadLength number))
    else if nat_lt most (place + 16 + captured) then Some (Refused TooLong)
    else if nat_lt long (16 + captured) then Some (Cut place)
    else None)
    else Some (Refused (BadStamp number))

-- why there is no packet record at the start of this rest, which begins at `place` of the text
abbrev pub note_at : Layout → (most number place : ℕ) → List ℕ → Option FileNote
note_at layout most number place rest =
    if length rest == 0 then Some End
    else if nat_lt (length rest) 16 then Some (Cut place)
    else note_by layout.fraction most number place (length rest)
    (fraction layout rest) (captured layout rest)

-- the packet record at the start of a rest
abbrev pub record_of : Layout → (number : ℕ) → List ℕ → Record
record_of layout number rest = record {
  number = number;
  stamp = stamp layout rest;
  bytes = take (captured layout rest) (drop 16 rest);
}

-- the rest from `place` on has these packet records, the first with this number, and ends with this note
abbrev pub RecordsFrom : Layout → (most number place : ℕ) → List ℕ → List Record → FileNote → Type 0
RecordsFrom layout most number place rest [] note = note_at layout most number place rest ≡ Some note
RecordsFrom layout most number place rest (item ∷ items) note =
    (note_at layout most number place rest ≡ None) × (item ≡ record_of layout number rest)
    × RecordsFrom layout most (number + 1) (place + 16 + captured layout rest)
    (drop (16 + captured layout rest) rest) items note

-- the text after a header has these packet records, and ends with this note; after an invalid header there are none
abbrev pub RecordsBy : Result Layout PcapFault → (most : ℕ) → List ℕ → List Record → FileNote → Type 0
RecordsBy (Ok layout) most text items note = RecordsFrom layout most 1 24 (drop 24 text) items note
RecordsBy (Err fault) most text items note = (items ≡ []) × (note ≡ Refused fault)

-- the contents of a capture have these packet records, and end with this note, for a reader of at most `most` bytes
abbrev pub Records : (text : List ℕ) → (most : ℕ) → List Record → FileNote → Type 0
Records text most items note = RecordsBy (header text) most text items note

-- the contents of the captures have these packet records, and end with these notes; each has at most 2^40 bytes
abbrev pub AreRecords : (texts : List (List ℕ)) → List (List Record) → List FileNote → Type 0
AreRecords [] [] [] = ⊤
AreRecords (text ∷ texts) (items ∷ files) (note ∷ notes) =
    Records text (2 ^ 40) items note × AreRecords texts files notes
AreRecords texts files notes = ⊥

-- the claim, unless the note is a failed read
abbrev pub UnlessReadFault : FileNote → Type 0 → Type 0
UnlessReadFault (Refused ReadFault) P = Unit {0}
UnlessReadFault note P = P

-- the claim, if the note is a failed read
abbrev pub OnReadFault : FileNote → Type 0 → Type 0
OnReadFault (Refused ReadFault) P = P
OnReadFault note P = Unit {0}
