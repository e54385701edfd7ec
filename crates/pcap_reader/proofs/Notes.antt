-- The note of a text is no failed read.
use Rattle.std.proofs.Common.{◌≡◌, ◌+◌, ℕ, List, [], ◌∷◌, drop, Some, Ok, Err, arith}
use Rattle.std.proofs.lemmas.Bool.Decides.{nat_tests}
use Rattle.std.specs.Prelude.{◌≢◌, Result}
use Rattle.timing_base.specs.Captures.{Record}
use Rattle.timing_base.specs.declared.capture.PcapFault.{PcapFault}
use Rattle.timing_base.specs.declared.capture.PcapFault.TheVariants as fault
use Rattle.timing_base.specs.declared.capture.FileNote.{FileNote}
use Rattle.timing_base.specs.declared.capture.FileNote.TheVariants.{Refused}
use Rattle.pcap_reader.specs.declared.layout.Layout.{Layout}
use Rattle.pcap_reader.specs.Header.{header}
use Rattle.pcap_reader.specs.Records.{captured, note_at, RecordsFrom, RecordsBy}

-- it is no failed read
abbrev pub IsOwn : FileNote → Type 0
IsOwn note = note ≢ Refused fault.ReadFault

-- what stands in the way of a record
own_at : (l : Layout) (most n place : ℕ) (rest : List ℕ) (note : FileNote) → note_at l most n place rest ≡ Some note → IsOwn note
own_at l most n place rest note e = λ r. grind (arith, nat_tests)

-- the note behind a list of records
own_from : (l : Layout) (most n place : ℕ) (rest : List ℕ) (items : List Record) (note : FileNote)
    → RecordsFrom l most n place rest items note → IsOwn note
own_from l most n place rest [] note p = own_at l most n place rest note p
own_from l most n place rest (item ∷ items) note p =
    own_from l most (n + 1) (place + 16 + captured l rest) (drop (16 + captured l rest) rest) items note p.2

-- no header is a failed read
pub header-own : (text : List ℕ) → header text ≢ Err fault.ReadFault
header-own text e = grind (arith, nat_tests)

-- the note of a text with this header
pub own_by : (h : Result Layout PcapFault) (most : ℕ) (text : List ℕ) (items : List Record) (note : FileNote)
    → h ≢ Err fault.ReadFault → RecordsBy h most text items note → IsOwn note
own_by (Ok l) most text items note own p = own_from l most 1 24 (drop 24 text) items note p
own_by (Err f) most text items note own p = λ r. own cc
