-- The packets of a flow that are kept while it is judged: their capture timestamps, or their packet records.
use Rattle.std.specs.Prelude.{◌≡◌, ◌/◌, ◌%◌, ℕ, Bool, true, false, List, [], ◌∷◌, ◌++◌, length, map}
use Rattle.byteorder.specs.Endian.{little_bytes}
use Rattle.pcap_reader.specs.WrittenHeads.{file_head, record_head}
use Rattle.timing_base.specs.Captures.{Record}
use Rattle.timing_reach.specs.declared.shape.kept.Kept.{Kept}
use Rattle.timing_reach.specs.declared.shape.kept.Kept.TheVariants.{Capture, Stamps}

-- the capture timestamp at the start of a packet record's header, in nanoseconds
abbrev pub stamp_bytes : ℕ → List ℕ
stamp_bytes at = little_bytes 4 (at / 1000000000) ++ little_bytes 4 (at % 1000000000)

-- a packet record with another capture timestamp
abbrev pub restamped : (at : ℕ) → Record → Record
restamped at r = record { number = r.number; stamp = at; bytes = r.bytes }

-- a packet record, as its bytes in a capture
abbrev pub record_text : Record → List ℕ
record_text r = record_head r.stamp (length r.bytes) ++ r.bytes

-- packet records one after the other, as their bytes in a capture
abbrev pub came_text : List Record → List ℕ
came_text [] = []
came_text (r ∷ rs) = record_head r.stamp (length r.bytes) ++ (r.bytes ++ came_text rs)

-- the capture timestamps of packet records
abbrev pub stamps_of : List Record → List ℕ
stamps_of records = map (λ (r : Record). r.stamp) records

-- the packets with these records are kept, for a list or for a capture
abbrev pub AreKept : (list : Bool) → Kept → List Record → Type 0
AreKept true (Stamps stamps) records = stamps.items ≡ stamps_of records
AreKept false (Capture bytes) records = bytes.items ≡ file_head ++ came_text records
AreKept list kept records = ⊥

-- one more packet is kept, with this capture timestamp and frame, whatever packets were kept before
abbrev pub Keeps : (at : ℕ) → (frame : List ℕ) → (old new : Kept) → Type 0
Keeps at frame old new = (list : Bool) (records : List Record) (r : Record) → r.stamp ≡ at → r.bytes ≡ frame
    → AreKept list old records → AreKept list new (records ++ r ∷ [])
