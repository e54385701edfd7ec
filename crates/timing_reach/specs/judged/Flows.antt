-- The packets of a media's flow, taken from the packet records of captures as one. `takes` relates a taker before and
-- after: it took the flow in these records, and nothing else.
use Rattle.std.specs.Prelude.{ℕ, List}
use Rattle.timing_base.specs.Captures.{Record, joined}
use Rattle.timing_base.specs.declared.capture.FileNote.{FileNote}
use Rattle.pcap_reader.specs.Records.{AreRecords}

-- the flow in captures with these contents was taken
pub record TakesIn {F : Type 0} (takes : F → F → List Record → Type 0) (texts : List (List ℕ)) (old new : F) : Type 0
  where
    pub files : List (List Record)
    pub notes : List FileNote
    pub records : AreRecords texts files notes
    pub fed : takes old new (joined files)
