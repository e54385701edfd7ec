-- The results of captures.
use Rattle.std.specs.Prelude.{◌≡◌, ℕ, List}
use Rattle.timing_base.specs.Captures.{Record}
use Rattle.timing_base.specs.declared.capture.FileNote.{FileNote}
use Rattle.timing_base.specs.declared.row.Row.{Row}
use Rattle.pcap_reader.specs.Records.{AreRecords}

-- the captures with these contents have these notes and results; `rows_by` gives the results by the packet records
pub record AreFound (texts : List (List ℕ)) (rows_by : List (List Record) → List Row) (notes : List FileNote)
    (rows : List Row) : Type 0 where
  pub files : List (List Record)
  pub records : AreRecords texts files notes
  pub rows_are : rows ≡ rows_by files
