-- The result of a scan with the way its capture ends.
use Rattle.std.specs.Prelude.{◌^◌, ℕ, List}
use Rattle.timing_base.specs.Captures.{Record}
use Rattle.capture_scan.specs.Scans.{IsFound}
use Rattle.pcap_reader.specs.Records.{Records}
use Rattle.timing_reach.specs.declared.scan.Scanned.{Scanned}

-- this is the result for a classic capture with these contents
pub record IsScannedIn (text : List ℕ) (s : Scanned) : Type 0 where
  pub items : List Record
  pub records : Records text (2 ^ 40) items s.note
  pub found_is : IsFound items s.found
