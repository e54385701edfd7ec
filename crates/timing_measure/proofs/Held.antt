-- Packet records that are as few, and have timestamps, as those of captures can be.
use Rattle.std.proofs.Common.{◌<◌, ◌^◌, List, ℕ, length}
use Rattle.std.specs.Prelude.{All}
use Rattle.timing_base.specs.Captures.{IsStamp, Record, joined}
use Rattle.timing_base.specs.declared.capture.FileNote.{FileNote}
use Rattle.pcap_reader.specs.Records.{AreRecords}

-- the packet records of all captures as one
pub record AreHeld (items : List Record) : Type 0 where
  pub few : length items < 2 ^ 41
  pub stamps : All (λ (r : Record). IsStamp r.stamp) items

-- the packet records of captures with these contents
abbrev pub HaveStamps : List (List ℕ) → Type 0
HaveStamps texts = (files : List (List Record)) (notes : List FileNote) → AreRecords texts files notes → AreHeld (joined files)
