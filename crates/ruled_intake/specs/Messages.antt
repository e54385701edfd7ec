-- The messages of a lane, and their limits. Files count from 0.
use Rattle.std.specs.Prelude.{◌≤◌, ◌<◌, ◌^◌, ℕ, List, length, sum_by}
use Rattle.timing_base.specs.declared.capture.FileNote.{FileNote}
use Rattle.ruled_intake.specs.Packets.{Packet}

-- packets of one file, in the order of its packet records
pub record Batch : Type 0 where
  pub file : ℕ
  pub packets : List Packet

-- a batch has 1 to 256 packets
pub record IsBatch (batch : Batch) : Type 0 where
  pub some : 1 ≤ length batch.packets
  pub few : length batch.packets ≤ 256

-- the end of one file: how its packet records end, and their number
pub record FileEnd : Type 0 where
  pub file : ℕ
  pub note : FileNote
  pub records : ℕ

-- a file has fewer than 2^37 packet records
pub record IsFileEnd (end : FileEnd) : Type 0 where
  pub few : end.records < 2 ^ 37
