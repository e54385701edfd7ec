-- Packet records that are completely in the buffer, taken one after the other. Sizes are bytes, with the headers.
use Rattle.std.specs.Prelude.{◌≤◌, ℕ, ◌+◌, ◌*◌, ◌++◌, List, length, drop, map, Result, IfErr, IfOk, MatchResult}
use Rattle.timing_base.specs.Captures.{Record, raised}
use Rattle.timing_base.specs.declared.capture.FileNote.{FileNote}
use Rattle.pcap_reader.specs.declared.layout.Layout.{Layout}
use Rattle.pcap_reader.specs.declared.run.Run.{Run}
use Rattle.pcap_reader.specs.Records.{RecordsFrom}
use Rattle.pcap_reader.specs.Taken.{HasBegun, HasStopped, TakesFew}

-- what follows a run of packet records at the start of a rest from `place`; the first record has this number
abbrev pub BehindRun : Layout → (most number place : ℕ) → (rest : List ℕ) → Run → List Record → FileNote → Type 0
BehindRun layout most number place rest run items note =
    RecordsFrom layout most (number + run.records) (place + run.size) (drop run.size rest) items note

-- the result of taking the packet records at the start of these bytes; the first has this number, and `before` is
-- added to each
pub record TakesRun {T E : Type 0} (takes : T → T → List Record → Type 0) (stops : T → T → E → List Record → Type 0)
    (has_room : ℕ → ℕ → T → Type 0) (layout : Layout) (bytes : List ℕ) (before number : ℕ) (old new : T)
    (result : Result Run E) : Type 0 where
  -- if the capture goes on after these bytes, and they are within its greatest length
  pub told : (most place : ℕ) (behind : List ℕ) (items : List Record) (end : FileNote)
      → place + length bytes ≤ most → RecordsFrom layout most number place (bytes ++ behind) items end
      → MatchResult result
      (λ run. HasBegun (BehindRun layout most number place (bytes ++ behind) run) takes before old new run.records
      items end)
      (λ stop. stops old new stop (map (raised before) items))
  pub fed : IfOk result (λ run. TakesFew takes run.records old new)
  pub stopped : IfErr result (λ stop. HasStopped stops old new stop)
  pub within : IfOk result (λ run. run.size ≤ length bytes)
  pub few : IfOk result (λ run. 16 * run.records ≤ run.size)
  pub room : (count : ℕ) → IfOk result (λ run. has_room (before + number) (run.records + count) old
      → has_room (before + number + run.records) count new)
