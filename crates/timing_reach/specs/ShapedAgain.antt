-- A capture that `shape` wrote, read again with the same options. Capture timestamps are nanoseconds. This project's
-- profile.
use Rattle.std.specs.Prelude.{◌≡◌, ◌≤◌, ◌^◌, ℕ, List, length}
use Rattle.timing_base.specs.Shifts.{FlowOptions}
use Rattle.timing_base.specs.Captures.{IsStamp, Record}
use Rattle.timing_base.specs.Judged.{JudgedRun, in_one_run, judged, whole_frames}
use Rattle.timing_base.specs.Media.{Media}
use Rattle.timing_base.specs.declared.capture.FileNote.TheVariants.{End}
use Rattle.pcap_reader.specs.Records.{Records}
use Rattle.udp_rtp.specs.Flow.{flow}

-- a packet record that a capture can have (pcap-savefile(5)): its timestamp fits, and it has at most 262,144 bytes
pub record CanBeHeld (r : Record) : Type 0 where
  pub stamp : IsStamp r.stamp
  pub short : length r.bytes ≤ 262144

-- the same run with other capture timestamps of the judged packets
abbrev pub came_at : JudgedRun → (stamps : List ℕ) → JudgedRun
came_at run stamps = record run { stamps = stamps }

-- a capture with these contents is whole, and with these options the flow of this media in it is judged in this one run
pub record IsJudgedAs (options : FlowOptions) (m : Media) (text : List ℕ) (run : JudgedRun) : Type 0 where
  pub items : List Record
  pub records : Records text (2 ^ 40) items End
  pub verdict_is : judged (flow items m) m.pt options ≡ in_one_run (whole_frames run)
