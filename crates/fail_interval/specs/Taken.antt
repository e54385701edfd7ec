-- Clauses of the crate's private functions: the packet that a judge expects, and the results of the judges of all
-- media.
use Rattle.std.specs.Prelude.{◌≡◌, ℕ, List, ◌++◌, Some}
use Rattle.timing_base.specs.Shifts.{FlowOptions}
use Rattle.frame_group.specs.Expected.{expected_by_options}
use Rattle.timing_base.specs.Captures.{Record}
use Rattle.timing_base.specs.Media.{Media}
use Rattle.timing_base.specs.declared.key.FlowKey.{FlowKey}
use Rattle.timing_base.specs.declared.packet.FlowPacket.{FlowPacket}
use Rattle.timing_base.specs.declared.packet.Rtp.{Rtp}
use Rattle.timing_base.specs.declared.row.Row.{Row}
use Rattle.flow_demux.specs.declared.media_flow.MediaFlow.{MediaFlow}
use Rattle.fail_interval.specs.BankStands.{AreJudgesOf, Judging}
use Rattle.fail_interval.specs.Rows.{rows_from, rows_of}
use Rattle.fail_interval.specs.Stands.{StandsFor}
use Rattle.fail_interval.specs.declared.judge.FlowJudge.{FlowJudge}

-- this packet is the expected one after the packets that the judge was fed
abbrev pub IsExpected : {M : Type 0} → FlowJudge M → Rtp → Type 0
IsExpected judge p = (m : Media) (key : FlowKey) (options : FlowOptions) (packets : List FlowPacket)
    → StandsFor m key options judge packets → Some p ≡ expected_by_options options packets m.pt

-- `rows`, with the results of the judges that are left, are the results before and then those of all media
pub record HasRows (options : FlowOptions) (file : ℕ) (media : List Media) (items : List Record)
    (before rows : List Row) (left : List (MediaFlow Judging)) : Type 0 where
  pub number : ℕ
  pub rest : List Media
  pub stands : AreJudgesOf options file number rest left items
  pub whole : rows ++ rows_from options file number rest items ≡ before ++ rows_of options file media items
