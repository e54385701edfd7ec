-- The reading of a flow that is measured while it is judged. Packets count from 0.
use Rattle.std.specs.Prelude.{◌≡◌, ◌≤◌, ◌+◌, ◌^◌, ℕ, List, [], ◌∷◌, ◌++◌, IsSome, length, Option, None}
use Rattle.std.specs.List.{cons_option}
use Rattle.std.proofs.Common.{arith, sym, subst, append-nil, append_assoc, ap, ◌∙◌}
use Rattle.std.proofs.lemmas.List.Elements.{filter_map-append}
use Rattle.timing_base.specs.Shifts.{FlowOptions}
use Rattle.timing_base.specs.Captures.{Record, joined}
use Rattle.timing_base.specs.Judged.{RunOutcome, judged, run_outcome}
use Rattle.timing_base.specs.Media.{Media}
use Rattle.timing_base.specs.Numbered.{numbered}
use Rattle.timing_base.specs.Verdicts.{Judged}
use Rattle.timing_base.specs.declared.capture.FileNote.{FileNote}
use Rattle.timing_base.specs.declared.key.FlowKey.{FlowKey}
use Rattle.timing_base.specs.declared.packet.FlowPacket.{FlowPacket}
use Rattle.timing_base.specs.declared.row.Verdict.TheVariants as verdict
use Rattle.fail_interval.specs.Row.{verdict_of}
use Rattle.fail_interval.specs.Meterings.{HasRoom as JudgeHasRoom, room_less as judge_less}
use Rattle.fail_interval.specs.Stands.{StandsFor}
use Rattle.pcap_reader.specs.Records.{AreRecords}
use Rattle.udp_rtp.specs.Flow.{flow, flow_packet}
use Rattle.timing_reach.specs.window.Gauging.{AreWindowsIn, IsGauged, count_gauged}
use Rattle.timing_reach.specs.declared.window.reading.Measured.{Measured}
use Rattle.timing_reach.specs.declared.window.reading.Reading.{Reading}

-- the packets were passed to the judge of this media and to its gauge, and no others
pub record IsReading (m : Media) (key : FlowKey) (options : FlowOptions) (r : Reading) (packets : List FlowPacket)
    : Type 0 where
  pub judge : StandsFor m key options r.judge.judge packets
  pub gauge : IsGauged m options.shift r.gauge packets

-- `count` more packets can be passed
pub record HasRoom (count : ℕ) (r : Reading) : Type 0 where
  pub judge : JudgeHasRoom count r.judge
  pub gauge : count_gauged r.gauge + count ≤ 2 ^ 40

-- if many more packets can be passed, so can fewer
pub room_less : (few many : ℕ) (r : Reading) → few ≤ many → HasRoom many r → HasRoom few r
room_less few many r less room = record {
  judge = judge_less few many r.judge less room.judge;
  gauge = omega (arith, less, room.gauge);
}

-- the flow of this media in these records was passed after the packets before, and nothing else
abbrev pub ReadsOn : Media → (old new : Reading) → List Record → Type 0
ReadsOn m old new more =
    (key : FlowKey) (options : FlowOptions) (packets : List FlowPacket) → IsReading m key options old packets
    → IsReading m key options new (packets ++ flow more m)

-- reading no record changes nothing
pub reads_none : (m : Media) (x : Reading) → ReadsOn m x x []
reads_none m x key options packets h = subst (IsReading m key options x) (sym (append-nil packets)) h

-- a record that is no packet of the flow changes nothing
pub reads_other : (m : Media) (x : Reading) (r : Record) → flow_packet m r ≡ None → ReadsOn m x x (r ∷ [])
reads_other m x r is key options packets h =
    subst (λ (o : Option FlowPacket). IsReading m key options x (packets ++ cons_option o [])) (sym is)
    (reads_none m x key options packets h)

-- reading some records and then others is reading both
pub reads_more : (m : Media) (x y z : Reading) (a b : List Record) → ReadsOn m x y a → ReadsOn m y z b
    → ReadsOn m x z (a ++ b)
reads_more m x y z a b first second key options packets h =
    subst (IsReading m key options z) (append_assoc packets (flow a m) (flow b m)
    ∙ ap (λ l. packets ++ l) (sym (filter_map-append (flow_packet m) a b)))
    (second key options (packets ++ flow a m) (first key options packets h))

-- what is judged of the packets of a flow that has no gap
abbrev pub whole_outcome : FlowOptions → List FlowPacket → RunOutcome
whole_outcome options packets =
    let packets_judged = numbered options.seq16 packets in
    run_outcome packets_judged options.shift 0 (length packets_judged)

-- the result of reading a flow of these packets
pub record IsMeasured (m : Media) (options : FlowOptions) (packets : List FlowPacket) (x : Measured) : Type 0 where
  pub verdict_is : x.verdict ≡ verdict_of m (judged packets m.pt options)
  pub windows_are : AreWindowsIn m (whole_outcome options packets) x.windows

-- the result of reading the flow of a media in captures with these contents, taken as one
pub record IsMeasuredIn (m : Media) (options : FlowOptions) (texts : List (List ℕ)) (x : Measured) : Type 0 where
  pub files : List (List Record)
  pub notes : List FileNote
  pub records : AreRecords texts files notes
  pub measured_is : IsMeasured m options (flow (joined files) m) x

-- if the flow was judged in one run, there are windows
abbrev pub HasWindows : Measured → Type 0
HasWindows x = (j : Judged) → x.verdict ≡ verdict.Judged j → IsSome x.windows
