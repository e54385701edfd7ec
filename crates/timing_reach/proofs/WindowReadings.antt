-- What the reading of a flow finds that is measured while it is judged.
use Rattle.std.specs.Prelude.{IsSome, Option, Some, None}
use Rattle.std.proofs.Common.{◌≡◌, ◌≤◌, ◌+◌, ℕ, List, [], ◌∷◌, refl, arith, ap, ◌∙◌, subst}
use Rattle.timing_base.specs.Numbered.{numbered}
use Rattle.timing_base.specs.Shifts.{FlowOptions}
use Rattle.timing_base.specs.Captures.{Record, joined}
use Rattle.timing_base.specs.Judged.{JudgedRun, in_one_run, judged, whole_frames}
use Rattle.timing_base.specs.Media.{Media}
use Rattle.timing_base.specs.Verdicts.{Judged}
use Rattle.timing_base.specs.declared.key.FlowKey.{FlowKey}
use Rattle.timing_base.specs.declared.packet.FlowPacket.{FlowPacket}
use Rattle.timing_base.specs.declared.row.Verdict.{Verdict}
use Rattle.timing_base.specs.declared.row.Verdict.TheVariants as verdict
use Rattle.fail_interval.specs.Meterings.{HasRoom as JudgeHasRoom}
use Rattle.pcap_reader.specs.Taken.{TakesFew}
use Rattle.udp_rtp.specs.Flow.{flow, flow_packet}
use Rattle.timing_steps.specs.Answers.{Answer}
use Rattle.timing_steps.specs.Flows.{not_judged}
use Rattle.timing_reach.specs.Asked.{OnRun}
use Rattle.timing_reach.specs.Windows.{HasLines}
use Rattle.timing_reach.specs.judged.Flows.{TakesIn}
use Rattle.timing_reach.specs.window.Gauging.{AreWindowsIn, IsGauged, Passes, count_gauged}
use Rattle.timing_reach.specs.window.Readings.{HasRoom, HasWindows, IsMeasured, IsMeasuredIn, IsReading, ReadsOn}
use Rattle.timing_reach.specs.declared.window.reading.Measured.{Measured}
use Rattle.timing_reach.specs.declared.window.reading.Reading.{Reading}
use Rattle.timing_reach.specs.declared.window.windows.Windows.{Windows}
use Rattle.timing_reach.proofs.Gauges.{one-packet}
use Rattle.timing_reach.proofs.Judgings.{JudgeTakes, judge-took, judged-of, run-of}
use Rattle.timing_reach.proofs.Judgments.{not-run}
use Rattle.timing_reach.proofs.RunSizes.{HasSize, RunHasSize, judged-size}

-- a packet of the flow was passed to the judge and to the gauge
pub reads-packet : (old new : Reading) (p : FlowPacket) (frame : List ℕ)
    → ((m : Media) (r : Record) → flow_packet m r ≡ Some p → r.bytes ≡ frame → JudgeTakes m old.judge new.judge (r ∷ [])) → Passes p old.gauge new.gauge
    → (m : Media) (r : Record) → flow_packet m r ≡ Some p → r.bytes ≡ frame
    → ReadsOn m old new (r ∷ [])
reads-packet old new p frame takes passes = λ m r is carried key options packets h. record {
  judge = judge-took m key options old.judge new.judge (r ∷ []) packets (takes m r is carried) h.judge;
  gauge = one-packet (IsGauged m options.shift new.gauge) packets (Some p) (flow_packet m r) is (passes m options.shift packets h.gauge);
}

-- room after a packet was passed to the judge and to the gauge
pub room-on : (count : ℕ) (old new : Reading) → (JudgeHasRoom (count + 1) old.judge → JudgeHasRoom count new.judge)
    → count_gauged new.gauge ≤ count_gauged old.gauge + 1 → HasRoom (count + 1) old
    → HasRoom count new
room-on count old new leaves kept room = record { judge = leaves room.judge; gauge = omega (arith, kept, room.gauge) }

-- the windows of a flow that is judged in one run
windows-of : (m : Media) (options : FlowOptions) (packets : List FlowPacket) (x : Measured) (j : Judged) → IsMeasured m options packets x
    → x.verdict ≡ verdict.Judged j
    → (run : JudgedRun) × (judged packets m.pt options ≡ in_one_run (whole_frames run)) × AreWindowsIn m (whole_frames run) x.windows
windows-of m options packets x j h is =
    let run = judged-of m j (judged packets m.pt options) x.verdict h.verdict_is is in
    (run.0, run.1, subst (λ o. AreWindowsIn m o x.windows) (run-of (numbered options.seq16 packets) m.pt options.shift run.0 run.1) h.windows_are)

some-windows : (m : Media) (run : JudgedRun) (w : Option Windows) → HasSize run → AreWindowsIn m (whole_frames run) w → IsSome w
some-windows m run (Some w) size are = refl
some-windows m run None size are = absurd (omega (arith, are, size.few))

-- few records were read, so there are some of this flow
pub has-windows : (m : Media) (key : FlowKey) (options : FlowOptions) (most : ℕ) (old new : Reading) (x : Measured) → IsReading m key options old []
    → TakesFew (ReadsOn m) most old new
    → ((packets : List FlowPacket) → IsReading m key options new packets → IsMeasured m options packets x) → HasWindows x
has-windows m key options most old new x start t finish = λ j is.
    let packets = flow t.items m in
    let found = windows-of m options packets x j (finish packets (t.taken key options [] start)) is in
    let size : HasSize found.0 = subst RunHasSize found.1 (judged-size packets m.pt options) in
    some-windows m found.0 x.windows size found.2

pub verdict-on : (m : Media) (options : FlowOptions) (packets : List FlowPacket) (x : Measured) (v : Verdict) (answer : Answer) → v ≡ x.verdict
    → ((j : Judged) → x.verdict ≡ verdict.Judged j → ⊥) → answer ≡ not_judged m v → IsMeasured m options packets x
    → OnRun m (HasLines m) (judged packets m.pt options) answer
verdict-on m options packets x v answer is other e h =
    not-run m (HasLines m) (judged packets m.pt options) answer (λ j s. other j (h.verdict_is ∙ s)) (e ∙ ap (not_judged m) (is ∙ h.verdict_is))

-- the records of captures were read
pub measured-in : (texts : List (List ℕ)) (m : Media) (key : FlowKey) (options : FlowOptions) (old new : Reading) (x : Measured)
    → IsReading m key options old [] → TakesIn (ReadsOn m) texts old new
    → ((packets : List FlowPacket) → IsReading m key options new packets → IsMeasured m options packets x)
    → IsMeasuredIn m options texts x
measured-in texts m key options old new x start t finish = record {
  files = t.files;
  notes = t.notes;
  records = t.records;
  measured_is = finish (flow (joined t.files) m) (t.fed key options [] start);
}
