-- The reading of a flow that is kept while it is judged.
use Rattle.std.specs.Prelude.{◌≡◌, ◌≤◌, ◌+◌, ◌^◌, ℕ, Bool, if◌then◌else◌, List, [], ◌∷◌, ◌++◌, All, Option, None}
use Rattle.std.specs.Prelude.{is_some}
use Rattle.std.specs.List.{cons_option}
use Rattle.std.proofs.Common.{arith, sym, subst, append-nil, append_assoc, ap, ◌∙◌}
use Rattle.std.proofs.lemmas.List.Elements.{filter-append, filter_map-append}
use Rattle.timing_base.specs.Shifts.{FlowOptions}
use Rattle.timing_base.specs.Captures.{Record, joined}
use Rattle.timing_base.specs.Grouped.{IsGroupedVerdict}
use Rattle.timing_base.specs.Jobs.{ShapeJob}
use Rattle.timing_base.specs.Judged.{judged}
use Rattle.timing_base.specs.Media.{Media}
use Rattle.timing_base.specs.declared.capture.FileNote.{FileNote}
use Rattle.timing_base.specs.declared.key.FlowKey.{FlowKey}
use Rattle.timing_base.specs.declared.packet.FlowPacket.{FlowPacket}
use Rattle.fail_interval.specs.Row.{verdict_of}
use Rattle.fail_interval.specs.Stands.{StandsFor, count_fed}
use Rattle.pcap_reader.specs.Records.{AreRecords}
use Rattle.udp_rtp.specs.Flow.{flow, flow_packet}
use Rattle.timing_reach.specs.ShapedAgain.{CanBeHeld}
use Rattle.timing_steps.specs.Answers.{Answer}
use Rattle.timing_reach.specs.Asked.{OnRun}
use Rattle.timing_reach.specs.Shapes.{HasShape, flow_records}
use Rattle.timing_reach.specs.shape.Keeping.{AreKept}
use Rattle.timing_reach.specs.declared.shape.kept.Kept.{Kept}
use Rattle.timing_reach.specs.declared.shape.reading.KeptFlow.{KeptFlow}
use Rattle.timing_reach.specs.declared.shape.reading.Reading.{Reading}

-- the flow of this media in these packet records is kept, for a list or for a capture
pub record IsKept (m : Media) (list : Bool) (packets : Kept) (items : List Record) : Type 0 where
  pub kept : AreKept list packets (flow_records m items)
  pub held : All CanBeHeld (flow_records m items)

-- the flow of this media in these packet records was passed to the judge, and is kept
pub record IsReading (m : Media) (key : FlowKey) (options : FlowOptions) (list : Bool) (r : Reading)
    (items : List Record) : Type 0 where
  pub judge : StandsFor m key options r.judge.judge (flow items m)
  pub packets : IsKept m list r.packets items

-- the number of packets that were passed
abbrev pub count_read : Reading → ℕ
count_read r = count_fed r.judge.judge

-- `count` more packets can be passed
abbrev pub HasRoom : (count : ℕ) → Reading → Type 0
HasRoom count r = count_read r + count ≤ 2 ^ 41

-- if many more packets can be passed, so can fewer
pub room_less : (few many : ℕ) (r : Reading) → few ≤ many → HasRoom many r → HasRoom few r
room_less few many r less room = omega (arith, less, room)

-- these packet records were read after those before, and nothing else
abbrev pub ReadsOn : Media → (old new : Reading) → List Record → Type 0
ReadsOn m old new more =
    (key : FlowKey) (options : FlowOptions) (list : Bool) (items : List Record) → IsReading m key options list old items
    → IsReading m key options list new (items ++ more)

-- the packets of the flow, after one more packet record
pub flow-on : (m : Media) (items : List Record) (r : Record) (o : Option FlowPacket) → flow_packet m r ≡ o
    → flow (items ++ r ∷ []) m ≡ flow items m ++ cons_option o []
flow-on m items r o is =
    filter_map-append (flow_packet m) items (r ∷ [])
    ∙ ap (λ (x : Option FlowPacket). flow items m ++ cons_option x []) is

-- the packet records of the flow, after one more packet record
pub records-on : (m : Media) (items : List Record) (r : Record) (o : Option FlowPacket) → flow_packet m r ≡ o
    → flow_records m (items ++ r ∷ []) ≡ flow_records m items ++ (if is_some o then r ∷ [] else [])
records-on m items r o is =
    filter-append (λ (x : Record). is_some (flow_packet m x)) items (r ∷ [])
    ∙ ap (λ (x : Option FlowPacket). flow_records m items ++ (if is_some x then r ∷ [] else [])) is

-- reading no record changes nothing
pub reads_none : (m : Media) (x : Reading) → ReadsOn m x x []
reads_none m x key options list items h = subst (IsReading m key options list x) (sym (append-nil items)) h

-- a record that is no packet of the flow changes nothing
pub reads_other : (m : Media) (x : Reading) (r : Record) → flow_packet m r ≡ None → ReadsOn m x x (r ∷ [])
reads_other m x r is key options list items h =
    let packets = flow-on m items r None is ∙ append-nil (flow items m) in
    let records = records-on m items r None is ∙ append-nil (flow_records m items) in
    record {
      judge = subst (StandsFor m key options x.judge.judge) (sym packets) h.judge;
      packets = record {
        kept = subst (AreKept list x.packets) (sym records) h.packets.kept;
        held = subst (All CanBeHeld) (sym records) h.packets.held;
      };
    }

-- reading some records and then others is reading both
pub reads_more : (m : Media) (x y z : Reading) (a b : List Record) → ReadsOn m x y a → ReadsOn m y z b
    → ReadsOn m x z (a ++ b)
reads_more m x y z a b first second key options list items h =
    subst (IsReading m key options list z) (append_assoc items a b)
    (second key options list (items ++ a) (first key options list items h))

-- the result of reading the flow of this media in these packet records; its judged runs are in order
pub record IsKeptFlow (m : Media) (options : FlowOptions) (list : Bool) (items : List Record) (f : KeptFlow) : Type 0
  where
    pub verdict_is : f.verdict ≡ verdict_of m (judged (flow items m) m.pt options)
    pub packets : IsKept m list f.packets items
    pub grouped : IsGroupedVerdict (judged (flow items m) m.pt options)

-- the result of reading the flow of a media in captures with these contents, taken as one
pub record IsKeptIn (m : Media) (options : FlowOptions) (list : Bool) (texts : List (List ℕ)) (f : KeptFlow) : Type 0
  where
    pub files : List (List Record)
    pub notes : List FileNote
    pub records : AreRecords texts files notes
    pub flow_is : IsKeptFlow m options list (joined files) f

-- the result of reading some packet records
pub record IsRead (m : Media) (options : FlowOptions) (list : Bool) (f : KeptFlow) : Type 0 where
  pub items : List Record
  pub flow_is : IsKeptFlow m options list items f

-- the answer of `shape` is that for the flow of this media in some packet records
pub record AnswersSome (job : ShapeJob) (m : Media) (answer : Answer) : Type 0 where
  pub items : List Record
  pub on_run : OnRun m (HasShape job.list job.flow.options.shift job.kind m items)
      (judged (flow items m) m.pt job.flow.options) answer
