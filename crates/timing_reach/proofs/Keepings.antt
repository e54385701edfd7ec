-- What is kept of a flow while it is judged, and the run that is judged of it.
use Rattle.std.specs.Prelude.{if◌then◌else◌, is_some}
use Rattle.std.proofs.Common.{◌≡◌, ◌≤◌, ℕ, Bool, true, false, List, [], ◌∷◌, ◌++◌, length, map, take, drop, All, Option, Some, None}
use Rattle.std.proofs.Common.{refl, arith, ap, ap₂, ◌∙◌, sym, subst, append-nil, append_assoc}
use Rattle.std.specs.Global.{Global}
use Rattle.std.specs.List.{cons_option}
use Rattle.std.specs.declared.vec.Vec.{Vec}
use Rattle.std.proofs.lemmas.List.{drop-map, length-map, take-map}
use Rattle.std.proofs.lemmas.List.Elements.{All-push, filter_map-append}
use Rattle.std.proofs.lemmas.Nat.{mul-le}
use Rattle.timing_base.specs.Numbered.{numbered}
use Rattle.timing_base.specs.Shifts.{FlowOptions, Shift}
use Rattle.timing_base.specs.Captures.{IsStamp, Record, joined}
use Rattle.timing_base.specs.Grouped.{IsGrouped, IsGroupedVerdict}
use Rattle.timing_base.specs.Judged.{JudgedRun, in_one_run, judged, stamp_of, whole_frames}
use Rattle.timing_base.specs.Media.{Media}
use Rattle.timing_base.specs.Verdicts.{Judged}
use Rattle.timing_base.specs.declared.key.FlowKey.{FlowKey}
use Rattle.timing_base.specs.declared.packet.FlowPacket.{FlowPacket}
use Rattle.timing_base.specs.declared.row.Verdict.TheVariants as verdict
use Rattle.timing_base.proofs.Numberings.{length-numbered}
use Rattle.fail_interval.specs.Stands.{StandsFor}
use Rattle.pcap_reader.specs.Taken.{TakesFew}
use Rattle.pcap_reader.specs.WrittenHeads.{file_head, record_head}
use Rattle.udp_rtp.specs.Flow.{flow, flow_packet}
use Rattle.timing_reach.specs.judged.Flows.{TakesIn}
use Rattle.timing_reach.specs.ShapedAgain.{CanBeHeld}
use Rattle.timing_reach.specs.Shapes.{flow_records}
use Rattle.timing_reach.specs.shape.Keeping.{AreKept, Keeps, came_text, record_text, stamps_of}
use Rattle.timing_reach.specs.shape.Readings.{IsKeptFlow, IsKeptIn, IsRead, IsReading, ReadsOn, count_read, records-on}
use Rattle.timing_reach.specs.shape.Shaping.{CanShape, IsRunOf, in_tai, judged_stamps}
use Rattle.timing_reach.specs.declared.shape.kept.Kept.{Kept}
use Rattle.timing_reach.specs.declared.shape.kept.Kept.TheVariants.{Capture}
use Rattle.timing_reach.specs.declared.shape.reading.KeptFlow.{KeptFlow}
use Rattle.timing_reach.specs.declared.shape.reading.Reading.{Reading}
use Rattle.timing_reach.proofs.Judgings.{JudgeTakes, judge-took, judged-of, one-run, within-run}
use Rattle.timing_reach.proofs.Numbers.{instants-numbered}
use Rattle.timing_reach.proofs.Packets.{flow-few, packet-of}

-- the records of a capture, and one more
pub came-more : (rs : List Record) (r : Record) → came_text (rs ++ r ∷ []) ≡ came_text rs ++ record_text r
came-more [] r = ap (λ l. record_head r.stamp (length r.bytes) ++ l) (append-nil r.bytes)
came-more (x ∷ xs) r =
    let head = record_head x.stamp (length x.bytes) in
    ap (λ l. head ++ (x.bytes ++ l)) (came-more xs r)
    ∙ ap (λ l. head ++ l) (sym (append_assoc x.bytes (came_text xs) (record_text r)))
    ∙ sym (append_assoc head (x.bytes ++ came_text xs) (record_text r))

-- a record more is kept
pub keeps-record : (at : ℕ) (frame : List ℕ) (old : Kept) (was now : Vec ℕ Global) → old ≡ Capture was
    → now.items ≡ was.items ++ (record_head at (length frame) ++ frame) → Keeps at frame old (Capture now)
keeps-record at frame old was now e more = λ list records r came is h. by list records r came is (subst (λ k. AreKept list k records) e h)
  where
    by : (list : Bool) (records : List Record) (r : Record) → r.stamp ≡ at → r.bytes ≡ frame → AreKept list (Capture was) records
        → AreKept list (Capture now) (records ++ r ∷ [])
    by true records r came is h = absurd h
    by false records r came is h =
        more ∙ ap (λ l. l ++ (record_head at (length frame) ++ frame)) h
        ∙ ap (λ x. (file_head ++ came_text records) ++ (record_head x (length frame) ++ frame)) (sym came)
        ∙ ap (λ b. (file_head ++ came_text records) ++ (record_head r.stamp (length b) ++ b)) (sym is)
        ∙ append_assoc file_head (came_text records) (record_text r)
        ∙ ap (λ l. file_head ++ l) (sym (came-more records r))

-- a packet of the flow was passed to the judge, and is kept
pub reads-packet : (old new : Reading) (p : FlowPacket) (frame : List ℕ) → IsStamp p.at → length frame ≤ 262144
    → ((m : Media) (r : Record) → flow_packet m r ≡ Some p → r.bytes ≡ frame → JudgeTakes m old.judge new.judge (r ∷ []))
    → Keeps p.at frame old.packets new.packets
    → (m : Media) (r : Record) → flow_packet m r ≡ Some p → r.bytes ≡ frame
    → ReadsOn m old new (r ∷ [])
reads-packet old new p frame stamp short takes keeps = λ m r is carried key options list items h.
    let of = packet-of m r p is in
    let came : r.stamp ≡ p.at = sym of.at in
    let here : CanBeHeld r = record { stamp = omega (arith, came, stamp); short = subst (λ b. length b ≤ 262144) (sym carried) short } in
    let records = records-on m items r (Some p) is in
    record {
      judge = subst (StandsFor m key options new.judge.judge) (sym (filter_map-append (flow_packet m) items (r ∷ [])))
          (judge-took m key options old.judge new.judge (r ∷ []) (flow items m) (takes m r is carried) h.judge);
      packets = record {
        kept = subst (AreKept list new.packets) (sym records) (keeps list (flow_records m items) r came carried h.packets.kept);
        held = subst (All CanBeHeld) (sym records) (All-push CanBeHeld (flow_records m items) r h.packets.held here);
      };
    }

-- the records of captures were read
pub kept-in : (texts : List (List ℕ)) (m : Media) (key : FlowKey) (options : FlowOptions) (list : Bool) (old new : Reading) (f : KeptFlow)
    → IsReading m key options list old []
    → TakesIn (ReadsOn m) texts old new → ((items : List Record) → IsReading m key options list new items → IsKeptFlow m options list items f)
    → IsKeptIn m options list texts f
kept-in texts m key options list old new f start t finish =
    record { files = t.files; notes = t.notes; records = t.records; flow_is = finish (joined t.files) (t.fed key options list [] start) }

-- some records were read, and few
pub kept-some : (m : Media) (key : FlowKey) (options : FlowOptions) (most : ℕ) (list : Bool) (old new : Reading) (f : KeptFlow)
    → IsReading m key options list old []
    → TakesFew (ReadsOn m) most old new → ((items : List Record) → IsReading m key options list new items → IsKeptFlow m options list items f)
    → IsRead m options list f
kept-some m key options most list old new f start t finish = record { items = t.items; flow_is = finish t.items (t.taken key options list [] start) }

pub read-few : (m : Media) (key : FlowKey) (options : FlowOptions) (most : ℕ) (list : Bool) (old new : Reading) → IsReading m key options list old []
    → TakesFew (ReadsOn m) most old new
    → count_read new ≤ most
read-few m key options most list old new start t =
    let h = t.taken key options list [] start in omega (arith, h.judge.fed, flow-few m t.items, t.few)

-- each packet of a flow has the stamp of its record
flow-stamps : (m : Media) (items : List Record) → map (λ (p : FlowPacket). p.at) (flow items m) ≡ stamps_of (flow_records m items)
flow-stamps m [] = refl
flow-stamps m (r ∷ items) =
    let ps = flow items m in
    let rs = flow_records m items in
    by r (flow_packet m r) ps rs refl (flow-stamps m items)
  where
    at-each : (r : Record) (o : Option FlowPacket) (ps : List FlowPacket) (rs : List Record) → flow_packet m r ≡ o
        → map (λ (p : FlowPacket). p.at) ps ≡ stamps_of rs
        → map (λ (p : FlowPacket). p.at) (cons_option o ps) ≡ stamps_of (if is_some o then r ∷ rs else rs)
    at-each r None ps rs is h = h
    at-each r (Some p) ps rs is h = ap₂ (λ x xs. x ∷ xs) (packet-of m r p is).at h

    by : (r : Record) (o : Option FlowPacket) (ps : List FlowPacket) (rs : List Record) → flow_packet m r ≡ o
        → map (λ (p : FlowPacket). p.at) ps ≡ stamps_of rs
        → map (λ (p : FlowPacket). p.at) (cons_option (flow_packet m r) ps) ≡ stamps_of (if is_some (flow_packet m r) then r ∷ rs else rs)
    by r o ps rs is h =
        subst (λ x. map (λ (p : FlowPacket). p.at) (cons_option x ps) ≡ stamps_of (if is_some x then r ∷ rs else rs)) (sym is) (at-each r o ps rs is h)

in-shift : (shift : Shift) (packets : List FlowPacket) → map (stamp_of shift) packets ≡ in_tai shift (map (λ (p : FlowPacket). p.at) packets)
in-shift shift [] = refl
in-shift shift (p ∷ packets) = ap (λ l. stamp_of shift p ∷ l) (in-shift shift packets)

-- the judged packets, by their records
judged-records : (m : Media) (items : List Record) (options : FlowOptions) (head count : ℕ)
    → map (stamp_of options.shift) (take count (drop head (numbered options.seq16 (flow items m))))
    ≡ judged_stamps options.shift head count (flow_records m items)
judged-records m items options head count =
    let packets = numbered options.seq16 (flow items m) in
    let at = λ (p : FlowPacket). p.at in
    let stamp = λ (r : Record). r.stamp in
    in-shift options.shift (take count (drop head packets))
    ∙ ap (in_tai options.shift) (sym (take-map at count (drop head packets)) ∙ ap (take count) (sym (drop-map at head packets))
    ∙ ap (λ l. take count (drop head l)) (instants-numbered options.seq16 (flow items m) ∙ flow-stamps m items)
    ∙ ap (take count) (drop-map stamp head (flow_records m items)) ∙ take-map stamp count (drop head (flow_records m items)))

-- the run of a flow that is judged so
pub run-kept : (m : Media) (options : FlowOptions) (list : Bool) (items : List Record) (f : KeptFlow) (j : Judged) → f.verdict ≡ verdict.Judged j
    → IsKeptFlow m options list items f
    → (run : JudgedRun) × (judged (flow items m) m.pt options ≡ in_one_run (whole_frames run)) × IsRunOf options.shift j (flow_records m items) run
run-kept m options list items f j is h =
    let came = flow items m in
    let packets = numbered options.seq16 came in
    let found = judged-of m j (judged came m.pt options) f.verdict h.verdict_is is in
    let run = found.0 in
    let within = within-run packets options.shift run (one-run packets m.pt options.shift run found.1) in
    let grouped : IsGrouped run = subst IsGroupedVerdict found.1 h.grouped in
    let head : j.head ≡ run.head = ap (λ (x : Judged). x.head) (sym found.2) in
    let count : j.packets ≡ length run.stamps = ap (λ (x : Judged). x.packets) (sym found.2) in
    let each : length packets ≡ length (flow_records m items) =
    length-numbered options.seq16 came ∙ sym (length-map came (λ (p : FlowPacket). p.at)) ∙ ap length (flow-stamps m items)
    ∙ length-map (flow_records m items) (λ (r : Record). r.stamp) in
    let some : 1 ≤ length run.stamps =
    omega (arith, grouped.whole, mul-le 1 1 run.n run.groups grouped.some grouped.some_groups) in (
      run,
      found.1,
      record {
        group = ap (λ (x : Judged). x.n) (sym found.2);
        head = head;
        count = count;
        within = omega (arith, within.few, head, count, each, some);
        stamps = ap (λ k. judged_stamps options.shift k j.packets (flow_records m items)) head
            ∙ ap (λ k. judged_stamps options.shift run.head k (flow_records m items)) count
            ∙ sym (judged-records m items options run.head (length run.stamps)) ∙ within.stamps_are;
        grouped = grouped;
      },
    )

pub can-shape : (m : Media) (options : FlowOptions) (list : Bool) (f : KeptFlow) (j : Judged) → f.verdict ≡ verdict.Judged j → IsRead m options list f
    → CanShape m options.shift j f.packets
can-shape m options list f j is h =
    let run = run-kept m options list h.items f j is h.flow_is in
    record { list = list; items = h.items; run = run.0; run_is = run.2; kept = h.flow_is.packets }
