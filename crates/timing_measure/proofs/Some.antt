-- The packet records of captures have an answer of `measure`.
use Rattle.std.proofs.Common.{◌≡◌, ◌<◌, ◌+◌, ◌^◌, ◌∷◌, ℕ, zero, suc, List, [], length, map, Option, Some, None, refl, ◌∙◌, arith}
use Rattle.std.proofs.Common.{slice_index}
use Rattle.std.specs.Prelude.{All, slice_index_or}
use Rattle.std.specs.List.{cons_option}
use Rattle.std.proofs.lemmas.List.{length-map}
use Rattle.std.proofs.lemmas.List.Elements.{All-append, All-cons, All-drop, All-get_or, All-head, All-nil, All-tail, All-take}
use Rattle.timing_base.specs.Shifts.{AreFlowOptions, FlowOptions, IsShift, Shift}
use Rattle.timing_base.specs.Captures.{IsStamp, Record, joined}
use Rattle.timing_base.specs.Choices.{chosen, first_chosen}
use Rattle.timing_base.specs.Flows.{AreStamped, cuts, no_packet, packet, read_or_zeros}
use Rattle.timing_base.specs.Jobs.{CaptureJob, IsCaptureJob}
use Rattle.timing_base.specs.Judged.{FlowVerdict, RunOutcome, absent, gap, in_one_run, in_runs, judged, no_whole_frame, refused, run_outcome, stamp_of}
use Rattle.timing_base.specs.Judged.{whole_frames}
use Rattle.timing_base.specs.Media.{IsMedia, Media}
use Rattle.timing_base.specs.Numbered.{numbered}
use Rattle.timing_base.specs.declared.capture.FileNote.{FileNote}
use Rattle.timing_base.specs.declared.packet.FlowPacket.{FlowPacket}
use Rattle.timing_base.proofs.Numberings.{length-numbered, stamped-numbered}
use Rattle.fail_interval.specs.Row.{verdict_of}
use Rattle.flow_measure.specs.declared.numbers.MeasuredFlow.{MeasuredFlow}
use Rattle.flow_measure.specs.declared.numbers.MeasuredRun.{MeasuredRun}
use Rattle.flow_measure.proofs.Some.{some-measure as some-numbers}
use Rattle.pcap_reader.specs.Records.{AreRecords}
use Rattle.timing_steps.specs.Answers.{Answer}
use Rattle.timing_steps.specs.Queries.{HasAnswer}
use Rattle.timing_steps.proofs.Onces.{DefinesSome}
use Rattle.udp_rtp.specs.Flow.{flow, flow_packet}
use Rattle.timing_measure.specs.Each.{EachOf}
use Rattle.run_meter.specs.Runs.{JudgedPart, stamps_of}
use Rattle.fail_interval.specs.Parts.{judged_packets, judged_parts, part_between, part_by, parts_between, parts_in}
use Rattle.flow_measure.specs.Measured.{AreMeasured, HasNumbers, IsMeasuredRun, named_by}
use Rattle.flow_measure.specs.Packets.{records_of, timestamps_of}
use Rattle.timing_measure.specs.Measured.{IsMeasuredFlow, first_source}
use Rattle.timing_measure.specs.Measures.{DefinesMeasure, measure_query, measured}
use Rattle.timing_measure.proofs.Chosen.{chosen-all}
use Rattle.timing_measure.proofs.Held.{AreHeld, HaveStamps}
use Rattle.timing_measure.proofs.Packets.{flow-few, packet-at}
use Rattle.timing_measure.proofs.Whole.{IsWhole, parts-whole}

-- the packets of a judged run have stamps of a capture
abbrev HasStamps : JudgedPart → Type 0
HasStamps part = AreStamped part.packets

held-part : (m : Media) (packets : List FlowPacket) (number from to : ℕ) (o : RunOutcome) → AreStamped packets
    → All HasStamps (part_by m number (packet packets from) (judged_packets packets from to) o)
held-part m packets number from to (no_whole_frame head) h = All-nil HasStamps
held-part m packets number from to (whole_frames run) h =
    All-cons HasStamps _ [] (All-take (λ (p : FlowPacket). IsStamp p.at) _ _ (All-drop (λ (p : FlowPacket). IsStamp p.at) _ packets h)) (All-nil HasStamps)

held-between : (m : Media) (packets : List FlowPacket) (shift : Shift) (to number from : ℕ) (places : List ℕ) → AreStamped packets
    → All HasStamps (parts_between m packets shift to number from places)
held-between m packets shift to number from [] h = held-part m packets number from to (run_outcome packets shift from to) h
held-between m packets shift to number from (cut ∷ rest) h =
    All-append HasStamps (part_between m packets shift number from cut) (parts_between m packets shift to (number + 1) cut rest)
    (held-part m packets number from cut (run_outcome packets shift from cut) h) (held-between m packets shift to (number + 1) cut rest h)

held-in : (m : Media) (packets : List FlowPacket) (shift : Shift) (v : FlowVerdict) → AreStamped packets → All HasStamps (parts_in m packets shift v)
held-in m packets shift absent h = All-nil HasStamps
held-in m packets shift (refused rec fault) h = All-nil HasStamps
held-in m packets shift (gap rec expected got) h = All-nil HasStamps
held-in m packets shift (in_one_run o) h = held-part m packets 1 0 (length packets) o h
held-in m packets shift (in_runs runs) h = held-between m packets shift (length packets) 1 0 (cuts packets (length packets)) h

-- the stamp of a packet of a list
stamp-at : (shift : Shift) (packets : List FlowPacket) (i : ℕ) → i < length packets
    → slice_index (stamps_of shift packets) i ≡ stamp_of shift (slice_index_or packets i no_packet)
stamp-at shift [] i few = absurd (omega (arith, few))
stamp-at shift (p ∷ packets) zero few = refl
stamp-at shift (p ∷ packets) (suc i) few = stamp-at shift packets i (omega arith)

-- the packets of a flow have the stamps of their records
stamped-option : (o : Option FlowPacket) (packets : List FlowPacket) → ((p : FlowPacket) → o ≡ Some p → IsStamp p.at) → AreStamped packets
    → AreStamped (cons_option o packets)
stamped-option None packets one h = h
stamped-option (Some p) packets one h = All-cons (λ (p : FlowPacket). IsStamp p.at) p packets (one p refl) h

pub flow-stamped : (m : Media) (items : List Record) → All (λ (r : Record). IsStamp r.stamp) items → AreStamped (flow items m)
flow-stamped m [] h = All-nil (λ (p : FlowPacket). IsStamp p.at)
flow-stamped m (r ∷ items) h =
    stamped-option (flow_packet m r) (flow items m)
    (λ p e. omega (arith, packet-at m r p e, All-head (λ (r : Record). IsStamp r.stamp) r items h))
    (flow-stamped m items (All-tail (λ (r : Record). IsStamp r.stamp) r items h))

-- a judged run has its numbers
some-run : (m : Media) (shift : Shift) (part : JudgedPart) → IsMedia m → IsShift shift → IsWhole shift part → HasStamps part
    → (x : MeasuredRun) × IsMeasuredRun (HasNumbers m shift) part x
some-run m shift part is limits whole held =
    let stamps = stamps_of shift part.packets in
    let long : length stamps ≡ length part.packets = length-map part.packets (stamp_of shift) in
    let low : (i : ℕ) → i < length stamps → slice_index stamps i < 2 ^ 63 =
    λ i within.
    let one : slice_index stamps i ≡ stamp_of shift (slice_index_or part.packets i no_packet) = stamp-at shift part.packets i (omega (arith, within, long)) in
    omega (arith, one, All-get_or (λ (p : FlowPacket). IsStamp p.at) part.packets i no_packet (omega (arith, within, long)) held, limits.tai_most) in
    let numbers =
    some-numbers m part.values.n part.values.frames stamps (records_of part.packets) (timestamps_of part.packets) (map named_by part.values.kinds) is whole.some
    whole.some_groups (long ∙ whole.whole) (omega (arith, long, whole.bounded)) low in (
      record {
        run = part.number;
        «record» = part.first.rec;
        number = (read_or_zeros part.first.rtp).number;
        judged = part.values;
        numbers = numbers.0;
      },
      record { run_is = refl; record_is = refl; number = refl; judged_is = refl; numbers = numbers.1 },
    )

some-runs : (m : Media) (shift : Shift) (parts : List JudgedPart) → IsMedia m → IsShift shift → All (IsWhole shift) parts → All HasStamps parts
    → (xs : List MeasuredRun) × AreMeasured (HasNumbers m shift) parts xs
some-runs m shift [] is limits whole held = ([], tt)
some-runs m shift (part ∷ parts) is limits whole held =
    let x = some-run m shift part is limits (All-head (IsWhole shift) part parts whole) (All-head HasStamps part parts held) in
    let xs = some-runs m shift parts is limits (All-tail (IsWhole shift) part parts whole) (All-tail HasStamps part parts held) in
    (x.0 ∷ xs.0, (x.1, xs.1))

-- so has a flow
some-flow : (m : Media) (number : ℕ) (options : FlowOptions) (packets : List FlowPacket) → IsMedia m → AreFlowOptions options → length packets < 2 ^ 41
    → AreStamped packets
    → (f : MeasuredFlow) × IsMeasuredFlow m number options packets f
some-flow m number options packets is limits few stamped =
    let shift = options.shift in
    let counted = numbered options.seq16 packets in
    let held = stamped-numbered options.seq16 packets stamped in
    let runs =
    some-runs m shift (judged_parts m counted shift) is limits
    (parts-whole m counted shift (omega (arith, few, length-numbered options.seq16 packets)) limits held)
    (held-in m counted shift (judged packets m.pt options) held) in (
      record {
        media = number;
        packets = length packets;
        ssrc = first_source packets;
        verdict = verdict_of m (judged packets m.pt options);
        runs = runs.0;
      },
      record { media = refl; count = refl; source = refl; verdict_is = refl; runs = runs.1 },
    )

some-flows : (options : FlowOptions) (items : List Record) (number : ℕ) (media : List Media) → All IsMedia media → AreFlowOptions options
    → length items < 2 ^ 41
    → All (λ (r : Record). IsStamp r.stamp) items
    → (flows : List MeasuredFlow) × EachOf (λ n m f. IsMeasuredFlow m n options (flow items m) f) number media flows
some-flows options items number [] is limits few held = ([], tt)
some-flows options items number (m ∷ media) is limits few held =
    let f =
    some-flow m number options (flow items m) (All-head IsMedia m media is) limits (omega (arith, few, flow-few m items)) (flow-stamped m items held) in
    let fs = some-flows options items (number + 1) media (All-tail IsMedia m media is) limits few held in
    (f.0 ∷ fs.0, (f.1, fs.1))

-- the answer over packet records of captures
pub measure-defined : (job : CaptureJob) (media : List Media) (items : List Record) (notes : List FileNote) → IsCaptureJob job → All IsMedia media
    → AreHeld items
    → (answer : Answer) × DefinesMeasure job media items notes answer
measure-defined job media items notes is all held =
    let flows =
    some-flows job.options items (first_chosen job.media) (chosen job.media media) (chosen-all IsMedia job.media media all) is.options_are held.few
    held.stamps in
    (measured job.captures notes media flows.0, record { flows = flows.0; are = flows.1; answer_is = refl })

pub some-measure : (job : CaptureJob) (texts : List (List ℕ)) → IsCaptureJob job → HaveStamps texts → DefinesSome (measure_query job) texts
some-measure job texts is held media files notes are unsettled records =
    measure-defined job media (joined files) notes is are (held files notes records)

-- over captures with these contents
pub some-measure-answer : (job : CaptureJob) (media : List Media) (texts : List (List ℕ)) (files : List (List Record)) (notes : List FileNote)
    → IsCaptureJob job → All IsMedia media → AreRecords texts files notes → length (joined files) < 2 ^ 41
    → All (λ (r : Record). IsStamp r.stamp) (joined files)
    → (answer : Answer) × HasAnswer (measure_query job) media texts answer
some-measure-answer job media texts files notes is all records few stamps =
    let made = measure-defined job media (joined files) notes is all (record { few = few; stamps = stamps }) in
    (made.0, record { files = files; notes = notes; records = records; defined = made.1 })
