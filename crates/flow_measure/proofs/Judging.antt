-- The numbers of a run that is judged, packet by packet, and of one that is over.
use Rattle.std.proofs.Common.{◌≡◌, ◌*◌, ◌++◌, ◌∷◌, [], ℕ, Bool, List, length, map, Option, MatchOption, ◌∙◌, sym}
use Rattle.std.proofs.Common.{subst}
use Rattle.std.proofs.lemmas.List.{length-map, map-append}
use Rattle.timing_base.specs.Shifts.{Shift}
use Rattle.sender_params.specs.Ticks.{NeverFall}
use Rattle.timing_base.specs.Flows.{read_or_zeros}
use Rattle.timing_base.specs.Judged.{stamp_of}
use Rattle.timing_base.specs.Media.{Media}
use Rattle.timing_base.specs.Verdicts.{Judged}
use Rattle.timing_base.specs.declared.packet.FlowPacket.{FlowPacket}
use Rattle.timing_base.specs.declared.row.KindVerdict.{KindVerdict}
use Rattle.timing_base.specs.declared.row.KindVerdict.TheVariants.{Fail, Pass}
use Rattle.run_meter.specs.Levels.{IsLevel}
use Rattle.run_meter.specs.Runs.{IsJudgedOf, JudgedPart, NameFirst, NamesFirst, RunOf, part_of, stamps_of, told_of}
use Rattle.run_meter.specs.declared.level.Level.{Level}
use Rattle.run_meter.specs.declared.run.RunPacket.{RunPacket}
use Rattle.flow_measure.specs.First.{IsFirst}
use Rattle.flow_measure.specs.Measured.{AreMeasured, HasNumbers, IsMeasuredRun, named_by}
use Rattle.flow_measure.specs.Metered.{AreFirst, Measures}
use Rattle.flow_measure.specs.Packets.{records_of, timestamps_of}
use Rattle.flow_measure.specs.Run.{IsMeasured}
use Rattle.flow_measure.specs.declared.meters.RunMeters.{RunMeters}
use Rattle.flow_measure.specs.declared.numbers.MeasuredRun.{MeasuredRun}
use Rattle.flow_measure.specs.declared.numbers.RunNumbers.{RunNumbers}

-- what the packets have, and one more
pub stamps-more : (shift : Shift) (before : List FlowPacket) (p : FlowPacket)
    → stamps_of shift (before ++ p ∷ []) ≡ stamps_of shift before ++ stamp_of shift p ∷ []
stamps-more shift before p = map-append (stamp_of shift) before (p ∷ [])

pub records-more : (before : List FlowPacket) (p : FlowPacket) → records_of (before ++ p ∷ []) ≡ records_of before ++ p.rec ∷ []
records-more before p = map-append (λ (q : FlowPacket). q.rec) before (p ∷ [])

pub timestamps-more : (before : List FlowPacket) (p : FlowPacket)
    → timestamps_of (before ++ p ∷ []) ≡ timestamps_of before ++ (read_or_zeros p.rtp).timestamp ∷ []
timestamps-more before p = map-append (λ (q : FlowPacket). (read_or_zeros q.rtp).timestamp) before (p ∷ [])

pub stamps-long : (shift : Shift) (packets : List FlowPacket) → length (stamps_of shift packets) ≡ length packets
stamps-long shift packets = length-map packets (stamp_of shift)

-- what a call says of the meters of a run
abbrev pub TakesPacket : Media → (n : ℕ) → (old new : RunMeters) → RunPacket → Level → Type 0
TakesPacket m n old new packet level = (stamps records timestamps : List ℕ) → Measures m n old stamps records timestamps
    → NeverFall (stamps ++ packet.at ∷ []) → IsLevel m n (stamps ++ packet.at ∷ []) (length stamps) level
    → Measures m n new (stamps ++ packet.at ∷ []) (records ++ packet.rec ∷ []) (timestamps ++ packet.timestamp ∷ [])

-- so of the packets of a run
pub fed-packet : (m : Media) (n : ℕ) (shift : Shift) (old new : RunMeters) (packet : RunPacket) (level : Level) (before : List FlowPacket) (p : FlowPacket)
    → TakesPacket m n old new packet level
    → packet ≡ told_of shift p
    → NeverFall (stamps_of shift (before ++ p ∷ []))
    → IsLevel m n (stamps_of shift (before ++ p ∷ [])) (length before) level
    → Measures m n old (stamps_of shift before) (records_of before) (timestamps_of before)
    → Measures m n new (stamps_of shift (before ++ p ∷ [])) (records_of (before ++ p ∷ [])) (timestamps_of (before ++ p ∷ []))
fed-packet m n shift old new packet level before p takes told rising is h =
    let stamps = stamps_of shift before in
    let told_p = told_of shift p in
    let more = stamps-more shift before p in
    let takes_p = subst (λ (q : RunPacket). TakesPacket m n old new q level) told takes in
    let fed = takes_p stamps (records_of before) (timestamps_of before) h (subst NeverFall more rising)
    (subst (λ k. IsLevel m n (stamps ++ told_p.at ∷ []) k level) (sym (stamps-long shift before)) (subst (λ l. IsLevel m n l (length before) level) more is)) in
    subst (λ l. Measures m n new l (records_of (before ++ p ∷ [])) (timestamps_of (before ++ p ∷ []))) (sym more)
    (subst (λ l. Measures m n new (stamps ++ told_p.at ∷ []) l (timestamps_of (before ++ p ∷ []))) (sym (records-more before p))
    (subst (Measures m n new (stamps ++ told_p.at ∷ []) (records_of before ++ told_p.rec ∷ [])) (sym (timestamps-more before p)) fed))

-- the verdicts name the first packets that break a model
first-of : (broken : ℕ → Bool) (count : ℕ) (verdict : KindVerdict) → NamesFirst broken count verdict → IsFirst broken count (named_by verdict)
first-of broken count Pass h = h
first-of broken count (Fail proof) h = h

are-first : (m : Media) (n : ℕ) (stamps : List ℕ) (kinds : List KindVerdict) → NameFirst m n stamps kinds → AreFirst m n stamps (map named_by kinds)
are-first m n stamps (narrow ∷ narrow_linear ∷ wide ∷ []) h = record {
  narrow = first-of _ (length stamps) narrow h.0;
  narrow_linear = first-of _ (length stamps) narrow_linear h.1;
  wide = first-of _ (length stamps) wide h.2;
}
are-first m n stamps [] h = absurd h
are-first m n stamps (one ∷ []) h = absurd h
are-first m n stamps (one ∷ two ∷ []) h = absurd h
are-first m n stamps (one ∷ two ∷ three ∷ four ∷ rest) h = absurd h

-- what a call says of the numbers of whole groups
abbrev pub Finishes : Media → (n : ℕ) → RunMeters → Option RunNumbers → Type 0
Finishes m n x result = (groups : ℕ) (named : List (Option ℕ)) (stamps records timestamps : List ℕ) → Measures m n x stamps records timestamps
    → length stamps ≡ n * groups → AreFirst m n stamps named → MatchOption result (groups ≡ 0) (IsMeasured m n groups stamps records timestamps named)

-- so of the numbers of a run that is over
pub finished : (m : Media) (shift : Shift) (r : RunOf) (x : RunMeters) (packets : List FlowPacket) (values : Judged) (result : Option RunNumbers)
    → Finishes m r.n x result
    → IsJudgedOf m shift r packets values
    → Measures m r.n x (stamps_of shift packets) (records_of packets) (timestamps_of packets)
    → MatchOption result (values.frames ≡ 0) (HasNumbers m shift (part_of r values packets))
finished m shift r x packets values result finishes j h =
    let stamps = stamps_of shift packets in
    let named = map named_by values.kinds in
    let told = finishes values.frames named stamps (records_of packets) (timestamps_of packets) h (stamps-long shift packets ∙ j.whole)
    (are-first m r.n stamps values.kinds j.names) in
    subst (λ k. MatchOption result (values.frames ≡ 0) (IsMeasured m k values.frames stamps (records_of packets) (timestamps_of packets) named))
    (sym j.n_is) told

-- one run more
pub measured-more : (Numbers : JudgedPart → RunNumbers → Type 0) (parts : List JudgedPart) (runs : List MeasuredRun) (part : JudgedPart) (run : MeasuredRun)
    → AreMeasured Numbers parts runs
    → IsMeasuredRun Numbers part run
    → AreMeasured Numbers (parts ++ part ∷ []) (runs ++ run ∷ [])
measured-more Numbers [] [] part run h is = (is, tt)
measured-more Numbers [] (first ∷ runs) part run h is = absurd h
measured-more Numbers (first ∷ parts) [] part run h is = absurd h
measured-more Numbers (first ∷ parts) (one ∷ runs) part run h is = (h.0, measured-more Numbers parts runs part run h.1 is)
