-- The longest of the judged runs of a flow, with one run more; and the details of a run, with one packet more.
use Rattle.std.proofs.Common.{◌≡◌, ◌<◌, ◌≤◌, ◌*◌, ◌++◌, ◌∷◌, [], ℕ, zero, suc, nat_lt, List, length, Option, Some, None}
use Rattle.std.proofs.Common.{Bool, inl, inr, refl, ap, ◌∙◌, sym, subst, arith, append_assoc}
use Rattle.std.specs.Prelude.{All, if◌then◌else◌}
use Rattle.std.proofs.lemmas.Bool.{cases_Bool, ltb-false, ltb-true}
use Rattle.std.proofs.lemmas.List.{map-append}
use Rattle.std.proofs.lemmas.List.Elements.{All-append}
use Rattle.timing_base.specs.Judged.{stamp_of}
use Rattle.timing_base.specs.Media.{IsMedia, Media}
use Rattle.timing_base.specs.Shifts.{Shift}
use Rattle.timing_base.specs.Verdicts.{Judged}
use Rattle.timing_base.specs.declared.packet.FlowPacket.{FlowPacket}
use Rattle.run_meter.specs.Levels.{IsLevel}
use Rattle.run_meter.specs.Runs.{IsJudgedOf, JudgedPart, RunOf, part_of, stamps_of, told_of}
use Rattle.run_meter.specs.declared.level.Level.{Level}
use Rattle.run_meter.specs.declared.run.RunPacket.{RunPacket}
use Rattle.flow_findings.specs.Details.{AreDetails}
use Rattle.flow_findings.specs.declared.inputs.RunDetails.{RunDetails}
use Rattle.flow_measure.specs.Packets.{records_of}
use Rattle.flow_measure.proofs.Judging.{records-more, stamps-long, stamps-more}
use Rattle.flow_page.specs.drawing.Told.{IsLongest}
use Rattle.flow_page.proofs.lemmas.drawing.Longest.{level-next, stamps-parts}
use Rattle.timing_explain.specs.details.Longest.{longer}
use Rattle.timing_explain.specs.details.Packets.{Details}
use Rattle.timing_explain.specs.details.Told.{Finds, IsFoundRun}
use Rattle.timing_explain.specs.declared.details.longest.FoundRun.{FoundRun}
use Rattle.timing_explain.specs.declared.details.packets.PacketDetails.{PacketDetails}

-- ---- the longest run

-- what is so of each of no runs, and of one
all-none : (P : JudgedPart → Type 0) → All P []
all-none P = λ k d few. absurd (omega (arith, few))

all-one : (P : JudgedPart → Type 0) (part : JudgedPart) → P part → All P (part ∷ [])
all-one P part h zero d few = h
all-one P part h (suc k) d few = absurd (omega (arith, few))

-- a run of which fewer packets are judged than of another one, or no more
abbrev Fewer : (packets : ℕ) → JudgedPart → Type 0
Fewer packets other = length other.packets < packets

abbrev NoMore : (packets : ℕ) → JudgedPart → Type 0
NoMore packets other = length other.packets ≤ packets

-- the run is longer than all before it
longer-all : (parts : List JudgedPart) (part longest : JudgedPart) → IsLongest parts longest → length longest.packets < length part.packets
    → All (Fewer (length part.packets)) parts
longer-all parts part longest h more =
    let few : All (Fewer (length part.packets)) h.before = λ k d low. let is = h.fewer k d low in omega (arith, is, more) in
    let rest : All (Fewer (length part.packets)) h.after = λ k d low. let is = h.no_more k d low in omega (arith, is, more) in
    let one : All (Fewer (length part.packets)) (longest ∷ []) = all-one (Fewer (length part.packets)) longest more in
    subst (All (Fewer (length part.packets))) (sym h.whole)
    (All-append (Fewer (length part.packets)) h.before (longest ∷ h.after) few (All-append (Fewer (length part.packets)) (longest ∷ []) h.after one rest))

-- the run stands in the place of a shorter one
found-new : (m : Media) (shift : Shift) (parts : List JudgedPart) (part : JudgedPart) (o f : FoundRun) → o.packets < f.packets
    → Finds m shift parts (Some o)
    → IsFoundRun m shift part f
    → Finds m shift (parts ++ part ∷ []) (Some f)
found-new m shift parts part o f less h is = (
  part,
  record {
    before = parts;
    after = [];
    whole = refl;
    fewer = longer-all parts part h.0 h.1 (omega (arith, less, h.2.packets_are, is.packets_are));
    no_more = all-none (NoMore (length part.packets));
  },
  is,
)

-- the one before stays
found-kept : (m : Media) (shift : Shift) (parts : List JudgedPart) (part : JudgedPart) (o f : FoundRun) → f.packets ≤ o.packets
    → Finds m shift parts (Some o)
    → IsFoundRun m shift part f
    → Finds m shift (parts ++ part ∷ []) (Some o)
found-kept m shift parts part o f most h is =
    let l = h.1 in
    let no_more : NoMore (length h.0.packets) part = omega (arith, most, h.2.packets_are, is.packets_are) in (
      h.0,
      record {
        before = l.before;
        after = l.after ++ part ∷ [];
        whole = ap (λ x. x ++ part ∷ []) l.whole ∙ append_assoc l.before (h.0 ∷ l.after) (part ∷ []);
        fewer = l.fewer;
        no_more = All-append (NoMore (length h.0.packets)) l.after (part ∷ []) l.no_more (all-one (NoMore (length h.0.packets)) part no_more);
      },
      h.2,
    )

-- one run more
pub found-more : (m : Media) (shift : Shift) (parts : List JudgedPart) (part : JudgedPart) (old : Option FoundRun) (f : FoundRun)
    → Finds m shift parts old
    → IsFoundRun m shift part f
    → Finds m shift (parts ++ part ∷ []) (Some (longer old f))
found-more m shift parts part None f h is = (
  part,
  record {
    before = [];
    after = [];
    whole = ap (λ l. l ++ part ∷ []) h;
    fewer = all-none (Fewer (length part.packets));
    no_more = all-none (NoMore (length part.packets));
  },
  is,
)
found-more m shift parts part (Some o) f h is =
    let which = λ (q : Bool). Finds m shift (parts ++ part ∷ []) (Some (if q then f else o)) in
    elim (cases_Bool (nat_lt o.packets f.packets)) as (λ _. which (nat_lt o.packets f.packets)) [
      | inl less ↦ subst which (sym less) (found-new m shift parts part o f (ltb-true o.packets f.packets less) h is)
      | inr most ↦ subst which (sym most) (found-kept m shift parts part o f (ltb-false o.packets f.packets most) h is)
    ]

-- ---- the details of a run

-- what a call says of the details
abbrev pub TakesPacket : Media → (n : ℕ) → (old new : PacketDetails) → RunPacket → Level → Type 0
TakesPacket m n old new packet level = (stamps records : List ℕ) → IsLevel m n (stamps ++ packet.at ∷ []) (length stamps) level
    → Details m n old stamps records → Details m n new (stamps ++ packet.at ∷ []) (records ++ packet.rec ∷ [])

-- what is said of stamps and records is said of the packets
pub detailed-packet : (m : Media) (n : ℕ) (shift : Shift) (old new : PacketDetails) (packet : RunPacket) (level : Level) (before : List FlowPacket)
    (p : FlowPacket) → TakesPacket m n old new packet level
    → packet ≡ told_of shift p
    → IsLevel m n (stamps_of shift (before ++ p ∷ [])) (length before) level
    → Details m n old (stamps_of shift before) (records_of before)
    → Details m n new (stamps_of shift (before ++ p ∷ [])) (records_of (before ++ p ∷ []))
detailed-packet m n shift old new packet level before p takes told is h =
    let stamps = stamps_of shift before in
    let records = records_of before in
    let fed = takes stamps records (level-next m n shift packet level before p told is) h in
    let said = subst (λ (q : RunPacket). Details m n new (stamps ++ q.at ∷ []) (records ++ q.rec ∷ [])) told fed in
    subst (λ l. Details m n new l (records_of (before ++ p ∷ []))) (sym (stamps-more shift before p))
    (subst (Details m n new (stamps ++ stamp_of shift p ∷ [])) (sym (records-more before p)) said)

-- the records of packets, and of those after them
records-parts : (fed committed rest : List FlowPacket) → fed ≡ committed ++ rest → records_of fed ≡ records_of committed ++ records_of rest
records-parts fed committed rest whole = ap records_of whole ∙ map-append (λ (q : FlowPacket). q.rec) committed rest

-- the details that were committed, with those of the packets behind them
pub detailed-kept : (m : Media) (n : ℕ) (shift : Shift) (old other new : PacketDetails) (fed committed rest : List FlowPacket) → fed ≡ committed ++ rest
    → ((m : Media) (n : ℕ) (stamps more records others : List ℕ) → Details m n old stamps records
    → Details m n other (stamps ++ more) (records ++ others) → Details m n new (stamps ++ more) (records ++ others))
    → Details m n old (stamps_of shift committed) (records_of committed)
    → Details m n other (stamps_of shift fed) (records_of fed)
    → Details m n new (stamps_of shift fed) (records_of fed)
detailed-kept m n shift old other new fed committed rest whole keeps h k =
    let stamps = stamps-parts shift fed committed rest whole in
    let records = records-parts fed committed rest whole in
    let parts = subst (λ l. Details m n other l (records_of committed ++ records_of rest)) stamps
    (subst (Details m n other (stamps_of shift fed)) records k) in
    let kept = keeps m n (stamps_of shift committed) (stamps_of shift rest) (records_of committed) (records_of rest) h parts in
    subst (λ l. Details m n new l (records_of fed)) (sym stamps)
    (subst (Details m n new (stamps_of shift committed ++ stamps_of shift rest)) (sym records) kept)

-- the details of a run that is over
pub found-part : (m : Media) (shift : Shift) (r : RunOf) (values : Judged) (packets : List FlowPacket) (x : PacketDetails) (d : RunDetails)
    → IsMedia m
    → 1 ≤ r.n
    → IsJudgedOf m shift r packets values
    → Details m r.n x (stamps_of shift packets) (records_of packets)
    → ((m : Media) (n groups : ℕ) (stamps records : List ℕ) → IsMedia m → 1 ≤ n → 1 ≤ groups → Details m n x stamps records
    → length stamps ≡ n * groups → AreDetails m n groups stamps records d)
    → IsFoundRun m shift (part_of r values packets) (record { run = r.number; packets = x.walk.seen; details = d })
found-part m shift r values packets x d is some j h details =
    let stamps = stamps_of shift packets in
    let long = stamps-long shift packets in
    record {
      run_is = refl;
      packets_are = h.seen_is ∙ long;
      details_are = subst (λ n. AreDetails m n values.frames stamps (records_of packets) d) (sym j.n_is)
          (details m r.n values.frames stamps (records_of packets) is some j.some h (long ∙ j.whole));
    }
