-- The longest of the judged runs of a flow, with one run more; and the drawing of a run, with one packet more.
use Rattle.std.proofs.Common.{◌≡◌, ◌<◌, ◌≤◌, ◌-◌, ◌*◌, ◌++◌, ◌∷◌, [], ℕ, zero, suc, true, false, List, length, slice_index, Option, Some, None}
use Rattle.std.proofs.Common.{refl, ap, ◌∙◌, sym, subst, arith, append_assoc, true≢false}
use Rattle.std.proofs.Math.Nat.{mul-le-mul_left}
use Rattle.std.specs.Prelude.{All}
use Rattle.std.proofs.lemmas.Bool.{ltb-false, ltb-true}
use Rattle.std.proofs.lemmas.List.{map-append}
use Rattle.std.proofs.lemmas.List.Elements.{All-append}
use Rattle.timing_base.specs.Shifts.{Shift}
use Rattle.timing_base.specs.Flows.{read_or_zeros}
use Rattle.timing_base.specs.Judged.{stamp_of}
use Rattle.timing_base.specs.Media.{IsMedia, Media}
use Rattle.timing_base.specs.Verdicts.{Judged}
use Rattle.timing_base.specs.declared.packet.FlowPacket.{FlowPacket}
use Rattle.run_meter.specs.Levels.{IsLevel}
use Rattle.run_meter.specs.Runs.{IsJudgedOf, JudgedPart, RunOf, part_of, stamps_of, told_of}
use Rattle.run_meter.specs.declared.level.Level.{Level}
use Rattle.run_meter.specs.declared.run.RunPacket.{RunPacket}
use Rattle.flow_measure.specs.Packets.{timestamps_of}
use Rattle.flow_measure.proofs.Judging.{stamps-long, stamps-more, timestamps-more}
use Rattle.flow_page.specs.declared.drawing.columns.RunColumns.{RunColumns}
use Rattle.flow_page.specs.declared.drawing.longest.DrawnRun.{DrawnRun}
use Rattle.flow_page.specs.declared.drawing.regions.RegionMeters.{RegionMeters}
use Rattle.flow_page.specs.drawing.Drawn.{AreCurves, AreRegions}
use Rattle.flow_page.specs.drawing.Told.{Draws as DrawsLongest, IsDrawn, IsLongest}
use Rattle.flow_page.specs.drawing.drawing.Columns.{Draws}
use Rattle.flow_page.specs.drawing.drawing.Longest.{is_shorter}
use Rattle.flow_page.specs.drawing.drawing.Regions.{DrawsRegions}

-- what is so of each of no runs, and of one
all-none : (P : JudgedPart → Type 0) → All P []
all-none P = λ k d few. absurd (omega (arith, few))

all-one : (P : JudgedPart → Type 0) (part : JudgedPart) → P part → All P (part ∷ [])
all-one P part h zero d few = h
all-one P part h (suc k) d few = absurd (omega (arith, few))

-- a run of which fewer packets are judged than of another one, or no more
abbrev Fewer : (packets : ℕ) → JudgedPart → Type 0
Fewer packets other = length other.packets < packets

abbrev NoMore : (packets : ℕ) → JudgedPart → Type 0
NoMore packets other = length other.packets ≤ packets

-- the run is longer than all before it
longer-all : (parts : List JudgedPart) (part longest : JudgedPart) → IsLongest parts longest → length longest.packets < length part.packets
    → All (Fewer (length part.packets)) parts
longer-all parts part longest h more =
    let few : All (Fewer (length part.packets)) h.before = λ k d low. let is = h.fewer k d low in omega (arith, is, more) in
    let rest : All (Fewer (length part.packets)) h.after = λ k d low. let is = h.no_more k d low in omega (arith, is, more) in
    let one : All (Fewer (length part.packets)) (longest ∷ []) = all-one (Fewer (length part.packets)) longest more in
    subst (All (Fewer (length part.packets))) (sym h.whole)
    (All-append (Fewer (length part.packets)) h.before (longest ∷ h.after) few (All-append (Fewer (length part.packets)) (longest ∷ []) h.after one rest))

-- the run is drawn in the place of a shorter one
pub longest-new : (m : Media) (shift : Shift) (parts : List JudgedPart) (part : JudgedPart) (old : Option DrawnRun) (d : DrawnRun)
    → is_shorter old (length part.packets) ≡ true
    → DrawsLongest m shift parts old
    → IsDrawn m shift part d
    → DrawsLongest m shift (parts ++ part ∷ []) (Some d)
longest-new m shift parts part None d shorter h drawn = (
  part,
  record {
    before = [];
    after = [];
    whole = ap (λ l. l ++ part ∷ []) h;
    fewer = all-none (Fewer (length part.packets));
    no_more = all-none (NoMore (length part.packets));
  },
  drawn,
)
longest-new m shift parts part (Some o) d shorter h drawn =
    let less : o.packets < length part.packets = ltb-true o.packets (length part.packets) shorter in
    let longer = longer-all parts part h.0 h.1 (omega (arith, less, h.2.packets_are)) in
    (part, record { before = parts; after = []; whole = refl; fewer = longer; no_more = all-none (NoMore (length part.packets)) }, drawn)

-- the one before stays
pub longest-kept : (m : Media) (shift : Shift) (parts : List JudgedPart) (part : JudgedPart) (old : Option DrawnRun)
    → is_shorter old (length part.packets) ≡ false
    → DrawsLongest m shift parts old
    → DrawsLongest m shift (parts ++ part ∷ []) old
longest-kept m shift parts part None shorter h = absurd (true≢false shorter)
longest-kept m shift parts part (Some o) shorter h =
    let most : length part.packets ≤ o.packets = ltb-false o.packets (length part.packets) shorter in
    let l = h.1 in
    let no_more : NoMore (length h.0.packets) part = omega (arith, most, h.2.packets_are) in (
      h.0,
      record {
        before = l.before;
        after = l.after ++ part ∷ [];
        whole = ap (λ x. x ++ part ∷ []) l.whole ∙ append_assoc l.before (h.0 ∷ l.after) (part ∷ []);
        fewer = l.fewer;
        no_more = All-append (NoMore (length h.0.packets)) l.after (part ∷ []) l.no_more (all-one (NoMore (length h.0.packets)) part no_more);
      },
      h.2,
    )

-- what a call says of the columns of a run
abbrev pub TakesPacket : Media → (n : ℕ) → (old new : RunColumns) → RunPacket → Level → Type 0
TakesPacket m n old new packet level = (stamps timestamps : List ℕ) → IsLevel m n (stamps ++ packet.at ∷ []) (length stamps) level
    → Draws m n old stamps timestamps → Draws m n new (stamps ++ packet.at ∷ []) (timestamps ++ packet.timestamp ∷ [])

-- the level of the next packet of a run, among the stamps so far
pub level-next : (m : Media) (n : ℕ) (shift : Shift) (packet : RunPacket) (level : Level) (before : List FlowPacket) (p : FlowPacket)
    → packet ≡ told_of shift p
    → IsLevel m n (stamps_of shift (before ++ p ∷ [])) (length before) level
    → IsLevel m n (stamps_of shift before ++ packet.at ∷ []) (length (stamps_of shift before)) level
level-next m n shift packet level before p told is =
    subst (λ (q : RunPacket). IsLevel m n (stamps_of shift before ++ q.at ∷ []) (length (stamps_of shift before)) level) (sym told)
    (subst (λ k. IsLevel m n (stamps_of shift before ++ stamp_of shift p ∷ []) k level) (sym (stamps-long shift before))
    (subst (λ l. IsLevel m n l (length before) level) (stamps-more shift before p) is))

-- what is said of stamps and timestamps is said of the packets
pub drawn-packet : (m : Media) (n : ℕ) (shift : Shift) (old new : RunColumns) (packet : RunPacket) (level : Level) (before : List FlowPacket) (p : FlowPacket)
    → TakesPacket m n old new packet level
    → packet ≡ told_of shift p
    → IsLevel m n (stamps_of shift (before ++ p ∷ [])) (length before) level
    → Draws m n old (stamps_of shift before) (timestamps_of before)
    → Draws m n new (stamps_of shift (before ++ p ∷ [])) (timestamps_of (before ++ p ∷ []))
drawn-packet m n shift old new packet level before p takes told is h =
    let stamps = stamps_of shift before in
    let ticks = timestamps_of before in
    let fed = takes stamps ticks (level-next m n shift packet level before p told is) h in
    let said = subst (λ (q : RunPacket). Draws m n new (stamps ++ q.at ∷ []) (ticks ++ q.timestamp ∷ [])) told fed in
    subst (λ l. Draws m n new l (timestamps_of (before ++ p ∷ []))) (sym (stamps-more shift before p))
    (subst (Draws m n new (stamps ++ stamp_of shift p ∷ [])) (sym (timestamps-more before p)) said)

-- the same of the regions
pub regions-packet : (m : Media) (n : ℕ) (shift : Shift) (new : RegionMeters) (packet : RunPacket) (before : List FlowPacket) (p : FlowPacket)
    → packet ≡ told_of shift p
    → DrawsRegions m n new (stamps_of shift before ++ packet.at ∷ [])
    → DrawsRegions m n new (stamps_of shift (before ++ p ∷ []))
regions-packet m n shift new packet before p told h =
    subst (DrawsRegions m n new) (sym (stamps-more shift before p))
    (subst (λ (q : RunPacket). DrawsRegions m n new (stamps_of shift before ++ q.at ∷ [])) told h)

-- the stamps and timestamps of packets, and of those behind them
pub stamps-parts : (shift : Shift) (fed committed rest : List FlowPacket) → fed ≡ committed ++ rest
    → stamps_of shift fed ≡ stamps_of shift committed ++ stamps_of shift rest
stamps-parts shift fed committed rest whole = ap (stamps_of shift) whole ∙ map-append (stamp_of shift) committed rest

-- the RTP timestamps of packets, and of those after them
pub timestamps-parts : (fed committed rest : List FlowPacket) → fed ≡ committed ++ rest → timestamps_of fed ≡ timestamps_of committed ++ timestamps_of rest
timestamps-parts fed committed rest whole =
    ap timestamps_of whole ∙ map-append (λ (q : FlowPacket). (read_or_zeros q.rtp).timestamp) committed rest

-- the columns that were committed, with those of the packets behind them
pub drawn-kept : (m : Media) (n : ℕ) (shift : Shift) (old other new : RunColumns) (fed committed rest : List FlowPacket) → fed ≡ committed ++ rest
    → ((m : Media) (n : ℕ) (stamps more timestamps ticks : List ℕ) → Draws m n old stamps timestamps → Draws m n other (stamps ++ more) (timestamps ++ ticks)
    → Draws m n new (stamps ++ more) (timestamps ++ ticks))
    → Draws m n old (stamps_of shift committed) (timestamps_of committed)
    → Draws m n other (stamps_of shift fed) (timestamps_of fed)
    → Draws m n new (stamps_of shift fed) (timestamps_of fed)
drawn-kept m n shift old other new fed committed rest whole keeps h k =
    let stamps = stamps-parts shift fed committed rest whole in
    let ticks = timestamps-parts fed committed rest whole in
    let parts = subst (λ l. Draws m n other l (timestamps_of committed ++ timestamps_of rest)) stamps (subst (Draws m n other (stamps_of shift fed)) ticks k) in
    let kept = keeps m n (stamps_of shift committed) (stamps_of shift rest) (timestamps_of committed) (timestamps_of rest) h parts in
    subst (λ l. Draws m n new l (timestamps_of fed)) (sym stamps)
    (subst (Draws m n new (stamps_of shift committed ++ stamps_of shift rest)) (sym ticks) kept)

-- what is drawn of a run that is over
pub drawn-part : (m : Media) (shift : Shift) (r : RunOf) (values : Judged) (packets : List FlowPacket) (x : RunColumns) (d : DrawnRun)
    → IsMedia m
    → 1 ≤ r.n
    → IsJudgedOf m shift r packets values
    → Draws m r.n x (stamps_of shift packets) (timestamps_of packets)
    → d.run ≡ r.number → d.packets ≡ x.packets.seen → d.first_at ≡ x.first_at → d.last_at ≡ x.last_at
    → ((m : Media) (n groups : ℕ) (stamps timestamps : List ℕ) → IsMedia m → 1 ≤ n → Draws m n x stamps timestamps → length stamps ≡ n * groups
    → AreCurves m n groups stamps timestamps d.curves)
    → AreRegions m r.n (stamps_of shift packets) 0 values.kinds d.regions
    → IsDrawn m shift (part_of r values packets) d
drawn-part m shift r values packets x d is some j h run_is packets_are first_is last_is curves regions =
    let stamps = stamps_of shift packets in
    let long = stamps-long shift packets in
    let whole : length stamps ≡ r.n * values.frames = long ∙ j.whole in
    let one : r.n * 1 ≤ r.n * values.frames = mul-le-mul_left r.n j.some in
    let few : 0 < length stamps = omega (arith, one, some, whole) in
    record {
      run_is = run_is;
      packets_are = packets_are ∙ h.packets_draw.seen_is ∙ long;
      first_is = first_is ∙ h.first_is few;
      last_is = last_is ∙ h.last_is few ∙ ap (λ k. slice_index stamps (k - 1)) long;
      curves = subst (λ n. AreCurves m n values.frames stamps (timestamps_of packets) d.curves) (sym j.n_is)
          (curves m r.n values.frames stamps (timestamps_of packets) is some h whole);
      regions = subst (λ n. AreRegions m n stamps 0 values.kinds d.regions) (sym j.n_is) regions;
    }
