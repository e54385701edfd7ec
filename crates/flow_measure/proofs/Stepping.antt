-- The meters of a run, one packet on.
use Rattle.std.proofs.Common.{◌≡◌, ◌<◌, ◌≤◌, ◌+◌, ◌-◌, ◌*◌, ◌/◌, ◌%◌, ◌++◌, ◌∷◌, [], ℕ, ℤ, List, length, slice_index, Bool, true, false, inl, inr, refl, ap}
use Rattle.std.proofs.Common.{◌∙◌}
use Rattle.std.proofs.Common.{sym, subst, arith, length-append}
use Rattle.std.proofs.lemmas.Bool.{cases_eq}
use Rattle.std.proofs.lemmas.Nat.{div-add-mod'}
use Rattle.timing_base.specs.Media.{Media}
use Rattle.timing_base.specs.declared.media.Kind.{Kind}
use Rattle.sender_params.specs.Limits.{c_max_of, vrx_full_of}
use Rattle.sender_params.specs.Reads.{anchor_of}
use Rattle.sender_params.specs.Ticks.{NeverFall}
use Rattle.sender_params.proofs.Turns.{place_of-step, place_of-turn}
use Rattle.run_meter.specs.Levels.{IsLevel}
use Rattle.run_meter.specs.declared.level.Level.{Level}
use Rattle.run_meter.specs.declared.run.RunPacket.{RunPacket}
use Rattle.flow_measure.specs.Fed.{Finds, MeasuresGaps, MeasuresGroups, MeasuresType}
use Rattle.flow_measure.specs.Groups.{firsts_of, lasts_of}
use Rattle.flow_measure.specs.Kinds.{Packets}
use Rattle.flow_measure.specs.Margins.{Times, read_in}
use Rattle.flow_measure.specs.Metered.{AreListed, ArePackets, Begins, HasBegun, Measures}
use Rattle.flow_measure.specs.Run.{anchor_in}
use Rattle.flow_measure.specs.declared.gaps.GapMeter.{GapMeter}
use Rattle.flow_measure.specs.declared.group_meter.Group.{Group}
use Rattle.flow_measure.specs.declared.group_meter.GroupMeter.{GroupMeter}
use Rattle.flow_measure.specs.declared.group_walk.GroupWalk.{GroupWalk}
use Rattle.flow_measure.specs.declared.margin.MarginMeter.{MarginMeter}
use Rattle.flow_measure.specs.declared.meters.RunMeters.{RunMeters}
use Rattle.flow_measure.specs.declared.models.ModelMeters.{ModelMeters}
use Rattle.flow_measure.proofs.Fronts.{front-is, last-is, latest-of}
use Rattle.flow_measure.proofs.Packets.{level-last, listed-front, listed-last, packets-front}

-- the first packet of a group among all
pub group-first : (n : ℕ) (x : RunMeters) (stamps records timestamps : List ℕ) (m : Media) → Measures m n x stamps records timestamps
    → x.walk.group * n + x.walk.place ≡ length stamps
group-first n x stamps records timestamps m h =
    let w = x.walk in
    let parts : w.seen / w.n * w.n + w.seen % w.n ≡ w.seen = div-add-mod' w.seen w.n in
    let turned : w.group * n ≡ w.seen / w.n * w.n = ap (λ k. w.group * k) (sym h.n_is) ∙ ap (λ k. k * w.n) w.group_is in
    omega (arith, parts, turned, w.place_is, h.seen)

-- how the group of the next packet began
pub begun-now : (m : Media) (n : ℕ) (old mid : RunMeters) (packet : RunPacket) (stamps records timestamps : List ℕ)
    → Begins m packet old mid
    → Measures m n old stamps records timestamps
    → HasBegun n old.walk.group (stamps ++ packet.at ∷ []) (timestamps ++ packet.timestamp ∷ []) mid.group
begun-now m n old mid packet stamps records timestamps b h =
    let k = old.walk.group in
    let at = packet.at in
    let ticks = packet.timestamp in
    let whole = group-first n old stamps records timestamps m h in
    elim (cases_eq old.walk.place 0) as (λ _. HasBegun n k (stamps ++ at ∷ []) (timestamps ++ ticks ∷ []) mid.group) [
      | inl none ↦
          let first : k * n ≡ length stamps = omega (arith, whole, none) in
          record {
            came = b.came none ∙ sym (ap (slice_index (stamps ++ at ∷ [])) first ∙ last-is stamps at);
            ticks = b.ticks none ∙ sym (ap (slice_index (timestamps ++ ticks ∷ [])) (first ∙ sym h.timestamps_are) ∙ last-is timestamps ticks);
          }
      | inr some ↦
          let inside : 0 < old.walk.place = omega (arith, some) in
          let before = h.begun inside in
          let same = b.goes_on inside in
          record {
            came = ap (λ (g : Group). g.first) same ∙ before.came ∙ sym (front-is stamps at (k * n) (omega (arith, whole, inside)));
            ticks = ap (λ (g : Group). g.timestamp) same ∙ before.ticks
                ∙ sym (front-is timestamps ticks (k * n) (omega (arith, whole, inside, h.timestamps_are)));
          }
    ]

-- the group of the epoch to which the first packet belongs
pub anchor-now : (m : Media) (n : ℕ) (old mid : RunMeters) (packet : RunPacket) (stamps records timestamps : List ℕ)
    → Begins m packet old mid
    → Measures m n old stamps records timestamps
    → mid.n0 ≡ anchor_in m (stamps ++ packet.at ∷ [])
anchor-now m n old mid packet stamps records timestamps b h =
    let new = stamps ++ packet.at ∷ [] in
    elim (cases_eq (length stamps) 0) as (λ _. mid.n0 ≡ anchor_in m new) [
      | inl none ↦
          let here : packet.at ≡ slice_index new 0 = sym (last-is stamps packet.at) ∙ ap (slice_index new) none in
          b.first (omega (arith, h.seen, none)) ∙ ap (anchor_of m) here
      | inr some ↦
          let few : 0 < length stamps = omega (arith, some) in
          b.later (omega (arith, h.seen, few)) ∙ h.anchor_is few ∙ ap (anchor_of m) (sym (front-is stamps packet.at 0 few))
    ]

-- where no group is over, nothing is said of one
no-groups : (m : Media) (anchor other : ℤ) (x : GroupMeter) (first last timestamp : ℕ → ℕ) → x.first.seen ≡ 0
    → MeasuresGroups m anchor x first last timestamp → MeasuresGroups m other x first last timestamp
no-groups m anchor other x first last timestamp none h = record {
  first_is = λ some. absurd (omega (arith, some, none));
  last_is = λ some. absurd (omega (arith, some, none, x.last_is));
  offset = λ some. absurd (omega (arith, some, none, x.offset_is));
  latency = h.latency;
  step = h.step;
}

pub groups-now : (m : Media) (n : ℕ) (old mid : RunMeters) (packet : RunPacket) (stamps records timestamps : List ℕ) (stamp timestamp : ℕ → ℕ)
    → Begins m packet old mid
    → Measures m n old stamps records timestamps
    → AreListed (stamps ++ packet.at ∷ []) stamp → AreListed (timestamps ++ packet.timestamp ∷ []) timestamp
    → MeasuresGroups m mid.n0 old.groups (firsts_of n stamp) (lasts_of n stamp) (firsts_of n timestamp)
groups-now m n old mid packet stamps records timestamps stamp timestamp b h are ticks =
    let before = h.groups_are stamp timestamp (listed-front stamps packet.at stamp are) (listed-front timestamps packet.timestamp timestamp ticks) in
    elim (cases_eq old.walk.seen 0)
    as (λ _. MeasuresGroups m mid.n0 old.groups (firsts_of n stamp) (lasts_of n stamp) (firsts_of n timestamp)) [
      | inl none ↦
          no-groups m old.n0 mid.n0 old.groups (firsts_of n stamp) (lasts_of n stamp) (firsts_of n timestamp)
          (omega (arith, old.groups_are, old.walk.group_few, none)) before
      | inr some ↦
          subst (λ a. MeasuresGroups m a old.groups (firsts_of n stamp) (lasts_of n stamp) (firsts_of n timestamp))
          (sym (b.later (omega (arith, some)))) before
    ]

-- the next read: of the same group, or of the next
read-same : (n : ℕ) (b c : MarginMeter) (x : ℕ) → c.step ≡ b.step → c.turn ≡ b.turn → read_in n c x ≡ read_in n b x
read-same n b c x step turn =
    ap (λ s. 0 + (x / n) * (n * s + c.turn) + (x % n) * s) step ∙ ap (λ t. 0 + (x / n) * (n * b.step + t) + (x % n) * b.step) turn

pub times-within : (m : Media) (n : ℕ) (gapped : Bool) (b c : MarginMeter) (stamps : List ℕ) (at : ℕ)
    → c.step ≡ b.step → c.turn ≡ b.turn
    → length stamps % n + 1 < n
    → Times m n gapped c (stamps ++ at ∷ []) (read_in n b (length stamps) + b.step)
    → Times m n gapped c (stamps ++ at ∷ []) (read_in n c (length (stamps ++ at ∷ [])))
times-within m n gapped b c stamps at step turn inside h =
    let count = length stamps in
    let new = stamps ++ at ∷ [] in
    let long : length new ≡ count + 1 = length-append stamps (at ∷ []) in
    let next : read_in n c (length new) ≡ read_in n b count + b.step =
    read-same n b c (length new) step turn ∙ ap (read_in n b) long ∙ place_of-step 0 n (n * b.step + b.turn) b.step count inside in
    subst (Times m n gapped c new) (sym next) h

pub times-over : (m : Media) (n : ℕ) (gapped : Bool) (b mid c : MarginMeter) (stamps : List ℕ) (at : ℕ)
    → mid.step ≡ b.step → mid.turn ≡ b.turn → c.step ≡ mid.step → c.turn ≡ mid.turn
    → length stamps % n + 1 ≡ n
    → Times m n gapped c (stamps ++ at ∷ []) ((read_in n b (length stamps) + b.step) + mid.turn)
    → Times m n gapped c (stamps ++ at ∷ []) (read_in n c (length (stamps ++ at ∷ [])))
times-over m n gapped b mid c stamps at step turn later_step later_turn outside h =
    let count = length stamps in
    let new = stamps ++ at ∷ [] in
    let long : length new ≡ count + 1 = length-append stamps (at ∷ []) in
    let steps : n * b.step ≡ (n - 1) * b.step + b.step =
    (let e : n ≡ (n - 1) + 1 = omega (arith, outside) in ap (λ k. k * b.step) e ∙ omega arith) in
    let turned = place_of-turn 0 n (n * b.step + b.turn) b.step count (b.step + b.turn) outside (omega (arith, steps)) in
    let next : read_in n c (length new) ≡ (read_in n b count + b.step) + mid.turn =
    read-same n b c (length new) (later_step ∙ step) (later_turn ∙ turn) ∙ ap (read_in n b) long ∙ omega (arith, turned, turn) in
    subst (Times m n gapped c new) (sym next) h

-- the place of the next packet
pub place-of : (m : Media) (n : ℕ) (x : RunMeters) (stamps records timestamps : List ℕ) → Measures m n x stamps records timestamps
    → x.walk.place ≡ length stamps % n
place-of m n x stamps records timestamps h = x.walk.place_is ∙ ap (λ k. k % x.walk.n) h.seen ∙ ap (λ k. length stamps % k) h.n_is

-- what all meters but those of groups say with one packet more
pub record Fed (m : Media) (n : ℕ) (mid : RunMeters) (packet : RunPacket) (models : ModelMeters) (gapped linear : MarginMeter) (gaps : GapMeter)
    (stamps records timestamps : List ℕ) : Type 0 where
  pub kinds : (kind : Kind) (p : Packets) → ArePackets m n (stamps ++ packet.at ∷ []) (records ++ packet.rec ∷ []) kind p
      → MeasuresType kind n (c_max_of m n kind) (vrx_full_of m n kind) models p
  pub gapped_are : Times m n true gapped (stamps ++ packet.at ∷ []) (read_in n mid.gapped (length stamps) + mid.gapped.step)
  pub linear_are : Times m n false linear (stamps ++ packet.at ∷ []) (read_in n mid.linear (length stamps) + mid.linear.step)
  pub gaps_are : (stamp : ℕ → ℕ) → AreListed (stamps ++ packet.at ∷ []) stamp → MeasuresGaps gaps stamp

-- what a call says of a meter of margins
abbrev pub TakesStamp : (old new : MarginMeter) → (at : ℕ) → Type 0
TakesStamp old new at = (m : Media) (n : ℕ) (gapped : Bool) (stamps : List ℕ) (passed : ℕ) → Times m n gapped old stamps passed
    → passed ≡ read_in n old (length stamps) → Times m n gapped new (stamps ++ at ∷ []) (passed + old.step)

pub fed : (m : Media) (n : ℕ) (old mid : RunMeters) (packet : RunPacket) (level : Level) (models : ModelMeters) (gapped linear : MarginMeter) (gaps : GapMeter)
    (stamps records timestamps : List ℕ)
    → Begins m packet old mid
    → Measures m n old stamps records timestamps
    → NeverFall (stamps ++ packet.at ∷ [])
    → IsLevel m n (stamps ++ packet.at ∷ []) (length stamps) level
    → ((kind : Kind) (n c_max full : ℕ) (p : Packets) → MeasuresType kind n c_max full mid.models p
    → Finds kind c_max full p (mid.models.bucket.seen + mid.models.waits) level (record { «record» = packet.rec; stamp = packet.at })
    → MeasuresType kind n c_max full models p)
    → TakesStamp mid.gapped gapped packet.at
    → TakesStamp mid.linear linear packet.at
    → ((stamp : ℕ → ℕ) → MeasuresGaps mid.gaps stamp → stamp mid.gaps.seen ≡ packet.at → ((i : ℕ) → i < mid.gaps.seen → stamp i ≤ packet.at)
    → MeasuresGaps gaps stamp)
    → Fed m n mid packet models gapped linear gaps stamps records timestamps
fed m n old mid packet level models gapped linear gaps stamps records timestamps b h rising is models_take gapped_takes linear_takes gaps_take =
    let at = packet.at in
    let walked : mid.walk.seen ≡ length stamps = ap (λ (w : GroupWalk). w.seen) b.walk_is ∙ h.seen in
    let count : mid.models.bucket.seen + mid.models.waits ≡ length stamps = mid.models_are ∙ walked in
    let gap_count : mid.gaps.seen ≡ length stamps = mid.gaps_are ∙ walked in
    record {
      kinds = λ kind p are. models_take kind n (c_max_of m n kind) (vrx_full_of m n kind) p
          (subst (λ x. MeasuresType kind n (c_max_of m n kind) (vrx_full_of m n kind) x p) (sym b.models_are)
          (h.kinds kind p (packets-front m n stamps records at packet.rec kind p are)))
          (level-last kind m n stamps records at packet.rec (mid.models.bucket.seen + mid.models.waits) p level count h.records_are are is);
      gapped_are = gapped_takes m n true stamps (read_in n mid.gapped (length stamps))
          (subst (λ g. Times m n true g stamps (read_in n g (length stamps))) (sym b.gapped_is) h.gapped_is) refl;
      linear_are = linear_takes m n false stamps (read_in n mid.linear (length stamps))
          (subst (λ g. Times m n false g stamps (read_in n g (length stamps))) (sym b.linear_is) h.linear_is) refl;
      gaps_are = λ stamp are. gaps_take stamp
          (subst (λ g. MeasuresGaps g stamp) (sym b.gaps_are) (h.gaps_are stamp (listed-front stamps at stamp are)))
          (listed-last stamps at mid.gaps.seen stamp gap_count are)
          (λ i few.
          let low : i < length stamps = omega (arith, few, gap_count) in
          let same = listed-front stamps at stamp are i low in
          omega (arith, same, latest-of stamps at rising i low));
    }
