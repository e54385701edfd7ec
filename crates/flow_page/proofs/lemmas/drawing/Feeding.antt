-- The columns of packets and groups, with one packet more.
use Rattle.std.proofs.Common.{◌≡◌, ◌<◌, ◌+◌, ◌*◌, ◌/◌, ◌%◌, ◌++◌, ◌∷◌, [], ℕ, zero, suc, ℤ, pos, Bool, List, length, slice_index}
use Rattle.std.proofs.Common.{ap, ◌∙◌, sym, subst, arith}
use Rattle.std.proofs.Common.{inl, inr}
use Rattle.std.proofs.lemmas.Bool.{cases_eq}
use Rattle.std.proofs.lemmas.Nat.{div-add-mod'}
use Rattle.timing_base.specs.Media.{Media}
use Rattle.sender_params.specs.Reads.{anchor_of}
use Rattle.run_meter.specs.Levels.{IsHeld, IsLevel}
use Rattle.run_meter.specs.declared.level.Level.{Level}
use Rattle.vrx_buffer.specs.declared.held.Held.{Held}
use Rattle.flow_measure.specs.Groups.{firsts_of, lasts_of}
use Rattle.flow_measure.specs.Metered.{AreBuckets, AreListed}
use Rattle.flow_measure.specs.Occupancy.{AreOccupancies}
use Rattle.flow_measure.specs.Run.{anchor_in}
use Rattle.flow_measure.specs.Stands.{DrawsCurve}
use Rattle.flow_measure.specs.declared.columns.curve.Curve.{Curve}
use Rattle.flow_measure.proofs.Fronts.{ends, front-is, last-is}
use Rattle.flow_measure.proofs.Packets.{listed-front}
use Rattle.flow_measure.proofs.Passes.{occupancy-once}
use Rattle.flow_page.specs.drawing.drawing.Columns.{Begins, DrawsCurves, DrawsGroups, HasBegun}
use Rattle.flow_page.specs.declared.drawing.groups.Group.{Group}
use Rattle.flow_page.specs.declared.drawing.groups.GroupColumns.{GroupColumns}
use Rattle.flow_page.specs.declared.drawing.groups.GroupCurves.{GroupCurves}

-- what the bucket and the buffer hold at the last packet
pub bucket-last : (m : Media) (n : ℕ) (stamps : List ℕ) (at : ℕ) (l : Level) (level : ℕ → ℤ)
    → AreBuckets m n (stamps ++ at ∷ []) level
    → IsLevel m n (stamps ++ at ∷ []) (length stamps) l
    → level (length stamps) ≡ pos l.bucket
bucket-last m n stamps at l level are is = are (length stamps) (ends stamps at) ∙ ap (λ k. pos k) (sym is.bucket)

-- the occupancy of the buffer just after the last packet
pub occupancy-last : (m : Media) (n : ℕ) (stamps : List ℕ) (at : ℕ) (gapped : Bool) (held : Held) (level : ℕ → ℤ)
    → AreOccupancies m n (stamps ++ at ∷ []) gapped level
    → IsHeld m n (stamps ++ at ∷ []) gapped (length stamps) held
    → level (length stamps) ≡ held.occupancy
occupancy-last m n stamps at gapped held level are is =
    occupancy-once m n (stamps ++ at ∷ []) gapped (length stamps) (level (length stamps)) held.occupancy (are (length stamps) (ends stamps at)) is.occupancy

-- the first packet of a group among all
pub group-first : (m : Media) (n : ℕ) (x : GroupColumns) (stamps timestamps : List ℕ) → DrawsGroups m n x stamps timestamps
    → x.walk.group * n + x.walk.place ≡ length stamps
group-first m n x stamps timestamps h =
    let w = x.walk in
    let parts : w.seen / w.n * w.n + w.seen % w.n ≡ w.seen = div-add-mod' w.seen w.n in
    let turned : w.group * n ≡ w.seen / w.n * w.n = ap (λ k. w.group * k) (sym h.n_is) ∙ ap (λ k. k * w.n) w.group_is in
    omega (arith, parts, turned, w.place_is, h.seen_is)

-- the place of the next packet in its group
pub place-of : (m : Media) (n : ℕ) (x : GroupColumns) (stamps timestamps : List ℕ) → DrawsGroups m n x stamps timestamps
    → x.walk.place ≡ length stamps % n
place-of m n x stamps timestamps h = x.walk.place_is ∙ ap (λ k. k % x.walk.n) h.seen_is ∙ ap (λ k. length stamps % k) h.n_is

-- how the group of the next packet began
pub begun-now : (m : Media) (n : ℕ) (old mid : GroupColumns) (at ticks : ℕ) (stamps timestamps : List ℕ)
    → Begins m at ticks old mid
    → DrawsGroups m n old stamps timestamps
    → HasBegun n old.walk.group (stamps ++ at ∷ []) (timestamps ++ ticks ∷ []) mid.group
begun-now m n old mid at ticks stamps timestamps b h =
    let k = old.walk.group in
    let whole = group-first m n old stamps timestamps h in
    elim (cases_eq old.walk.place 0) as (λ _. HasBegun n k (stamps ++ at ∷ []) (timestamps ++ ticks ∷ []) mid.group) [
      | inl none ↦
          let first : k * n ≡ length stamps = omega (arith, whole, none) in
          record {
            came = b.came none ∙ sym (ap (slice_index (stamps ++ at ∷ [])) first ∙ last-is stamps at);
            ticks = b.ticks_are none ∙ sym (ap (slice_index (timestamps ++ ticks ∷ [])) (first ∙ sym h.same) ∙ last-is timestamps ticks);
          }
      | inr some ↦
          let inside : 0 < old.walk.place = omega (arith, some) in
          let before = h.begun inside in
          let same = b.goes_on inside in
          record {
            came = ap (λ (g : Group). g.first) same ∙ before.came ∙ sym (front-is stamps at (k * n) (omega (arith, whole, inside)));
            ticks = ap (λ (g : Group). g.timestamp) same ∙ before.ticks
                ∙ sym (front-is timestamps ticks (k * n) (omega (arith, whole, inside, h.same)));
          }
    ]

-- the group of the epoch to which the first packet belongs
pub anchor-now : (m : Media) (n : ℕ) (old mid : GroupColumns) (at ticks : ℕ) (stamps timestamps : List ℕ)
    → Begins m at ticks old mid
    → DrawsGroups m n old stamps timestamps
    → mid.n0 ≡ anchor_in m (stamps ++ at ∷ [])
anchor-now m n old mid at ticks stamps timestamps b h =
    let new = stamps ++ at ∷ [] in
    elim (cases_eq (length stamps) 0) as (λ _. mid.n0 ≡ anchor_in m new) [
      | inl none ↦
          let here : at ≡ slice_index new 0 = sym (last-is stamps at) ∙ ap (slice_index new) none in
          b.first (omega (arith, h.seen_is, none)) ∙ ap (anchor_of m) here
      | inr some ↦
          let few : 0 < length stamps = omega (arith, some) in
          b.later (omega (arith, h.seen_is, few)) ∙ h.anchor_is few ∙ ap (anchor_of m) (sym (front-is stamps at 0 few))
    ]

-- a curve that was fed nothing is that of any numbers
pub curve-none : (c : Curve ℤ) (numbers : ℕ → ℤ) → c.seen ≡ 0 → DrawsCurve (λ x. x) c numbers
curve-none c numbers none = record {
  each = λ k few. absurd (no-column c.begun c.width c.room c.seen k c.filled c.room_few none few);
}
  where
    no-column : (begun width room seen k : ℕ) → seen + room ≡ begun * width → room < width → seen ≡ 0 → k < begun → ⊥
    no-column zero width room seen k filled few none low = omega (arith, low)
    no-column (suc begun) width room seen k filled few none low = omega (arith, filled, few, none)

-- no group is drawn yet
pub curves-none : (m : Media) (anchor : ℤ) (c : GroupCurves) (first last timestamp : ℕ → ℕ) → c.seen ≡ 0 → DrawsCurves m anchor c first last timestamp
curves-none m anchor c first last timestamp none = record {
  first_draws = curve-none c.first _ (c.first_is ∙ none);
  drift_draws = curve-none c.drift _ (c.drift_is ∙ none);
  last_draws = curve-none c.last _ (c.last_is ∙ none);
  offset_draws = curve-none c.offset _ (c.offset_is ∙ none);
  latency_draws = curve-none c.latency _ (c.latency_is ∙ none);
}

-- the groups that are over, before the next packet is passed
pub curves-now : (m : Media) (n : ℕ) (old mid : GroupColumns) (at ticks : ℕ) (stamps timestamps : List ℕ) (stamp timestamp : ℕ → ℕ)
    → Begins m at ticks old mid
    → DrawsGroups m n old stamps timestamps
    → AreListed (stamps ++ at ∷ []) stamp → AreListed (timestamps ++ ticks ∷ []) timestamp
    → DrawsCurves m mid.n0 mid.curves (firsts_of n stamp) (lasts_of n stamp) (firsts_of n timestamp)
curves-now m n old mid at ticks stamps timestamps stamp timestamp b h are listed =
    let before = h.curves_draw stamp timestamp (listed-front stamps at stamp are) (listed-front timestamps ticks timestamp listed) in
    subst (λ (c : GroupCurves). DrawsCurves m mid.n0 c (firsts_of n stamp) (lasts_of n stamp) (firsts_of n timestamp)) (sym b.curves_are)
    (elim (cases_eq old.walk.seen 0)
    as (λ _. DrawsCurves m mid.n0 old.curves (firsts_of n stamp) (lasts_of n stamp) (firsts_of n timestamp)) [
      | inl none ↦
          curves-none m mid.n0 old.curves (firsts_of n stamp) (lasts_of n stamp) (firsts_of n timestamp)
          (omega (arith, old.curves_are, old.walk.group_few, none))
      | inr some ↦
          subst (λ a. DrawsCurves m a old.curves (firsts_of n stamp) (lasts_of n stamp) (firsts_of n timestamp))
          (sym (b.later (omega (arith, some)))) before
    ])

-- the first stamp
pub first-more : (stamps : List ℕ) (at seen old new : ℕ)
    → seen ≡ length stamps
    → (seen ≡ 0 → new ≡ at)
    → (0 < seen → new ≡ old)
    → (0 < length stamps → old ≡ slice_index stamps 0)
    → new ≡ slice_index (stamps ++ at ∷ []) 0
first-more [] at seen old new is first later known = first is
first-more (x ∷ xs) at seen old new is first later known = later (omega (arith, is)) ∙ known (omega arith)
