-- The details of the packets of a run: with one packet more, with those that are committed, and when all packets came.
use Rattle.std.proofs.Common.{◌≡◌, ◌<◌, ◌≤◌, ◌+◌, ◌*◌, ◌/◌, ◌%◌, ◌++◌, ◌∷◌, ◌==◌, [], ℕ, false, List, length, slice_index}
use Rattle.std.proofs.Common.{ℤ, ◌⊎◌, inl, inr, ap, ◌∙◌, sym, subst, arith, length-append}
use Rattle.std.proofs.lemmas.Bool.{cases_eq, ne_eqb}
use Rattle.std.proofs.lemmas.Nat.{div-add-mod', le-div}
use Rattle.timing_base.specs.Media.{Media}
use Rattle.timing_base.specs.declared.media.Kind.{Kind}
use Rattle.timing_base.specs.declared.media.Kind.TheVariants.{N, NL, W}
use Rattle.sender_params.specs.Limits.{c_max_of}
use Rattle.sender_params.specs.Reads.{anchor_of}
use Rattle.flow_measure.specs.Groups.{firsts_of, since_at}
use Rattle.flow_measure.specs.Metered.{AreListed}
use Rattle.flow_measure.specs.Occupancy.{buckets_of}
use Rattle.flow_measure.specs.Run.{anchor_in}
use Rattle.flow_measure.specs.Stands.{DrawsCurve}
use Rattle.flow_measure.specs.declared.columns.curve.Curve.{Curve}
use Rattle.flow_measure.proofs.Fronts.{front-is, last-is}
use Rattle.flow_measure.proofs.Packets.{listed-front}
use Rattle.flow_findings.specs.Details.{AreOverfull, IsOverfull, greatest_of, span_at}
use Rattle.flow_findings.specs.declared.inputs.Overfull.{Overfull}
use Rattle.flow_page.proofs.lemmas.drawing.Feeding.{curve-none}
use Rattle.flow_page.proofs.lemmas.drawing.Keeping.{front-of}
use Rattle.timing_explain.specs.details.Groups.{TimesGroups}
use Rattle.timing_explain.specs.details.Overfull.{FindAll, FindsOverfull}
use Rattle.timing_explain.specs.details.Packets.{Details, MayBegin}
use Rattle.timing_explain.specs.declared.details.groups.GroupTimes.{GroupTimes}
use Rattle.timing_explain.specs.declared.details.packets.PacketDetails.{PacketDetails}

-- ---- one packet more

-- the first packet of a group among all
pub group-first : (m : Media) (n : ℕ) (x : PacketDetails) (stamps records : List ℕ) → Details m n x stamps records
    → x.walk.group * n + x.walk.place ≡ length stamps
group-first m n x stamps records h =
    let w = x.walk in
    let parts : w.seen / w.n * w.n + w.seen % w.n ≡ w.seen = div-add-mod' w.seen w.n in
    let turned : w.group * n ≡ w.seen / w.n * w.n = ap (λ k. w.group * k) (sym h.n_is) ∙ ap (λ k. k * w.n) w.group_is in
    omega (arith, parts, turned, w.place_is, h.seen_is)

-- a number above 0 isn't 0
is-some : (k : ℕ) → 0 < k → (k == 0) ≡ false
is-some k few = ne_eqb k 0 (λ none. omega (arith, few, none))

-- what `begin` keeps of the times, if a packet came before
kept : (f : GroupTimes → ℕ) (m : Media) (old mid : PacketDetails) (at : ℕ) → MayBegin m at old mid → 0 < old.walk.seen
    → (old.walk.place ≡ 0 → (old.walk.seen == 0) ≡ false → f mid.groups ≡ f old.groups)
    → f mid.groups ≡ f old.groups
kept f m old mid at b some later = elim (cases_eq old.walk.place 0) as (λ _. f mid.groups ≡ f old.groups) [
  | inl first ↦ later first (is-some old.walk.seen some)
  | inr inside ↦ ap f (b.goes_on (omega (arith, inside)))
]

-- when the first packet came
pub first-now : (m : Media) (n : ℕ) (old mid : PacketDetails) (at : ℕ) (stamps records : List ℕ)
    → MayBegin m at old mid
    → Details m n old stamps records
    → mid.groups.first_at ≡ slice_index (stamps ++ at ∷ []) 0
first-now m n old mid at stamps records b h =
    let new = stamps ++ at ∷ [] in
    let place = group-first m n old stamps records h in
    elim (cases_eq (length stamps) 0) as (λ _. mid.groups.first_at ≡ slice_index new 0) [
      | inl none ↦
          let here : at ≡ slice_index new 0 = sym (last-is stamps at) ∙ ap (slice_index new) none in
          (b.begins (omega (arith, place, none))).first (ap (λ k. k == 0) (h.seen_is ∙ none)) ∙ here
      | inr some ↦
          let few : 0 < length stamps = omega (arith, some) in
          kept (λ g. g.first_at) m old mid at b (omega (arith, h.seen_is, few)) (λ first no. (b.begins first).later no)
          ∙ h.first_is few ∙ sym (front-is stamps at 0 few)
    ]

-- the group of the epoch to which the first packet belongs
pub anchor-now : (m : Media) (n : ℕ) (old mid : PacketDetails) (at : ℕ) (stamps records : List ℕ)
    → MayBegin m at old mid
    → Details m n old stamps records
    → mid.groups.n0 ≡ anchor_in m (stamps ++ at ∷ [])
anchor-now m n old mid at stamps records b h =
    let new = stamps ++ at ∷ [] in
    let place = group-first m n old stamps records h in
    elim (cases_eq (length stamps) 0) as (λ _. mid.groups.n0 ≡ anchor_in m new) [
      | inl none ↦
          let here : at ≡ slice_index new 0 = sym (last-is stamps at) ∙ ap (slice_index new) none in
          (b.begins (omega (arith, place, none))).anchor (ap (λ k. k == 0) (h.seen_is ∙ none)) ∙ ap (anchor_of m) here
      | inr some ↦
          let few : 0 < length stamps = omega (arith, some) in
          anchor-kept m old mid at b (omega (arith, h.seen_is, few)) ∙ h.anchor_is few ∙ ap (anchor_of m) (sym (front-is stamps at 0 few))
    ]
  where
    anchor-kept : (m : Media) (old mid : PacketDetails) (at : ℕ) → MayBegin m at old mid → 0 < old.walk.seen → mid.groups.n0 ≡ old.groups.n0
    anchor-kept m old mid at b some = elim (cases_eq old.walk.place 0) as (λ _. mid.groups.n0 ≡ old.groups.n0) [
      | inl first ↦ (b.begins first).same (is-some old.walk.seen some)
      | inr inside ↦ ap (λ (g : GroupTimes). g.n0) (b.goes_on (omega (arith, inside)))
    ]

-- when the group of the packet began
pub group-now : (m : Media) (n : ℕ) (old mid : PacketDetails) (at : ℕ) (stamps records : List ℕ)
    → MayBegin m at old mid
    → Details m n old stamps records
    → mid.groups.group_at ≡ firsts_of n (slice_index (stamps ++ at ∷ [])) old.walk.group
group-now m n old mid at stamps records b h =
    let new = stamps ++ at ∷ [] in
    let k = old.walk.group in
    let place = group-first m n old stamps records h in
    elim (cases_eq old.walk.place 0) as (λ _. mid.groups.group_at ≡ firsts_of n (slice_index new) k) [
      | inl first ↦
          let here : k * n ≡ length stamps = omega (arith, place, first) in
          (b.begins first).group_is ∙ sym (ap (slice_index new) here ∙ last-is stamps at)
      | inr inside ↦
          let some : 0 < old.walk.place = omega (arith, inside) in
          ap (λ (g : GroupTimes). g.group_at) (b.goes_on some) ∙ h.begun some ∙ sym (front-is stamps at (k * n) (omega (arith, place, some)))
    ]

-- the times of the groups that are over, before the packet is passed
pub times-now : (m : Media) (n : ℕ) (old mid : PacketDetails) (at : ℕ) (stamps records : List ℕ) (stamp : ℕ → ℕ)
    → MayBegin m at old mid
    → Details m n old stamps records
    → AreListed (stamps ++ at ∷ []) stamp
    → TimesGroups m n mid.groups stamp
times-now m n old mid at stamps records stamp b h are =
    let before = h.times_are stamp (listed-front stamps at stamp are) in
    elim (cases_eq old.walk.place 0) as (λ _. TimesGroups m n mid.groups stamp) [
      | inl first ↦ begun-times before first
      | inr inside ↦ subst (λ (g : GroupTimes). TimesGroups m n g stamp) (sym (b.goes_on (omega (arith, inside)))) before
    ]
  where
    begun-draws : TimesGroups m n old.groups stamp → old.walk.place ≡ 0
        → DrawsCurve (λ x. x) old.groups.firsts (since_at m mid.groups.n0 (firsts_of n stamp))
    begun-draws before first =
        elim (cases_eq old.walk.seen 0) as (λ _. DrawsCurve (λ x. x) old.groups.firsts (since_at m mid.groups.n0 (firsts_of n stamp))) [
          | inl none ↦
              curve-none old.groups.firsts (since_at m mid.groups.n0 (firsts_of n stamp)) (omega (arith, old.seen_is, old.walk.group_few, none))
          | inr some ↦
              subst (λ a. DrawsCurve (λ x. x) old.groups.firsts (since_at m a (firsts_of n stamp)))
              (sym ((b.begins first).same (is-some old.walk.seen (omega (arith, some))))) before.firsts_draw
        ]

    begun-times : TimesGroups m n old.groups stamp → old.walk.place ≡ 0 → TimesGroups m n mid.groups stamp
    begun-times before first =
        let g = b.begins first in
        record {
          span_is = g.span_is ∙ before.span_is ∙ ap (λ (c : Curve ℤ). greatest_of (span_at n stamp) c.seen) (sym g.firsts_are);
          firsts_draw = subst (λ (c : Curve ℤ). DrawsCurve (λ x. x) c (since_at m mid.groups.n0 (firsts_of n stamp))) (sym g.firsts_are)
              (begun-draws before first);
        }

-- ---- those that are committed

-- of packets of which the first ones were committed no fewer groups are over
pub groups-rise : (m : Media) (n : ℕ) (old other : PacketDetails) (stamps more records others : List ℕ)
    → Details m n old stamps records
    → Details m n other (stamps ++ more) (records ++ others)
    → old.groups.firsts.seen ≤ other.groups.firsts.seen
groups-rise m n old other stamps more records others h k =
    let a = old.walk in
    let b = other.walk in
    let long : length (stamps ++ more) ≡ length stamps + length more = length-append stamps more in
    let first : a.group * n + a.place ≡ length stamps = group-first m n old stamps records h in
    let same : a.group * b.n ≡ a.group * n = ap (λ j. a.group * j) k.n_is in
    let low : a.group ≤ b.seen / b.n = le-div a.group b.seen b.n (omega (arith, b.place_within)) (omega (arith, same, first, long, k.seen_is)) in
    omega (arith, low, b.group_is, old.seen_is, other.seen_is)

-- either no group is over, or they count from the same group of the epoch
pub same-anchor : (m : Media) (n : ℕ) (old other : PacketDetails) (stamps more records others : List ℕ)
    → Details m n old stamps records
    → Details m n other (stamps ++ more) (records ++ others)
    → (old.groups.firsts.seen ≡ 0) ⊎ (old.groups.n0 ≡ other.groups.n0)
same-anchor m n old other stamps more records others h k =
    let long : length (stamps ++ more) ≡ length stamps + length more = length-append stamps more in
    elim (cases_eq (length stamps) 0) as (λ _. (old.groups.firsts.seen ≡ 0) ⊎ (old.groups.n0 ≡ other.groups.n0)) [
      | inl none ↦ inl (omega (arith, old.seen_is, old.walk.group_few, h.seen_is, none))
      | inr some ↦
          let few : 0 < length stamps = omega (arith, some) in
          let first : anchor_in m (stamps ++ more) ≡ anchor_in m stamps = ap (anchor_of m) (front-of stamps more 0 few) in
          inr (h.anchor_is few ∙ sym first ∙ sym (k.anchor_is (omega (arith, few, long))))
    ]

-- ---- all packets

-- what the counters tell of one type
one-overfull : (m : Media) (n groups : ℕ) (stamps records : List ℕ) (kind : Kind) (o : Overfull)
    → FindsOverfull n (c_max_of m n kind) (buckets_of m n stamps) (slice_index records) (slice_index stamps) (length stamps) groups o
    → IsOverfull m n groups stamps records kind o
one-overfull m n groups stamps records kind o h = record {
  groups_are = h.groups_are;
  first = h.first;
  first_is = h.first_is;
  place_is = h.place_is;
}

-- and of all types
pub all-overfull : (m : Media) (n groups : ℕ) (stamps records : List ℕ) (list : List Overfull)
    → FindAll m n (buckets_of m n stamps) (slice_index records) (slice_index stamps) (length stamps) groups list
    → AreOverfull m n groups stamps records list
all-overfull m n groups stamps records (narrow ∷ narrow_linear ∷ wide ∷ []) h = (
  one-overfull m n groups stamps records N narrow h.0,
  one-overfull m n groups stamps records NL narrow_linear h.1,
  one-overfull m n groups stamps records W wide h.2,
)
all-overfull m n groups stamps records [] h = absurd h
all-overfull m n groups stamps records (one ∷ []) h = absurd h
all-overfull m n groups stamps records (one ∷ two ∷ []) h = absurd h
all-overfull m n groups stamps records (one ∷ two ∷ three ∷ four ∷ rest) h = absurd h
