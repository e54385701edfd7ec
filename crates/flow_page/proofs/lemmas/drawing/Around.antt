-- The packets around the first one that breaks a sender type, with one packet more, and the regions that they make.
use Rattle.std.proofs.Common.{◌≡◌, ◌<◌, ◌≤◌, ◌+◌, ◌-◌, ◌%◌, ◌++◌, ◌∷◌, [], ◌||◌, min, ℕ, ℤ, pos, negsuc, Bool, true, false, nat_lt, List, length}
use Rattle.std.proofs.Common.{Option, Some, None, set, inl, inr, true≢false, refl, ap, ◌∙◌, sym, subst, arith, length-append}
use Rattle.std.specs.Prelude.{int_lt}
use Rattle.std.specs.Int.{int_max}
use Rattle.std.specs.List.{slice_index_or}
use Rattle.std.proofs.lemmas.Bool.{cases_eq, cases_lt, le-ltb, leb-false, leb-true}
use Rattle.std.proofs.lemmas.Nat.{div-add-mod'}
use Rattle.std.proofs.lemmas.Int.{clamps, ints}
use Rattle.std.proofs.lemmas.List.{get_or-set_other, get_or-set_same, get_or_default}
use Rattle.timing_base.specs.Media.{IsMedia, Media}
use Rattle.timing_base.specs.declared.fail.Broken.{Broken}
use Rattle.timing_base.specs.declared.fail.Broken.TheVariants.{Bucket, Over, Empty}
use Rattle.timing_base.specs.declared.fail.FailProof.{FailProof}
use Rattle.timing_base.specs.declared.media.Kind.{Kind}
use Rattle.timing_base.specs.declared.media.Kind.TheVariants.{N, NL, W}
use Rattle.timing_base.specs.declared.row.KindVerdict.{KindVerdict}
use Rattle.timing_base.specs.declared.row.KindVerdict.TheVariants.{Pass, Fail}
use Rattle.sender_params.specs.Keeps.{held_at, is_empty, is_over}
use Rattle.sender_params.specs.Limits.{c_max_of, gapped_of, vrx_full_of}
use Rattle.run_meter.specs.Levels.{IsHeld, IsLevel}
use Rattle.run_meter.specs.Runs.{NameFirst, NamesFirst, is_broken}
use Rattle.run_meter.specs.declared.level.Level.{Level}
use Rattle.flow_measure.specs.First.{IsFirst}
use Rattle.flow_measure.specs.Occupancy.{buckets_of}
use Rattle.flow_measure.specs.Columns.{AreCurve}
use Rattle.flow_measure.specs.Stands.{DrawsCurve}
use Rattle.flow_measure.specs.declared.columns.curve.Curve.{Curve}
use Rattle.flow_measure.proofs.Packets.{occupancies}
use Rattle.flow_measure.proofs.Passes.{occupancy-once}
use Rattle.read_schedule.proofs.Held.{held_at-is}
use Rattle.flow_page.specs.declared.shown.Region.{Region}
use Rattle.flow_page.specs.drawing.Drawn.{AreRegions, IsHeld as IsDrawnHeld, IsRegion, start_around}
use Rattle.flow_page.specs.drawing.drawing.Held.{breaks_at, buffer_of, held_by}
use Rattle.flow_page.specs.drawing.drawing.Regions.{DrawsRegion, PutsKind, ShowsFrom}
use Rattle.flow_page.specs.drawing.drawing.Taken.{first_with, is_open, level_at, no_level, taken_of}
use Rattle.flow_page.specs.declared.drawing.region.Bounds.{Bounds}
use Rattle.flow_page.specs.declared.drawing.region.RegionMeter.{RegionMeter}
use Rattle.flow_page.proofs.lemmas.drawing.Keeping.{broken-after, bucket-after, level-after, occupancy-after}

-- what the buffer holds by the schedule of a type
pub held-of : (kind : Kind) (m : Media) (n : ℕ) (stamps : List ℕ) (i : ℕ) (level : Level) → IsLevel m n stamps i level
    → IsHeld m n stamps (gapped_of kind) i (buffer_of kind level)
held-of N m n stamps i level h = h.gapped
held-of NL m n stamps i level h = h.linear
held-of W m n stamps i level h = h.linear

-- more than a limit is held exactly where the occupancy is above it
above-held : (full held : ℕ) (x : ℤ) → pos held ≡ int_max (pos 0) x → int_lt (pos full) x ≡ nat_lt full held
above-held full held (pos x) e = let same : held ≡ x = omega (arith, ints, clamps, e) in ap (nat_lt full) (sym same)
above-held full held (negsuc x) e = let none : held ≡ 0 = omega (arith, ints, clamps, e) in sym (le-ltb full held (omega (arith, none)))

-- a packet breaks a model exactly where what is held after it does
pub breaks-at : (m : Media) (n : ℕ) (stamps : List ℕ) (kind : Kind) (i c_max full : ℕ) (level : Level)
    → c_max ≡ c_max_of m n kind → full ≡ vrx_full_of m n kind
    → IsLevel m n stamps i level
    → is_broken m n stamps kind i ≡ breaks_at kind c_max full level
breaks-at m n stamps kind i c_max full level c_is f_is h =
    let held = held-of kind m n stamps i level h in
    let x = (buffer_of kind level).occupancy in
    let o = held.occupancy in
    let most : pos (held_at m n stamps (gapped_of kind) i) ≡ int_max (pos 0) x =
    omega (arith, ints, clamps, held_at-is m n stamps (gapped_of kind) i o.reads o.due, o.is) in
    let over : int_lt (pos full) x ≡ is_over m n stamps kind i =
    above-held full (held_at m n stamps (gapped_of kind) i) x most ∙ ap (λ f. nat_lt f (held_at m n stamps (gapped_of kind) i)) f_is in
    let empty : (buffer_of kind level).late ≡ is_empty m n stamps kind i = held.late in
    ap (λ b. (nat_lt (c_max_of m n kind) b || is_over m n stamps kind i) || is_empty m n stamps kind i) (sym h.bucket)
    ∙ ap (λ k. (nat_lt k level.bucket || is_over m n stamps kind i) || is_empty m n stamps kind i) (sym c_is)
    ∙ ap (λ k. (nat_lt c_max level.bucket || k) || is_empty m n stamps kind i) (sym over)
    ∙ ap (λ e. (nat_lt c_max level.bucket || int_lt (pos full) x) || e) (sym empty)

-- the first packet that breaks a model, with one packet more
first-next : (old new : ℕ → Bool) (count : ℕ) (found : Option ℕ) (breaks : Bool) → IsFirst old count found
    → ((i : ℕ) → i < count → new i ≡ old i)
    → new count ≡ breaks
    → IsFirst new (count + 1) (first_with found count breaks)
first-next old new count (Some first) breaks h same last = (omega (arith, h.0), same first h.0 ∙ h.1, λ k few. same k (omega (arith, few, h.0)) ∙ h.2 k few)
first-next old new count None true h same last = (omega arith, last, λ k few. same k few ∙ h k few)
first-next old new count None false h same last = λ i few. elim (cases_eq i count) as (λ _. new i ≡ false) [
  | inl e ↦ ap new e ∙ last
  | inr other ↦ let low : i < count = omega (arith, few, other) in same i low ∙ h i low
]

-- so many packets are taken, with one more
taken-next : (found : Option ℕ) (count taken : ℕ) (breaks : Bool) → taken ≡ count → is_open found taken ≡ true
    → taken + 1 ≡ taken_of (first_with found taken breaks) (count + 1)
taken-next None count taken true same goes = omega (arith, same)
taken-next None count taken false same goes = omega (arith, same)
taken-next (Some first) count taken breaks same goes =
    let low : taken - first ≤ 50 = leb-true (taken - first) 50 goes in
    omega (arith, same, low)

-- the packet that is taken, and those before it, are found again
level-same : (ring : List Level) (k : ℕ) (level : Level) → k < length ring → slice_index_or (set ring k level) k no_level ≡ level
level-same ring k level few = get_or-set_same ring k level no_level few

-- the numbers of two of the last 400 packets aren't the same modulo 400
apart : (i taken : ℕ) → i < taken → taken < i + 400 → i % 400 ≡ taken % 400 → ⊥
apart i taken low high same = omega (arith, low, high, same, div-add-mod' i 400, div-add-mod' taken 400)

-- the meter took the packet
pub region-taken : (m : Media) (n : ℕ) (kind : Kind) (old new : RegionMeter) (stamps : List ℕ) (at : ℕ) (level : Level)
    → new.bounds ≡ old.bounds
    → new.ring.items ≡ set old.ring.items (old.taken % 400) level
    → new.first ≡ first_with old.first old.taken (breaks_at old.bounds.kind old.bounds.c_max old.bounds.vrx_full level)
    → new.taken ≡ old.taken + 1
    → old.taken ≡ length stamps
    → is_open old.first old.taken ≡ true
    → DrawsRegion m n kind old stamps
    → IsLevel m n (stamps ++ at ∷ []) (length stamps) level
    → DrawsRegion m n kind new (stamps ++ at ∷ [])
region-taken m n kind old new stamps at level bounds ring first taken all goes h is =
    let more = stamps ++ at ∷ [] in
    let count = length stamps in
    let long : length more ≡ count + 1 = length-append stamps (at ∷ []) in
    let breaks = breaks_at old.bounds.kind old.bounds.c_max old.bounds.vrx_full level in
    let broken : is_broken m n more kind count ≡ breaks =
    breaks-at m n more kind count old.bounds.c_max old.bounds.vrx_full level h.c_max_is h.full_is is
    ∙ ap (λ k. breaks_at k old.bounds.c_max old.bounds.vrx_full level) (sym h.kind_is) in
    let found = first-next (is_broken m n stamps kind) (is_broken m n more kind) count old.first breaks h.first_is
    (λ i few. broken-after m n stamps (at ∷ []) kind i few) broken in
    let found_is : first_with old.first count breaks ≡ new.first = ap (λ c. first_with old.first c breaks) (sym all) ∙ sym first in
    let room : length old.ring.items ≡ 400 = omega (arith, old.ring.ok.0, old.ring_is) in
    record {
      kind_is = ap (λ (b : Bounds). b.kind) bounds ∙ h.kind_is;
      c_max_is = ap (λ (b : Bounds). b.c_max) bounds ∙ h.c_max_is;
      full_is = ap (λ (b : Bounds). b.vrx_full) bounds ∙ h.full_is;
      first_is = subst (λ l. IsFirst (is_broken m n more kind) l new.first) (sym long)
          (subst (IsFirst (is_broken m n more kind) (count + 1)) found_is found);
      taken_is = taken ∙ taken-next old.first count old.taken breaks all goes
          ∙ ap (λ f. taken_of f (count + 1)) (sym first) ∙ ap (taken_of new.first) (sym long);
      held = λ i few recent. elim (cases_eq i old.taken) as (λ _. IsLevel m n more i (level_at new.ring.items i)) [
        | inl e ↦
            let here : level_at new.ring.items i ≡ level =
            ap (λ r. level_at r i) ring ∙ ap (λ j. slice_index_or (set old.ring.items (old.taken % 400) level) (j % 400) no_level) e
            ∙ level-same old.ring.items (old.taken % 400) level (omega (arith, room)) in
            subst (IsLevel m n more i) (sym here) (subst (λ j. IsLevel m n more j level) (sym (e ∙ all)) is)
        | inr other ↦
            let low : i < old.taken = omega (arith, few, taken, other) in
            let kept : level_at new.ring.items i ≡ level_at old.ring.items i =
            ap (λ r. level_at r i) ring
            ∙ get_or-set_other old.ring.items (old.taken % 400) (i % 400) level no_level (apart i old.taken low (omega (arith, recent, taken))) in
            subst (IsLevel m n more i) (sym kept)
            (level-after m n stamps (at ∷ []) i (level_at old.ring.items i) (omega (arith, low, all)) (h.held i low (omega (arith, recent, taken))))
      ];
    }

-- where the packet may be shown, all packets so far were taken
pub all-taken : (found : Option ℕ) (count taken : ℕ) → taken ≡ taken_of found count → is_open found taken ≡ true → taken ≡ count
all-taken None count taken is goes = is
all-taken (Some first) count taken is goes =
    let low : taken - first ≤ 50 = leb-true (taken - first) 50 goes in
    omega (arith, is, low)

-- where it may not be shown, no packet more is taken
none-taken : (found : Option ℕ) (count taken : ℕ) → taken ≡ taken_of found count → is_open found taken ≡ false → taken ≡ taken_of found (count + 1)
none-taken None count taken is goes = absurd (true≢false goes)
none-taken (Some first) count taken is goes =
    let high : 50 < taken - first = leb-false (taken - first) 50 goes in
    omega (arith, is, high)

-- the first packet that breaks a model stays the first, with one packet more
some-first : (old new : ℕ → Bool) (count : ℕ) (found : Option ℕ) (taken : ℕ) → is_open found taken ≡ false → IsFirst old count found
    → ((i : ℕ) → i < count → new i ≡ old i)
    → IsFirst new (count + 1) found
some-first old new count None taken goes h same = absurd (true≢false goes)
some-first old new count (Some first) taken goes h same =
    (omega (arith, h.0), same first h.0 ∙ h.1, λ k few. same k (omega (arith, few, h.0)) ∙ h.2 k few)

-- no more are taken than came
pub most-taken : (found : Option ℕ) (count taken : ℕ) → taken ≡ taken_of found count → taken ≤ count
most-taken None count taken is = omega (arith, is)
most-taken (Some first) count taken is = omega (arith, is)

-- a packet that isn't taken leaves the meter as it is
pub region-same : (m : Media) (n : ℕ) (kind : Kind) (r : RegionMeter) (stamps : List ℕ) (at : ℕ) → is_open r.first r.taken ≡ false
    → DrawsRegion m n kind r stamps
    → DrawsRegion m n kind r (stamps ++ at ∷ [])
region-same m n kind r stamps at goes h =
    let more = stamps ++ at ∷ [] in
    let count = length stamps in
    let long : length more ≡ count + 1 = length-append stamps (at ∷ []) in
    record {
      kind_is = h.kind_is;
      c_max_is = h.c_max_is;
      full_is = h.full_is;
      first_is = subst (λ l. IsFirst (is_broken m n more kind) l r.first) (sym long)
          (some-first (is_broken m n stamps kind) (is_broken m n more kind) count r.first r.taken goes h.first_is
          (λ i few. broken-after m n stamps (at ∷ []) kind i few));
      taken_is = none-taken r.first count r.taken h.taken_is goes ∙ ap (taken_of r.first) (sym long);
      held = λ i few recent.
          level-after m n stamps (at ∷ []) i (level_at r.ring.items i) (omega (arith, few, most-taken r.first count r.taken h.taken_is)) (h.held i few recent);
    }

-- the first packet that breaks a model is the one that the verdict names
first-named : (all judged : ℕ → Bool) (count few : ℕ) (found : Option ℕ) (proof : FailProof) → few ≤ count
    → ((i : ℕ) → i < few → all i ≡ judged i)
    → IsFirst all count found
    → NamesFirst judged few (Fail proof)
    → found ≡ Some proof.to
first-named all judged count few None proof low same is named =
    absurd (true≢false (sym named.1 ∙ sym (same proof.to named.0) ∙ is proof.to (omega (arith, named.0, low))))
first-named all judged count few (Some k) proof low same is named =
    elim (cases_lt k proof.to) as (λ _. Some k ≡ Some proof.to) [
      | inl before ↦ absurd (true≢false (sym is.1 ∙ same k (omega (arith, before, named.0)) ∙ named.2 k before))
      | inr rest ↦ elim (cases_lt proof.to k) as (λ _. Some k ≡ Some proof.to) [
        | inl behind ↦ absurd (true≢false (sym named.1 ∙ sym (same proof.to named.0) ∙ is.2 proof.to behind))
        | inr none ↦ let e : k ≡ proof.to = omega (arith, rest, none) in ap (λ (x : ℕ). Some x) e
      ]
    ]

-- there is such a level for each packet
held-some : (m : Media) (n : ℕ) (stamps : List ℕ) (kind : Kind) (model : Broken) → IsMedia m → 1 ≤ n
    → (level : ℕ → ℤ) × IsDrawnHeld m n stamps kind model level
held-some m n stamps kind Bucket is some = (buckets_of m n stamps, λ i few. refl)
held-some m n stamps kind Over is some = occupancies m n stamps (gapped_of kind) is some
held-some m n stamps kind Empty is some = occupancies m n stamps (gapped_of kind) is some

-- which is what the level has that was told of it
held-told : (m : Media) (n : ℕ) (stamps more : List ℕ) (kind : Kind) (model : Broken) (level : ℕ → ℤ) (i : ℕ) (l : Level) → i < length stamps
    → IsDrawnHeld m n stamps kind model level
    → IsLevel m n (stamps ++ more) i l
    → level i ≡ held_by kind model l
held-told m n stamps more kind Bucket level i l few are h =
    are i few ∙ ap (λ k. pos k) (sym (bucket-after m n stamps more i few) ∙ sym h.bucket)
held-told m n stamps more kind Over level i l few are h =
    occupancy-once m n (stamps ++ more) (gapped_of kind) i (level i) (buffer_of kind l).occupancy
    (occupancy-after m n stamps more (gapped_of kind) i (level i) few (are i few)) (held-of kind m n (stamps ++ more) i l h).occupancy
held-told m n stamps more kind Empty level i l few are h =
    occupancy-once m n (stamps ++ more) (gapped_of kind) i (level i) (buffer_of kind l).occupancy
    (occupancy-after m n stamps more (gapped_of kind) i (level i) few (are i few)) (held-of kind m n (stamps ++ more) i l h).occupancy

-- what is shown around a fail
pub region-shown : (m : Media) (n : ℕ) (kind : Kind) (r : RegionMeter) (proof : FailProof) (stamps more : List ℕ) (start end : ℕ) (region : Region)
    → IsMedia m → 1 ≤ n
    → start ≡ start_around proof → end ≡ min (proof.to + 51) (length stamps)
    → DrawsRegion m n kind r (stamps ++ more)
    → NamesFirst (is_broken m n stamps kind) (length stamps) (Fail proof)
    → region.kind ≡ r.bounds.kind → region.proof ≡ proof → region.start ≡ start → region.count ≡ end - start
    → ((numbers : ℕ → ℤ) → ShowsFrom r proof.model start end numbers → AreCurve 400 numbers (end - start) region.columns)
    → IsRegion m n stamps kind proof region
region-shown m n kind r proof stamps more start end region is some start_is end_is h named kind_same proof_same start_same count_same columns =
    let all = stamps ++ more in
    let count = length stamps in
    let long : length all ≡ count + length more = length-append stamps more in
    let held = held-some m n stamps kind proof.model is some in
    let first : r.first ≡ Some proof.to =
    first-named (is_broken m n all kind) (is_broken m n stamps kind) (length all) count r.first proof (omega (arith, long))
    (λ i few. broken-after m n stamps more kind i few) h.first_is named in
    let taken : r.taken ≡ min (length all) (proof.to + 51) = h.taken_is ∙ ap (λ f. taken_of f (length all)) first in
    let shown = λ (i : ℕ). held.0 (start_around proof + i) in
    let count_is : end - start ≡ min (proof.to + 51) count - start_around proof = omega (arith, start_is, end_is) in
    record {
      kind_is = kind_same ∙ h.kind_is;
      proof_is = proof_same;
      start_is = start_same ∙ start_is;
      count_is = count_same ∙ count_is;
      level = held.0;
      held = held.1;
      columns = subst (λ k. AreCurve 400 shown k region.columns) count_is
          (columns shown (λ j low.
          let i = start + j in
          let few : i < count = omega (arith, low, end_is) in
          let l = level_at r.ring.items i in
          let told : IsLevel m n all i l = h.held i (omega (arith, low, end_is, taken, long)) (omega (arith, taken, start_is)) in
          ap (λ s. held.0 (s + j)) (sym start_is) ∙ held-told m n stamps more kind proof.model held.0 i l few held.1 told
          ∙ ap (λ k. held_by k proof.model l) (sym h.kind_is)));
    }

-- the columns of one packet more
pub shown-more : (r : RegionMeter) (model : Broken) (start place : ℕ) (columns next : Curve ℤ) (level : Level) (x : ℤ)
    → start ≤ place
    → columns.seen ≡ place - start
    → level ≡ slice_index_or r.ring.items (place % 400) level
    → x ≡ held_by r.bounds.kind model level
    → ((numbers : ℕ → ℤ) → ShowsFrom r model start place numbers → DrawsCurve (λ y. y) columns numbers)
    → ((numbers : ℕ → ℤ) → DrawsCurve (λ y. y) columns numbers → numbers columns.seen ≡ x → DrawsCurve (λ y. y) next numbers)
    → (numbers : ℕ → ℤ) → ShowsFrom r model start (place + 1) numbers → DrawsCurve (λ y. y) next numbers
shown-more r model start place columns next level x past seen read told drawn draws numbers shows =
    let room : length r.ring.items ≡ 400 = omega (arith, r.ring.ok.0, r.ring_is) in
    let same : level_at r.ring.items place ≡ level = get_or_default r.ring.items (place % 400) no_level level (omega (arith, room)) ∙ sym read in
    let here : start + columns.seen ≡ place = omega (arith, past, seen) in
    draws numbers (drawn numbers (λ j few. shows j (omega (arith, few))))
    (shows columns.seen (omega (arith, here)) ∙ ap (λ i. held_by r.bounds.kind model (level_at r.ring.items i)) here
    ∙ ap (held_by r.bounds.kind model) same ∙ sym told)

-- a region is put behind those before, where the type fails
pub region-put : (m : Media) (n : ℕ) (stamps : List ℕ) (kind : Kind) (verdict : KindVerdict) (proof : FailProof) (r : Region) (old new : List Region)
    → verdict ≡ Fail proof
    → new ≡ old ++ r ∷ []
    → IsRegion m n stamps kind proof r
    → PutsKind m n stamps kind verdict old new
region-put m n stamps kind verdict proof r old new fails is shown =
    subst (λ v. PutsKind m n stamps kind v old new) (sym fails) (r, is, shown)

-- each of three verdicts names its first packet
pub names-at : (m : Media) (n : ℕ) (stamps : List ℕ) (kinds : List KindVerdict) → NameFirst m n stamps kinds
    → NamesFirst (is_broken m n stamps N) (length stamps) (slice_index_or kinds 0 Pass)
    × (NamesFirst (is_broken m n stamps NL) (length stamps) (slice_index_or kinds 1 Pass)
    × (NamesFirst (is_broken m n stamps W) (length stamps) (slice_index_or kinds 2 Pass) × (length kinds ≡ 3)))
names-at m n stamps (narrow ∷ narrow_linear ∷ wide ∷ []) h = (h.0, (h.1, (h.2, refl)))
names-at m n stamps [] h = absurd h
names-at m n stamps (one ∷ []) h = absurd h
names-at m n stamps (one ∷ two ∷ []) h = absurd h
names-at m n stamps (one ∷ two ∷ three ∷ four ∷ rest) h = absurd h

-- those of N, NL and W
three : (m : Media) (n : ℕ) (stamps : List ℕ) (x y z : KindVerdict) (a b c : List Region)
    → PutsKind m n stamps N x [] a
    → PutsKind m n stamps NL y a b
    → PutsKind m n stamps W z b c
    → AreRegions m n stamps 0 (x ∷ y ∷ z ∷ []) c
three m n stamps Pass Pass Pass a b c p q r = subst (AreRegions m n stamps 0 (Pass ∷ Pass ∷ Pass ∷ [])) (sym (r ∙ q ∙ p)) tt
three m n stamps Pass Pass (Fail z) a b c p q r =
    let is : c ≡ r.0 ∷ [] = r.1 ∙ ap (λ l. l ++ r.0 ∷ []) (q ∙ p) in
    subst (AreRegions m n stamps 0 (Pass ∷ Pass ∷ Fail z ∷ [])) (sym is) (r.2, tt)
three m n stamps Pass (Fail y) Pass a b c p q r =
    let is : c ≡ q.0 ∷ [] = r ∙ q.1 ∙ ap (λ l. l ++ q.0 ∷ []) p in
    subst (AreRegions m n stamps 0 (Pass ∷ Fail y ∷ Pass ∷ [])) (sym is) (q.2, tt)
three m n stamps Pass (Fail y) (Fail z) a b c p q r =
    let is : c ≡ q.0 ∷ r.0 ∷ [] = r.1 ∙ ap (λ l. l ++ r.0 ∷ []) (q.1 ∙ ap (λ l. l ++ q.0 ∷ []) p) in
    subst (AreRegions m n stamps 0 (Pass ∷ Fail y ∷ Fail z ∷ [])) (sym is) (q.2, (r.2, tt))
three m n stamps (Fail x) Pass Pass a b c p q r =
    let is : c ≡ p.0 ∷ [] = r ∙ q ∙ p.1 in
    subst (AreRegions m n stamps 0 (Fail x ∷ Pass ∷ Pass ∷ [])) (sym is) (p.2, tt)
three m n stamps (Fail x) Pass (Fail z) a b c p q r =
    let is : c ≡ p.0 ∷ r.0 ∷ [] = r.1 ∙ ap (λ l. l ++ r.0 ∷ []) (q ∙ p.1) in
    subst (AreRegions m n stamps 0 (Fail x ∷ Pass ∷ Fail z ∷ [])) (sym is) (p.2, (r.2, tt))
three m n stamps (Fail x) (Fail y) Pass a b c p q r =
    let is : c ≡ p.0 ∷ q.0 ∷ [] = r ∙ q.1 ∙ ap (λ l. l ++ q.0 ∷ []) p.1 in
    subst (AreRegions m n stamps 0 (Fail x ∷ Fail y ∷ Pass ∷ [])) (sym is) (p.2, (q.2, tt))
three m n stamps (Fail x) (Fail y) (Fail z) a b c p q r =
    let is : c ≡ p.0 ∷ q.0 ∷ r.0 ∷ [] = r.1 ∙ ap (λ l. l ++ r.0 ∷ []) (q.1 ∙ ap (λ l. l ++ q.0 ∷ []) p.1) in
    subst (AreRegions m n stamps 0 (Fail x ∷ Fail y ∷ Fail z ∷ [])) (sym is) (p.2, (q.2, (r.2, tt)))

-- the regions of N, NL and W, from none
pub regions-are : (m : Media) (n : ℕ) (stamps : List ℕ) (kinds : List KindVerdict) (a b c : List Region)
    → length kinds ≡ 3
    → PutsKind m n stamps N (slice_index_or kinds 0 Pass) [] a
    → PutsKind m n stamps NL (slice_index_or kinds 1 Pass) a b
    → PutsKind m n stamps W (slice_index_or kinds 2 Pass) b c
    → AreRegions m n stamps 0 kinds c
regions-are m n stamps [] a b c is p q r = absurd (omega (arith, is))
regions-are m n stamps (x ∷ []) a b c is p q r = absurd (omega (arith, is))
regions-are m n stamps (x ∷ y ∷ []) a b c is p q r = absurd (omega (arith, is))
regions-are m n stamps (x ∷ y ∷ z ∷ []) a b c is p q r = three m n stamps x y z a b c p q r
regions-are m n stamps (x ∷ y ∷ z ∷ more ∷ rest) a b c is p q r = absurd (omega (arith, is))
