-- A bucket stands for one packet more after it is fed.
use Rattle.std.proofs.Common.{◌≡◌, ◌≤◌, ◌<◌, ◌+◌, ◌-◌, ℕ, zero, suc, List, [], ◌∷◌, ◌++◌, length, slice_index, refl, sym, ap, subst, inl, inr, ◌∙◌, arith, max}
use Rattle.std.proofs.Common.{length-append, ◌^◌}
use Rattle.std.proofs.Math.Seq.{get_or-append_seam}
use Rattle.std.proofs.lemmas.List.{get_or_append_left}
use Rattle.std.proofs.lemmas.Bool.{cases_lt}
use Rattle.fraction128.specs.Clocks.{HasPassed, StandsAt, passed_by}
use Rattle.fraction128.specs.declared.clock.Clock.{Clock}
use Rattle.fraction128.proofs.Due.{ahead, one_in, so_far}
use Rattle.sender_params.specs.declared.params.Params.{Params}
use Rattle.sender_params.specs.Ticks.{NeverFall, ticks_at, ticks_of}
use Rattle.drain_bucket.specs.Stands.{CanFollow, IsAfter, StandsFor}
use Rattle.drain_bucket.specs.Word.{count_after}
use Rattle.drain_bucket.specs.declared.bucket.Bucket.{Bucket}
use Rattle.drain_bucket.proofs.Reich.{Rises, count_after-same, count_after-suc, excess, rises_to, ticks_at-rises}

-- the numbers after a packet, where so many ticks came since the one before
pub record Drained (b c : Bucket) (ticks : ℕ) : Type 0 where
  pub origin : c.origin ≡ b.origin
  pub count : c.count ≡ (b.count - ticks) + 1
  pub fresh : c.count ≡ 1 → c.begin ≡ b.seen
  pub kept : 1 < c.count → c.begin ≡ b.begin
  pub seen : c.seen ≡ b.seen + 1
  pub peak : c.peak ≡ max b.peak c.count

-- the numbers of a bucket after packet i of a clock
pub record Reads (b : Bucket) (clock : ℕ → ℕ) (i : ℕ) : Type 0 where
  pub seen : b.seen ≡ i + 1
  pub count : b.count ≡ count_after clock i
  pub begins : b.begin ≤ i
  pub begin_load : excess clock b.begin i ≡ b.count
  pub latest : (j : ℕ) → j ≤ i → excess clock j i ≡ b.count → j ≤ b.begin
  pub peak_most : (k : ℕ) → k ≤ i → count_after clock k ≤ b.peak
  pub peak_reached : (k : ℕ) × (k ≤ i) × (count_after clock k ≡ b.peak)

-- one packet more, of a clock that agrees with the one before
pub one_more : (b c : Bucket) (f g : ℕ → ℕ) (i : ℕ)
    → Reads b f i
    → ((k : ℕ) → k ≤ i → g k ≡ f k)
    → Rises g (i + 1)
    → (ticks : ℕ)
    → g i + ticks ≡ g (i + 1)
    → Drained b c ticks
    → Reads c g (i + 1)
one_more b c f g i s same up ticks sum n =
    let here = same i (omega arith) in
    let before : count_after g i ≡ count_after f i = count_after-same g f i same in
    let next : i + 1 ≡ suc i = omega arith in
    let step : count_after g (i + 1) ≡ (count_after g i - (g (i + 1) - g i)) + 1 = ap (count_after g) next ∙ count_after-suc g i in
    let count : c.count ≡ count_after g (i + 1) = omega (arith, n.count, s.count, before, step, sum) in
    record {
      seen = omega (arith, n.seen, s.seen);
      count = count;
      begins = elim (cases_lt 1 c.count) as (λ _. c.begin ≤ i + 1) [
        | inl some ↦ omega (arith, n.kept some, s.begins)
        | inr none ↦ omega (arith, n.fresh (omega (arith, none, n.count)), s.seen)
      ];
      begin_load = elim (cases_lt 1 c.count) as (λ _. excess g c.begin (i + 1) ≡ c.count) [
        | inl some ↦
            omega (
              arith,
              s.begin_load,
              some,
              n.kept some,
              ap g (n.kept some),
              same b.begin s.begins,
              here,
              n.count,
              sum,
              s.begins,
              rises_to g (i + 1) up b.begin i s.begins (omega arith),
            )
        | inr none ↦ let e : c.begin ≡ i + 1 = omega (arith, n.fresh (omega (arith, none, n.count)), s.seen) in omega (arith, e, ap g e, none, n.count)
      ];
      latest = λ j m e. elim (cases_lt 1 c.count) as (λ _. j ≤ c.begin) [
        | inl some ↦ elim (cases_lt i j) as (λ _. j ≤ c.begin) [
          | inl late ↦ let k : j ≡ i + 1 = omega (arith, late, m) in omega (arith, k, ap g k, e, some)
          | inr early ↦
              omega (
                arith,
                n.kept some,
                s.latest j early (omega (
                  arith,
                  e,
                  some,
                  n.count,
                  sum,
                  here,
                  same j early,
                  early,
                  rises_to g (i + 1) up j i early (omega arith),
                )),
              )
        ]
        | inr none ↦ omega (arith, n.fresh (omega (arith, none, n.count)), s.seen, m)
      ];
      peak_most = λ k m. elim (cases_lt i k) as (λ _. count_after g k ≤ c.peak) [
        | inl late ↦ let e : k ≡ i + 1 = omega (arith, late, m) in omega (arith, ap (count_after g) e, count, n.peak)
        | inr early ↦ omega (arith, s.peak_most k early, count_after-same g f k (λ j l. same j (omega (arith, l, early))), n.peak)
      ];
      peak_reached = elim (cases_lt b.peak c.count) as (λ _. (k : ℕ) × (k ≤ i + 1) × (count_after g k ≡ c.peak)) [
        | inl above ↦ (i + 1, omega arith, omega (arith, count, n.peak, above))
        | inr kept ↦
            let k = s.peak_reached.0 in
            let m : k ≤ i = s.peak_reached.1 in
            (k, omega (arith, m), omega (arith, s.peak_reached.2, count_after-same g f k (λ j l. same j (omega (arith, l, m))), n.peak, kept))
      ];
    }

-- the first packet
pub first : (b c : Bucket) (g : ℕ → ℕ) (ticks : ℕ) → b.count ≡ 0 → b.seen ≡ 0 → b.peak ≡ 0 → Drained b c ticks → Reads c g 0
first b c g ticks none unseen low n =
    let e : c.begin ≡ 0 = omega (arith, n.fresh (omega (arith, n.count, none)), unseen) in
    record {
      seen = omega (arith, n.seen, unseen);
      count = omega (arith, n.count, none);
      begins = omega (arith, e);
      begin_load = omega (arith, e, ap g e, n.count, none);
      latest = λ j m _. omega (arith, m);
      peak_most = λ k m. let z : k ≡ 0 = omega (arith, m) in omega (arith, ap (count_after g) z, n.peak, n.count);
      peak_reached = (0, omega arith, omega (arith, n.peak, n.count, none, low));
    }

-- a list that never falls goes on with a stamp that isn't below its last
pub falls-append : (stamps : List ℕ) (at : ℕ)
    → NeverFall stamps
    → ((i : ℕ) → length stamps ≡ i + 1 → slice_index stamps i ≤ at)
    → NeverFall (stamps ++ at ∷ [])
falls-append stamps at h last j i order few =
    let new = stamps ++ at ∷ [] in
    let long : length new ≡ length stamps + 1 = length-append stamps (at ∷ []) in
    elim (cases_lt i (length stamps)) as (λ _. slice_index new j ≤ slice_index new i) [
      | inl early ↦
          omega (arith, get_or_append_left stamps (at ∷ []) 0 j (omega (arith, order, early)), get_or_append_left stamps (at ∷ []) 0 i early, h j i order early)
      | inr late ↦
          let here : i ≡ length stamps = omega (arith, long, few, late) in
          let there : slice_index new i ≡ at = ap (slice_index new) here ∙ get_or-append_seam stamps at [] 0 in
          elim (cases_lt j i) as (λ _. slice_index new j ≤ slice_index new i) [
            | inl before ↦
                let k = i - 1 in
                let size : length stamps ≡ k + 1 = omega (arith, here, before) in
                omega (
                  arith,
                  there,
                  get_or_append_left stamps (at ∷ []) 0 j (omega (arith, here, before)),
                  h j k (omega (arith, before)) (omega (arith, size)),
                  last k size,
                )
            | inr same ↦
                let e : j ≡ i = omega (arith, order, same) in
                omega (arith, ap (slice_index new) e)
          ]
    ]

-- what a bucket's numbers say, with its last packet and its next tick
pub is_after : (params : Params) (b : Bucket) (stamps : List ℕ) (i stood : ℕ)
    → slice_index stamps 0 ≡ b.origin
    → b.last ≡ slice_index stamps i
    → stood ≤ b.last
    → StandsAt params.drain b.next b.origin stood
    → Reads b (ticks_at params.media params.n stamps) i
    → IsAfter params b stamps i
is_after params b stamps i stood origin last early stands r = record {
  origin = origin;
  count = r.count;
  begins = r.begins;
  begin_load = r.begin_load;
  latest = r.latest;
  peak_most = r.peak_most;
  peak_reached = r.peak_reached;
  last = last;
  next = (stood, early, stands);
}

-- the line of the drain has the ticks as its instants
pub ticks-are : (params : Params) (a0 at : ℕ) → passed_by params.drain a0 at ≡ ticks_of params.media params.n a0 at
ticks-are params a0 at = rw (params.drain_num, params.drain_den) refl

-- after a packet the bucket stands for one more
pub fed_more : (params : Params) (b c : Bucket) (stamps : List ℕ) (at ticks stood : ℕ)
    → StandsFor params b stamps
    → CanFollow b stamps at
    → passed_by params.drain b.origin b.last + ticks ≡ passed_by params.drain b.origin at
    → Drained b c ticks
    → c.last ≡ at
    → stood ≤ at
    → StandsAt params.drain c.next c.origin stood
    → StandsFor params c (stamps ++ at ∷ [])
fed_more params b c [] at ticks stood s f sum n last early stands =
    let m = params.media in
    let fresh = s.fresh refl in
    let start : at ≡ c.origin = f.first refl ∙ sym n.origin in
    let zero_th : IsAfter params c (at ∷ []) 0 =
    is_after params c (at ∷ []) 0 stood start last (omega (arith, early, last)) stands
    (first b c (ticks_at m params.n (at ∷ [])) ticks fresh.count s.seen fresh.peak n) in
    record {
      ordered = falls-append [] at s.ordered f.later;
      seen = omega (arith, n.seen, s.seen);
      fresh = λ e. absurd (omega (arith, e));
      fed = λ i size. let z : i ≡ 0 = omega (arith, size) in subst (λ j. IsAfter params c (at ∷ []) j) (sym z) zero_th;
    }
fed_more params b c (x ∷ xs) at ticks stood s f sum n last early stands =
    let m = params.media in
    let old = x ∷ xs in
    let new = old ++ at ∷ [] in
    let i = length xs in
    let size : length old ≡ i + 1 = omega arith in
    let was = s.fed i size in
    let long : length new ≡ length old + 1 = length-append old (at ∷ []) in
    let falls : NeverFall new = falls-append old at s.ordered f.later in
    let here : i + 1 ≡ length old = omega arith in
    let there : slice_index new (i + 1) ≡ at = ap (slice_index new) here ∙ get_or-append_seam old at [] 0 in
    let same : (k : ℕ) → k ≤ i → ticks_at m params.n new k ≡ ticks_at m params.n old k =
    λ k few. ap (ticks_of m params.n x) (get_or_append_left old (at ∷ []) 0 k (omega (arith, few))) in
    let up : Rises (ticks_at m params.n new) (i + 1) = ticks_at-rises m params.n new (i + 1) falls (omega (arith, long)) in
    let before_is : passed_by params.drain b.origin b.last ≡ ticks_at m params.n new i =
    ticks-are params b.origin b.last ∙ ap (λ o. ticks_of m params.n o b.last) (sym was.origin) ∙ ap (ticks_of m params.n x) was.last
    ∙ sym (same i (omega arith)) in
    let now_is : passed_by params.drain b.origin at ≡ ticks_at m params.n new (i + 1) =
    ticks-are params b.origin at ∙ ap (λ o. ticks_of m params.n o at) (sym was.origin) ∙ ap (ticks_of m params.n x) (sym there) in
    let more : ticks_at m params.n new i + ticks ≡ ticks_at m params.n new (i + 1) = ap (λ k. k + ticks) (sym before_is) ∙ sum ∙ now_is in
    let before : Reads b (ticks_at m params.n old) i = record {
      seen = omega (arith, s.seen);
      count = was.count;
      begins = was.begins;
      begin_load = was.begin_load;
      latest = was.latest;
      peak_most = was.peak_most;
      peak_reached = was.peak_reached;
    } in
    let start : x ≡ c.origin = was.origin ∙ sym n.origin in
    let next : IsAfter params c new (i + 1) =
    is_after params c new (i + 1) stood start (last ∙ sym there) (omega (arith, early, last)) stands
    (one_more b c (ticks_at m params.n old) (ticks_at m params.n new) i before same up ticks more n) in
    record {
      ordered = falls;
      seen = omega (arith, n.seen, s.seen, long);
      fresh = λ e. absurd (omega (arith, e, long));
      fed = λ j sz. let e : j ≡ i + 1 = omega (arith, sz, long) in subst (λ k. IsAfter params c new k) (sym e) next;
    }

-- what a bucket says before a packet: when the last one came, and after which instant its tick is the first
pub record Before (params : Params) (b : Bucket) (at : ℕ) : Type 0 where
  pub order : b.last ≤ at
  pub stood : ℕ
  pub early : stood ≤ b.last
  pub stands : StandsAt params.drain b.next b.origin stood

-- so it is before each packet
pub before : (params : Params) (b : Bucket) (stamps : List ℕ) (at : ℕ)
    → at < 2 ^ 62
    → StandsFor params b stamps
    → CanFollow b stamps at
    → Before params b at
before params b [] at in_time s f =
    let fresh = s.fresh refl in
    record { order = omega (arith, fresh.last); stood = b.last; early = omega arith; stands = fresh.next (omega (arith, f.first refl, in_time)) }
before params b (x ∷ xs) at in_time s f =
    let i = length xs in
    let size : length (x ∷ xs) ≡ i + 1 = omega arith in
    let was = s.fed i size in
    record { order = omega (arith, was.last, f.later i size); stood = was.next.0; early = was.next.1; stands = was.next.2 }

-- a clock that goes on to the last packet and then to this one
pub ticks_more : (params : Params) (b c : Bucket) (middle : Clock) (stamps : List ℕ) (at missed ticks : ℕ)
    → StandsFor params b stamps
    → CanFollow b stamps at
    → Before params b at
    → ((origin stood : ℕ) → stood ≤ b.last → StandsAt params.drain b.next origin stood → HasPassed params.drain middle origin stood b.last missed)
    → ((origin last : ℕ) → last ≤ at → StandsAt params.drain middle origin last → HasPassed params.drain c.next origin last at ticks)
    → Drained b c ticks
    → c.last ≡ at
    → StandsFor params c (stamps ++ at ∷ [])
ticks_more params b c middle stamps at missed ticks s f was reaches goes n last =
    let reached = reaches b.origin was.stood was.early was.stands in
    let gone = goes b.origin b.last was.order reached.stands in
    fed_more params b c stamps at ticks at s f gone.exact n last (omega arith) (subst (λ o. StandsAt params.drain c.next o at) (sym n.origin) gone.stands)

-- the numbers after a packet for which no tick was counted
pub record Spaced (b c : Bucket) (at : ℕ) : Type 0 where
  pub origin : c.origin ≡ b.origin
  pub count : c.count ≡ 1
  pub begin : c.begin ≡ b.seen
  pub seen : c.seen ≡ b.seen + 1
  pub peak : c.peak ≡ b.peak
  pub last : c.last ≡ at
  pub next : c.next ≡ b.next

-- the last packet of a bucket that isn't empty came at the origin or after
pub last-begun : (params : Params) (b : Bucket) (stamps : List ℕ) → StandsFor params b stamps → b.count ≡ 1 → b.origin ≤ b.last
last-begun params b [] s one = absurd (omega (arith, one, (s.fresh refl).count))
last-begun params b (x ∷ xs) s one =
    let i = length xs in
    let size : length (x ∷ xs) ≡ i + 1 = omega arith in
    let was = s.fed i size in
    omega (arith, was.origin, was.last, s.ordered 0 i (omega arith) (omega arith))

-- a packet that comes more than the time of a tick after one that is alone in the bucket
pub spaced_more : (params : Params) (b c : Bucket) (stamps : List ℕ) (at : ℕ)
    → at < 2 ^ 62
    → StandsFor params b stamps
    → CanFollow b stamps at
    → b.count ≡ 1
    → b.last + params.drain.whole < at
    → Spaced b c at
    → StandsFor params c (stamps ++ at ∷ [])
spaced_more params b c stamps at in_time s f one far n =
    let was = before params b stamps at in_time s f in
    let some = one_in params.drain b.origin b.last at (last-begun params b stamps s one) far in
    let ticks = passed_by params.drain b.origin at - passed_by params.drain b.origin b.last in
    let stands : StandsAt params.drain c.next c.origin was.stood =
    subst (λ o. StandsAt params.drain c.next o was.stood) (sym n.origin) (subst (λ k. StandsAt params.drain k b.origin was.stood) (sym n.next) was.stands) in
    fed_more params b c stamps at ticks was.stood s f (omega (arith, some)) (record {
      origin = n.origin;
      count = omega (arith, n.count, one, some);
      fresh = λ _. n.begin;
      kept = λ many. absurd (omega (arith, many, n.count));
      seen = n.seen;
      peak = omega (arith, n.peak, n.count, b.count_within, one);
    }) n.last (omega (arith, was.early, was.order)) stands

-- the numbers after a packet that comes before the next tick
pub record Crowded (b c : Bucket) (at : ℕ) : Type 0 where
  pub origin : c.origin ≡ b.origin
  pub count : c.count ≡ b.count + 1
  pub begin : c.begin ≡ b.begin
  pub seen : c.seen ≡ b.seen + 1
  pub peak : c.peak ≡ max b.peak c.count
  pub last : c.last ≡ at
  pub next : c.next ≡ b.next

-- a packet stays in the bucket until a tick
count_after-some : (clock : ℕ → ℕ) (i : ℕ) → 1 ≤ count_after clock i
count_after-some clock zero = omega arith
count_after-some clock (suc i) = omega (arith, count_after-suc clock i)

-- an empty bucket was fed nothing
begin-fresh : (params : Params) (b : Bucket) (stamps : List ℕ) → StandsFor params b stamps → b.count ≡ 0 → b.begin ≡ b.seen
begin-fresh params b [] s none = omega (arith, (s.fresh refl).begin, s.seen)
begin-fresh params b (x ∷ xs) s none =
    let i = length xs in
    let was = s.fed i (omega arith) in
    absurd (omega (arith, none, was.count, count_after-some (ticks_at params.media params.n (x ∷ xs)) i))

-- no tick comes up to it
no-tick : (params : Params) (b : Bucket) (at : ℕ) (was : Before params b at) → at < b.next.due
    → passed_by params.drain b.origin b.last + 0 ≡ passed_by params.drain b.origin at
no-tick params b at was early =
    let line = params.drain in
    let total = passed_by line b.origin was.stood in
    let high = ahead line.num line.den b.origin total b.next.due b.next.slack at (omega (arith, line.some, line.slow)) was.stands early in
    omega (arith, high, so_far line b.origin was.stood b.last was.early, so_far line b.origin b.last at was.order)

-- a packet that comes before the next tick
pub crowded_more : (params : Params) (b c : Bucket) (stamps : List ℕ) (at : ℕ)
    → at < 2 ^ 62
    → StandsFor params b stamps
    → CanFollow b stamps at
    → at < b.next.due
    → Crowded b c at
    → StandsFor params c (stamps ++ at ∷ [])
crowded_more params b c stamps at in_time s f early n =
    let was = before params b stamps at in_time s f in
    let stands : StandsAt params.drain c.next c.origin was.stood =
    subst (λ o. StandsAt params.drain c.next o was.stood) (sym n.origin) (subst (λ k. StandsAt params.drain k b.origin was.stood) (sym n.next) was.stands) in
    fed_more params b c stamps at 0 was.stood s f (no-tick params b at was early) (record {
      origin = n.origin;
      count = omega (arith, n.count);
      fresh = λ one. n.begin ∙ begin-fresh params b stamps s (omega (arith, one, n.count));
      kept = λ _. n.begin;
      seen = n.seen;
      peak = n.peak;
    }) n.last (omega (arith, was.early, was.order)) stands
