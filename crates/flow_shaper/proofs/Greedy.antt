-- The plan that is least at each packet is made packet by packet: each leaves as early as it can after those before it.
use Rattle.std.proofs.Common.{◌≡◌, ◌≤◌, ◌<◌, ◌+◌, ℕ, List, [], ◌∷◌, ◌++◌, length, slice_index, take, ap, inl, inr, arith, length-append}
use Rattle.std.proofs.lemmas.List.{get_or-take, length-take-le}
use Rattle.flow_shaper.specs.Plan.{IsLeast, IsPlan, Models, load}
use Rattle.flow_shaper.proofs.Seams.{before, falls-append, last, seam}

-- ticks never become fewer
abbrev pub Rises : Models → Type 0
Rises w = (a b : ℕ) → a ≤ b → w.ticks a ≤ w.ticks b

-- after these departures the next packet, which came at a, may leave at d
pub record Serves (w : Models) (departures : List ℕ) (a d : ℕ) : Type 0 where
  pub after : a ≤ d
  pub order : (j : ℕ) → j < length departures → slice_index departures j ≤ d
  pub bucket : (j : ℕ) → j < length departures → load w departures j (length departures) d ≤ w.c_max
  pub alone : 1 ≤ w.c_max
  pub buffer : w.held (length departures) d ≤ w.vrx_full

-- with one such packet more a plan is one
pub plan-append : (w : Models) (arrivals departures : List ℕ) (a d : ℕ)
    → IsPlan w arrivals departures
    → Serves w departures a d
    → IsPlan w (arrivals ++ a ∷ []) (departures ++ d ∷ [])
plan-append w arrivals departures a d p s =
    let olds = departures ++ d ∷ [] in
    let news = arrivals ++ a ∷ [] in
    record {
      each = omega (arith, length-append arrivals (a ∷ []), length-append departures (d ∷ []), p.each);
      after = λ i few. elim (seam arrivals a i few) as (λ _. slice_index news i ≤ slice_index olds i) [
        | inl early ↦ omega (arith, early.1, before departures d i (omega (arith, early.0, p.each)), p.after i early.0)
        | inr late ↦ omega (arith, late.1, last departures d i (omega (arith, late.0, p.each)), s.after)
      ];
      ordered = falls-append departures d p.ordered s.order;
      bucket = λ j i order few. elim (seam departures d i few) as (λ _. load w olds j i (slice_index olds i) ≤ w.c_max) [
        | inl early ↦
            omega (arith, p.bucket j i order early.0, ap w.ticks early.1, ap w.ticks (before departures d j (omega (arith, order, early.0))))
        | inr late ↦ elim (seam departures d j (omega (arith, order, few))) as (λ _. load w olds j i (slice_index olds i) ≤ w.c_max) [
          | inl sooner ↦ omega (arith, s.bucket j sooner.0, late.0, ap w.ticks late.1, ap w.ticks sooner.1)
          | inr same ↦ omega (arith, s.alone, late.0, same.0, ap w.ticks late.1, ap w.ticks same.1)
        ]
      ];
      buffer = λ i few. elim (seam departures d i few) as (λ _. w.held i (slice_index olds i) ≤ w.vrx_full) [
        | inl early ↦ omega (arith, ap (w.held i) early.1, p.buffer i early.0)
        | inr late ↦ omega (arith, ap (w.held i) late.1, ap (λ k. w.held k d) late.0, s.buffer)
      ];
    }

-- without its last packet a plan is one
pub plan-take : (w : Models) (arrivals others : List ℕ) (a : ℕ)
    → IsPlan w (arrivals ++ a ∷ []) others
    → IsPlan w arrivals (take (length arrivals) others)
plan-take w arrivals others a p =
    let n = length arrivals in
    let long : length others ≡ n + 1 = omega (arith, p.each, length-append arrivals (a ∷ [])) in
    let size : length (take n others) ≡ n = length-take-le n others (omega (arith, long)) in
    let same = λ (k : ℕ) (few : k < n). get_or-take n others k 0 few in
    record {
      each = size;
      after = λ i few. omega (arith, same i few, before arrivals a i few, p.after i (omega (arith, few, length-append arrivals (a ∷ []))));
      ordered = λ j i order few.
          omega (arith, same i (omega (arith, few, size)), same j (omega (arith, order, few, size)), p.ordered j i order (omega (arith, few, size, long)));
      bucket = λ j i order few.
          omega (
            arith,
            ap w.ticks (same i (omega (arith, few, size))),
            ap w.ticks (same j (omega (arith, order, few, size))),
            p.bucket j i order (omega (arith, few, size, long)),
          );
      buffer = λ i few. omega (arith, ap (w.held i) (same i (omega (arith, few, size))), p.buffer i (omega (arith, few, size, long)));
    }

-- earlier departures of the packets before it never make a packet leave later: in each plan the next one leaves when it
-- may after the least departures
pub plan-serves : (w : Models) (arrivals departures others : List ℕ) (a : ℕ)
    → Rises w
    → IsLeast w arrivals departures
    → IsPlan w (arrivals ++ a ∷ []) others
    → Serves w departures a (slice_index others (length arrivals))
plan-serves w arrivals departures others a rises s p =
    let n = length arrivals in
    let e = slice_index others n in
    let long : length others ≡ n + 1 = omega (arith, p.each, length-append arrivals (a ∷ [])) in
    let size : length departures ≡ n = s.plan.each in
    let rest = plan-take w arrivals others a p in
    let least : (j : ℕ) → j < n → slice_index departures j ≤ slice_index others j =
    λ j few. omega (arith, s.least (take n others) rest j few, get_or-take n others j 0 few) in
    record {
      after = omega (arith, last arrivals a n (omega arith), p.after n (omega (arith, length-append arrivals (a ∷ []))));
      order = λ j few. omega (arith, least j (omega (arith, few, size)), p.ordered j n (omega (arith, few, size)) (omega (arith, long)));
      bucket = λ j few.
          omega (
            arith,
            size,
            rises (slice_index departures j) (slice_index others j) (least j (omega (arith, few, size))),
            p.bucket j n (omega (arith, few, size)) (omega (arith, long)),
          );
      alone = omega (arith, p.bucket n n (omega arith) (omega (arith, long)));
      buffer = omega (arith, ap (λ k. w.held k e) size, p.buffer n (omega (arith, long)));
    }

-- with the earliest of them the least plan is one
pub least-append : (w : Models) (arrivals departures : List ℕ) (a d : ℕ)
    → Rises w
    → IsLeast w arrivals departures
    → Serves w departures a d
    → ((e : ℕ) → Serves w departures a e → d ≤ e)
    → IsLeast w (arrivals ++ a ∷ []) (departures ++ d ∷ [])
least-append w arrivals departures a d rises s may earliest = record {
  plan = plan-append w arrivals departures a d s.plan may;
  least = λ others p i few. elim (seam arrivals a i few) as (λ _. slice_index (departures ++ d ∷ []) i ≤ slice_index others i) [
    | inl early ↦
        omega (
          arith,
          before departures d i (omega (arith, early.0, s.plan.each)),
          s.least (take (length arrivals) others) (plan-take w arrivals others a p) i early.0,
          get_or-take (length arrivals) others i 0 early.0,
        )
    | inr late ↦
        omega (
          arith,
          last departures d i (omega (arith, late.0, s.plan.each)),
          earliest (slice_index others (length arrivals)) (plan-serves w arrivals departures others a rises s p),
          ap (slice_index others) late.0,
        )
  ];
}

-- no packets have the empty plan
pub least-none : (w : Models) → IsLeast w [] []
least-none w = record {
  plan = record {
    each = omega arith;
    after = λ i few. absurd (omega (arith, few));
    ordered = λ j i order few. absurd (omega (arith, few));
    bucket = λ j i order few. absurd (omega (arith, few));
    buffer = λ i few. absurd (omega (arith, few));
  };
  least = λ others p i few. absurd (omega (arith, few));
}
