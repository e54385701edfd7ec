-- A shaper stands for one packet more after it is fed.
use Rattle.std.proofs.Common.{◌≡◌, ◌≢◌, ◌≤◌, ◌<◌, ◌+◌, ◌-◌, ◌^◌, ◌↔◌, ℕ, ℤ, List, [], ◌∷◌, ◌++◌, length, slice_index, Some, None, refl, ap, subst, ◌∙◌, sym}
use Rattle.std.proofs.Common.{inl, inr, arith, length-append}
use Rattle.std.proofs.lemmas.Bool.{cases_lt}
use Rattle.fraction128.specs.Clocks.{StandsAt}
use Rattle.timing_base.specs.declared.media.Kind.{Kind}
use Rattle.sender_params.specs.Limits.{c_max_of, gapped_of, vrx_full_of}
use Rattle.sender_params.specs.Reads.{anchor_of}
use Rattle.sender_params.specs.Ticks.{NeverFall}
use Rattle.sender_params.specs.declared.params.Params.{Params}
use Rattle.sender_params.proofs.Ticks.{ticks_of-rises}
use Rattle.read_schedule.specs.Stands.{IsNextAfter, StandsBy}
use Rattle.read_schedule.specs.declared.schedule.NextRead.{NextRead}
use Rattle.read_schedule.specs.declared.schedule.Schedule.{Schedule}
use Rattle.flow_shaper.specs.Bounds.{BoundAt, IsBound}
use Rattle.flow_shaper.specs.Choice.{Chooses, HaveStarted, HavePassed}
use Rattle.flow_shaper.specs.Plan.{IsLeast, IsPlan, Models, Shaped, models_of}
use Rattle.flow_shaper.specs.Stands.{CanFollow, HasLooked, IsAfter, IsCount, NoneInTime, StandsFor}
use Rattle.flow_shaper.specs.declared.departure.Bound.{Bound}
use Rattle.flow_shaper.specs.declared.departure.Bound.TheVariants.{Arrival, Order}
use Rattle.flow_shaper.specs.declared.departure.Departure.{Departure}
use Rattle.flow_shaper.specs.declared.meters.Meters.{Meters}
use Rattle.flow_shaper.specs.declared.shaper.Shaper.{Shaper}
use Rattle.flow_shaper.proofs.Buffers.{due-below, held-free, held-room, number-most}
use Rattle.flow_shaper.proofs.Counts.{count-append, count-first, count-most}
use Rattle.flow_shaper.proofs.Greedy.{Rises, Serves, least-append, least-none, plan-serves}
use Rattle.flow_shaper.proofs.Limits.{c_max-some, tick-due, tick-one, ticks-are, vrx_full-some}
use Rattle.flow_shaper.proofs.Next.{AreReady, bound-is, order-never, serves-least, serves-when, waits-next}
use Rattle.flow_shaper.proofs.Seams.{before, falls-append, last, seam}

-- what `next` says
pub record Answers (params : Params) (s : Shaper) (a : ℕ) (d : Departure) : Type 0 where
  pub first : s.meters ≡ None → (d.at ≡ a) × (d.bound ≡ Arrival)
  pub later : (meters : Meters) → s.meters ≡ Some meters
      → Chooses meters (c_max_of params.media params.n s.kind) (vrx_full_of params.media params.n s.kind) s.seen a d

-- what `pass` says
pub record Moves (params : Params) (s t : Shaper) (at : ℕ) : Type 0 where
  pub kind : t.kind ≡ s.kind
  pub n0 : t.n0 ≡ s.n0
  pub origin : t.origin ≡ s.origin
  pub end : t.end ≡ s.end
  pub seen : t.seen ≡ s.seen + 1
  pub late : t.late ≡ s.late
  pub first : s.meters ≡ None
      → (meters : Meters) × (t.meters ≡ Some meters) × HaveStarted params s.kind s.n0 at meters
  pub later : (old : Meters) → s.meters ≡ Some old
      → (meters : Meters) × (t.meters ≡ Some meters) × HavePassed params (vrx_full_of params.media params.n s.kind) old meters s.seen at

-- the flow's models
abbrev models : Params → Shaper → Models
models params s = models_of params.media params.n s.kind s.origin

-- the ticks never become fewer
pub rises : (params : Params) (kind : Kind) (a0 : ℕ) → Rises (models_of params.media params.n kind a0)
rises params kind a0 = ticks_of-rises params.media params.n a0

-- what the meters say, by the models
pub ready : (params : Params) (s : Shaper) (m : Meters) (arrivals departures : List ℕ) (i : ℕ)
    → StandsFor params s arrivals departures
    → IsAfter params s.kind s.n0 s.origin m arrivals departures i
    → length arrivals ≡ i + 1
    → AreReady (models params s) m arrivals departures i
ready params s m arrivals departures i st a size =
    let w = models params s in
    let media = params.media in
    let n = params.n in
    let g = gapped_of s.kind in
    let d = slice_index departures i in
    let least : IsLeast w arrivals departures = subst (λ o. IsLeast (models_of media n s.kind o) arrivals departures) a.first st.shaped in
    let left : length departures ≡ i + 1 = least.plan.each ∙ size in
    let stands : StandsAt params.drain m.tick s.origin d = subst (λ x. StandsAt params.drain m.tick s.origin x) a.last a.tick in
    let at_last : m.read.number + w.vrx_full ≤ i + 1 → IsNextAfter media n s.n0 g d m.read =
    λ waits. subst (λ x. IsNextAfter media n s.n0 g x m.read) (a.read.lately waits ∙ a.last) a.read.read in
    let looked : IsNextAfter media n (anchor_of media s.origin) g a.read.looked m.read =
    subst (λ (z : ℤ). IsNextAfter media n z g a.read.looked m.read) st.anchor a.read.read in
    let low : d < 2 ^ 62 = omega (arith, st.in_time i (omega (arith, left)), s.ends) in
    let few : i < length departures = omega (arith, left) in
    record {
      least = least;
      came = size;
      left = left;
      rises = rises params s.kind s.origin;
      falls = λ j order. least.plan.ordered j i order few;
      last = a.last;
      count = a.count;
      within = count-most w arrivals departures i m.count m.begin least.plan a.count few;
      some = c_max-some media n s.kind params.media_is;
      tick = λ t. tick-due params m.tick s.origin d t stands;
      tick_one = tick-one params m.tick s.origin d stands;
      room = λ t order small. elim (cases_lt (i + 1) (m.read.number + w.vrx_full))
          as (λ _. (w.held (i + 1) t ≤ w.vrx_full) ↔ (m.read.number + w.vrx_full ≤ i + 1 → m.read.at ≤ t)) [
            | inl free ↦ (
              λ _ waits. absurd (omega (arith, free, waits)),
              λ _. held-free media n s.kind s.origin (i + 1) a.read.looked t w.vrx_full m.read params.media_is params.n_some looked
                  (omega (arith, a.read.order, a.last, order)) free,
            )
            | inr waits ↦
                let after : IsNextAfter media n (anchor_of media s.origin) g d m.read =
                subst (λ (z : ℤ). IsNextAfter media n z g d m.read) st.anchor (at_last waits) in
                held-room media n s.kind s.origin i d t w.vrx_full m.read params.media_is params.n_some after (least.plan.buffer i few) order small
          ];
      ahead = λ waits. elim (cases_lt d m.read.at) as (λ _. d < m.read.at) [
        | inl before ↦ before
        | inr come ↦
            let none = due-below media n s.n0 g d m.read.number m.read.number (at_last waits).count (((at_last waits).due d low).1 come) in
            absurd (omega (arith, none))
      ];
      waits = a.waits;
    }

-- the next packet comes no earlier than those before it
follows : (s : Shaper) (arrivals : List ℕ) (a i : ℕ) → NeverFall arrivals → CanFollow s arrivals a → i < length arrivals → slice_index arrivals i ≤ a
follows s arrivals a i falls can few =
    let k = length arrivals - 1 in
    let size : length arrivals ≡ k + 1 = omega (arith, few) in
    omega (arith, falls i k (omega (arith, few)) (omega (arith, few)), can.later k size)

-- a later packet's own numbers
pub after-later : (params : Params) (s : Shaper) (old new : Meters) (arrivals departures : List ℕ) (i a : ℕ) (d : Departure)
    → StandsFor params s arrivals departures
    → IsAfter params s.kind s.n0 s.origin old arrivals departures i
    → length arrivals ≡ i + 1
    → slice_index arrivals i ≤ a
    → Chooses old (models params s).c_max (models params s).vrx_full (i + 1) a d
    → d.at < s.end
    → HavePassed params (models params s).vrx_full old new s.seen d.at
    → IsAfter params s.kind s.n0 s.origin new (arrivals ++ a ∷ []) (departures ++ d.at ∷ []) (i + 1)
after-later params s old new arrivals departures i a d st was size came h in_time p =
    let w = models params s in
    let media = params.media in
    let n = params.n in
    let g = gapped_of s.kind in
    let r = ready params s old arrivals departures i st was size in
    let low : d.at < 2 ^ 62 = omega (arith, in_time, s.ends) in
    let here : slice_index (departures ++ d.at ∷ []) (i + 1) ≡ d.at = last departures d.at (i + 1) (sym r.left) in
    let there : slice_index (arrivals ++ a ∷ []) (i + 1) ≡ a = last arrivals a (i + 1) (sym size) in
    let drained = p.bucket s.origin old.last h.order was.tick in
    let ticks : w.ticks (slice_index departures i) + drained.drained ≡ w.ticks d.at =
    omega (arith, drained.ticks, ticks-are params s.origin old.last, ticks-are params s.origin d.at, ap w.ticks was.last) in
    let x = was.read in
    let order : x.looked ≤ d.at = omega (arith, x.order, h.order) in
    let number : old.read.number + w.vrx_full ≤ i + 1 → d.at ≡ old.read.at → new.read.number ≤ old.read.number + 1 =
    λ waits e.
    let exact = subst (λ y. IsNextAfter media n s.n0 g y old.read) (x.lately waits) x.read in
    let read = p.read (omega (arith, waits, st.seen, size)) media n s.n0 g x.looked order x.reads in
    number-most media n s.n0 g old.last d.at old.read new.read exact read low (omega (arith, e, r.ahead waits)) (omega (arith, e)) in
    record {
      first = before arrivals a 0 (omega (arith, size)) ∙ was.first;
      last = p.last ∙ sym here;
      count = count-append w departures i old.count old.begin d.at drained.drained new.count new.begin r.rises was.count r.left r.falls ticks drained.count
          (λ one. drained.fresh one ∙ st.seen ∙ size) drained.kept;
      tick = subst (λ x. StandsAt params.drain new.tick s.origin x) (sym p.last) drained.tick;
      read = elim (cases_lt (s.seen + 1) (old.read.number + w.vrx_full)) as (λ _. HasLooked media n s.n0 g w.vrx_full new (i + 1 + 1)) [
        | inl free ↦
            let same = p.room free in
            record {
              looked = x.looked;
              order = omega (arith, order, p.last);
              read = subst (λ (y : NextRead). IsNextAfter media n s.n0 g x.looked y) (sym same.0) x.read;
              reads = subst (λ (y : Schedule). StandsBy media n s.n0 g y x.looked) (sym same.1) x.reads;
              lately = λ waits. absurd (omega (arith, waits, ap (λ (y : NextRead). y.number) same.0, free, st.seen, size));
            }
        | inr waits ↦ record {
          looked = d.at;
          order = omega (arith, p.last);
          read = p.read waits media n s.n0 g x.looked order x.reads;
          reads = p.reads waits media n s.n0 g x.looked order x.reads;
          lately = λ _. sym p.last;
        }
      ];
      waits = λ delayed. waits-next w old arrivals departures i a d.at drained.drained new.count new.read.number d.bound r came h.bucket h.buffer h.chosen ticks
          drained.count number (omega (arith, delayed, here, there));
    }

-- the least plan of one packet more
pub least-later : (params : Params) (s : Shaper) (m : Meters) (arrivals departures : List ℕ) (i a : ℕ) (d : Departure)
    → StandsFor params s arrivals departures
    → IsAfter params s.kind s.n0 s.origin m arrivals departures i
    → length arrivals ≡ i + 1
    → Chooses m (models params s).c_max (models params s).vrx_full (i + 1) a d
    → d.at < s.end
    → IsLeast (models params s) (arrivals ++ a ∷ []) (departures ++ d.at ∷ [])
least-later params s m arrivals departures i a d st was size h in_time =
    let w = models params s in
    let r = ready params s m arrivals departures i st was size in
    let low : d.at < 2 ^ 62 = omega (arith, in_time, s.ends) in
    least-append w arrivals departures a d.at r.rises r.least
    (serves-when w m arrivals departures i a d.at r h.arrival h.order h.bucket h.buffer low)
    (λ e may. elim (cases_lt e (2 ^ 62)) as (λ _. d.at ≤ e) [
      | inl small ↦ serves-least w m arrivals departures i a e d r h may small
      | inr large ↦ omega (arith, low, large)
    ])

-- after a packet that isn't the first the shaper stands for one more
pub stands-later : (params : Params) (s t : Shaper) (old new : Meters) (arrivals departures : List ℕ) (i a : ℕ) (d : Departure)
    → StandsFor params s arrivals departures
    → IsAfter params s.kind s.n0 s.origin old arrivals departures i
    → length arrivals ≡ i + 1
    → CanFollow s arrivals a
    → Chooses old (models params s).c_max (models params s).vrx_full (i + 1) a d
    → d.at < s.end
    → Moves params s t d.at
    → t.meters ≡ Some new
    → HavePassed params (models params s).vrx_full old new s.seen d.at
    → StandsFor params t (arrivals ++ a ∷ []) (departures ++ d.at ∷ [])
stands-later params s t old new arrivals departures i a d st was size can h in_time move is p =
    let news = arrivals ++ a ∷ [] in
    let outs = departures ++ d.at ∷ [] in
    let long : length news ≡ length arrivals + 1 = length-append arrivals (a ∷ []) in
    let least = least-later params s old arrivals departures i a d st was size h in_time in
    let first : slice_index news 0 ≡ s.origin = before arrivals a 0 (omega (arith, size)) ∙ was.first in
    let shaped : Shaped params.media params.n s.kind news outs = subst (λ o. IsLeast (models_of params.media params.n s.kind o) news outs) (sym first) least in
    let after = after-later params s old new arrivals departures i a d st was size (can.later i size) h in_time p in
    let kind_is = subst (λ (k : Kind). IsAfter params k s.n0 s.origin new news outs (i + 1)) (sym move.kind) after in
    let n0_is = subst (λ (z : ℤ). IsAfter params t.kind z s.origin new news outs (i + 1)) (sym move.n0) kind_is in
    let all = subst (λ o. IsAfter params t.kind t.n0 o new news outs (i + 1)) (sym move.origin) n0_is in
    record {
      ordered = falls-append arrivals a st.ordered (λ k few. follows s arrivals a k st.ordered can few);
      shaped = subst (λ (k : Kind). Shaped params.media params.n k news outs) (sym move.kind) shaped;
      in_time = λ k few. elim (seam departures d.at k few) as (λ _. slice_index outs k < t.end) [
        | inl early ↦ omega (arith, early.1, st.in_time k early.0, move.end)
        | inr late ↦ omega (arith, late.1, in_time, move.end)
      ];
      seen = omega (arith, move.seen, st.seen, long);
      anchor = move.n0 ∙ st.anchor ∙ ap (anchor_of params.media) (sym move.origin);
      going = move.late ∙ st.going;
      fresh = λ none. absurd (omega (arith, none, long));
      fed = λ k len.
          let same : k ≡ i + 1 = omega (arith, len, long, size) in (
            new,
            is,
            subst (λ j. IsAfter params t.kind t.n0 t.origin new news outs j) (sym same) all,
          );
    }

-- the only packet leaves when it comes
pub least-first : (params : Params) (kind : Kind) (a0 a : ℕ) → IsLeast (models_of params.media params.n kind a0) (a ∷ []) (a ∷ [])
least-first params kind a0 a =
    let w = models_of params.media params.n kind a0 in
    let full = vrx_full-some params.media params.n kind in
    let may : Serves w [] a a = record {
      after = omega arith;
      order = λ j few. absurd (omega (arith, few));
      bucket = λ j few. absurd (omega (arith, few));
      alone = c_max-some params.media params.n kind params.media_is;
      buffer = omega (arith, full);
    } in
    least-append w [] [] a a (rises params kind a0) (least-none w) may (λ e s. s.after)

-- after the first packet the shaper stands for it
pub stands-first : (params : Params) (s t : Shaper) (new : Meters) (a d : ℕ)
    → StandsFor params s [] []
    → a ≡ s.origin
    → a < s.end
    → Moves params s t d
    → t.meters ≡ Some new
    → HaveStarted params s.kind s.n0 a new
    → StandsFor params t (a ∷ []) (a ∷ [])
stands-first params s t new a d st first in_time move is p =
    let only : a ∷ [] ≡ [] ++ a ∷ [] = refl in
    let w = models params s in
    let after : IsAfter params s.kind s.n0 s.origin new (a ∷ []) (a ∷ []) 0 = record {
      first = first;
      last = p.last;
      count = subst (λ b. IsCount w (a ∷ []) 0 new.count b) (sym p.begin) (subst (λ c. IsCount w (a ∷ []) 0 c 0) (sym p.count) (count-first w a));
      tick = subst (λ x. StandsAt params.drain new.tick s.origin x) (sym p.last) (subst (λ o. StandsAt params.drain new.tick o a) first p.tick);
      read = record { looked = a; order = omega (arith, p.last); read = p.read; reads = p.reads; lately = λ _. sym p.last };
      waits = λ delayed. absurd (omega (arith, delayed));
    } in
    let kind_is = subst (λ (k : Kind). IsAfter params k s.n0 s.origin new (a ∷ []) (a ∷ []) 0) (sym move.kind) after in
    let n0_is = subst (λ (z : ℤ). IsAfter params t.kind z s.origin new (a ∷ []) (a ∷ []) 0) (sym move.n0) kind_is in
    let all = subst (λ o. IsAfter params t.kind t.n0 o new (a ∷ []) (a ∷ []) 0) (sym move.origin) n0_is in
    record {
      ordered = falls-append [] a st.ordered (λ k few. absurd (omega (arith, few)));
      shaped = least-first params t.kind a a;
      in_time = λ k few. elim (seam [] a k few) as (λ _. slice_index (a ∷ []) k < t.end) [
        | inl early ↦ absurd (omega (arith, early.0))
        | inr late ↦ omega (arith, late.1, in_time, move.end)
      ];
      seen = omega (arith, move.seen, st.seen);
      anchor = move.n0 ∙ st.anchor ∙ ap (anchor_of params.media) (sym move.origin);
      going = move.late ∙ st.going;
      fresh = λ none. absurd (omega (arith, none));
      fed = λ k len.
          let same : k ≡ 0 = omega (arith, len) in (
            new,
            is,
            subst (λ j. IsAfter params t.kind t.n0 t.origin new (a ∷ []) (a ∷ []) j) (sym same) all,
          );
    }

-- the choice, where the packet's number is the list's length
chooses : (params : Params) (s : Shaper) (m : Meters) (arrivals departures : List ℕ) (i a : ℕ) (d : Departure)
    → StandsFor params s arrivals departures
    → length arrivals ≡ i + 1
    → s.meters ≡ Some m
    → Answers params s a d
    → Chooses m (models params s).c_max (models params s).vrx_full (i + 1) a d
chooses params s m arrivals departures i a d st size is answers =
    subst (λ k. Chooses m (c_max_of params.media params.n s.kind) (vrx_full_of params.media params.n s.kind) k a d) (st.seen ∙ size) (answers.later m is)

-- after a packet that left in time the shaper stands for one more
pub stands-next : (params : Params) (s t : Shaper) (arrivals departures : List ℕ) (a : ℕ) (d : Departure)
    → StandsFor params s arrivals departures
    → CanFollow s arrivals a
    → a < s.end
    → Answers params s a d
    → d.at < s.end
    → Moves params s t d.at
    → StandsFor params t (arrivals ++ a ∷ []) (departures ++ d.at ∷ [])
stands-next params s t [] [] a d st can came answers in_time move =
    let none = st.fresh refl in
    let same = (answers.first none).0 in
    let now = move.first none in
    let start : HaveStarted params s.kind s.n0 a now.0 = subst (λ x. HaveStarted params s.kind s.n0 x now.0) same now.2 in
    subst (λ x. StandsFor params t (a ∷ []) (x ∷ [])) (sym same) (stands-first params s t now.0 a d.at st (can.first refl) came move now.1 start)
stands-next params s t [] (y ∷ ys) a d st can came answers in_time move = absurd (omega (arith, st.shaped.plan.each))
stands-next params s t (x ∷ xs) departures a d st can came answers in_time move =
    let i = length xs in
    let size : length (x ∷ xs) ≡ i + 1 = omega arith in
    let was = st.fed i size in
    let now = move.later was.0 was.1 in
    let h = chooses params s was.0 (x ∷ xs) departures i a d st size was.1 answers in
    stands-later params s t was.0 now.0 (x ∷ xs) departures i a d st was.2 size can h in_time move now.1 now.2

-- what holds the packet back
pub bound-next : (params : Params) (s : Shaper) (arrivals departures : List ℕ) (a : ℕ) (d : Departure)
    → StandsFor params s arrivals departures
    → CanFollow s arrivals a
    → Answers params s a d
    → d.at < s.end
    → BoundAt params.media params.n s.kind (arrivals ++ a ∷ []) (departures ++ d.at ∷ []) (length arrivals) d.bound
bound-next params s [] [] a d st can answers in_time =
    let first = answers.first (st.fresh refl) in
    subst (λ (b : Bound). IsBound (models_of params.media params.n s.kind a) (a ∷ []) (d.at ∷ []) 0 b) (sym first.1) first.0
bound-next params s [] (y ∷ ys) a d st can answers in_time = absurd (omega (arith, st.shaped.plan.each))
bound-next params s (x ∷ xs) departures a d st can answers in_time =
    let arrivals = x ∷ xs in
    let news = arrivals ++ a ∷ [] in
    let outs = departures ++ d.at ∷ [] in
    let i = length xs in
    let size : length arrivals ≡ i + 1 = omega arith in
    let was = st.fed i size in
    let h = chooses params s was.0 arrivals departures i a d st size was.1 answers in
    let r = ready params s was.0 arrivals departures i st was.2 size in
    let low : d.at < 2 ^ 62 = omega (arith, in_time, s.ends) in
    let bound = bound-is (models params s) was.0 arrivals departures i a d.at d.bound r (can.later i size) h.arrival h.order h.bucket h.buffer low h.chosen in
    let placed = subst (λ k. IsBound (models params s) news outs k d.bound) (sym size) bound in
    let first : slice_index news 0 ≡ s.origin = before arrivals a 0 (omega arith) ∙ was.2.first in
    subst (λ o. IsBound (models_of params.media params.n s.kind o) news outs (length arrivals) d.bound) (sym first) placed

-- order alone never does
pub never-order : (params : Params) (s : Shaper) (arrivals departures : List ℕ) (a : ℕ) (d : Departure)
    → StandsFor params s arrivals departures
    → CanFollow s arrivals a
    → Answers params s a d
    → d.bound ≢ Order
never-order params s [] departures a d st can answers = λ is. let e = (answers.first (st.fresh refl)).1 in absurd (cc)
never-order params s (x ∷ xs) departures a d st can answers =
    let arrivals = x ∷ xs in
    let i = length xs in
    let size : length arrivals ≡ i + 1 = omega arith in
    let was = st.fed i size in
    let h = chooses params s was.0 arrivals departures i a d st size was.1 answers in
    let r = ready params s was.0 arrivals departures i st was.2 size in
    order-never (models params s) was.0 arrivals departures i a d.at d.bound r (can.later i size) h.arrival h.bucket h.buffer h.chosen

-- where it would leave at the end or later it does so in each plan
pub none_in_time : (params : Params) (s : Shaper) (arrivals departures : List ℕ) (a : ℕ) (d : Departure)
    → StandsFor params s arrivals departures
    → CanFollow s arrivals a
    → a < s.end
    → Answers params s a d
    → s.end ≤ d.at
    → NoneInTime params s (arrivals ++ a ∷ []) (length arrivals)
none_in_time params s [] departures a d st can came answers late =
    absurd (omega (arith, (answers.first (st.fresh refl)).0, came, late))
none_in_time params s (x ∷ xs) departures a d st can came answers late = λ others plan.
    let arrivals = x ∷ xs in
    let news = arrivals ++ a ∷ [] in
    let i = length xs in
    let size : length arrivals ≡ i + 1 = omega arith in
    let was = st.fed i size in
    let h = chooses params s was.0 arrivals departures i a d st size was.1 answers in
    let r = ready params s was.0 arrivals departures i st was.2 size in
    let w = models params s in
    let first : slice_index news 0 ≡ s.origin = before arrivals a 0 (omega arith) ∙ was.2.first in
    let p = subst (λ o. IsPlan (models_of params.media params.n s.kind o) news others) first plan in
    let e = slice_index others (length arrivals) in
    let may = plan-serves w arrivals departures others a r.rises r.least p in
    elim (cases_lt e s.end) as (λ _. s.end ≤ e) [
      | inl early ↦ absurd (omega (arith, serves-least w was.0 arrivals departures i a e d r h may (omega (arith, early, s.ends)), early, late))
      | inr after ↦ after
    ]
