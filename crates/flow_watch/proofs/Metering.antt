-- A `WatchMeter` takes one packet more, which may be the last one of its frame or field.
use Rattle.std.proofs.Common.{◌≡◌, ◌<◌, ◌≤◌, ◌-◌, ◌+◌, ◌*◌, ◌/◌, ◌^◌, ◌++◌, ◌∷◌, ℕ, zero, suc, List, [], length, slice_index}
use Rattle.std.proofs.Common.{◌∙◌, add-one, ap, refl, sym, subst, arith, append_assoc, length-append}
use Rattle.std.proofs.Math.Nat.{suc-mul}
use Rattle.std.proofs.lemmas.Nat.{div-add-mod'}
use Rattle.timing_base.specs.Judged.{stamp_of}
use Rattle.timing_base.specs.Media.{IsMedia, Media}
use Rattle.timing_base.specs.Shifts.{Shift}
use Rattle.timing_base.specs.declared.media.Kind.{Kind}
use Rattle.timing_base.specs.declared.media.Kind.TheVariants.{N, NL, W}
use Rattle.timing_base.specs.declared.packet.FlowPacket.{FlowPacket}
use Rattle.run_meter.specs.Levels.{IsLevel}
use Rattle.run_meter.specs.Runs.{RunOf, is_broken, stamps_of}
use Rattle.run_meter.specs.declared.level.Level.{Level}
use Rattle.flow_measure.specs.Broken.{broken_groups}
use Rattle.flow_measure.specs.declared.group_walk.GroupWalk.{GroupWalk}
use Rattle.flow_measure.proofs.Judging.{stamps-long, stamps-more}
use Rattle.flow_watch.specs.Stretches.{ArePeaks, IsStretch}
use Rattle.flow_watch.specs.making.Meters.{AreGroups, CountsType, StandsFor}
use Rattle.flow_watch.specs.making.Takes.{CountsFor, EndsGroup, TakesLevel}
use Rattle.flow_watch.specs.declared.broken.TypeMeter.{TypeMeter}
use Rattle.flow_watch.specs.declared.meter.WatchMeter.{WatchMeter}
use Rattle.flow_watch.proofs.Feeding.{counts-more, counts-over, groups-after, groups-more, peaks-more, peaks-one}

-- the place of the next packet
pub walk-parts : (w : GroupWalk) → w.group * w.n + w.place ≡ w.seen
walk-parts w =
    let split = div-add-mod' w.seen w.n in
    let front : w.group * w.n ≡ w.seen / w.n * w.n = ap (λ k. k * w.n) w.group_is in
    omega (arith, split, front, w.place_is)

-- ---- one packet more

-- the meter took all these packets, and the last one belongs to this frame or field, which may end with it
pub record IsFedWith (m : Media) (shift : Shift) (r : RunOf) (x : WatchMeter) (group : ℕ) (all committed : List FlowPacket) : Type 0 where
  pub run_is : x.run ≡ r.number
  pub narrow_is : CountsType m r.n (stamps_of shift all) N group x.narrow
  pub narrow_linear_is : CountsType m r.n (stamps_of shift all) NL group x.narrow_linear
  pub wide_is : CountsType m r.n (stamps_of shift all) W group x.wide
  pub peaks_are : ArePeaks m r.n (stamps_of shift all) (group * r.n) (length all) x.peaks
  pub rest : List FlowPacket
  pub whole : all ≡ committed ++ rest
  pub done : ℕ
  pub committed_are : length committed ≡ done * r.n
  pub kept_are : AreGroups m r.number r.n (stamps_of shift all) done x.kept.items
  pub kept_count : done + length x.kept.items ≡ group

-- the peaks of the frame or field with its first packet, or with one more
peaks-next : (m : Media) (n : ℕ) (stamps : List ℕ) (at group place : ℕ) (level : Level) (old x : WatchMeter) → IsMedia m → 1 ≤ n
    → length stamps < 2 ^ 41 → group * n + place ≡ length stamps → old.walk.place ≡ place
    → IsLevel m n (stamps ++ at ∷ []) (length stamps) level → TakesLevel level old x
    → (0 < place → ArePeaks m n stamps (group * n) (length stamps) old.peaks)
    → ArePeaks m n (stamps ++ at ∷ []) (group * n) (length (stamps ++ at ∷ [])) x.peaks
peaks-next m n stamps at group zero level old x is some few parts same h takes before =
    let all = stamps ++ at ∷ [] in
    let long : length all ≡ length stamps + 1 = length-append stamps (at ∷ []) in
    let begin : length stamps ≡ group * n = omega (arith, parts) in
    let one = peaks-one m n all (length stamps) level x.peaks is some (omega (arith, long)) h (takes.first same) in
    subst (λ to. ArePeaks m n all (group * n) to x.peaks) (sym long)
    (subst (λ from. ArePeaks m n all from (length stamps + 1) x.peaks) begin one)
peaks-next m n stamps at group (suc k) level old x is some few parts same h takes before =
    let later = takes.later (omega (arith, same)) in
    peaks-more m n stamps at (group * n) level old.peaks later.0 x.peaks is some (omega (arith, parts)) few h later.1 later.2 (before (omega arith))

-- the meter with one packet more, before it passes to the next place
pub fed-with : (m : Media) (shift : Shift) (r : RunOf) (old x : WatchMeter) (fed committed : List FlowPacket) (p : FlowPacket) (level : Level) → IsMedia m
    → 1 ≤ r.n → length fed < 2 ^ 41 → IsLevel m r.n (stamps_of shift (fed ++ p ∷ [])) (length fed) level → TakesLevel level old x
    → StandsFor old m shift r fed committed → IsFedWith m shift r x old.walk.group (fed ++ p ∷ []) committed
fed-with m shift r old x fed committed p level is some few h takes stands =
    let n = r.n in
    let group = old.walk.group in
    let stamps = stamps_of shift fed in
    let at = stamp_of shift p in
    let all = stamps ++ at ∷ [] in
    let more : stamps_of shift (fed ++ p ∷ []) ≡ all = stamps-more shift fed p in
    let long : length stamps ≡ length fed = stamps-long shift fed in
    let level_is : IsLevel m n all (length stamps) level =
    subst (λ k. IsLevel m n all k level) (sym long) (subst (λ l. IsLevel m n l (length fed) level) more h) in
    let size : group * n ≡ group * old.walk.n = ap (λ k. group * k) (sym stands.n_is) in
    let parts : group * n + old.walk.place ≡ length stamps = omega (arith, size, walk-parts old.walk, stands.seen, long) in
    let count : length all ≡ length (fed ++ p ∷ []) = ap length (sym more) ∙ stamps-long shift (fed ++ p ∷ []) in
    let before : 0 < old.walk.place → ArePeaks m n stamps (group * n) (length stamps) old.peaks =
    λ later. subst (λ to. ArePeaks m n stamps (group * n) to old.peaks) (sym long) (stands.peaks_are later)
    in
    let peaks = peaks-next m n stamps at group old.walk.place level old x is some (omega (arith, few, long)) parts refl level_is takes before in
    let kept : AreGroups m r.number n stamps stands.done x.kept.items =
    subst (AreGroups m r.number n stamps stands.done) (sym (ap (λ v. v.items) takes.kept_is)) stands.kept_are in
    let kept_long : length x.kept.items ≡ length old.kept.items = ap (λ v. length v.items) takes.kept_is in
    let kept_count : stands.done + length x.kept.items ≡ group = omega (arith, kept_long, stands.kept_count) in
    let inside : (stands.done + length x.kept.items) * n ≤ length stamps = subst (λ g. g * n ≤ length stamps) (sym kept_count) (omega (arith, parts)) in
    record {
      run_is = takes.run_is ∙ stands.run_is;
      narrow_is = subst (λ l. CountsType m n l N group x.narrow) (sym more)
          (counts-more m n stamps at N group level.bucket level.gapped old.narrow x.narrow is some level_is.bucket level_is.gapped takes.narrow_is
          stands.narrow_is);
      narrow_linear_is = subst (λ l. CountsType m n l NL group x.narrow_linear) (sym more)
          (counts-more m n stamps at NL group level.bucket level.linear old.narrow_linear x.narrow_linear is some level_is.bucket level_is.linear
          takes.narrow_linear_is stands.narrow_linear_is);
      wide_is = subst (λ l. CountsType m n l W group x.wide) (sym more)
          (counts-more m n stamps at W group level.bucket level.linear old.wide x.wide is some level_is.bucket level_is.linear takes.wide_is stands.wide_is);
      peaks_are = subst (λ l. ArePeaks m n l (group * n) (length (fed ++ p ∷ [])) x.peaks) (sym more)
          (subst (λ to. ArePeaks m n all (group * n) to x.peaks) count peaks);
      rest = stands.rest ++ p ∷ [];
      whole = ap (λ l. l ++ p ∷ []) stands.whole ∙ append_assoc committed stands.rest (p ∷ []);
      done = stands.done;
      committed_are = stands.committed_are;
      kept_are = subst (λ l. AreGroups m r.number n l stands.done x.kept.items) (sym more)
          (groups-after m r.number n stamps (at ∷ []) stands.done x.kept.items is some inside kept);
      kept_count = kept_count;
    }

-- ---- the end of a frame or field

-- the count of a type
count-ended : (m : Media) (n : ℕ) (stamps : List ℕ) (kind : Kind) (groups count : ℕ) (x : TypeMeter) → CountsFor x count → CountsType m n stamps kind groups x
    → count ≡ broken_groups n (is_broken m n stamps kind) groups
count-ended m n stamps kind groups count x counts h =
    counts n (is_broken m n stamps kind) (length stamps) h.counts ∙ ap (broken_groups n (is_broken m n stamps kind)) h.whole_is

pub group-ended : (m : Media) (shift : Shift) (r : RunOf) (x y : WatchMeter) (at group : ℕ) (all committed : List FlowPacket)
    → IsFedWith m shift r x group all committed → EndsGroup at x y
    → x.walk.group ≡ group + 1 → x.walk.place ≡ 0 → x.walk.n ≡ r.n → x.walk.seen ≡ length all
    → length all ≡ group * r.n + r.n → at ≡ slice_index (stamps_of shift all) (length all - 1)
    → StandsFor y m shift r all committed
group-ended m shift r x y at group all committed h ends passed first size seen whole last =
    let n = r.n in
    let stamps = stamps_of shift all in
    let long : length stamps ≡ length all = stamps-long shift all in
    let full : length stamps ≡ group * n + n = long ∙ whole in
    let narrow = counts-over m n stamps N group x.narrow y.narrow full ends.narrow_is h.narrow_is in
    let narrow_linear = counts-over m n stamps NL group x.narrow_linear y.narrow_linear full ends.narrow_linear_is h.narrow_linear_is in
    let wide = counts-over m n stamps W group x.wide y.wide full ends.wide_is h.wide_is in
    let passed_y : y.walk.group ≡ group + 1 = ap (λ (w : GroupWalk). w.group) ends.walk_is ∙ passed in
    let s = ends.group in
    let g = ends.group_is in
    let next : (group + 1) * n ≡ group * n + n = let e : suc group * n ≡ group * n + n = suc-mul group n in rw add-one e in
    let end : length all ≡ (group + 1) * n = omega (arith, whole, next) in
    let broken_narrow = count-ended m n stamps N (group + 1) s.broken.narrow y.narrow g.narrow_is narrow in
    let broken_linear = count-ended m n stamps NL (group + 1) s.broken.narrow_linear y.narrow_linear g.narrow_linear_is narrow_linear in
    let broken_wide = count-ended m n stamps W (group + 1) s.broken.wide y.wide g.wide_is wide in
    let is : IsStretch m r.number n stamps group (group + 1) s = record {
      run = g.run_is ∙ ends.run_is ∙ h.run_is;
      from_is = g.from_is ∙ passed_y;
      to_is = g.to_is ∙ passed_y;
      stamp = g.stamp_is ∙ last ∙ ap (λ k. slice_index stamps (k - 1)) end;
      c_max = g.c_max_is ∙ (λ i. record { narrow = narrow.c_max_is i; narrow_linear = narrow_linear.c_max_is i; wide = wide.c_max_is i });
      peaks_are = subst (ArePeaks m n stamps (group * n) ((group + 1) * n)) (sym (g.peaks_is ∙ ends.peaks_is))
          (subst (λ to. ArePeaks m n stamps (group * n) to x.peaks) end h.peaks_are);
      broken = λ i. record { narrow = broken_narrow i; narrow_linear = broken_linear i; wide = broken_wide i };
    } in
    let kept = groups-more m r.number n stamps h.done x.kept.items s h.kept_are
    (subst (λ k. IsStretch m r.number n stamps k (k + 1) s) (sym h.kept_count) is) in
    let kept_long : length y.kept.items ≡ length x.kept.items + 1 = ap length ends.kept_is ∙ length-append x.kept.items (s ∷ []) in
    let y_place : y.walk.place ≡ 0 = ap (λ (w : GroupWalk). w.place) ends.walk_is ∙ first in
    record {
      run_is = ends.run_is ∙ h.run_is;
      n_is = ap (λ (w : GroupWalk). w.n) ends.walk_is ∙ size;
      seen = ap (λ (w : GroupWalk). w.seen) ends.walk_is ∙ seen;
      narrow_is = subst (λ k. CountsType m n stamps N k y.narrow) (sym passed_y) narrow;
      narrow_linear_is = subst (λ k. CountsType m n stamps NL k y.narrow_linear) (sym passed_y) narrow_linear;
      wide_is = subst (λ k. CountsType m n stamps W k y.wide) (sym passed_y) wide;
      peaks_are = λ later. absurd (omega (arith, later, y_place));
      rest = h.rest;
      whole = h.whole;
      done = h.done;
      committed_are = h.committed_are;
      kept_are = subst (AreGroups m r.number n stamps h.done) (sym ends.kept_is) kept;
      kept_count = omega (arith, kept_long, h.kept_count, passed_y);
    }
