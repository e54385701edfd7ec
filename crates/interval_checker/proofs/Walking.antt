-- A walk, one packet on.
use Rattle.std.proofs.Common.{◌≡◌, ◌≤◌, ◌<◌, ◌+◌, ◌-◌, ℕ, Bool, true, false, List, [], ◌∷◌, ◌++◌, length, map, refl, ap, sym, ◌∙◌}
use Rattle.std.proofs.Common.{subst, arith, inl, inr, length-append}
use Rattle.std.specs.Prelude.{Option, Some, None, nat_lt, ◌&&◌}
use Rattle.std.specs.Option.{ForSome}
use Rattle.std.proofs.lemmas.Bool.{cases_lt}
use Rattle.std.proofs.lemmas.Bool.Decides.{nat_tests}
use Rattle.std.proofs.lemmas.List.{length-map, map-append}
use Rattle.timing_base.specs.Shifts.{Shift}
use Rattle.timing_base.specs.Flows.{cuts, fault, has_marker, is_cut, last_place, markers, markers_before, packet, rtp, run_start}
use Rattle.timing_base.specs.Judged.{FlowRun, run_at, run_outcome, runs_between}
use Rattle.timing_base.specs.declared.packet.FlowPacket.{FlowPacket}
use Rattle.timing_base.specs.declared.packet.Rtp.{Rtp}
use Rattle.timing_base.proofs.Between.{runs-cut, start-cut}
use Rattle.timing_base.proofs.FirstFaults.{no_fault-next}
use Rattle.timing_base.proofs.Grouped.{none-order}
use Rattle.timing_base.proofs.Places.{cuts-here, cuts-other, markers-here, markers-other, places-none}
use Rattle.timing_base.proofs.Sizes.{sized-enter, sized-next, sized-nil}
use Rattle.interval_checker.specs.Asking.{AreEnded, AreKept, EndsAs, ending_of, stamp_of}
use Rattle.interval_checker.specs.Markers.{AreMarked}
use Rattle.interval_checker.specs.Packets.{ComesAfter, IsAfter, IsRead}
use Rattle.interval_checker.specs.Walks.{Keeps, stamp_behind}
use Rattle.interval_checker.specs.declared.before.Before.{Before}
use Rattle.interval_checker.specs.declared.ending.Ending.{Ending}
use Rattle.interval_checker.specs.declared.marks.Marks.{Marks}
use Rattle.interval_checker.specs.declared.walk.Walk.{Walk}
use Rattle.interval_checker.proofs.Asks.{Came, IsOver, came-ended, came-kept, ended-same, kept-none, over-ended}
use Rattle.interval_checker.proofs.Faults.{rtp-is}

-- no packet has come
pub record IsNew (w : Walk) : Type 0 where
  pub fed : w.fed ≡ 0
  pub before : w.before ≡ None
  pub cut_count : w.cuts ≡ 0
  pub start : w.start ≡ 0
  pub marks : w.marks ≡ None

no_mark : (o : Option Marks) (m : Marks) → o ≡ None → o ≡ Some m → ⊥
no_mark o m e f = cc

pub new-keeps : (pt : ℕ) (shift : Shift) (packets : List FlowPacket) (w : Walk) → IsNew w → Keeps pt shift packets 0 (cuts packets 0) w
new-keeps pt shift packets w is = record {
  within = omega arith;
  fed = is.fed;
  sound = refl;
  before = subst (ComesAfter packets 0) (sym is.before) refl;
  cut_count = is.cut_count;
  start = is.start;
  marks = subst (AreMarked []) (sym is.marks) refl;
  sized = sized-nil 0;
  rising = λ j k h l. absurd (omega (arith, l));
  kept = λ m e. absurd (no_mark w.marks m is.marks e);
  done = [];
  runs = λ to. refl;
  count = refl;
  ended = tt;
}

-- the runs that are over, and the open one
pub with-open : (pt : ℕ) (shift : Shift) (packets : List FlowPacket) (i : ℕ) (places : List ℕ) (w : Walk) (k : Keeps pt shift packets i places w)
    → map (λ (r : FlowRun). r.outcome) (runs_between packets shift i 0 places)
    ≡ map (λ (r : FlowRun). r.outcome) k.done ++ run_outcome packets shift (last_place (0 ∷ places)) i ∷ []
with-open pt shift packets i places w k =
    ap (map (λ (r : FlowRun). r.outcome)) (k.runs i) ∙ map-append (λ (r : FlowRun). r.outcome) k.done
    (run_at packets shift (last_place (0 ∷ places)) i ∷ [])

-- as many are over as there were cuts
pub done-long : (pt : ℕ) (shift : Shift) (packets : List FlowPacket) (i : ℕ) (places : List ℕ) (w : Walk) (k : Keeps pt shift packets i places w)
    → length (map (λ (r : FlowRun). r.outcome) k.done) ≡ w.cuts
done-long pt shift packets i places w k = length-map k.done (λ (r : FlowRun). r.outcome) ∙ (k.count ∙ sym k.cut_count)

-- what a cut does to a walk
pub record IsCutOf (old new : Walk) (e : Ending) : Type 0 where
  pub fed : new.fed ≡ old.fed
  pub before : new.before ≡ old.before
  pub cut_count : new.cuts ≡ old.cuts + 1
  pub start : new.start ≡ old.fed
  pub marks : new.marks ≡ None
  pub asked : IsOver old.asked new.asked old.cuts e

-- a cut stands at packet i
pub cut-keeps : (pt : ℕ) (shift : Shift) (packets : List FlowPacket) (i : ℕ) (old new : Walk) (ending : Ending) → Keeps pt shift packets i (cuts packets i) old
    → is_cut packets i ≡ true
    → IsCutOf old new ending
    → EndsAs old.asked old.cuts shift (run_outcome packets shift (last_place (0 ∷ cuts packets i)) i) ending
    → Keeps pt shift packets i (cuts packets (i + 1)) new
cut-keeps pt shift packets i old new ending k e is ends =
    let at : last_place (0 ∷ cuts packets (i + 1)) ≡ i = sym (start-cut packets i e) in
    let more : length (cuts packets (i + 1)) ≡ length (cuts packets i) + 1 = ap length (cuts-here packets i e) ∙ length-append (cuts packets i) (i ∷ []) in
    let from = last_place (0 ∷ cuts packets i) in
    record {
      within = k.within;
      fed = is.fed ∙ k.fed;
      sound = k.sound;
      before = subst (ComesAfter packets i) (sym is.before) k.before;
      cut_count = omega (arith, is.cut_count, k.cut_count, more);
      start = is.start ∙ (k.fed ∙ sym at);
      marks = subst (λ s. AreMarked (markers packets s i) new.marks) (sym at)
          (subst (AreMarked (markers packets i i)) (sym is.marks) (places-none (has_marker packets) i i (omega arith)));
      sized = sized-enter packets i from refl k.sized;
      rising = k.rising;
      kept = λ m f. absurd (no_mark new.marks m is.marks f);
      done = runs_between packets shift i 0 (cuts packets i);
      runs = λ to. runs-cut packets shift i from k.done (runs_between packets shift i 0 (cuts packets i))
          (run_at packets shift from i) e (k.runs i) refl k.runs to
          ∙ ap (λ s. runs_between packets shift i 0 (cuts packets i) ++ run_at packets shift s to ∷ []) (sym at);
      count = ap length (k.runs i) ∙ omega (arith, length-append k.done (run_at packets shift from i ∷ []), k.count, more);
      ended = subst (AreEnded new.asked shift 0) (sym (with-open pt shift packets i (cuts packets i) old k))
          (over-ended old.asked new.asked shift old.cuts ending (map (λ (r : FlowRun). r.outcome) k.done)
          (run_outcome packets shift (last_place (0 ∷ cuts packets i)) i) is.asked
          (done-long pt shift packets i (cuts packets i) old k) ends k.ended);
    }

-- no cut stands there
pub other-keeps : (pt : ℕ) (shift : Shift) (packets : List FlowPacket) (i : ℕ) (w : Walk) → Keeps pt shift packets i (cuts packets i) w
    → is_cut packets i ≡ false
    → Keeps pt shift packets i (cuts packets (i + 1)) w
other-keeps pt shift packets i w k e = subst (λ places. Keeps pt shift packets i places w) (sym (cuts-other packets i e)) k

not_back : (i a b : ℕ) → (nat_lt 0 i && nat_lt a b) ≡ false → 0 < i → b ≤ a
not_back i a b e h = grind (arith, nat_tests)

-- the stamps go on
rising-next : (packets : List FlowPacket) (pt i : ℕ) → fault packets pt i ≡ None → ((j k : ℕ) → j ≤ k → k < i → (packet packets j).at ≤ (packet packets k).at)
    → (j k : ℕ) → j ≤ k → k < i + 1 → (packet packets j).at ≤ (packet packets k).at
rising-next packets pt i none rising j k h l = elim (cases_lt k i) as (λ _. (packet packets j).at ≤ (packet packets k).at) [
  | inl low ↦ rising j k h low
  | inr high ↦
      let here : i ≡ k = omega (arith, high, l) in
      subst (λ x. (packet packets j).at ≤ (packet packets x).at) here
      (elim (cases_lt j i) as (λ _. (packet packets j).at ≤ (packet packets i).at) [
        | inl below ↦
            let last = rising j (i - 1) (omega (arith, below)) (omega (arith, below)) in
            let back = not_back i (packet packets i).at (packet packets (i - 1)).at (none-order packets pt i none).1 (omega (arith, below)) in
            omega (arith, last, back)
        | inr same ↦ let e : j ≡ i = omega (arith, same, h, here) in subst (λ x. (packet packets j).at ≤ (packet packets x).at) e (omega arith)
      ])
]

-- what the next packet does to a walk
pub record IsPassed (packets : List FlowPacket) (i : ℕ) (old new : Walk) : Type 0 where
  pub fed : new.fed ≡ old.fed + 1
  pub cut_count : new.cuts ≡ old.cuts
  pub start : new.start ≡ old.start
  pub before : Before
  pub before_is : new.before ≡ Some before
  pub after : IsAfter packets (i + 1) before
  pub begins : (m : Marks) → old.marks ≡ None → new.marks ≡ Some m → m.first ≡ old.fed
  pub goes_on : (m o : Marks) → old.marks ≡ Some o → new.marks ≡ Some m → m.first ≡ o.first
  pub here : (marks : List ℕ) → AreMarked marks old.marks → has_marker packets i ≡ true → AreMarked (marks ++ old.fed ∷ []) new.marks
  pub other : has_marker packets i ≡ false → new.marks ≡ old.marks
  pub endings : (r : ℕ) → ending_of new.asked r ≡ ending_of old.asked r
  pub none : old.marks ≡ None → (r p : ℕ) → stamp_of new.asked r p ≡ stamp_of old.asked r p
  pub some : (o : Marks) → old.marks ≡ Some o → Came old.asked new.asked old.cuts (old.fed - (o.first + 1)) (packet packets i).at
  pub behind : (o : Marks) → old.marks ≡ Some o → o.first < old.fed

marked-next : (pt : ℕ) (shift : Shift) (packets : List FlowPacket) (i : ℕ) (old new : Walk) (b : Bool) → has_marker packets i ≡ b
    → Keeps pt shift packets i (cuts packets (i + 1)) old → IsPassed packets i old new
    → AreMarked (markers packets (run_start packets i) (i + 1)) new.marks
marked-next pt shift packets i old new true e k is =
    subst (λ xs. AreMarked xs new.marks) (sym (markers-here packets i e))
    (subst (λ x. AreMarked (markers_before packets i ++ x ∷ []) new.marks) k.fed (is.here (markers_before packets i) k.marks e))
marked-next pt shift packets i old new false e k is =
    subst (λ xs. AreMarked xs new.marks) (sym (markers-other packets i e))
    (subst (AreMarked (markers_before packets i)) (sym (is.other e)) k.marks)

kept-next : (pt : ℕ) (shift : Shift) (packets : List FlowPacket) (i : ℕ) (old new : Walk) (marks : Option Marks) → old.marks ≡ marks
    → Keeps pt shift packets i (cuts packets (i + 1)) old → IsPassed packets i old new
    → (m : Marks) → new.marks ≡ Some m → AreKept new.asked new.cuts (stamp_behind packets m.first) ((i + 1) - (m.first + 1))
kept-next pt shift packets i old new None e k is m f =
    kept-none new.asked new.cuts ((i + 1) - (m.first + 1)) (stamp_behind packets m.first) (omega (arith, is.begins m e f, k.fed))
kept-next pt shift packets i old new (Some o) e k is m f =
    let same : o.first ≡ m.first = sym (is.goes_on m o e f) in
    let low : o.first < i = omega (arith, is.behind o e, k.fed) in
    let count : old.fed - (o.first + 1) ≡ i - (o.first + 1) = ap (λ x. x - (o.first + 1)) k.fed in
    let place : o.first + 1 + (old.fed - (o.first + 1)) ≡ i = omega (arith, count, low) in
    let there : stamp_behind packets o.first (old.fed - (o.first + 1)) ≡ (packet packets i).at = ap (λ x. (packet packets x).at) place in
    let was = subst (λ x. AreKept old.asked old.cuts (stamp_behind packets o.first) x) (sym count) (k.kept o e) in
    let next = came-kept old.asked new.asked old.cuts (old.fed - (o.first + 1)) (packet packets i).at (stamp_behind packets o.first) (is.some o e) there was in
    let more : old.fed - (o.first + 1) + 1 ≡ (i + 1) - (o.first + 1) = omega (arith, count, low) in
    subst (λ x. AreKept new.asked x (stamp_behind packets m.first) ((i + 1) - (m.first + 1))) (sym is.cut_count)
    (subst (λ x. AreKept new.asked old.cuts (stamp_behind packets x) ((i + 1) - (x + 1))) same
    (subst (λ x. AreKept new.asked old.cuts (stamp_behind packets o.first) x) more next))

ended-next : (pt : ℕ) (shift : Shift) (packets : List FlowPacket) (i : ℕ) (old new : Walk) (marks : Option Marks) → old.marks ≡ marks
    → (k : Keeps pt shift packets i (cuts packets (i + 1)) old) → IsPassed packets i old new
    → AreEnded new.asked shift 0 (map (λ (r : FlowRun). r.outcome) k.done)
ended-next pt shift packets i old new None e k is =
    ended-same old.asked new.asked shift 0 (map (λ (r : FlowRun). r.outcome) k.done)
    (λ n low. record { stamps = λ p. is.none e (0 + n) p; ending = is.endings (0 + n) }) k.ended
ended-next pt shift packets i old new (Some o) e k is =
    came-ended old.asked new.asked shift old.cuts (old.fed - (o.first + 1)) (packet packets i).at (map (λ (r : FlowRun). r.outcome) k.done) (is.some o e)
    (done-long pt shift packets i (cuts packets (i + 1)) old k) k.ended

-- packet i has no fault
pub pass-keeps : (pt : ℕ) (shift : Shift) (packets : List FlowPacket) (i : ℕ) (old new : Walk) → Keeps pt shift packets i (cuts packets (i + 1)) old
    → i < length packets
    → fault packets pt i ≡ None
    → IsPassed packets i old new → Keeps pt shift packets (i + 1) (cuts packets (i + 1)) new
pass-keeps pt shift packets i old new k within none is = record {
  within = omega (arith, within);
  fed = is.fed ∙ ap (λ x. x + 1) k.fed;
  sound = no_fault-next packets pt i k.sound none;
  before = subst (ComesAfter packets (i + 1)) (sym is.before_is) is.after;
  cut_count = is.cut_count ∙ k.cut_count;
  start = is.start ∙ k.start;
  marks = marked-next pt shift packets i old new (has_marker packets i) refl k is;
  sized = sized-next packets pt i none k.sized;
  rising = rising-next packets pt i none k.rising;
  kept = kept-next pt shift packets i old new old.marks refl k is;
  done = k.done;
  runs = k.runs;
  count = k.count;
  ended = ended-next pt shift packets i old new old.marks refl k is;
}

-- what the packet after packet i is compared with
pub after-later : (packets : List FlowPacket) (i at : ℕ) (r : Rtp) (o : Before) → IsAfter packets i o → IsRead packets i at r
    → IsAfter packets (i + 1) record { at = at; rtp = r; source = o.source }
after-later packets i at r o h is =
    let less : (i + 1) - 1 ≡ i = omega arith in
    record {
      later = omega arith;
      at = sym is.at ∙ ap (λ x. (packet packets x).at) (sym less);
      read = sym (rtp-is packets i at r is) ∙ ap (rtp packets) (sym less);
      source = h.source;
    }

-- the markers stand before the next packet
pub marks-behind : (w : Walk) (o : Marks) → w.marks ≡ Some o → o.first < w.fed
marks-behind w o e =
    let last : o.last < w.fed = behind w.marks e w.marked in
    omega (arith, last, o.order)
  where
    behind : (marks : Option Marks) → marks ≡ Some o → ForSome marks (λ m. m.last < w.fed) → o.last < w.fed
    behind None f h = cc
    behind (Some m) f h = let s : m ≡ o = cc in subst (λ (x : Marks). x.last < w.fed) s (h m refl)
