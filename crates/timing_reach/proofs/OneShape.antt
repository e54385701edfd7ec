-- A flow has at most one answer of `shape`.
use Rattle.std.specs.Prelude.{slice_index}
use Rattle.std.proofs.Common.{◌≡◌, ◌≤◌, ◌<◌, ◌+◌, ℕ, Bool, true, false, List, ◌++◌, nat_lt, length, take, take-take, refl, arith, ap, ◌∙◌, sym, subst, inl, inr}
use Rattle.std.specs.List.{count_by}
use Rattle.std.proofs.lemmas.Bool.{cases_lt}
use Rattle.std.proofs.lemmas.Grind.{same_number_lists}
use Rattle.std.proofs.lemmas.List.{ext_get_or, get_or-take, length-take-le}
use Rattle.timing_base.specs.Shifts.{Shift}
use Rattle.flow_shaper.specs.Bounds.{IsBound}
use Rattle.flow_shaper.specs.Plan.{IsPlan, Models, Plan, models_of}
use Rattle.flow_shaper.proofs.Exists.{least-once}
use Rattle.flow_shaper.specs.declared.departure.Bound.{Bound}
use Rattle.flow_shaper.specs.declared.departure.Bound.TheVariants.{Arrival, Bucket, Buffer, Order}
use Rattle.timing_base.specs.Captures.{Record}
use Rattle.timing_base.specs.Judged.{JudgedRun}
use Rattle.timing_base.specs.Media.{Media}
use Rattle.timing_base.specs.declared.media.Kind.{Kind}
use Rattle.timing_report.specs.declared.status.Status.TheVariants as status
use Rattle.timing_steps.specs.Answers.{Answer}
use Rattle.timing_reach.specs.Shapes.{AreBounds, HasPlan, HasShape, IsLate, IsList, LeaveInTime, Prints, delays, delays_line, end_of, greatest, not_shaped}
use Rattle.timing_reach.specs.Shapes.{packet_lines}

-- the first departures of a plan are one
plan-first : (w : Models) (arrivals departures : List ℕ) (k : ℕ) → k ≤ length arrivals → IsPlan w arrivals departures
    → IsPlan w (take k arrivals) (take k departures)
plan-first w arrivals departures k few p =
    let size : length (take k departures) ≡ k = length-take-le k departures (omega (arith, few, p.each)) in
    let long : length (take k arrivals) ≡ k = length-take-le k arrivals few in
    let same = λ (j : ℕ) (low : j < k). get_or-take k departures j 0 low in
    record {
      each = omega (arith, size, long);
      after = λ i low. omega (
        arith,
        same i (omega (arith, low, long)),
        get_or-take k arrivals i 0 (omega (arith, low, long)),
        p.after i (omega (arith, low, long, few)),
      );
      ordered = λ j i order low.
          omega (
            arith,
            same i (omega (arith, low, size)),
            same j (omega (arith, order, low, size)),
            p.ordered j i order (omega (arith, low, size, few, p.each)),
          );
      bucket = λ j i order low.
          omega (
            arith,
            ap w.ticks (same i (omega (arith, low, size))),
            ap w.ticks (same j (omega (arith, order, low, size))),
            p.bucket j i order (omega (arith, low, size, few, p.each)),
          );
      buffer = λ i low. omega (arith, ap (w.held i) (same i (omega (arith, low, size))), p.buffer i (omega (arith, low, size, few, p.each)));
    }

-- where a packet is late, no plan lets it leave in time
late-not : (m : Media) (n : ℕ) (kind : Kind) (end : ℕ) (stamps departures : List ℕ) (i : ℕ) → IsLate m n kind end stamps i
    → LeaveInTime m n kind end stamps departures → ⊥
late-not m n kind end stamps departures i h leave =
    let first : slice_index (take (i + 1) stamps) 0 ≡ slice_index stamps 0 = get_or-take (i + 1) stamps 0 0 (omega arith) in
    let plan = leave.shaped.plan in
    let part : Plan m n kind (take (i + 1) stamps) (take (i + 1) departures) =
    subst (λ a0. IsPlan (models_of m n kind a0) (take (i + 1) stamps) (take (i + 1) departures)) (sym first)
    (plan-first (models_of m n kind (slice_index stamps 0)) stamps departures (i + 1) (omega (arith, h.within)) plan) in
    omega (arith, h.late (take (i + 1) departures) part, get_or-take (i + 1) departures i 0 (omega arith), leave.in_time i (omega (arith, h.within, plan.each)))

-- of two packets that are late neither is the first
not-later : (m : Media) (n : ℕ) (kind : Kind) (end : ℕ) (stamps : List ℕ) (i j : ℕ) → IsLate m n kind end stamps i → IsLate m n kind end stamps j → i < j → ⊥
not-later m n kind end stamps i j h k order =
    let within : length (take j stamps) ≡ j = length-take-le j stamps (omega (arith, k.within)) in
    let same : take (i + 1) (take j stamps) ≡ take (i + 1) stamps = take-take (i + 1) j stamps (omega (arith, order)) in
    late-not m n kind end (take j stamps) k.departures i
    (record {
      within = omega (arith, order, within);
      departures = h.departures;
      before = subst (λ l. LeaveInTime m n kind end l h.departures) (sym (take-take i j stamps (omega (arith, order)))) h.before;
      late = subst (λ l. (others : List ℕ) → Plan m n kind l others → end ≤ slice_index others i) (sym same) h.late;
    }) k.before

late-once : (m : Media) (n : ℕ) (kind : Kind) (end : ℕ) (stamps : List ℕ) (i j : ℕ) → IsLate m n kind end stamps i → IsLate m n kind end stamps j → i ≡ j
late-once m n kind end stamps i j h k = elim (cases_lt i j) as (λ _. i ≡ j) [
  | inl low ↦ absurd (not-later m n kind end stamps i j h k low)
  | inr high ↦ elim (cases_lt j i) as (λ _. i ≡ j) [
    | inl less ↦ absurd (not-later m n kind end stamps j i k h less)
    | inr more ↦ omega (arith, high, more)
  ]
]

-- departures
leave-once : (m : Media) (n : ℕ) (kind : Kind) (end : ℕ) (stamps a b : List ℕ) → LeaveInTime m n kind end stamps a → LeaveInTime m n kind end stamps b → a ≡ b
leave-once m n kind end stamps a b h k =
    same_number_lists a b (h.shaped.plan.each ∙ sym k.shaped.plan.each)
    (λ i few. least-once (models_of m n kind (slice_index stamps 0)) stamps a b i h.shaped k.shaped (omega (arith, few, h.shaped.plan.each)))

-- what holds a packet back
bound-once : (w : Models) (arrivals departures : List ℕ) (i : ℕ) (a b : Bound) → IsBound w arrivals departures i a → IsBound w arrivals departures i b → a ≡ b
bound-once w arrivals departures i Arrival Arrival h k = refl
bound-once w arrivals departures i Arrival (Bucket from) h k = absurd (k.0 h)
bound-once w arrivals departures i Arrival (Buffer read) h k = absurd (k.0 h)
bound-once w arrivals departures i Arrival Order h k = absurd (k.0 h)
bound-once w arrivals departures i (Bucket from) Arrival h k = absurd (h.0 k)
bound-once w arrivals departures i (Bucket from) (Bucket also) h k =
    let same : from ≡ also = omega (arith, h.2.latest also k.2.before k.2.full, k.2.latest from h.2.before h.2.full) in
    ap Bucket same
bound-once w arrivals departures i (Bucket from) (Buffer read) h k = absurd (k.1 h.1)
bound-once w arrivals departures i (Bucket from) Order h k = absurd (k.1 h.1)
bound-once w arrivals departures i (Buffer read) Arrival h k = absurd (h.0 k)
bound-once w arrivals departures i (Buffer read) (Bucket from) h k = absurd (h.1 k.1)
bound-once w arrivals departures i (Buffer read) (Buffer also) h k = ap Buffer (h.3 ∙ sym k.3)
bound-once w arrivals departures i (Buffer read) Order h k = absurd (k.2 h.2)
bound-once w arrivals departures i Order Arrival h k = absurd (h.0 k)
bound-once w arrivals departures i Order (Bucket from) h k = absurd (h.1 k.1)
bound-once w arrivals departures i Order (Buffer read) h k = absurd (h.2 k.2)
bound-once w arrivals departures i Order Order h k = refl

bounds-once : (m : Media) (n : ℕ) (kind : Kind) (stamps departures : List ℕ) (a b : List Bound) → AreBounds m n kind stamps departures a
    → AreBounds m n kind stamps departures b → a ≡ b
bounds-once m n kind stamps departures a b h k =
    ext_get_or Arrival a b (h.each ∙ sym k.each)
    (λ i few. let low : i < length stamps = omega (arith, few, h.each) in bound-once (models_of m n kind (slice_index stamps 0)) stamps departures i _ _
    (h.bound i low) (k.bound i low))

list-once : (m : Media) (n : ℕ) (kind : Kind) (stamps departures : List ℕ) (a b : List ℕ) → IsList m n kind stamps departures a
    → IsList m n kind stamps departures b → a ≡ b
list-once m n kind stamps departures a b h k =
    let ds = delays stamps departures in
    h.text_is ∙ ap (λ (bounds : List Bound). packet_lines 0 ds bounds ++ delays_line (count_by (nat_lt 0) ds) (length ds) (greatest ds))
    (bounds-once m n kind stamps departures h.bounds k.bounds h.are k.are) ∙ sym k.text_is

prints-once : (list : Bool) (shift : Shift) (kind : Kind) (m : Media) (items : List Record) (run : JudgedRun) (departures a b : List ℕ)
    → Prints list shift kind m items run departures a → Prints list shift kind m items run departures b → a ≡ b
prints-once true shift kind m items run departures a b h k = list-once m run.n kind run.stamps departures a b h k
prints-once false shift kind m items run departures a b h k = h ∙ sym k

plan-once : (list : Bool) (shift : Shift) (kind : Kind) (m : Media) (items : List Record) (run : JudgedRun) (a b : Answer)
    → HasPlan list shift kind m items run a
    → HasPlan list shift kind m items run b → a ≡ b
plan-once list shift kind m items run a b h k =
    let same : h.departures ≡ k.departures = leave-once m run.n kind (end_of shift) run.stamps h.departures k.departures h.leave k.leave in
    let text : h.text ≡ k.text =
    prints-once list shift kind m items run k.departures h.text k.text (subst (λ d. Prints list shift kind m items run d h.text) same h.prints) k.prints in
    h.answer_is ∙ ap (λ (t : List ℕ). record { text = t; status = status.Pass }) text ∙ sym k.answer_is

-- of a run
pub shape-once : (list : Bool) (shift : Shift) (kind : Kind) (m : Media) (items : List Record) (run : JudgedRun) (a b : Answer)
    → HasShape list shift kind m items run a
    → HasShape list shift kind m items run b → a ≡ b
shape-once list shift kind m items run a b (inl h) (inl k) = plan-once list shift kind m items run a b h k
shape-once list shift kind m items run a b (inl h) (inr k) = absurd (late-not m run.n kind (end_of shift) run.stamps h.departures k.packet k.late h.leave)
shape-once list shift kind m items run a b (inr h) (inl k) = absurd (late-not m run.n kind (end_of shift) run.stamps k.departures h.packet h.late k.leave)
shape-once list shift kind m items run a b (inr h) (inr k) =
    h.answer_is ∙ ap not_shaped (late-once m run.n kind (end_of shift) run.stamps h.packet k.packet h.late k.late) ∙ sym k.answer_is
