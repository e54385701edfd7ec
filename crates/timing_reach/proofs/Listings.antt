-- One packet more of a list of delays, and of a packet that is late.
use Rattle.std.specs.Prelude.{slice_index, slice_index_or, cond, nat_lt, max}
use Rattle.std.proofs.Common.{◌≡◌, ◌≤◌, ◌+◌, ◌-◌, ℕ, suc, List, [], ◌∷◌, ◌++◌, length, refl, arith, ap, ◌∙◌, sym, subst, inl, inr, append-nil, append_assoc}
use Rattle.std.proofs.Common.{length-append}
use Rattle.std.specs.List.{count_by, sum_by}
use Rattle.std.proofs.Math.Seq.{get_or-append_seam, take-append_seam, take-append-add}
use Rattle.std.proofs.lemmas.Bool.{cases_lt}
use Rattle.std.proofs.lemmas.List.{get_or_append_left, take-append-le}
use Rattle.std.proofs.lemmas.List.Recursion.{max_push}
use Rattle.std.proofs.lemmas.List.Sums.{sum_by-append}
use Rattle.flow_shaper.specs.Bounds.{BoundAt, IsBound, Overfills, Overloads}
use Rattle.flow_shaper.specs.Plan.{Models, Plan, models_of}
use Rattle.flow_shaper.specs.declared.departure.Bound.{Bound}
use Rattle.flow_shaper.specs.declared.departure.Bound.TheVariants.{Arrival, Bucket, Buffer, Order}
use Rattle.timing_base.specs.Media.{Media}
use Rattle.timing_base.specs.declared.media.Kind.{Kind}
use Rattle.timing_reach.specs.Shapes.{AreBounds, IsLate, LeaveInTime, delays, delayed_line, greatest, packet_line, packet_lines}

-- a packet that is late is so whatever comes behind it
pub late-more : (m : Media) (n : ℕ) (kind : Kind) (end : ℕ) (stamps more : List ℕ) (i : ℕ) → IsLate m n kind end stamps i
    → IsLate m n kind end (stamps ++ more) i
late-more m n kind end stamps more i h = record {
  within = omega (arith, length-append stamps more, h.within);
  departures = h.departures;
  before = subst (λ l. LeaveInTime m n kind end l h.departures) (sym (take-append-le i stamps more (omega (arith, h.within)))) h.before;
  late = subst (λ l. (others : List ℕ) → Plan m n kind l others → end ≤ slice_index others i)
      (sym (take-append-le (i + 1) stamps more (omega (arith, h.within)))) h.late;
}

-- the last packet is the first that is late
pub late-last : (m : Media) (n : ℕ) (kind : Kind) (end : ℕ) (stamps departures : List ℕ) (at : ℕ) → LeaveInTime m n kind end stamps departures
    → ((others : List ℕ) → Plan m n kind (stamps ++ at ∷ []) others → end ≤ slice_index others (length stamps))
    → IsLate m n kind end (stamps ++ at ∷ []) (length stamps)
late-last m n kind end stamps departures at before none = record {
  within = omega (arith, length-append stamps (at ∷ []));
  departures = departures;
  before = subst (λ l. LeaveInTime m n kind end l departures) (sym (take-append_seam stamps (at ∷ []))) before;
  late = subst (λ l. (others : List ℕ) → Plan m n kind l others → end ≤ slice_index others (length stamps)) (sym (take-append-add stamps (at ∷ []) 1)) none;
}

-- the line of a packet that something holds back
pub line-held : (packet delay : ℕ) (b : Bound) → (b ≡ Arrival → ⊥) → packet_line packet delay b ≡ delayed_line packet delay b
line-held packet delay Arrival h = absurd (h refl)
line-held packet delay (Bucket from) h = refl
line-held packet delay (Buffer read) h = refl
line-held packet delay Order h = refl

-- two lists are the same up to packet i
abbrev Same : (xs ys : List ℕ) → ℕ → Type 0
Same xs ys i = (j : ℕ) → j ≤ i → slice_index ys j ≡ slice_index xs j

overloads-same : (w : Models) (xs ys : List ℕ) (i at also : ℕ) → Same xs ys i → also ≡ at → Overloads w xs i at → Overloads w ys i also
overloads-same w xs ys i at also same e h = (h.0, h.1, omega (arith, h.2, ap w.ticks (same h.0 (omega (arith, h.1))), ap w.ticks e))

-- what holds packet i back is told by the packets up to it
bound-same : (w : Models) (arrivals departures also others : List ℕ) (i : ℕ) (b : Bound) → slice_index also i ≡ slice_index arrivals i
    → Same departures others i
    → IsBound w arrivals departures i b → IsBound w also others i b
bound-same w arrivals departures also others i Arrival came same h = same i (omega arith) ∙ h ∙ sym came
bound-same w arrivals departures also others i (Bucket from) came same h =
    let here = same i (omega arith) in (
      (λ e. h.0 (sym here ∙ e ∙ came)),
      overloads-same w departures others i (slice_index departures i - 1) (slice_index others i - 1) same (ap (λ x. x - 1) here) h.1,
      record {
        before = h.2.before;
        full = omega (arith, h.2.full, ap w.ticks here, ap w.ticks (same from (omega (arith, h.2.before))));
        latest = λ j few full. h.2.latest j few (omega (arith, full, ap w.ticks here, ap w.ticks (same j (omega (arith, few)))));
      },
    )
bound-same w arrivals departures also others i (Buffer read) came same h =
    let here = same i (omega arith) in (
      (λ e. h.0 (sym here ∙ e ∙ came)),
      (λ o. h.1 (overloads-same w others departures i (slice_index others i - 1) (slice_index departures i - 1) (λ j few. sym (same j few))
          (ap (λ x. x - 1) (sym here)) o)),
      subst (λ x. Overfills w i (x - 1)) (sym here) h.2,
      h.3,
    )
bound-same w arrivals departures also others i Order came same h =
    let here = same i (omega arith) in (
      (λ e. h.0 (sym here ∙ e ∙ came)),
      (λ o. h.1 (overloads-same w others departures i (slice_index others i - 1) (slice_index departures i - 1) (λ j few. sym (same j few))
          (ap (λ x. x - 1) (sym here)) o)),
      (λ o. h.2 (subst (λ x. Overfills w i (x - 1)) here o)),
      h.3,
      here ∙ h.4 ∙ sym (same (i - 1) (omega arith)),
    )

-- with one packet more
pub bounds-more : (m : Media) (n : ℕ) (kind : Kind) (stamps departures : List ℕ) (bounds : List Bound) (a d : ℕ) (b : Bound) → length departures ≡ length stamps
    → BoundAt m n kind (stamps ++ a ∷ []) (departures ++ d ∷ []) (length stamps) b → AreBounds m n kind stamps departures bounds
    → AreBounds m n kind (stamps ++ a ∷ []) (departures ++ d ∷ []) (bounds ++ b ∷ [])
bounds-more m n kind stamps departures bounds a d b each last h =
    let more = stamps ++ a ∷ [] in
    let leave = departures ++ d ∷ [] in
    record {
      each = omega (arith, h.each, length-append stamps (a ∷ []), length-append bounds (b ∷ []));
      bound = λ i few. elim (cases_lt i (length stamps)) as (λ _. BoundAt m n kind more leave i (slice_index_or (bounds ++ b ∷ []) i Arrival)) [
        | inl early ↦
            let first : slice_index more 0 ≡ slice_index stamps 0 = get_or_append_left stamps (a ∷ []) 0 0 (omega (arith, early)) in
            subst (λ x. BoundAt m n kind more leave i x) (sym (get_or_append_left bounds (b ∷ []) Arrival i (omega (arith, early, h.each))))
            (subst (λ a0. IsBound (models_of m n kind a0) more leave i (slice_index_or bounds i Arrival)) (sym first)
            (bound-same (models_of m n kind (slice_index stamps 0)) stamps departures more leave i (slice_index_or bounds i Arrival)
            (get_or_append_left stamps (a ∷ []) 0 i early) (λ j before. get_or_append_left departures (d ∷ []) 0 j (omega (arith, before, early, each)))
            (h.bound i early)))
        | inr late ↦
            let same : i ≡ length stamps = omega (arith, late, few, length-append stamps (a ∷ [])) in
            let there : i ≡ length bounds = omega (arith, same, h.each) in
            subst (λ x. BoundAt m n kind more leave i x) (sym (ap (λ k. slice_index_or (bounds ++ b ∷ []) k Arrival) there
            ∙ get_or-append_seam bounds b [] Arrival))
            (subst (λ k. BoundAt m n kind more leave k b) (sym same) last)
      ];
    }

pub bounds-none : (m : Media) (n : ℕ) (kind : Kind) → AreBounds m n kind [] [] []
bounds-none m n kind = record { each = refl; bound = λ i few. absurd (omega (arith, few)) }

pub delays-more : (stamps departures : List ℕ) (a d : ℕ) → length departures ≡ length stamps
    → delays (stamps ++ a ∷ []) (departures ++ d ∷ []) ≡ delays stamps departures ++ (d - a) ∷ []
delays-more [] [] a d each = refl
delays-more [] (e ∷ es) a d each = absurd (omega (arith, each))
delays-more (s ∷ ss) [] a d each = absurd (omega (arith, each))
delays-more (s ∷ ss) (e ∷ es) a d each = ap (λ l. (e - s) ∷ l) (delays-more ss es a d (omega (arith, each)))

pub length-delays : (stamps departures : List ℕ) → length departures ≡ length stamps → length (delays stamps departures) ≡ length stamps
length-delays [] [] each = refl
length-delays [] (e ∷ es) each = refl
length-delays (s ∷ ss) [] each = absurd (omega (arith, each))
length-delays (s ∷ ss) (e ∷ es) each = ap suc (length-delays ss es (omega (arith, each)))

pub lines-more : (packet : ℕ) (ds : List ℕ) (bs : List Bound) (d : ℕ) (b : Bound) → length bs ≡ length ds
    → packet_lines packet (ds ++ d ∷ []) (bs ++ b ∷ []) ≡ packet_lines packet ds bs ++ packet_line (packet + length ds) d b
lines-more packet [] [] d b each = append-nil (packet_line packet d b) ∙ ap (λ k. packet_line k d b) (omega arith)
lines-more packet [] (e ∷ es) d b each = absurd (omega (arith, each))
lines-more packet (x ∷ xs) [] d b each = absurd (omega (arith, each))
lines-more packet (x ∷ xs) (e ∷ es) d b each =
    let count : packet + 1 + length xs ≡ packet + suc (length xs) = omega arith in
    ap (λ l. packet_line packet x e ++ l) (lines-more (packet + 1) xs es d b (omega (arith, each))
    ∙ ap (λ k. packet_lines (packet + 1) xs es ++ packet_line k d b) count)
    ∙ sym (append_assoc (packet_line packet x e) (packet_lines (packet + 1) xs es) (packet_line (packet + suc (length xs)) d b))

pub count-more : (ds : List ℕ) (d : ℕ) → count_by (nat_lt 0) (ds ++ d ∷ []) ≡ count_by (nat_lt 0) ds + cond (nat_lt 0 d) 1 0
count-more ds d =
    let one : sum_by (λ x. cond (nat_lt 0 x) 1 0) (d ∷ []) ≡ cond (nat_lt 0 d) 1 0 = omega arith in
    sum_by-append (λ x. cond (nat_lt 0 x) 1 0) ds (d ∷ []) ∙ ap (λ k. count_by (nat_lt 0) ds + k) one

pub greatest-more : (ds : List ℕ) (d : ℕ) → greatest (ds ++ d ∷ []) ≡ max (greatest ds) d
greatest-more ds d = max_push greatest (λ x. x) refl (λ x xs. refl) ds d
