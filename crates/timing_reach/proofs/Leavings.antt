-- One packet more leaves.
use Rattle.std.specs.Prelude.{IfOk, Result, Ok, Err, slice_index}
use Rattle.std.proofs.Common.{◌≡◌, ◌≤◌, ◌<◌, ◌+◌, ℕ, List, [], ◌∷◌, ◌++◌, length, take, drop, refl, arith, ap, ◌∙◌, sym, subst}
use Rattle.std.proofs.Common.{length-append}
use Rattle.std.proofs.lemmas.List.{get_or-take, length-take-le, take-append-drop, take_more}
use Rattle.flow_shaper.proofs.Seams.{before, last}
use Rattle.flow_shaper.specs.Bounds.{BoundAt}
use Rattle.flow_shaper.specs.Stands.{CanFollow, NoneInTime, StandsFor}
use Rattle.flow_shaper.specs.declared.departure.Departure.{Departure}
use Rattle.flow_shaper.specs.declared.departure.Late.{Late}
use Rattle.flow_shaper.specs.declared.shaper.Shaper.{Shaper}
use Rattle.timing_base.specs.Media.{Media}
use Rattle.timing_base.specs.Shifts.{Shift, shifted}
use Rattle.timing_base.specs.declared.media.Kind.{Kind}
use Rattle.timing_reach.specs.shape.Leaving.{HasLet, IsFit, Leaves, LeavesSo, Part}
use Rattle.timing_reach.specs.Shapes.{IsLate, LeaveInTime, end_of}
use Rattle.timing_reach.specs.declared.shape.leaver.Leaver.{Leaver}
use Rattle.timing_reach.proofs.Listings.{late-last, late-more}

-- what is said of a flow, its group, its type and its end
retold : (P : Media → ℕ → Kind → ℕ → Type 0) (m also : Media) (n k : ℕ) (kind other : Kind) (end late : ℕ) → m ≡ also → n ≡ k → kind ≡ other → end ≡ late
    → P m n kind end → P also k other late
retold P m also n k kind other end late em en ek ee h =
    subst (P also k other) ee (subst (λ x. P also k x end) ek (subst (λ x. P also x kind end) en (subst (λ (x : Media). P x n kind end) em h)))

-- a packet that can be shaped behind these can be the next one
can-follow : (s : Shaper) (stamps : List ℕ) (origin at : ℕ) → s.origin ≡ origin → IsFit origin (stamps ++ at ∷ []) → CanFollow s stamps at
can-follow s stamps origin at is fit =
    let long : length (stamps ++ at ∷ []) ≡ length stamps + 1 = length-append stamps (at ∷ []) in
    record {
      first = λ none. sym (last stamps at 0 (sym none)) ∙ fit.first (omega (arith, long)) ∙ sym is;
      later = λ i size.
          omega (
            arith,
            fit.ordered i (length stamps) (omega (arith, size)) (omega (arith, long)),
            before stamps at i (omega (arith, size)),
            last stamps at (length stamps) refl,
          );
    }

-- these leave in time
pub let-in-time : (w : Part) (l : Leaver) (stamps departures : List ℕ) → HasLet w l stamps departures
    → LeaveInTime w.media w.n w.kind (end_of w.shift) stamps departures
let-in-time w l stamps departures h =
    retold (λ m n kind end. LeaveInTime m n kind end stamps departures) l.params.media w.media l.params.n w.n l.shaper.kind w.kind l.shaper.end (end_of w.shift)
    h.media h.group h.kind h.end (record { shaped = h.stands.shaped; in_time = h.stands.in_time })

-- what its shaper says of a packet
pub one-leaves : (w : Part) (old new : Leaver) (stamps departures : List ℕ) (at came : ℕ) (result : Result Departure Late) → came ≡ shifted old.shift at
    → new.params ≡ old.params → new.shift ≡ old.shift → new.shaper.kind ≡ old.shaper.kind → new.shaper.origin ≡ old.shaper.origin
    → new.shaper.end ≡ old.shaper.end
    → ((arrivals departures : List ℕ) → StandsFor old.params old.shaper arrivals departures → CanFollow old.shaper arrivals came
    → IfOk result (λ d. BoundAt old.params.media old.params.n old.shaper.kind (arrivals ++ came ∷ []) (departures ++ d.at ∷ [])
    (length arrivals) d.bound))
    → ((arrivals departures : List ℕ) → StandsFor old.params old.shaper arrivals departures → CanFollow old.shaper arrivals came
    → IfOk result (λ d. StandsFor new.params new.shaper (arrivals ++ came ∷ []) (departures ++ d.at ∷ [])))
    → ((arrivals departures : List ℕ) → StandsFor old.params old.shaper arrivals departures → CanFollow old.shaper arrivals came
    → (late : Late) → result ≡ Err late
    → (late.packet ≡ length arrivals) × NoneInTime old.params old.shaper (arrivals ++ came ∷ []) (length arrivals))
    → HasLet w old stamps departures → Leaves w new stamps departures (shifted w.shift at) result
one-leaves w old new stamps departures at came result is params shift kind origin end bound stands late h =
    subst (λ x. Leaves w new stamps departures x result) (is ∙ ap (λ (x : Shift). shifted x at) h.shift)
    (λ fit. by result (bound stamps departures h.stands (can-follow old.shaper stamps w.origin came h.origin fit))
    (stands stamps departures h.stands (can-follow old.shaper stamps w.origin came h.origin fit))
    (late stamps departures h.stands (can-follow old.shaper stamps w.origin came h.origin fit)))
  where
    by : (result : Result Departure Late)
        → IfOk result (λ d. BoundAt old.params.media old.params.n old.shaper.kind (stamps ++ came ∷ []) (departures ++ d.at ∷ [])
        (length stamps) d.bound)
        → IfOk result (λ d. StandsFor new.params new.shaper (stamps ++ came ∷ []) (departures ++ d.at ∷ []))
        → ((late : Late) → result ≡ Err late
        → (late.packet ≡ length stamps) × NoneInTime old.params old.shaper (stamps ++ came ∷ []) (length stamps))
        → LeavesSo w new stamps departures came result
    by (Ok d) bound stands late = (
      retold (λ m n kind end. BoundAt m n kind (stamps ++ came ∷ []) (departures ++ d.at ∷ []) (length stamps) d.bound)
          old.params.media w.media old.params.n w.n old.shaper.kind w.kind 0 0 h.media h.group h.kind refl bound,
      record {
        media = ap (λ x. x.media) params ∙ h.media;
        group = ap (λ x. x.n) params ∙ h.group;
        kind = kind ∙ h.kind;
        origin = origin ∙ h.origin;
        end = end ∙ h.end;
        shift = shift ∙ h.shift;
        stands = stands;
      },
    )
    by (Err e) bound stands late =
        let none = late e refl in (
          none.0,
          retold (λ m n kind end. IsLate m n kind end (stamps ++ came ∷ []) (length stamps))
              old.params.media w.media old.params.n w.n old.shaper.kind w.kind old.shaper.end (end_of w.shift) h.media h.group h.kind h.end
              (late-last old.params.media old.params.n old.shaper.kind old.shaper.end stamps departures came
              (record { shaped = h.stands.shaped; in_time = h.stands.in_time }) none.1),
        )

-- as far as any packet
fit-take : (origin : ℕ) (stamps : List ℕ) (k : ℕ) → k ≤ length stamps → IsFit origin stamps → IsFit origin (take k stamps)
fit-take origin stamps k few fit =
    let size : length (take k stamps) ≡ k = length-take-le k stamps few in
    record {
      ordered = λ j i order low.
          omega (
            arith,
            fit.ordered j i order (omega (arith, low, size, few)),
            get_or-take k stamps j 0 (omega (arith, order, low, size)),
            get_or-take k stamps i 0 (omega (arith, low, size)),
          );
      first = λ some. get_or-take k stamps 0 0 (omega (arith, some, size)) ∙ fit.first (omega (arith, some, size, few));
    }

-- packet i of these leaves, or is late
pub next-leaves : (w : Part) (old new : Leaver) (stamps departures : List ℕ) (i at : ℕ) (d : Departure) → i < length stamps → at ≡ slice_index stamps i
    → IsFit w.origin stamps → Leaves w new (take i stamps) departures at (Ok d)
    → BoundAt w.media w.n w.kind (take i stamps ++ at ∷ []) (departures ++ d.at ∷ []) (length (take i stamps)) d.bound
    × HasLet w new (take (i + 1) stamps) (departures ++ d.at ∷ [])
next-leaves w old new stamps departures i at d within is fit leaves =
    let more : take (i + 1) stamps ≡ take i stamps ++ at ∷ [] = take_more stamps i 0 within ∙ ap (λ x. take i stamps ++ x ∷ []) (sym is) in
    let left = leaves (subst (IsFit w.origin) more (fit-take w.origin stamps (i + 1) (omega (arith, within)) fit)) in
    (left.0, subst (λ l. HasLet w new l (departures ++ d.at ∷ [])) (sym more) left.1)

pub next-late : (w : Part) (old new : Leaver) (stamps departures : List ℕ) (i at : ℕ) (late : Late) → i < length stamps → at ≡ slice_index stamps i
    → IsFit w.origin stamps → Leaves w new (take i stamps) departures at (Err late) → IsLate w.media w.n w.kind (end_of w.shift) stamps late.packet
next-late w old new stamps departures i at late within is fit leaves =
    let more : take (i + 1) stamps ≡ take i stamps ++ at ∷ [] = take_more stamps i 0 within ∙ ap (λ x. take i stamps ++ x ∷ []) (sym is) in
    let said = leaves (subst (IsFit w.origin) more (fit-take w.origin stamps (i + 1) (omega (arith, within)) fit)) in
    let all : (take i stamps ++ at ∷ []) ++ drop (i + 1) stamps ≡ stamps =
    ap (λ l. l ++ drop (i + 1) stamps) (sym more) ∙ take-append-drop (i + 1) stamps in
    subst (λ k. IsLate w.media w.n w.kind (end_of w.shift) stamps k) (sym said.0)
    (subst (λ l. IsLate w.media w.n w.kind (end_of w.shift) l (length (take i stamps))) all
    (late-more w.media w.n w.kind (end_of w.shift) (take i stamps ++ at ∷ []) (drop (i + 1) stamps) (length (take i stamps)) said.1))
