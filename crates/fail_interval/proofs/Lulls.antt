-- A lull goes on.
use Rattle.std.proofs.Common.{◌≡◌, ◌≤◌, ◌<◌, ◌+◌, ◌-◌, ◌*◌, ◌^◌, ℕ, ℤ, Bool, None, List, [], ◌∷◌, ◌++◌, length, slice_index, arith, ap, sym, subst, inl, inr}
use Rattle.std.proofs.Math.Nat.{mul-le-mul_right}
use Rattle.std.proofs.lemmas.Bool.{cases_lt}
use Rattle.fraction128.specs.Fractions.{AtMost, Below, whole}
use Rattle.timing_base.specs.Media.{Media}
use Rattle.read_schedule.specs.Between.{Holds, HoldsAfter, IsFrom, IsUpTo}
use Rattle.read_schedule.specs.Stands.{StandsBy}
use Rattle.read_schedule.specs.declared.between.Between.{Between}
use Rattle.read_schedule.specs.declared.schedule.Schedule.{Schedule}
use Rattle.sender_params.specs.Limits.{gapped_of}
use Rattle.sender_params.specs.Reads.{anchor_of, read_of}
use Rattle.sender_params.specs.declared.params.Params.{Params}
use Rattle.vrx_buffer.specs.Quiet.{IsQuiet}
use Rattle.vrx_buffer.specs.Stands.{StandsFor as VrxStandsFor}
use Rattle.vrx_buffer.specs.declared.vrx.Vrx.{Vrx}
use Rattle.timing_base.specs.declared.row.KindVerdict.TheVariants.{Pass}
use Rattle.fail_interval.specs.Lulls.{IsCalm}
use Rattle.fail_interval.specs.declared.kind.KindMeter.{KindMeter}

-- the peak of a buffer is no more than its packets
pub peak-few : (params : Params) (vrx : Vrx) (stamps : List ℕ) → VrxStandsFor params vrx stamps → vrx.peak ≤ length stamps
peak-few params vrx stamps s =
    elim (cases_lt 0 vrx.peak) as (λ _. vrx.peak ≤ length stamps) [
      | inl some ↦ let top = s.peak_reached some in omega (arith, top.1, top.2)
      | inr none ↦ omega (arith, none)
    ]

-- a lull that is over
pub calm-over : (params : Params) (origin seen : ℕ) (meter : KindMeter) (left brim : ℕ) (b : Between) → left ≡ 0 → brim ≡ 0
    → IsCalm params origin seen meter left brim b
calm-over params origin seen meter left brim b none empty = record {
  within = λ _. omega (arith, empty);
  due = record { due = λ j at low. absurd (omega (arith, low, none)) };
  ahead = λ _. record { ahead = λ j at low. absurd (omega (arith, low, none)) };
}

-- a packet in a lull is quiet
pub calm-quiet : (params : Params) (origin : ℕ) (meter : KindMeter) (left brim : ℕ) (b : Between) (stamps : List ℕ) (at : ℕ)
    → slice_index (stamps ++ at ∷ []) 0 ≡ origin
    → at < 2 ^ 62
    → 1 ≤ left
    → Holds b at
    → IsCalm params origin (length stamps) meter left brim b
    → IsQuiet params meter.vrx stamps at
calm-quiet params origin meter left brim b stamps at first in_time some held calm =
    let m = params.media in
    let n = params.n in
    let g = gapped_of meter.vrx.kind in
    let here : HoldsAfter b 0 at = record { in_time = in_time; from = omega (arith, held.0); up_to = omega (arith, held.1) } in
    let anchor : anchor_of m origin ≡ anchor_of m (slice_index (stamps ++ at ∷ []) 0) = ap (anchor_of m) (sym first) in
    let seen = length stamps in
    let read : (seen - meter.vrx.peak) + 0 ≡ seen - meter.vrx.peak = omega arith in
    let own : seen + 0 ≡ seen = omega arith in
    record {
      due = subst (λ a. AtMost (read_of m n a g (seen - meter.vrx.peak)) (whole at)) anchor
          (subst (λ x. AtMost (read_of m n (anchor_of m origin) g x) (whole at)) read (calm.due.due 0 at (omega (arith, some)) here));
      ahead = λ none. subst (λ a. Below (whole at) (read_of m n a g seen)) anchor
          (subst (λ x. Below (whole at) (read_of m n (anchor_of m origin) g x)) own ((calm.ahead none).ahead 0 at (omega (arith, some)) here));
    }

-- a call of `go_on` from one span to the next
abbrev pub GoesOn : Between → Between → Type 0
GoesOn b c =
    ((m : Media) (n : ℕ) (anchor : ℤ) (gapped : Bool) (early left : ℕ) → IsFrom m n anchor gapped early (left + 1) b
    → IsFrom m n anchor gapped (early + 1) left c)
    × ((m : Media) (n : ℕ) (anchor : ℤ) (gapped : Bool) (late left : ℕ) → IsUpTo m n anchor gapped late (left + 1) b
    → IsUpTo m n anchor gapped (late + 1) left c)

-- after it the lull goes on
pub calm-next : (params : Params) (origin also seen more_seen : ℕ) (meter : KindMeter) (left more brim : ℕ) (b c : Between)
    → origin ≡ also
    → more_seen ≡ seen + 1
    → left + 1 ≡ more
    → meter.vrx.peak ≤ seen
    → GoesOn b c
    → IsCalm params origin seen meter more brim b
    → IsCalm params also more_seen meter left brim c
calm-next params origin also seen more_seen meter left more brim b c same long one few goes calm =
    let m = params.media in
    let n = params.n in
    let g = gapped_of meter.vrx.kind in
    let peak = meter.vrx.peak in
    let anchor : anchor_of m origin ≡ anchor_of m also = ap (anchor_of m) same in
    let early : (seen - peak) + 1 ≡ more_seen - peak = omega (arith, long, few) in
    let due = subst (λ k. IsFrom m n (anchor_of m origin) g (seen - peak) k b) (sym one) calm.due in
    record {
      within = calm.within;
      due = subst (λ a. IsFrom m n a g (more_seen - peak) left c) anchor
          (subst (λ x. IsFrom m n (anchor_of m origin) g x left c) early (goes.0 m n (anchor_of m origin) g (seen - peak) left due));
      ahead = λ none.
          let up_to = subst (λ k. IsUpTo m n (anchor_of m origin) g seen k b) (sym one) (calm.ahead none) in
          subst (λ a. IsUpTo m n a g more_seen left c) anchor
          (subst (λ x. IsUpTo m n (anchor_of m origin) g x left c) (sym long) (goes.1 m n (anchor_of m origin) g seen left up_to));
    }

-- a lull begins
pub calm-begins : (params : Params) (origin seen : ℕ) (meter : KindMeter) (left brim early late : ℕ) (gapped : Bool) (b : Between)
    → gapped_of meter.vrx.kind ≡ gapped
    → early ≡ seen - meter.vrx.peak
    → late ≡ seen
    → (meter.verdict ≡ Pass → brim ≤ meter.c_max)
    → IsFrom params.media params.n (anchor_of params.media origin) gapped early left b
    → (meter.vrx.fault ≡ None → IsUpTo params.media params.n (anchor_of params.media origin) gapped late left b)
    → IsCalm params origin seen meter left brim b
calm-begins params origin seen meter left brim early late gapped b kind first last within due ahead =
    let m = params.media in
    let n = params.n in
    let a = anchor_of m origin in
    record {
      within = within;
      due = subst (λ k. IsFrom m n a k (seen - meter.vrx.peak) left b) (sym kind) (subst (λ x. IsFrom m n a gapped x left b) first due);
      ahead = λ none. subst (λ k. IsUpTo m n a k seen left b) (sym kind) (subst (λ x. IsUpTo m n a gapped x left b) last (ahead none));
    }

-- reads that are due stay so
pub stands-later : (m : Media) (n : ℕ) (anchor : ℤ) (gapped : Bool) (s : Schedule) (a b : ℕ) → a ≤ b → StandsBy m n anchor gapped s a
    → StandsBy m n anchor gapped s b
stands-later m n anchor gapped s a b order stood =
    let parts : (a + 2 ^ 49) * s.grid.den ≤ (b + 2 ^ 49) * s.grid.den = mul-le-mul_right s.grid.den (omega (arith, order)) in
    record {
      grid = stood.grid;
      passed = λ x few. (stood.grid.before x b).1 (omega (arith, parts, (stood.grid.before x a).0 (stood.passed x few)));
    }
