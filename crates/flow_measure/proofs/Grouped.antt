-- The first and the last packet of a group.
use Rattle.std.proofs.Common.{◌≡◌, ◌<◌, ◌+◌, ◌-◌, ◌*◌, ◌/◌, ◌%◌, ℕ, ℤ, inl, inr, ap, ◌∙◌, sym, subst, arith}
use Rattle.std.proofs.lemmas.Bool.{cases_lt}
use Rattle.std.proofs.lemmas.Nat.{div-add-mod'}
use Rattle.std.proofs.Math.Nat.{mul-div_cancel_left, mul_comm}
use Rattle.timing_base.specs.Media.{Media}
use Rattle.flow_measure.specs.Frames.{after_start, timestamp_latency, timestamp_offset}
use Rattle.flow_measure.specs.Groups.{firsts_of, latency_at, offset_at, since_at}

-- of packets in groups of d, which is n
pub first-is : (seen n d k : ℕ) → d ≡ n → seen % d ≡ 0 → k ≡ seen / d → k * n ≡ seen
first-is seen n d k same e q =
    let whole : k * d ≡ (seen / d) * d = ap (λ x. x * d) q in
    ap (λ x. k * x) (sym same) ∙ omega (arith, whole, e, div-add-mod' seen d)

pub last-is : (seen n d k place : ℕ) → d ≡ n → seen % d ≡ place → place + 1 ≡ d → k ≡ seen / d → k * n + (n - 1) ≡ seen
last-is seen n d k place same e outside q =
    let whole : k * d ≡ (seen / d) * d = ap (λ x. x * d) q in
    ap (λ x. k * x + (x - 1)) (sym same) ∙ omega (arith, whole, e, outside, div-add-mod' seen d)

-- so many groups are whole
pub groups-are : (seen n d groups : ℕ) → 0 < d → d ≡ n → seen ≡ n * groups → seen / d ≡ groups
groups-are seen n d groups some same whole =
    ap (λ x. x / d) (whole ∙ ap (λ x. x * groups) (sym same)) ∙ mul-div_cancel_left groups some

-- and none is left over
pub none-left : (seen n d groups : ℕ) → 0 < d → d ≡ n → seen ≡ n * groups → seen % d ≡ 0
none-left seen n d groups some same whole =
    let all : (seen / d) * d ≡ groups * d = ap (λ x. x * d) (groups-are seen n d groups some same whole) in
    let product : seen ≡ groups * d = whole ∙ ap (λ x. x * groups) (sym same) ∙ mul_comm d groups in
    omega (arith, all, product, div-add-mod' seen d)

-- the numbers of the first packet of a group, by its stamp and timestamp
pub since-first : (m : Media) (n0 there : ℤ) (stamp : ℕ → ℕ) (k seen at : ℕ) (x y : ℤ) → k ≡ seen → stamp seen ≡ at → there ≡ n0
    → x ≡ after_start m there seen at → y ≡ x → since_at m n0 stamp k ≡ y
since-first m n0 there stamp k seen at x y count at_is anchor value same =
    ap (since_at m n0 stamp) count ∙ ap (after_start m n0 seen) at_is ∙ ap (λ a. after_start m a seen at) (sym anchor) ∙ sym (same ∙ value)

pub offset-first : (m : Media) (n0 there : ℤ) (timestamp : ℕ → ℕ) (k seen ticks : ℕ) (x y : ℤ) → k ≡ seen → timestamp seen ≡ ticks → there ≡ n0
    → x ≡ timestamp_offset m there seen ticks → y ≡ x → offset_at m n0 timestamp k ≡ y
offset-first m n0 there timestamp k seen ticks x y count ticks_is anchor value same =
    ap (offset_at m n0 timestamp) count ∙ ap (timestamp_offset m n0 seen) ticks_is ∙ ap (λ a. timestamp_offset m a seen ticks) (sym anchor)
    ∙ sym (same ∙ value)

pub latency-first : (stamp timestamp : ℕ → ℕ) (k seen at ticks : ℕ) (x y : ℤ) → k ≡ seen → stamp seen ≡ at → timestamp seen ≡ ticks
    → x ≡ timestamp_latency at ticks → y ≡ x → latency_at stamp timestamp k ≡ y
latency-first stamp timestamp k seen at ticks x y count at_is ticks_is value same =
    ap (latency_at stamp timestamp) count ∙ ap (λ t. timestamp_latency t (timestamp seen)) at_is ∙ ap (timestamp_latency at) ticks_is ∙ sym (same ∙ value)
