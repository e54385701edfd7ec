-- Windows of packets that are worked by hand: a bound is tried at an offset and at the next one.
use Rattle.std.proofs.Common.{◌≡◌, ◌<◌, ◌+◌, ◌-◌, ℕ, zero, suc, Bool, true, false, cond, nat_lt, Some, None, List, length, slice_index, refl, ap, ◌∙◌, arith}
use Rattle.std.proofs.Common.{inl, inr}
use Rattle.std.proofs.lemmas.Bool.{cases_lt, ltb-true}
use Rattle.std.proofs.lemmas.Option.{none-some}
use Rattle.timing_base.specs.Media.{IsMedia, Media}
use Rattle.timing_base.specs.declared.media.Kind.{Kind}
use Rattle.sender_params.specs.Reads.{anchor_of}
use Rattle.sender_params.specs.Worked.{hd_50}
use Rattle.offset_window.specs.Window.{IsFirstBroken, IsLowerEnd, IsUpperEnd, is_empty_with, is_over_with}
use Rattle.offset_window.specs.declared.window.WindowEnd.TheVariants.{Absent, At}
use Rattle.offset_window.proofs.Ends.{Falls, Rises, clash}
use Rattle.offset_window.proofs.Offsets.{empty-falls, over-rises}

-- whether none of the first k packets is broken
abbrev pub is_none : (ℕ → Bool) → ℕ → Bool
is_none p zero = true
is_none p (suc k) = cond (p k) false (is_none p k)

none_step : (b rest : Bool) → cond b false rest ≡ true → (b ≡ false) × (rest ≡ true)
none_step true rest e = absurd (cc)
none_step false rest e = (refl, e)

pub none_by : (p : ℕ → Bool) (k : ℕ) → is_none p k ≡ true → (i : ℕ) → i < k → p i ≡ false
none_by p zero e i few = absurd (omega (arith, few))
none_by p (suc k) e i few =
    let step = none_step (p k) (is_none p k) e in
    elim (cases_lt i k) as (λ _. p i ≡ false) [
      | inl early ↦ none_by p k step.1 i early
      | inr late ↦
          let same : i ≡ k = omega (arith, few, late) in
          ap p same ∙ step.0
    ]

-- the first broken packet
first-by : (broken : ℕ → ℕ → Bool) (count x i : ℕ)
    → nat_lt i count ≡ true
    → broken x i ≡ true
    → is_none (broken x) i ≡ true
    → IsFirstBroken broken count x i
first-by broken count x i within here none = record {
  within = ltb-true i count within;
  here = here;
  first = none_by (broken x) i none;
}

lower-by : (broken : ℕ → ℕ → Bool) (count x i : ℕ)
    → Falls broken
    → nat_lt 0 x ≡ true
    → nat_lt x 1000001 ≡ true
    → is_none (broken x) count ≡ true
    → nat_lt i count ≡ true
    → broken (x - 1) i ≡ true
    → is_none (broken (x - 1)) i ≡ true
    → IsLowerEnd broken count (At x (Some i))
lower-by broken count x i falls some most none within here first = record {
  most = omega (arith, ltb-true x 1000001 most);
  serves = none_by (broken x) count none;
  least = λ y low serves. clash (broken y i) (falls y (x - 1) i (omega (arith, low)) here) (serves i (ltb-true i count within));
  binds = (ltb-true 0 x some, first-by broken count (x - 1) i within here first);
}

upper-by : (broken : ℕ → ℕ → Bool) (count x i : ℕ)
    → Rises broken
    → nat_lt x 1000000 ≡ true
    → is_none (broken x) count ≡ true
    → nat_lt i count ≡ true
    → broken (x + 1) i ≡ true
    → is_none (broken (x + 1)) i ≡ true
    → IsUpperEnd broken count (At x (Some i))
upper-by broken count x i rises most none within here first = record {
  most = omega (arith, ltb-true x 1000000 most);
  serves = none_by (broken x) count none;
  greatest = λ y high top serves. clash (broken y i) (rises (x + 1) y i (omega (arith, high)) top here) (serves i (ltb-true i count within));
  binds = (ltb-true x 1000000 most, first-by broken count (x + 1) i within here first);
}

-- 1080 lines at 50, and with TROFF=30000
pub hd_50-is : IsMedia hd_50
hd_50-is = record {
  port_some = omega arith;
  pt_most = omega arith;
  width_some = omega arith;
  width_most = omega arith;
  height_some = omega arith;
  height_most = omega arith;
  p_some = omega arith;
  p_most = omega arith;
  q_some = omega arith;
  q_most = omega arith;
  troff_most = λ x e. absurd (none-some x e);
  cmax_some = λ x e. absurd (none-some x e);
  cmax_most = λ x e. absurd (none-some x e);
}

-- the ends of the window of packets that are worked by hand
abbrev empty : Media → ℕ → List ℕ → Kind → (micros i : ℕ) → Bool
empty m n stamps kind = is_empty_with m n (anchor_of m (slice_index stamps 0)) stamps kind

abbrev over : Media → ℕ → List ℕ → Kind → (micros i : ℕ) → Bool
over m n stamps kind = is_over_with m n (anchor_of m (slice_index stamps 0)) stamps kind

pub lower-at : (m : Media) (n : ℕ) (stamps : List ℕ) (kind : Kind) (x i : ℕ)
    → nat_lt 0 x ≡ true
    → nat_lt x 1000001 ≡ true
    → is_none (empty m n stamps kind x) (length stamps) ≡ true
    → nat_lt i (length stamps) ≡ true
    → empty m n stamps kind (x - 1) i ≡ true
    → is_none (empty m n stamps kind (x - 1)) i ≡ true
    → IsLowerEnd (empty m n stamps kind) (length stamps) (At x (Some i))
lower-at m n stamps kind x i =
    lower-by (empty m n stamps kind) (length stamps) x i (empty-falls m n (anchor_of m (slice_index stamps 0)) stamps kind)

pub lower-first : (m : Media) (n : ℕ) (stamps : List ℕ) (kind : Kind)
    → is_none (empty m n stamps kind 0) (length stamps) ≡ true
    → IsLowerEnd (empty m n stamps kind) (length stamps) (At 0 None)
lower-first m n stamps kind none = record {
  most = omega arith;
  serves = none_by (empty m n stamps kind 0) (length stamps) none;
  least = λ y low serves. omega (arith, low);
  binds = refl;
}

pub lower-gone : (m : Media) (n : ℕ) (stamps : List ℕ) (kind : Kind) (i : ℕ)
    → nat_lt i (length stamps) ≡ true
    → empty m n stamps kind 1000000 i ≡ true
    → IsLowerEnd (empty m n stamps kind) (length stamps) Absent
lower-gone m n stamps kind i within here = λ x most serves.
    clash (empty m n stamps kind x i)
    (empty-falls m n (anchor_of m (slice_index stamps 0)) stamps kind x 1000000 i most here)
    (serves i (ltb-true i (length stamps) within))

pub upper-at : (n : ℕ) (stamps : List ℕ) (kind : Kind) (x i : ℕ)
    → nat_lt 0 n ≡ true
    → nat_lt x 1000000 ≡ true
    → is_none (over hd_50 n stamps kind x) (length stamps) ≡ true
    → nat_lt i (length stamps) ≡ true
    → over hd_50 n stamps kind (x + 1) i ≡ true
    → is_none (over hd_50 n stamps kind (x + 1)) i ≡ true
    → IsUpperEnd (over hd_50 n stamps kind) (length stamps) (At x (Some i))
upper-at n stamps kind x i some =
    upper-by (over hd_50 n stamps kind) (length stamps) x i
    (over-rises hd_50 n (anchor_of hd_50 (slice_index stamps 0)) stamps kind hd_50-is (ltb-true 0 n some))

pub upper-last : (m : Media) (n : ℕ) (stamps : List ℕ) (kind : Kind)
    → is_none (over m n stamps kind 1000000) (length stamps) ≡ true
    → IsUpperEnd (over m n stamps kind) (length stamps) (At 1000000 None)
upper-last m n stamps kind none = record {
  most = omega arith;
  serves = none_by (over m n stamps kind 1000000) (length stamps) none;
  greatest = λ y high most serves. omega (arith, high, most);
  binds = refl;
}

pub upper-gone : (n : ℕ) (stamps : List ℕ) (kind : Kind) (i : ℕ)
    → nat_lt 0 n ≡ true
    → nat_lt i (length stamps) ≡ true
    → over hd_50 n stamps kind 0 i ≡ true
    → IsUpperEnd (over hd_50 n stamps kind) (length stamps) Absent
upper-gone n stamps kind i some within here = λ x most serves.
    clash (over hd_50 n stamps kind x i)
    (over-rises hd_50 n (anchor_of hd_50 (slice_index stamps 0)) stamps kind hd_50-is (ltb-true 0 n some) 0 x i (omega arith) most here)
    (serves i (ltb-true i (length stamps) within))
