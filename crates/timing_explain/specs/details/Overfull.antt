-- The state of the counters of packets after which the bucket exceeds C_MAX, and their results. `bucket` has the count
-- of the bucket just after each packet, `rec` its packet record and `stamp` its capture timestamp; n is the number of
-- packets per frame or field, and `seen` that of the packets so far.
use Rattle.std.specs.Prelude.{◌≡◌, ℕ, ℤ, List, [], ◌∷◌, Option}
use Rattle.timing_base.specs.Media.{Media}
use Rattle.timing_base.specs.declared.media.Kind.TheVariants.{N, NL, W}
use Rattle.sender_params.specs.Limits.{c_max_of}
use Rattle.flow_findings.specs.declared.inputs.Overfull.{Overfull}
use Rattle.flow_measure.specs.Bins.{is_above}
use Rattle.flow_measure.specs.Broken.{broken_groups}
use Rattle.flow_measure.specs.First.{IsFirst}
use Rattle.flow_measure.specs.Kinds.{place_below}
use Rattle.flow_measure.specs.Stands.{CountsBroken}
use Rattle.timing_explain.specs.declared.details.overfull.OverfullMeter.{OverfullMeter}
use Rattle.timing_explain.specs.declared.details.overfull.OverfullMeters.{OverfullMeters}

-- the counter was fed the first `seen` packets
pub record CountsOverfull (n c_max : ℕ) (x : OverfullMeter) (bucket : ℕ → ℤ) (rec stamp : ℕ → ℕ) (seen : ℕ)
    : Type 0 where
  pub c_max_is : x.c_max ≡ c_max
  pub groups_are : CountsBroken n x.groups (λ i. is_above c_max (bucket i)) seen
  pub first : Option ℕ
  pub first_is : IsFirst (λ i. is_above c_max (bucket i)) seen first
  pub place_is : x.first ≡ place_below rec stamp seen first

-- the result after `seen` packets, of which `groups` frames or fields are complete
pub record FindsOverfull (n c_max : ℕ) (bucket : ℕ → ℤ) (rec stamp : ℕ → ℕ) (seen groups : ℕ) (o : Overfull)
    : Type 0 where
  pub groups_are : o.groups ≡ broken_groups n (λ i. is_above c_max (bucket i)) groups
  pub first : Option ℕ
  pub first_is : IsFirst (λ i. is_above c_max (bucket i)) seen first
  pub place_is : o.first ≡ place_below rec stamp seen first

-- the counters of N, NL and W were fed the first `seen` packets
pub record CountAll (m : Media) (n : ℕ) (x : OverfullMeters) (bucket : ℕ → ℤ) (rec stamp : ℕ → ℕ) (seen : ℕ)
    : Type 0 where
  pub narrow_counts : CountsOverfull n (c_max_of m n N) x.narrow bucket rec stamp seen
  pub linear_counts : CountsOverfull n (c_max_of m n NL) x.narrow_linear bucket rec stamp seen
  pub wide_counts : CountsOverfull n (c_max_of m n W) x.wide bucket rec stamp seen

-- the results for N, NL and W, in this order
abbrev pub FindAll : Media → (n : ℕ) → (bucket : ℕ → ℤ) → (rec stamp : ℕ → ℕ) → (seen groups : ℕ) → List Overfull
    → Type 0
FindAll m n bucket rec stamp seen groups (narrow ∷ narrow_linear ∷ wide ∷ []) =
    FindsOverfull n (c_max_of m n N) bucket rec stamp seen groups narrow
    × FindsOverfull n (c_max_of m n NL) bucket rec stamp seen groups narrow_linear
    × FindsOverfull n (c_max_of m n W) bucket rec stamp seen groups wide
FindAll m n bucket rec stamp seen groups _ = ⊥
