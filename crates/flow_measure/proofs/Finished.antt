-- The numbers of a run of whole groups, by its meters.
use Rattle.std.proofs.Common.{◌≡◌, ◌<◌, ◌≤◌, ◌+◌, ◌*◌, ◌/◌, ◌%◌, ℕ, ℤ, Bool, true, false, MatchOption, List, length, slice_index, Option, None, refl, ap, ◌∙◌}
use Rattle.std.proofs.Common.{sym, subst, arith}
use Rattle.std.specs.List.{slice_index_or}
use Rattle.timing_base.specs.Media.{IsMedia, Media}
use Rattle.timing_base.specs.declared.media.Kind.{Kind}
use Rattle.timing_base.specs.declared.media.Kind.TheVariants.{N, NL, W}
use Rattle.sender_params.specs.Limits.{c_max_of, gapped_of, vrx_full_of}
use Rattle.offset_window.specs.Window.{IsWindow}
use Rattle.offset_window.specs.declared.window.Window.{Window}
use Rattle.flow_measure.specs.Fed.{MeasuresKind, MeasuresType, kind_in}
use Rattle.flow_measure.specs.First.{IsFirst}
use Rattle.flow_measure.specs.Kinds.{AreKindNumbers, Packets, breaks}
use Rattle.flow_measure.specs.Metered.{Measures}
use Rattle.flow_measure.specs.Occupancy.{AreOccupancies}
use Rattle.flow_measure.specs.Run.{IsKind, IsMeasured, packets_of}
use Rattle.flow_measure.specs.declared.meters.RunMeters.{RunMeters}
use Rattle.flow_measure.specs.declared.numbers.KindNumbers.{KindNumbers}
use Rattle.flow_measure.specs.declared.numbers.RunNumbers.{RunNumbers}
use Rattle.flow_measure.proofs.Grouped.{groups-are, none-left}
use Rattle.flow_measure.proofs.Packets.{none-of, occupancies, packets-are}
use Rattle.flow_measure.proofs.Waiting.{kind-seen}

-- behind whole groups
pub record IsWhole (m : Media) (n groups : ℕ) (x : RunMeters) (stamps records : List ℕ) : Type 0 where
  pub groups_are : x.walk.group ≡ groups
  -- no packet waits
  pub none : x.models.waits ≡ 0
  pub all : x.models.bucket.seen ≡ length stamps
  -- what the buffer holds after each packet
  pub gapped_at : ℕ → ℤ
  pub linear_at : ℕ → ℤ
  pub gapped_are : AreOccupancies m n stamps true gapped_at
  pub linear_are : AreOccupancies m n stamps false linear_at
  pub narrow : MeasuresType N n (c_max_of m n N) (vrx_full_of m n N) x.models (packets_of m n stamps records gapped_at N)
  pub narrow_linear : MeasuresType NL n (c_max_of m n NL) (vrx_full_of m n NL) x.models (packets_of m n stamps records linear_at NL)
  pub wide : MeasuresType W n (c_max_of m n W) (vrx_full_of m n W) x.models (packets_of m n stamps records linear_at W)

pub whole : (m : Media) (n groups : ℕ) (x : RunMeters) (stamps records timestamps : List ℕ) → IsMedia m → 1 ≤ n
    → Measures m n x stamps records timestamps → length stamps ≡ n * groups
    → IsWhole m n groups x stamps records
whole m n groups x stamps records timestamps is some h size =
    let w = x.walk in
    let g = occupancies m n stamps true is some in
    let l = occupancies m n stamps false is some in
    let wide : 0 < w.n = omega (arith, w.place_within) in
    let seen : w.seen ≡ n * groups = h.seen ∙ size in
    let first : w.place ≡ 0 = w.place_is ∙ none-left w.seen n w.n groups wide h.n_is seen in
    let none : x.models.waits ≡ 0 = x.settled first in
    record {
      groups_are = w.group_is ∙ groups-are w.seen n w.n groups wide h.n_is seen;
      none = none;
      all = omega (arith, x.models_are, none, h.seen);
      gapped_at = g.0;
      linear_at = l.0;
      gapped_are = g.1;
      linear_are = l.1;
      narrow = h.kinds N (packets_of m n stamps records g.0 N) (packets-are m n stamps records g.0 N g.1);
      narrow_linear = h.kinds NL (packets_of m n stamps records l.0 NL) (packets-are m n stamps records l.0 NL l.1);
      wide = h.kinds W (packets_of m n stamps records l.0 W) (packets-are m n stamps records l.0 W l.1);
    }

-- the numbers of a type
pub kind-is : (kind : Kind) (m : Media) (n groups : ℕ) (x : RunMeters) (stamps records : List ℕ) (occupancy : ℕ → ℤ) (named : Option ℕ) (k : KindNumbers)
    → x.models.bucket.seen ≡ length stamps
    → (kind_in kind x.models).broken.whole ≡ groups
    → MeasuresType kind n (c_max_of m n kind) (vrx_full_of m n kind) x.models (packets_of m n stamps records occupancy kind)
    → IsFirst (breaks (packets_of m n stamps records occupancy kind)) (length stamps) named
    → ((n c_max full : ℕ) (named : Option ℕ) (p : Packets) → MeasuresKind n c_max full (kind_in kind x.models) p
    → IsFirst (breaks p) (kind_in kind x.models).bucket.seen named
    → AreKindNumbers n (kind_in kind x.models).broken.whole (kind_in kind x.models).bucket.seen c_max full named p k)
    → (troff : Window) → IsWindow m n stamps kind troff → k.troff ≡ troff
    → IsKind m n groups stamps records occupancy kind named k
kind-is kind m n groups x stamps records occupancy named k all over h first finish troff window same =
    let p = packets_of m n stamps records occupancy kind in
    let c_max = c_max_of m n kind in
    let full = vrx_full_of m n kind in
    let meter = kind_in kind x.models in
    let count : meter.bucket.seen ≡ length stamps = kind-seen kind x.models ∙ all in
    let told = finish n c_max full named p h.fed (subst (λ c. IsFirst (breaks p) c named) (sym count) first) in
    record {
      numbers = subst (λ g. AreKindNumbers n g (length stamps) c_max full named p k) over
          (subst (λ c. AreKindNumbers n meter.broken.whole c c_max full named p k) count told);
      troff = subst (IsWindow m n stamps kind) (sym same) window;
    }

-- there are no numbers where there is no packet
pub none-measured : (m : Media) (n groups : ℕ) (named : List (Option ℕ)) (stamps records timestamps : List ℕ) (result : Option RunNumbers)
    → 1 ≤ n → result ≡ None → length stamps ≡ n * groups → length stamps ≡ 0
    → MatchOption result (groups ≡ 0) (IsMeasured m n groups stamps records timestamps named)
none-measured m n groups named stamps records timestamps result some is size none =
    subst (λ o. MatchOption o (groups ≡ 0) (IsMeasured m n groups stamps records timestamps named)) (sym is) (none-of n groups (length stamps) some size none)
