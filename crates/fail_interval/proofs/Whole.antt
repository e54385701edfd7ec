-- A run with a whole group goes on.
use Rattle.std.proofs.Common.{◌≡◌, ◌≤◌, ◌+◌, ◌-◌, ◌^◌, ℕ, Bool, true, false, List, [], ◌∷◌, ◌++◌, length, length-append, refl, ap, arith, ◌∙◌, sym, subst}
use Rattle.std.proofs.Math.Logic.{∥∥₁_elim}
use Rattle.std.proofs.Props.{props}
use Rattle.timing_base.specs.Media.{Media}
use Rattle.timing_base.specs.Verdicts.{Judged}
use Rattle.sender_params.specs.declared.params.Params.{Params}
use Rattle.fail_interval.specs.Groups.{CanGoOn, IsWhole}
use Rattle.fail_interval.specs.Meters.{CanFollow, StandsFor}
use Rattle.fail_interval.specs.Row.{judged_values}
use Rattle.fail_interval.specs.SoFar.{Groups, groups_first, groups_next}
use Rattle.fail_interval.specs.declared.meters.RunMeters.{RunMeters}
use Rattle.fail_interval.specs.declared.run.WholeGroups.{WholeGroups}

-- the next packet may follow those that the meters were fed
pub can_follow : {M : Type 0} (m : Media) (judge : WholeGroups M) (so_far : Groups) (at : ℕ) (marker : Bool) → CanGoOn m judge so_far at marker
    → CanFollow judge.params judge.meters so_far.stamps at
can_follow m judge so_far at marker c = record { stands = c.is.meters; first = λ none. absurd (omega (arith, none, c.is.some)); fit = c.fits.stamps }

-- the counts have room for one more
pub record HasRoom {M : Type 0} (judge : WholeGroups M) : Type 0 where
  pub groups : judge.groups ≤ 2 ^ 41

groups-case : (groups : ℕ) (marker : Bool) → (groups_next (record { head = 0; n = 0; groups = groups; whole = []; stamps = [] }) 0 marker).groups ≤ 2 ^ 41
    → groups ≤ 2 ^ 41
groups-case groups true h = omega (arith, h)
groups-case groups false h = h

pub has_room : {M : Type 0} (m : Media) (judge : WholeGroups M) (so_far : Groups) (at : ℕ) (marker : Bool) → CanGoOn m judge so_far at marker → HasRoom judge
has_room m judge so_far at marker c = record {
  groups = omega (arith, c.is.groups, groups-case so_far.groups marker c.fits.groups);
}

pub room-known : {M : Type 0} (judge : WholeGroups M) (at : ℕ) (marker : Bool) → ∥ ((m : Media) × (so_far : Groups) × CanGoOn m judge so_far at marker) ∥₁ → HasRoom judge
room-known judge at marker known = ∥∥₁_elim known (hlevel props) (λ (m, so_far, c). has_room m judge so_far at marker c)

-- a packet that has no marker ends no group; what is known of the run after it
pub plain_as : {M : Type 0} (m : Media) (judge new : WholeGroups M) (so_far : Groups) (at : ℕ)
    → new.params ≡ judge.params → new.head ≡ judge.head → new.groups ≡ judge.groups → new.judged ≡ judge.judged
    → ((stamps : List ℕ) → CanFollow judge.params judge.meters stamps at → StandsFor judge.params new.meters (stamps ++ at ∷ []))
    → CanGoOn m judge so_far at false
    → IsWhole m new (groups_next so_far at false)
plain_as m judge new so_far at params head groups judged fed c =
    let long : length (so_far.stamps ++ at ∷ []) ≡ length so_far.stamps + 1 = length-append so_far.stamps (at ∷ []) in
    record {
      media = ap (λ (p : Params). p.media) params ∙ c.is.media;
      n = ap (λ (p : Params). p.n) params ∙ c.is.n;
      head = head ∙ c.is.head;
      groups = groups ∙ c.is.groups;
      meters = subst (λ (p : Params). StandsFor p new.meters (so_far.stamps ++ at ∷ [])) (sym params)
          (fed so_far.stamps (can_follow m judge so_far at false c));
      judged = judged ∙ c.is.judged;
      some = omega (arith, length-append so_far.stamps (at ∷ []));
      within = omega (arith, long, c.is.within);
    }

-- where the packet has no marker
pub unmarked_as : {M : Type 0} (m : Media) (judge new : WholeGroups M) (so_far : Groups) (at : ℕ) (marker : Bool)
    → new.params ≡ judge.params → new.head ≡ judge.head → new.groups ≡ judge.groups → new.judged ≡ judge.judged
    → ((stamps : List ℕ) → CanFollow judge.params judge.meters stamps at → StandsFor judge.params new.meters (stamps ++ at ∷ []))
    → marker ≡ false
    → CanGoOn m judge so_far at marker
    → IsWhole m new (groups_next so_far at marker)
unmarked_as m judge new so_far at true params head groups judged fed e c = cc
unmarked_as m judge new so_far at false params head groups judged fed e c = plain_as m judge new so_far at params head groups judged fed c

judged-same : (m k : Media) (n more_n groups more_groups head more_head : ℕ) (stamps : List ℕ) → m ≡ k → n ≡ more_n → groups ≡ more_groups → head ≡ more_head
    → judged_values m (record { n = n; groups = groups; head = head; tail = 0; stamps = stamps })
    ≡ judged_values k (record { n = more_n; groups = more_groups; head = more_head; tail = 0; stamps = stamps })
judged-same m k n more_n groups more_groups head more_head stamps e f g h = cc

-- a packet with the marker ends a group, and the verdict is on all packets so far
pub marked_as : {M : Type 0} (m : Media) (judge new : WholeGroups M) (so_far : Groups) (at : ℕ) (marker : Bool) (meters : RunMeters)
    → new.params ≡ judge.params → new.head ≡ judge.head → new.groups ≡ judge.groups + 1 → new.meters ≡ meters
    → ((stamps : List ℕ) → CanFollow judge.params judge.meters stamps at → StandsFor judge.params meters (stamps ++ at ∷ []))
    → ((stamps : List ℕ) → StandsFor judge.params meters stamps → new.judged
    ≡ judged_values judge.params.media (record { n = judge.params.n; groups = judge.groups + 1; head = judge.head; tail = 0; stamps = stamps }))
    → marker ≡ true
    → CanGoOn m judge so_far at marker
    → IsWhole m new (groups_next so_far at marker)
marked_as m judge new so_far at false meters params head groups same fed says e c = cc
marked_as m judge new so_far at true meters params head groups same fed says e c =
    let stands = fed so_far.stamps (can_follow m judge so_far at true c) in
    let more : judge.groups + 1 ≡ so_far.groups + 1 = omega (arith, c.is.groups) in
    record {
      media = ap (λ (p : Params). p.media) params ∙ c.is.media;
      n = ap (λ (p : Params). p.n) params ∙ c.is.n;
      head = head ∙ c.is.head;
      groups = groups ∙ more;
      meters = subst (λ (p : Params). StandsFor p new.meters (so_far.stamps ++ at ∷ [])) (sym params)
          (subst (λ (x : RunMeters). StandsFor judge.params x (so_far.stamps ++ at ∷ [])) (sym same) stands);
      judged = says (so_far.stamps ++ at ∷ []) stands ∙ judged-same _ _ _ _ _ _ _ _ _ c.is.media c.is.n more c.is.head;
      some = omega (arith, length-append so_far.stamps (at ∷ []));
      within = omega arith;
    }

-- so where a packet was put in before the group ended
pub marked_then : {M : Type 0} (m : Media) (judge mid new : WholeGroups M) (so_far : Groups) (at : ℕ) (marker : Bool)
    → mid.params ≡ judge.params → mid.head ≡ judge.head → mid.groups ≡ judge.groups
    → ((stamps : List ℕ) → CanFollow judge.params judge.meters stamps at → StandsFor judge.params mid.meters (stamps ++ at ∷ []))
    → new.params ≡ mid.params → new.head ≡ mid.head → new.groups ≡ mid.groups + 1 → new.meters ≡ mid.meters
    → ((stamps : List ℕ) → StandsFor mid.params mid.meters stamps → new.judged
    ≡ judged_values mid.params.media (record { n = mid.params.n; groups = mid.groups + 1; head = mid.head; tail = 0; stamps = stamps }))
    → marker ≡ true
    → CanGoOn m judge so_far at marker
    → IsWhole m new (groups_next so_far at marker)
marked_then m judge mid new so_far at marker params head groups fed more_params more_head more_groups meters says e c =
    marked_as m judge new so_far at marker mid.meters (more_params ∙ params) (more_head ∙ head) (more_groups ∙ ap (λ k. k + 1) groups) meters fed
    (λ stamps s.
    says stamps (subst (λ (p : Params). StandsFor p mid.meters stamps) (sym params) s)
    ∙ judged-same _ _ _ _ _ _ _ _ stamps (ap (λ (p : Params). p.media) params) (ap (λ (p : Params). p.n) params) (ap (λ k. k + 1) groups) head)
    e c

-- the first group is whole
pub first-whole : {M : Type 0} (m : Media) (judge : WholeGroups M) (head : ℕ) (stamps : List ℕ)
    → judge.params.media ≡ m
    → judge.params.n ≡ length stamps
    → judge.head ≡ head
    → judge.groups ≡ 1
    → 1 ≤ length stamps
    → StandsFor judge.params judge.meters stamps
    → ((stamps : List ℕ) → StandsFor judge.params judge.meters stamps → judge.judged ≡ judged_values judge.params.media
    (record { n = judge.params.n; groups = 1; head = head; tail = 0; stamps = stamps }))
    → IsWhole m judge (groups_first head stamps)
first-whole m judge head stamps media n heads groups some stands says = record {
  media = media;
  n = n;
  head = heads;
  groups = groups;
  meters = stands;
  judged = says stamps stands ∙ judged-same judge.params.media m judge.params.n (length stamps) 1 1 head head stamps media n refl refl;
  some = some;
  within = omega arith;
}

-- the verdict with so many packets after the last marker
abbrev pub tail_is : Judged → ℕ → Judged
tail_is j tail = record {
  n = j.n;
  frames = j.frames;
  packets = j.packets;
  head = j.head;
  tail = tail;
  bucket_peak = j.bucket_peak;
  gapped_peak = j.gapped_peak;
  linear_peak = j.linear_peak;
  kinds = j.kinds;
}

-- the packets after those of whole groups are the tail
pub tail-size : {M : Type 0} (m : Media) (judge : WholeGroups M) (so_far : Groups) (seen : ℕ) → IsWhole m judge so_far
    → ((params : Params) (stamps : List ℕ) → StandsFor params judge.meters stamps → seen ≡ length stamps)
    → seen - judge.judged.packets ≡ length so_far.stamps - length so_far.whole
tail-size m judge so_far seen s counts =
    let packets : judge.judged.packets ≡ length so_far.whole = ap (λ (j : Judged). j.packets) s.judged in
    omega (arith, packets, counts judge.params so_far.stamps s.meters)

-- and told where the run ends here
pub with-tail : {M : Type 0} (m : Media) (judge : WholeGroups M) (so_far : Groups) (tail : ℕ) → IsWhole m judge so_far
    → tail ≡ length so_far.stamps - length so_far.whole
    → tail_is judge.judged tail ≡ judged_values m (record {
      n = so_far.n;
      groups = so_far.groups;
      head = so_far.head;
      tail = length so_far.stamps - length so_far.whole;
      stamps = so_far.whole;
    })
with-tail m judge so_far tail s size =
    ap (λ (j : Judged). tail_is j tail) s.judged ∙ ap (tail_is (judged_values m (record {
      n = so_far.n;
      groups = so_far.groups;
      head = so_far.head;
      tail = 0;
      stamps = so_far.whole;
    }))) size
