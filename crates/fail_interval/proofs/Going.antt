-- A run goes on, by where it stands.
use Rattle.std.proofs.Common.{◌≡◌, ◌≤◌, ◌<◌, ◌^◌, ℕ, Bool, true, false, List, [], ◌∷◌, ◌++◌, length, length-append, ap, arith, subst, sym, ◌-◌}
use Rattle.std.proofs.Math.Logic.{∥∥₁_elim, ∥∥₁_map}
use Rattle.std.proofs.Props.{props}
use Rattle.timing_base.specs.Media.{Media}
use Rattle.timing_base.specs.Verdicts.{Judged}
use Rattle.timing_base.specs.declared.row.RunVerdict.TheVariants as run_verdict
use Rattle.fail_interval.specs.Groups.{CanGoOn as CanAdd, IsWhole}
use Rattle.fail_interval.specs.Row.{judged_values, run_verdict_of}
use Rattle.fail_interval.specs.Runs.{CanGoOn, FitsWhole, IsOpenTo, StandsFor}
use Rattle.fail_interval.specs.SoFar.{AreStamps, Groups as GroupsSoFar, SoFar, groups_next, in_first, in_groups, in_head, outcome_of, so_far_next}
use Rattle.fail_interval.specs.declared.first.FirstGroup.{FirstGroup}
use Rattle.fail_interval.specs.declared.run.RunJudge.{RunJudge}
use Rattle.fail_interval.specs.declared.run.RunJudge.TheVariants.{First, Groups, Head}
use Rattle.fail_interval.specs.declared.run.WholeGroups.{WholeGroups}

groups-case : {M : Type 0} (m : Media) (groups : WholeGroups M) (so_far : SoFar) (at : ℕ) (marker : Bool) → CanGoOn m (Groups groups) so_far at marker
    → (k : Media) × (so_far : GroupsSoFar) × CanAdd k groups so_far at marker
groups-case m groups (in_head head) at marker c = absurd c.stands
groups-case m groups (in_first head stamps) at marker c = absurd c.stands
groups-case m groups (in_groups so_far) at marker c = (m, so_far, record { is = c.stands; fits = c.fits })

-- after the first group
pub groups-known : {M : Type 0} (m : Media) (judge : RunJudge M) (groups : WholeGroups M) (at : ℕ) (marker : Bool) → judge ≡ Groups groups → IsOpenTo m judge at marker
    → ∥ ((k : Media) × (so_far : GroupsSoFar) × CanAdd k groups so_far at marker) ∥₁
groups-known m judge groups at marker e known =
    let at_groups : IsOpenTo m (Groups groups) at marker = subst (λ j. IsOpenTo m j at marker) e known in
    ∥∥₁_map at_groups (λ (so_far, c). groups-case m groups so_far at marker c)

pub groups-known_of : {M : Type 0} (judge : RunJudge M) (groups : WholeGroups M) (at : ℕ) (marker : Bool) → judge ≡ Groups groups
    → ∥ ((m : Media) × (so_far : SoFar) × CanGoOn m judge so_far at marker) ∥₁
    → ∥ ((k : Media) × (so_far : GroupsSoFar) × CanAdd k groups so_far at marker) ∥₁
groups-known_of judge groups at marker e known =
    ∥∥₁_map known (λ (m, so_far, c). groups-case m groups so_far at marker (subst (λ j. CanGoOn m j so_far at marker) e c))

groups-fed-case : {M : Type 0} (m : Media) (groups new : WholeGroups M) (so_far : SoFar) (at : ℕ) (marker : Bool)
    → ((k : Media) (s : GroupsSoFar) → CanAdd k groups s at marker → IsWhole k new (groups_next s at marker))
    → CanGoOn m (Groups groups) so_far at marker
    → StandsFor m (Groups new) (so_far_next so_far at marker)
groups-fed-case m groups new (in_head head) at marker fed c = absurd c.stands
groups-fed-case m groups new (in_first head stamps) at marker fed c = absurd c.stands
groups-fed-case m groups new (in_groups so_far) at marker fed c = fed m so_far (record { is = c.stands; fits = c.fits })

-- and it goes on with its groups
pub groups-fed : {M : Type 0} (m : Media) (judge : RunJudge M) (groups new : WholeGroups M) (so_far : SoFar) (at : ℕ) (marker : Bool) → judge ≡ Groups groups
    → ((k : Media) (s : GroupsSoFar) → CanAdd k groups s at marker → IsWhole k new (groups_next s at marker))
    → CanGoOn m judge so_far at marker
    → StandsFor m (Groups new) (so_far_next so_far at marker)
groups-fed m judge groups new so_far at marker e fed c =
    groups-fed-case m groups new so_far at marker fed (subst (λ j. CanGoOn m j so_far at marker) e c)

first-most : {M : Type 0} (m : Media) (head : ℕ) (group : FirstGroup) (so_far : SoFar) (at : ℕ) (marker : Bool) → marker ≡ true
    → CanGoOn {M = M} m (First head group) so_far at marker
    → length (group.stamps.items ++ at ∷ []) ≤ 262144
first-most m head group (in_head h) at marker e c = absurd c.stands
first-most m head group (in_first h seen) at true e c = subst (λ xs. length (xs ++ at ∷ []) ≤ 262144) (sym c.stands.1) c.fits.most
first-most m head group (in_first h seen) at false e c = cc
first-most m head group (in_groups so_far) at marker e c = absurd c.stands

-- a first group that ends here has at most 262,144 packets
pub first-most-known : {M : Type 0} (m : Media) (judge : RunJudge M) (head : ℕ) (group : FirstGroup) (at : ℕ) (marker : Bool) → judge ≡ First head group → marker ≡ true
    → IsOpenTo m judge at marker → length (group.stamps.items ++ at ∷ []) ≤ 262144
first-most-known {M} m judge head group at marker e marked known =
    let at_first : IsOpenTo {M = M} m (First head group) at marker = subst (λ j. IsOpenTo m j at marker) e known in
    ∥∥₁_elim at_first (hlevel props) (λ (so_far, c). first-most m head group so_far at marker marked c)

first-fit : {M : Type 0} (m : Media) (head : ℕ) (group : FirstGroup) (so_far : SoFar) (at : ℕ) (marker : Bool) → marker ≡ true
    → CanGoOn {M = M} m (First head group) so_far at marker
    → AreStamps (group.stamps.items ++ at ∷ [])
first-fit m head group (in_head h) at marker e c = absurd c.stands
first-fit m head group (in_first h seen) at true e c = subst (λ xs. AreStamps (xs ++ at ∷ [])) (sym c.stands.1) c.fits.stamps
first-fit m head group (in_first h seen) at false e c = cc
first-fit m head group (in_groups so_far) at marker e c = absurd c.stands

-- and its stamps are within the limits
pub first-fit-known : {M : Type 0} (m : Media) (judge : RunJudge M) (head : ℕ) (group : FirstGroup) (at : ℕ) (marker : Bool) → judge ≡ First head group → marker ≡ true
    → IsOpenTo m judge at marker → AreStamps (group.stamps.items ++ at ∷ [])
first-fit-known {M} m judge head group at marker e marked known =
    let at_first : IsOpenTo {M = M} m (First head group) at marker = subst (λ j. IsOpenTo m j at marker) e known in
    ∥∥₁_elim at_first (hlevel props) (λ (so_far, c). first-fit m head group so_far at marker marked c)

-- a first group that ends with this packet is within the limits
pub first-known : {M : Type 0} (m : Media) (judge : RunJudge M) (head : ℕ) (group : FirstGroup) (all : List ℕ) (at : ℕ) (marker : Bool) → judge ≡ First head group
    → all ≡ group.stamps.items ++ at ∷ [] → marker ≡ true
    → IsOpenTo m judge at marker → FitsWhole all
first-known m judge head group all at marker e is marked known =
    subst FitsWhole (sym is) record {
      some = omega (arith, length-append group.stamps.items (at ∷ []));
      most = first-most-known m judge head group at marker e marked known;
      fit = first-fit-known m judge head group at marker e marked known;
    }

head-case : {M : Type 0} (m : Media) (packets : ℕ) (so_far : SoFar) (at : ℕ) (marker : Bool) → CanGoOn {M = M} m (Head packets) so_far at marker → packets < 2 ^ 41
head-case m packets (in_head head) at true c = omega (arith, c.stands, c.fits.0)
head-case m packets (in_head head) at false c = omega (arith, c.stands, c.fits)
head-case m packets (in_first head stamps) at marker c = absurd c.stands
head-case m packets (in_groups so_far) at marker c = absurd c.stands

-- the head has room for one more
pub head-known : {M : Type 0} (m : Media) (judge : RunJudge M) (packets : ℕ) (at : ℕ) (marker : Bool) → judge ≡ Head packets → IsOpenTo m judge at marker → packets < 2 ^ 41
head-known {M} m judge packets at marker e known =
    let at_head : IsOpenTo {M = M} m (Head packets) at marker = subst (λ j. IsOpenTo m j at marker) e known in
    ∥∥₁_elim at_head (hlevel props) (λ (so_far, c). head-case m packets so_far at marker c)

verdict-case : {M : Type 0} (m : Media) (groups : WholeGroups M) (judged : Judged) (so_far : SoFar)
    → ((k : Media) (s : GroupsSoFar) → IsWhole k groups s → judged ≡ judged_values k (record {
      n = s.n;
      groups = s.groups;
      head = s.head;
      tail = length s.stamps - length s.whole;
      stamps = s.whole;
    }))
    → StandsFor m (Groups groups) so_far
    → run_verdict.Judged judged ≡ run_verdict_of m (outcome_of so_far)
verdict-case m groups judged (in_head head) says s = absurd s
verdict-case m groups judged (in_first head stamps) says s = absurd s
verdict-case m groups judged (in_groups so_far) says s = ap run_verdict.Judged (says m so_far s)

-- the verdict on a run with a whole group, where it ends here
pub groups-verdict : {M : Type 0} (m : Media) (judge : RunJudge M) (groups : WholeGroups M) (judged : Judged) (so_far : SoFar) → judge ≡ Groups groups
    → ((k : Media) (s : GroupsSoFar) → IsWhole k groups s → judged ≡ judged_values k (record {
      n = s.n;
      groups = s.groups;
      head = s.head;
      tail = length s.stamps - length s.whole;
      stamps = s.whole;
    }))
    → StandsFor m judge so_far
    → run_verdict.Judged judged ≡ run_verdict_of m (outcome_of so_far)
groups-verdict m judge groups judged so_far e says s =
    verdict-case m groups judged so_far says (subst (λ (j : RunJudge _). StandsFor m j so_far) e s)
