-- Which findings a list has. A list is made of findings that hold or don't, each with a name of its own.
use Rattle.std.proofs.Common.{◌≡◌, ◌++◌, ℕ, Bool, true, false, List, refl, sym, ap, ◌∙◌}
use Rattle.std.specs.Prelude.{◌&&◌, ◌||◌, not, codes, Option, Some, None, is_some}
use Rattle.std.specs.Option.{option_map, option_to_list}
use Rattle.std.proofs.lemmas.List.Folds.{list_any-append}
use Rattle.timing_base.specs.Media.{Media}
use Rattle.timing_base.specs.declared.row.KindVerdict.{KindVerdict}
use Rattle.timing_base.specs.declared.row.KindVerdict.TheVariants as kind_verdict
use Rattle.timing_report.specs.Outcomes.{is_pass}
use Rattle.flow_measure.specs.declared.columns.slope.Slope.{Slope}
use Rattle.flow_measure.specs.declared.numbers.Place.{Place}
use Rattle.flow_findings.specs.Findings.{breaks_buffer, breaks_rarely, burst, burst_at}
use Rattle.flow_findings.specs.Findings.{clock_findings, described_rate, drift, drifts}
use Rattle.flow_findings.specs.Findings.{found_if, group_at, has_offset}
use Rattle.flow_findings.specs.Findings.{limit_findings, microseconds, numbers_findings}
use Rattle.flow_findings.specs.Findings.{other_findings, pacing, phase, rare, rare_by, rate, signed_tenths, utc}
use Rattle.flow_findings.specs.Lists.{AreOfVerdict, has, is_named}
use Rattle.flow_findings.specs.declared.finding.Finding.{Finding}
use Rattle.flow_findings.specs.declared.finding.Finding.TheVariants as finding
use Rattle.flow_findings.specs.declared.inputs.KnownCaptures.{KnownCaptures}
use Rattle.flow_findings.specs.declared.numbers.ShownNumbers.{ShownNumbers}

-- ---- one finding

or_false : (a : Bool) → (a || false) ≡ a
or_false true = refl
or_false false = refl

-- one that may hold and has another name
pub other_name : (b : Bool) (f : Finding) (name : List ℕ) → is_named name f ≡ false → has (option_to_list (found_if b f)) name ≡ false
other_name true f name e = ap (λ t. t || false) e
other_name false f name e = refl

-- one that may hold and has this name
pub own_name : (b : Bool) (f : Finding) (name : List ℕ) → is_named name f ≡ true → has (option_to_list (found_if b f)) name ≡ b
own_name true f name e = ap (λ t. t || false) e
own_name false f name e = refl

-- ---- lists

-- the first part hasn't it
pub in-back : (xs ys : List Finding) (name : List ℕ) → has xs name ≡ false → has (xs ++ ys) name ≡ has ys name
in-back xs ys name e = list_any-append (is_named name) xs ys ∙ ap (λ t. t || has ys name) e

-- the second part hasn't it
pub in-front : (xs ys : List Finding) (name : List ℕ) → has ys name ≡ false → has (xs ++ ys) name ≡ has xs name
in-front xs ys name e = list_any-append (is_named name) xs ys ∙ (ap (λ t. has xs name || t) e ∙ or_false (has xs name))

-- neither has it
pub in-neither : (xs ys : List Finding) (name : List ℕ) → has xs name ≡ false → has ys name ≡ false → has (xs ++ ys) name ≡ false
in-neither xs ys name e f = in-back xs ys name e ∙ f

-- ---- the findings that aren't one of a form `found_if`

burst-has : (x : ShownNumbers) (first : Option Place) → has (option_to_list (option_map (burst_at x) first)) (codes "burst") ≡ is_some first
burst-has x None = refl
burst-has x (Some first) = refl

burst-other : (x : ShownNumbers) (first : Option Place) (name : List ℕ) → ((p : Place) → is_named name (burst_at x p) ≡ false)
    → has (option_to_list (option_map (burst_at x) first)) name ≡ false
burst-other x None name e = refl
burst-other x (Some first) name e = ap (λ t. t || false) (e first)

drift-other : (m : Media) (slope : Option Slope) (name : List ℕ) → ((s : Slope) → is_named name (finding.Drift (signed_tenths m s)) ≡ false)
    → has (option_to_list (drift m slope)) name ≡ false
drift-other m None name e = refl
drift-other m (Some s) name e = other_name (drifts m s) (finding.Drift (signed_tenths m s)) name (e s)

rare-other : (x : ShownNumbers) (v : KindVerdict) (name : List ℕ)
    → ((to : ℕ) → is_named name (finding.Rare x.limits.groups_broken x.groups (group_at x to)) ≡ false)
    → has (option_to_list (rare_by x v)) name ≡ false
rare-other x kind_verdict.Pass name e = refl
rare-other x (kind_verdict.Fail proof) name e = other_name (breaks_rarely x) _ name (e proof.to)

-- a type that passes has no rare violation
rare-pass : (x : ShownNumbers) (v : KindVerdict) → is_pass v ≡ true → has (option_to_list (rare_by x v)) (codes "rare") ≡ false
rare-pass x kind_verdict.Pass e = refl
rare-pass x (kind_verdict.Fail proof) e = absurd (cc)

-- ---- parts of the list that haven't a name of the limits

clock-other : (m : Media) (x : ShownNumbers) (name : List ℕ)
    → is_named name (finding.Rate (described_rate m) x.steps x.mean_period) ≡ false → is_named name (finding.Utc x.offset) ≡ false
    → is_named name (finding.TaiTwice x.offset) ≡ false → has (clock_findings m x) name ≡ false
clock-other m x name e f g =
    in-neither (option_to_list (rate m x)) _ name (other_name _ _ name e)
    (in-neither (option_to_list (utc m x)) _ name (other_name _ _ name f) (other_name _ _ name g))

other-other : (m : Media) (c : KnownCaptures) (x : ShownNumbers) (name : List ℕ) → is_named name (finding.Microseconds x.drain) ≡ false
    → is_named name (finding.Unlocked x.offset) ≡ false → has (other_findings m c x) name ≡ false
other-other m c x name e f =
    in-neither (option_to_list (microseconds c.whole_microseconds c.records x)) _ name (other_name _ _ name e) (other_name _ _ name f)

-- what a list has of the limits is in its middle
middle : (m : Media) (c : KnownCaptures) (x : ShownNumbers) (name : List ℕ) → has (clock_findings m x) name ≡ false
    → has (other_findings m c x) name ≡ false → has (numbers_findings m c x) name ≡ has (limit_findings m x) name
middle m c x name e f =
    in-back (clock_findings m x) (limit_findings m x ++ other_findings m c x) name e
    ∙ in-front (limit_findings m x) (other_findings m c x) name f

-- ---- each name of the limits

pub numbers-pass : (m : Media) (c : KnownCaptures) (x : ShownNumbers) → has (numbers_findings m c x) (codes "pass") ≡ is_pass x.verdict
numbers-pass m c x =
    let name : List ℕ = codes "pass" in
    middle m c x name (clock-other m x name refl refl refl) (other-other m c x name refl refl)
    ∙ (in-back (option_to_list (burst x)) _ name (burst-other x x.overfull.first name (λ p. refl))
    ∙ (in-back (option_to_list (phase x)) _ name (other_name _ _ name refl)
    ∙ (in-back (option_to_list (pacing x)) _ name (other_name _ _ name refl)
    ∙ (in-back (option_to_list (drift m x.slope)) _ name (drift-other m x.slope name (λ s. refl))
    ∙ (in-back (option_to_list (rare x)) _ name (rare-other x x.verdict name (λ to. refl))
    ∙ own_name (is_pass x.verdict) _ name refl)))))

pub numbers-burst : (m : Media) (c : KnownCaptures) (x : ShownNumbers) → has (numbers_findings m c x) (codes "burst") ≡ is_some x.overfull.first
numbers-burst m c x =
    let name : List ℕ = codes "burst" in
    middle m c x name (clock-other m x name refl refl refl) (other-other m c x name refl refl)
    ∙ (in-front (option_to_list (burst x)) _ name
    (in-neither (option_to_list (phase x)) _ name (other_name _ _ name refl)
    (in-neither (option_to_list (pacing x)) _ name (other_name _ _ name refl)
    (in-neither (option_to_list (drift m x.slope)) _ name (drift-other m x.slope name (λ s. refl))
    (in-neither (option_to_list (rare x)) _ name (rare-other x x.verdict name (λ to. refl)) (other_name _ _ name refl)))))
    ∙ burst-has x x.overfull.first)

pub numbers-phase : (m : Media) (c : KnownCaptures) (x : ShownNumbers)
    → has (numbers_findings m c x) (codes "phase") ≡ (breaks_buffer x && has_offset x)
numbers-phase m c x =
    let name : List ℕ = codes "phase" in
    middle m c x name (clock-other m x name refl refl refl) (other-other m c x name refl refl)
    ∙ (in-back (option_to_list (burst x)) _ name (burst-other x x.overfull.first name (λ p. refl))
    ∙ (in-front (option_to_list (phase x)) _ name
    (in-neither (option_to_list (pacing x)) _ name (other_name _ _ name refl)
    (in-neither (option_to_list (drift m x.slope)) _ name (drift-other m x.slope name (λ s. refl))
    (in-neither (option_to_list (rare x)) _ name (rare-other x x.verdict name (λ to. refl)) (other_name _ _ name refl))))
    ∙ own_name (breaks_buffer x && has_offset x) _ name refl))

pub numbers-pacing : (m : Media) (c : KnownCaptures) (x : ShownNumbers)
    → has (numbers_findings m c x) (codes "pacing") ≡ (breaks_buffer x && not (has_offset x))
numbers-pacing m c x =
    let name : List ℕ = codes "pacing" in
    middle m c x name (clock-other m x name refl refl refl) (other-other m c x name refl refl)
    ∙ (in-back (option_to_list (burst x)) _ name (burst-other x x.overfull.first name (λ p. refl))
    ∙ (in-back (option_to_list (phase x)) _ name (other_name _ _ name refl)
    ∙ (in-front (option_to_list (pacing x)) _ name
    (in-neither (option_to_list (drift m x.slope)) _ name (drift-other m x.slope name (λ s. refl))
    (in-neither (option_to_list (rare x)) _ name (rare-other x x.verdict name (λ to. refl)) (other_name _ _ name refl)))
    ∙ own_name (breaks_buffer x && not (has_offset x)) _ name refl)))

pub numbers-rare : (m : Media) (c : KnownCaptures) (x : ShownNumbers) → is_pass x.verdict ≡ true
    → has (numbers_findings m c x) (codes "rare") ≡ false
numbers-rare m c x passes =
    let name : List ℕ = codes "rare" in
    middle m c x name (clock-other m x name refl refl refl) (other-other m c x name refl refl)
    ∙ (in-back (option_to_list (burst x)) _ name (burst-other x x.overfull.first name (λ p. refl))
    ∙ (in-back (option_to_list (phase x)) _ name (other_name _ _ name refl)
    ∙ (in-back (option_to_list (pacing x)) _ name (other_name _ _ name refl)
    ∙ (in-back (option_to_list (drift m x.slope)) _ name (drift-other m x.slope name (λ s. refl))
    ∙ (in-front (option_to_list (rare x)) _ name (other_name _ _ name refl) ∙ rare-pass x x.verdict passes)))))

-- ---- what follows of a pass and of a fail

no-first : (a b : Bool) → (not a && not b) ≡ true → a ≡ false
no-first true b e = absurd (cc)
no-first false b e = refl

no-second : (a b : Bool) → (not a && not b) ≡ true → b ≡ false
no-second true b e = absurd (cc)
no-second false true e = absurd (cc)
no-second false false e = refl

one-of-three : (a b o : Bool) → (not a && not b) ≡ false → (a || ((b && o) || (b && not o))) ≡ true
one-of-three true b o e = refl
one-of-three false true true e = refl
one-of-three false true false e = refl
one-of-three false false o e = absurd (cc)

not-both : (b o : Bool) → (b && o) ≡ true → (b && not o) ≡ false
not-both true true e = refl
not-both true false e = absurd (cc)
not-both false o e = absurd (cc)

pub pass-no_burst : (m : Media) (c : KnownCaptures) (x : ShownNumbers) → AreOfVerdict x → is_pass x.verdict ≡ true
    → has (numbers_findings m c x) (codes "burst") ≡ false
pass-no_burst m c x agrees passes =
    numbers-burst m c x ∙ no-first (is_some x.overfull.first) (breaks_buffer x) (sym agrees.passes ∙ passes)

pub pass-no_phase : (m : Media) (c : KnownCaptures) (x : ShownNumbers) → AreOfVerdict x → is_pass x.verdict ≡ true
    → has (numbers_findings m c x) (codes "phase") ≡ false
pass-no_phase m c x agrees passes =
    numbers-phase m c x ∙ ap (λ b. b && has_offset x) (no-second (is_some x.overfull.first) (breaks_buffer x) (sym agrees.passes ∙ passes))

pub pass-no_pacing : (m : Media) (c : KnownCaptures) (x : ShownNumbers) → AreOfVerdict x → is_pass x.verdict ≡ true
    → has (numbers_findings m c x) (codes "pacing") ≡ false
pass-no_pacing m c x agrees passes =
    numbers-pacing m c x ∙ ap (λ b. b && not (has_offset x)) (no-second (is_some x.overfull.first) (breaks_buffer x) (sym agrees.passes ∙ passes))

pub fail-has_one : (m : Media) (c : KnownCaptures) (x : ShownNumbers) → AreOfVerdict x → is_pass x.verdict ≡ false
    → (has (numbers_findings m c x) (codes "burst") || (has (numbers_findings m c x) (codes "phase")
    || has (numbers_findings m c x) (codes "pacing"))) ≡ true
fail-has_one m c x agrees fails =
    ap (λ a. a || (has (numbers_findings m c x) (codes "phase") || has (numbers_findings m c x) (codes "pacing"))) (numbers-burst m c x)
    ∙ (ap (λ b. is_some x.overfull.first || (b || has (numbers_findings m c x) (codes "pacing"))) (numbers-phase m c x)
    ∙ (ap (λ b. is_some x.overfull.first || ((breaks_buffer x && has_offset x) || b)) (numbers-pacing m c x)
    ∙ one-of-three (is_some x.overfull.first) (breaks_buffer x) (has_offset x) (sym agrees.passes ∙ fails)))

pub phase-no_pacing : (m : Media) (c : KnownCaptures) (x : ShownNumbers) → has (numbers_findings m c x) (codes "phase") ≡ true
    → has (numbers_findings m c x) (codes "pacing") ≡ false
phase-no_pacing m c x e = numbers-pacing m c x ∙ not-both (breaks_buffer x) (has_offset x) (sym (numbers-phase m c x) ∙ e)
