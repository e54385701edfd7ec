-- Each finding stands at most once in a list, since the findings stand in the order of the table.
use Rattle.std.proofs.Common.{◌≡◌, ◌≤◌, ◌<◌, ◌++◌, ◌∷◌, ℕ, suc, Bool, true, false, List, [], length, Option, Some, None, refl, ap, ◌∙◌, sym, subst, arith}
use Rattle.std.proofs.Common.{inl, inr, append-nil, append_assoc}
use Rattle.std.specs.Prelude.{⊤, codes, find, if◌then◌else◌}
use Rattle.std.specs.List.{filter}
use Rattle.std.specs.Option.{option_map, option_to_list}
use Rattle.std.specs.Str.{bytes_eq}
use Rattle.std.proofs.lemmas.Bool.{cases_Bool}
use Rattle.std.proofs.lemmas.Slice.Eq.{bytes_eq-Decides}
use Rattle.timing_base.specs.Media.{Media}
use Rattle.timing_base.specs.declared.row.KindVerdict.{KindVerdict}
use Rattle.timing_base.specs.declared.row.KindVerdict.TheVariants as kind_verdict
use Rattle.timing_base.specs.declared.row.Unjudged.TheVariants as unjudged
use Rattle.timing_base.specs.declared.row.Verdict.{Verdict}
use Rattle.timing_base.specs.declared.row.Verdict.TheVariants as verdict
use Rattle.flow_measure.specs.declared.columns.slope.Slope.{Slope}
use Rattle.flow_measure.specs.declared.numbers.Place.{Place}
use Rattle.capture_scan.specs.declared.stream.Stream.{Stream}
use Rattle.flow_findings.specs.Findings.{burst_at, clock_findings, drift, flow_findings, found_if, gap_findings, is_absent, limit_findings, may_be_of}
use Rattle.flow_findings.specs.Findings.{media_findings, numbers_findings, other_findings, rare_by, refused, run_findings}
use Rattle.flow_findings.specs.Gaps.{gaps_of}
use Rattle.flow_findings.specs.Lists.{is_named, often}
use Rattle.flow_findings.specs.Numbers.{numbers_of}
use Rattle.flow_findings.specs.Words.{finding_name}
use Rattle.flow_findings.specs.declared.finding.Finding.{Finding}
use Rattle.flow_findings.specs.declared.finding.Finding.TheVariants as finding
use Rattle.flow_findings.specs.declared.gaps.Gap.{Gap}
use Rattle.flow_findings.specs.declared.inputs.KnownCaptures.{KnownCaptures}
use Rattle.flow_findings.specs.declared.inputs.KnownFlow.{KnownFlow}
use Rattle.flow_findings.specs.declared.inputs.ShownRun.{ShownRun}
use Rattle.flow_findings.specs.declared.numbers.ShownNumbers.{ShownNumbers}

-- the place of a finding in the order of the table
abbrev rank : Finding → ℕ
rank (finding.Elsewhere target packets) = 0
rank (finding.Absent passed_over streams) = 1
rank (finding.Refused rec cause) = 2
rank (finding.Unmarked packets markers) = 3
rank (finding.Wrap gaps) = 4
rank (finding.Loss gaps missing) = 5
rank (finding.Order gaps) = 6
rank (finding.Rate described steps period) = 7
rank (finding.Utc offset) = 8
rank (finding.TaiTwice offset) = 9
rank (finding.Burst greatest limit packets groups first span period) = 10
rank (finding.Phase buffer) = 11
rank (finding.Pacing buffer) = 12
rank (finding.Drift ppm10) = 13
rank (finding.Rare broken groups first) = 14
rank (finding.Pass bucket bucket_limit buffer buffer_limit slack) = 15
rank (finding.Microseconds drain) = 16
rank (finding.Unlocked offset) = 17

-- the same, from its name
abbrev named_rank : List ℕ → ℕ
named_rank name =
    if bytes_eq name (codes "elsewhere") then 0
    else if bytes_eq name (codes "absent") then 1
    else if bytes_eq name (codes "refused") then 2
    else if bytes_eq name (codes "unmarked") then 3
    else if bytes_eq name (codes "wrap") then 4
    else if bytes_eq name (codes "loss") then 5
    else if bytes_eq name (codes "order") then 6
    else if bytes_eq name (codes "rate") then 7
    else if bytes_eq name (codes "utc") then 8
    else if bytes_eq name (codes "tai_twice") then 9
    else if bytes_eq name (codes "burst") then 10
    else if bytes_eq name (codes "phase") then 11
    else if bytes_eq name (codes "pacing") then 12
    else if bytes_eq name (codes "drift") then 13
    else if bytes_eq name (codes "rare") then 14
    else if bytes_eq name (codes "pass") then 15
    else if bytes_eq name (codes "microseconds") then 16
    else 17

named_rank-is : (f : Finding) → named_rank (finding_name f) ≡ rank f
named_rank-is (finding.Elsewhere target packets) = refl
named_rank-is (finding.Absent passed_over streams) = refl
named_rank-is (finding.Refused rec cause) = refl
named_rank-is (finding.Unmarked packets markers) = refl
named_rank-is (finding.Wrap gaps) = refl
named_rank-is (finding.Loss gaps missing) = refl
named_rank-is (finding.Order gaps) = refl
named_rank-is (finding.Rate described steps period) = refl
named_rank-is (finding.Utc offset) = refl
named_rank-is (finding.TaiTwice offset) = refl
named_rank-is (finding.Burst greatest limit packets groups first span period) = refl
named_rank-is (finding.Phase buffer) = refl
named_rank-is (finding.Pacing buffer) = refl
named_rank-is (finding.Drift ppm10) = refl
named_rank-is (finding.Rare broken groups first) = refl
named_rank-is (finding.Pass bucket bucket_limit buffer buffer_limit slack) = refl
named_rank-is (finding.Microseconds drain) = refl
named_rank-is (finding.Unlocked offset) = refl

-- the places rise, from this one on
abbrev Rising : (low : ℕ) → List Finding → Type 0
Rising low [] = ⊤
Rising low (f ∷ fs) = (low ≤ rank f) × Rising (suc (rank f)) fs

rising-less : (few many : ℕ) (fs : List Finding) → few ≤ many → Rising many fs → Rising few fs
rising-less few many [] le h = tt
rising-less few many (f ∷ fs) le h = (omega (arith, le, h.0), h.1)

-- a finding of this name has the place of the name
named-at : (name : List ℕ) (f : Finding) → is_named name f ≡ true → rank f ≡ named_rank name
named-at name f is = sym (named_rank-is f) ∙ ap named_rank ((bytes_eq-Decides (finding_name f) name).0 is)

-- the findings of this name
abbrev kept : (name : List ℕ) → Finding → List Finding → Bool → ℕ
kept name f fs b = length (if b then f ∷ filter (is_named name) fs else filter (is_named name) fs)

-- where all places are above that of the name, none has it
often-none : (name : List ℕ) (low : ℕ) (fs : List Finding) → Rising low fs → named_rank name < low → often fs name ≡ 0
often-none name low [] h above = refl
often-none name low (f ∷ fs) h above = elim (cases_Bool (is_named name f)) as (λ _. often (f ∷ fs) name ≡ 0) [
  | inl named ↦ let at = named-at name f named in absurd (omega (arith, at, h.0, above))
  | inr other ↦ ap (kept name f fs) other ∙ often-none name (suc (rank f)) fs h.1 (omega (arith, h.0, above))
]

-- at most one has it
often-few : (name : List ℕ) (low : ℕ) (fs : List Finding) → Rising low fs → often fs name ≤ 1
often-few name low [] h = omega arith
often-few name low (f ∷ fs) h = elim (cases_Bool (is_named name f)) as (λ _. often (f ∷ fs) name ≤ 1) [
  | inl named ↦
      let at = named-at name f named in
      let here : often (f ∷ fs) name ≡ suc (often fs name) = ap (kept name f fs) named in
      let none = often-none name (suc (rank f)) fs h.1 (omega (arith, at)) in
      omega (arith, here, none)
  | inr other ↦
      let here : often (f ∷ fs) name ≡ often fs name = ap (kept name f fs) other in
      let few = often-few name (suc (rank f)) fs h.1 in
      omega (arith, here, few)
]

-- a part of a list, of places from `low` to below `high`
Part : (low high : ℕ) → List Finding → Type 0
Part low high fs = (rest : List Finding) → Rising high rest → Rising low (fs ++ rest)

part-append : (a b c : ℕ) (xs ys : List Finding) → Part a b xs → Part b c ys → Part a c (xs ++ ys)
unfolding Part
part-append a b c xs ys p q = λ rest h. subst (Rising a) (sym (append_assoc xs ys rest)) (p (ys ++ rest) (q rest h))

-- the finding, if there is one, has this place
HasRank : ℕ → Option Finding → Type 0
HasRank r None = ⊤
HasRank r (Some f) = rank f ≡ r

part-option : (r : ℕ) (o : Option Finding) → HasRank r o → Part r (suc r) (option_to_list o)
unfolding Part HasRank
part-option r None h = λ rest later. rising-less r (suc r) rest (omega arith) later
part-option r (Some f) h = λ rest later. (omega (arith, h), rising-less (suc (rank f)) (suc r) rest (omega (arith, h)) later)

rank-found : (b : Bool) (f : Finding) → HasRank (rank f) (found_if b f)
unfolding HasRank
rank-found true f = refl
rank-found false f = tt

-- so has each finding
rank-elsewhere : (b : Bool) (o : Option Stream)
    → HasRank 0 (if b then option_map (λ (s : Stream). finding.Elsewhere s.target s.packets) o else None)
unfolding HasRank
rank-elsewhere true None = tt
rank-elsewhere true (Some s) = refl
rank-elsewhere false o = tt

rank-refused : (v : Verdict) → HasRank 2 (refused v)
unfolding HasRank
rank-refused (verdict.Unjudged unjudged.Absent) = tt
rank-refused (verdict.Unjudged (unjudged.NoWholeFrame head)) = tt
rank-refused (verdict.Unjudged (unjudged.Refused rec fault)) = refl
rank-refused (verdict.Unjudged (unjudged.Gap rec expected got)) = refl
rank-refused (verdict.Judged judged) = tt
rank-refused (verdict.Runs runs) = tt

rank-burst : (x : ShownNumbers) (o : Option Place) → HasRank 10 (option_map (burst_at x) o)
unfolding HasRank
rank-burst x None = tt
rank-burst x (Some first) = refl

rank-drift : (m : Media) (s : Option Slope) → HasRank 13 (drift m s)
unfolding HasRank
rank-drift m None = tt
rank-drift m (Some s) = rank-found _ (finding.Drift _)

rank-rare : (x : ShownNumbers) (v : KindVerdict) → HasRank 14 (rare_by x v)
unfolding HasRank
rank-rare x kind_verdict.Pass = tt
rank-rare x (kind_verdict.Fail proof) = rank-found _ (finding.Rare _ _ _)

-- the parts of a list
flow-part : (session : List Media) (m : Media) (c : KnownCaptures) (flow : KnownFlow) → Part 0 4 (flow_findings session m c flow)
flow-part session m c flow =
    part-append 0 1 4 _ _ (part-option 0 _ (rank-elsewhere (is_absent flow.verdict) (find (may_be_of session m) c.streams)))
    (part-append 1 2 4 _ _ (part-option 1 _ (rank-found _ (finding.Absent _ _)))
    (part-append 2 3 4 _ _ (part-option 2 _ (rank-refused flow.verdict)) (part-option 3 _ (rank-found _ (finding.Unmarked _ _)))))

gap-part : (seq16 : Bool) (gaps : List Gap) → Part 4 7 (gap_findings seq16 gaps)
gap-part seq16 gaps =
    part-append 4 5 7 _ _ (part-option 4 _ (rank-found _ (finding.Wrap _)))
    (part-append 5 6 7 _ _ (part-option 5 _ (rank-found _ (finding.Loss _ _))) (part-option 6 _ (rank-found _ (finding.Order _))))

clock-part : (m : Media) (x : ShownNumbers) → Part 7 10 (clock_findings m x)
clock-part m x =
    part-append 7 8 10 _ _ (part-option 7 _ (rank-found _ (finding.Rate _ _ _)))
    (part-append 8 9 10 _ _ (part-option 8 _ (rank-found _ (finding.Utc _))) (part-option 9 _ (rank-found _ (finding.TaiTwice _))))

limit-part : (m : Media) (x : ShownNumbers) → Part 10 16 (limit_findings m x)
limit-part m x =
    part-append 10 11 16 _ _ (part-option 10 _ (rank-burst x x.overfull.first))
    (part-append 11 12 16 _ _ (part-option 11 _ (rank-found _ (finding.Phase _)))
    (part-append 12 13 16 _ _ (part-option 12 _ (rank-found _ (finding.Pacing _)))
    (part-append 13 14 16 _ _ (part-option 13 _ (rank-drift m x.slope))
    (part-append 14 15 16 _ _ (part-option 14 _ (rank-rare x x.verdict)) (part-option 15 _ (rank-found _ (finding.Pass _ _ _ _ _)))))))

other-part : (m : Media) (c : KnownCaptures) (x : ShownNumbers) → Part 16 18 (other_findings m c x)
other-part m c x =
    part-append 16 17 18 _ _ (part-option 16 _ (rank-found _ (finding.Microseconds _))) (part-option 17 _ (rank-found _ (finding.Unlocked _)))

numbers-part : (m : Media) (c : KnownCaptures) (x : ShownNumbers) → Part 7 18 (numbers_findings m c x)
numbers-part m c x =
    part-append 7 10 18 _ _ (clock-part m x) (part-append 10 16 18 _ _ (limit-part m x) (other-part m c x))

run-part : (m : Media) (c : KnownCaptures) (shown : Option ShownRun) → Part 7 18 (run_findings m c shown)
unfolding Part
run-part m c None = λ rest later. rising-less 7 18 rest (omega arith) later
run-part m c (Some s) = numbers-part m c (numbers_of m s)

-- each finding stands at most once
pub findings-once : (session : List Media) (m : Media) (c : KnownCaptures) (flow : KnownFlow) (name : List ℕ)
    → often (media_findings session m c flow) name ≤ 1
unfolding Part
findings-once session m c flow name =
    let all : Part 0 18 (media_findings session m c flow) =
    part-append 0 4 18 _ _ (flow-part session m c flow)
    (part-append 4 7 18 _ _ (gap-part c.seq16 (gaps_of flow.verdict)) (run-part m c flow.shown)) in
    often-few name 0 (media_findings session m c flow)
    (subst (Rising 0) (append-nil (media_findings session m c flow)) (all [] tt))
