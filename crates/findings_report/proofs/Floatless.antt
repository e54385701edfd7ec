-- No value of the findings has a float.
use Rattle.std.proofs.Common.{◌≡◌, ◌==◌, ◌++◌, ℕ, ℤ, pos, negsuc, true, false, List, [], ◌∷◌, refl}
use Rattle.std.specs.Prelude.{codes, map, Option, Some, None, if◌then◌else◌}
use Rattle.serde_json.specs.Data.{string}
use Rattle.serde_json.specs.Written.{has_float}
use Rattle.timing_base.specs.Keys.{key_of, media_of}
use Rattle.timing_base.specs.Media.{Media}
use Rattle.timing_base.specs.declared.capture.FileNote.{FileNote}
use Rattle.timing_report.specs.json_report.Json.{count, files_data, list_of, object_of}
use Rattle.timing_report.proofs.lemmas.json_report.Floatless.{neither, any_float, any_float-append, object-floatless, list-floatless, files-floatless}
use Rattle.capture_scan.specs.declared.found.PassedOver.{PassedOver}
use Rattle.flow_findings.specs.declared.explained.Explained.{Explained}
use Rattle.flow_findings.specs.declared.explained.ExplainedRun.{ExplainedRun}
use Rattle.flow_findings.specs.declared.explained.RunCounts.{RunCounts}
use Rattle.flow_findings.specs.declared.finding.BrokenBuffer.{BrokenBuffer}
use Rattle.flow_findings.specs.declared.finding.Finding.{Finding}
use Rattle.flow_findings.specs.declared.finding.Finding.TheVariants as finding
use Rattle.flow_findings.specs.declared.finding.Offsets.{Offsets}
use Rattle.flow_findings.specs.declared.finding.Refusal.{Refusal}
use Rattle.flow_findings.specs.declared.finding.Refusal.TheVariants.{Fault, Gap}
use Rattle.flow_findings.specs.declared.finding.Steps.{Steps}
use Rattle.flow_findings.specs.Words.{finding_name}
use Rattle.findings_report.specs.Json.{all_data, all_members, buffer_members, capture_members, class_members, count_members, explained_data}
use Rattle.findings_report.specs.Json.{finding_data, flow_data, flow_members, number_members, numbers_members, offsets_data, passed_over_members}
use Rattle.findings_report.specs.Json.{refusal_members, runs_members, signed, steps_members}

signed-floatless : (x : ℤ) → has_float (signed x) ≡ false
signed-floatless (pos n) = refl
signed-floatless (negsuc n) = refl

number-floatless : (key : List ℕ) (n : Option ℕ) → any_float (number_members key n) ≡ false
number-floatless key None = refl
number-floatless key (Some n) = refl

count-floatless : (key : List ℕ) (n : ℕ) → any_float (count_members key n) ≡ false
count-floatless key n = elim (n == 0) as (λ b. any_float (if b then [] else (key, count n) ∷ []) ≡ false) [ true ↦ refl | false ↦ refl ]

passed_over-floatless : (n : PassedOver) → any_float (passed_over_members n) ≡ false
passed_over-floatless n =
    any_float-append (count_members (codes "broken") n.broken) _ (count-floatless (codes "broken") n.broken)
    (any_float-append (count_members (codes "empty") n.empty) _ (count-floatless (codes "empty") n.empty)
    (any_float-append (count_members (codes "fragment") n.fragment) _ (count-floatless (codes "fragment") n.fragment)
    (any_float-append (count_members (codes "ipv6") n.ipv6) _ (count-floatless (codes "ipv6") n.ipv6)
    (any_float-append (count_members (codes "not_udp") n.not_udp) _ (count-floatless (codes "not_udp") n.not_udp)
    (any_float-append (count_members (codes "other") n.other) _ (count-floatless (codes "other") n.other)
    (count-floatless (codes "tags") n.tags))))))

refusal-floatless : (cause : Refusal) → any_float (refusal_members cause) ≡ false
refusal-floatless (Fault fault) = refl
refusal-floatless (Gap expected got) = refl

steps-floatless : (steps : Option Steps) → any_float (steps_members steps) ≡ false
steps-floatless None = refl
steps-floatless (Some s) =
    neither (has_float (signed s.greatest)) _ (signed-floatless s.greatest)
    (neither (has_float (signed s.least)) false (signed-floatless s.least) refl)

offsets-floatless : (o : Offsets) → has_float (offsets_data o) ≡ false
offsets-floatless o =
    object-floatless (number_members (codes "greatest") o.greatest ++ number_members (codes "least") o.least)
    (any_float-append (number_members (codes "greatest") o.greatest) (number_members (codes "least") o.least)
    (number-floatless (codes "greatest") o.greatest) (number-floatless (codes "least") o.least))

buffer-floatless : (b : BrokenBuffer) → any_float (buffer_members b) ≡ false
buffer-floatless b =
    neither (has_float (signed b.slack)) _ (signed-floatless b.slack)
    (neither (has_float (offsets_data b.offsets)) false (offsets-floatless b.offsets) refl)

last-signed : (x : ℤ) → any_float ((codes "", signed x) ∷ []) ≡ false
last-signed x = neither (has_float (signed x)) false (signed-floatless x) refl

numbers-floatless : (f : Finding) → any_float (numbers_members f) ≡ false
numbers-floatless (finding.Elsewhere target packets) = refl
numbers-floatless (finding.Absent passed_over streams) =
    neither (has_float (object_of (passed_over_members passed_over))) false
    (object-floatless (passed_over_members passed_over) (passed_over-floatless passed_over)) refl
numbers-floatless (finding.Refused rec cause) = refusal-floatless cause
numbers-floatless (finding.Unmarked packets markers) = number-floatless (codes "markers") markers
numbers-floatless (finding.Wrap gaps) = refl
numbers-floatless (finding.Loss gaps missing) = refl
numbers-floatless (finding.Order gaps) = refl
numbers-floatless (finding.Rate described steps period) =
    any_float-append (number_members (codes "period") period) (steps_members steps) (number-floatless (codes "period") period) (steps-floatless steps)
numbers-floatless (finding.Utc offset) = last-signed offset
numbers-floatless (finding.TaiTwice offset) = last-signed offset
numbers-floatless (finding.Burst greatest limit packets groups first span period) = refl
numbers-floatless (finding.Phase buffer) = buffer-floatless buffer
numbers-floatless (finding.Pacing buffer) = buffer-floatless buffer
numbers-floatless (finding.Drift ppm10) = last-signed ppm10
numbers-floatless (finding.Rare broken groups first) = refl
numbers-floatless (finding.Pass bucket bucket_limit buffer buffer_limit slack) = last-signed slack
numbers-floatless (finding.Microseconds drain) = refl
numbers-floatless (finding.Unlocked offset) = last-signed offset

finding-floatless : (f : Finding) → has_float (finding_data f) ≡ false
finding-floatless f = object-floatless ((codes "finding", string (finding_name f)) ∷ numbers_members f) (numbers-floatless f)

class-floatless : (run : Option ExplainedRun) → any_float (class_members run) ≡ false
class-floatless None = refl
class-floatless (Some run) = refl

runs-floatless : (runs : Option RunCounts) → any_float (runs_members runs) ≡ false
runs-floatless None = refl
runs-floatless (Some r) = refl

flow-floatless : (m : Media) (e : Explained) → has_float (flow_data m e) ≡ false
flow-floatless m e =
    object-floatless (flow_members m e)
    (any_float-append (class_members e.shown) _ (class-floatless e.shown)
    (any_float-append (runs_members e.runs) _ (runs-floatless e.runs)
    (neither (has_float (list_of (map finding_data e.findings))) false (list-floatless finding_data finding-floatless e.findings) refl)))

files-member-floatless : (names : List (List ℕ)) (notes : List FileNote) → any_float ((codes "files", list_of (files_data names notes)) ∷ []) ≡ false
files-member-floatless names notes = neither (has_float (list_of (files_data names notes))) false (files-floatless names notes) refl

captures-floatless : (names : List (List ℕ)) (notes : List FileNote) → any_float (capture_members names notes) ≡ false
captures-floatless [] [] = files-member-floatless [] []
captures-floatless [] (note ∷ notes) = files-member-floatless [] (note ∷ notes)
captures-floatless (name ∷ []) [] = files-member-floatless (name ∷ []) []
captures-floatless (name ∷ []) (note ∷ notes) = refl
captures-floatless (name ∷ (other ∷ names)) [] = files-member-floatless (name ∷ other ∷ names) []
captures-floatless (name ∷ (other ∷ names)) (note ∷ notes) = files-member-floatless (name ∷ other ∷ names) (note ∷ notes)

-- the whole
pub all-floatless : (names : List (List ℕ)) (notes : List FileNote) (session : List Media) (flows : List Explained)
    → has_float (all_data names notes session flows) ≡ false
all-floatless names notes session flows =
    object-floatless (all_members names notes session flows)
    (any_float-append (capture_members names notes) _ (captures-floatless names notes)
    (neither (has_float (list_of (map (explained_data session) flows))) false
    (list-floatless (explained_data session) (λ (e : Explained). flow-floatless (media_of session (key_of 0 e.media)) e) flows) refl))
