-- No value of the report has a float; how that is shown of an object and of a list.
use Rattle.std.proofs.Common.{◌≡◌, ℕ, List, [], ◌∷◌, ◌++◌, Bool, true, false, Ordering, Less, Equal, Greater, refl, nat_cmp}
use Rattle.std.specs.Prelude.{◌||◌, map, Some, None}
use Rattle.std.specs.Cmp.Lexicographic.{slice_cmp}
use Rattle.std.specs.Ordering.{match_ordering}
use Rattle.std.proofs.lemmas.Bool.{or_parts}
use Rattle.serde_json.specs.Data.{Data, Members, no_members, member, put}
use Rattle.serde_json.specs.View.{items_of}
use Rattle.serde_json.specs.Written.{has_float, items_have_float, members_have_float}
use Rattle.timing_base.specs.Media.{Media}
use Rattle.timing_base.specs.Verdicts.{Judged}
use Rattle.timing_base.specs.declared.capture.FileNote.{FileNote}
use Rattle.timing_base.specs.declared.media.Kind.{Kind}
use Rattle.timing_base.specs.declared.media.Kind.TheVariants.{N, NL, W}
use Rattle.timing_base.specs.declared.row.KindVerdict.{KindVerdict}
use Rattle.timing_base.specs.declared.row.KindVerdict.TheVariants as kind_verdict
use Rattle.timing_base.specs.declared.row.Row.{Row}
use Rattle.timing_base.specs.declared.row.Run.{Run}
use Rattle.timing_base.specs.declared.row.RunVerdict.{RunVerdict}
use Rattle.timing_base.specs.declared.row.RunVerdict.TheVariants as run_verdict
use Rattle.timing_base.specs.declared.row.Unjudged.{Unjudged}
use Rattle.timing_base.specs.declared.row.Unjudged.TheVariants as unjudged
use Rattle.timing_base.specs.declared.row.Verdict.{Verdict}
use Rattle.timing_base.specs.declared.row.Verdict.TheVariants as verdict
use Rattle.timing_report.specs.Outcomes.{verdict_on}
use Rattle.timing_report.specs.json_report.Json.{Member, with_members, list_of, type_members, outcome_members, interlaced_members, judged_members}
use Rattle.timing_report.specs.json_report.Json.{unjudged_members}
use Rattle.timing_report.specs.json_report.Json.{expected_members, run_verdict_members, run_members, whole_run_members, run_data, verdict_members, flow_members}
use Rattle.timing_report.specs.json_report.Json.{flow_data}
use Rattle.timing_report.specs.json_report.Json.{files_data, type_data, types_data}

-- neither of two
pub neither : (a b : Bool) → a ≡ false → b ≡ false → (a || b) ≡ false
neither true b e f = e
neither false b e f = f

-- whether one of the members has a float
abbrev pub any_float : List Member → Bool
any_float [] = false
any_float (m ∷ ms) = has_float m.1 || any_float ms

-- in neither of two lists
pub any_float-append : (xs ys : List Member) → any_float xs ≡ false → any_float ys ≡ false → any_float (xs ++ ys) ≡ false
any_float-append [] ys e f = f
any_float-append (x ∷ xs) ys e f = let p = or_parts (has_float x.1) _ e in neither (has_float x.1) _ p.0 (any_float-append xs ys p.1 f)

either : (o : Ordering) (a b c : Members) → members_have_float a ≡ false → members_have_float b ≡ false → members_have_float c ≡ false
    → members_have_float (match_ordering o a b c) ≡ false
either Less a b c e f g = e
either Equal a b c e f g = f
either Greater a b c e f g = g

put-floatless : (k : List ℕ) (d : Data) (ms : Members) → has_float d ≡ false → members_have_float ms ≡ false → members_have_float (put k d ms) ≡ false
put-floatless k d no_members e f = neither (has_float d) false e refl
put-floatless k d (member l x ms) e f =
    let p = or_parts (has_float x) _ f in
    either (slice_cmp nat_cmp k l) _ _ _ (neither (has_float d) _ e f) (neither (has_float d) _ e p.1)
    (neither (has_float x) _ p.0 (put-floatless k d ms e p.1))

with_members-floatless : (ms : List Member) (found : Members) → any_float ms ≡ false → members_have_float found ≡ false
    → members_have_float (with_members ms found) ≡ false
with_members-floatless [] found e f = f
with_members-floatless (m ∷ ms) found e f =
    let p = or_parts (has_float m.1) _ e in with_members-floatless ms (put m.0 m.1 found) p.1 (put-floatless m.0 m.1 found p.0 f)

-- an object has a float only in a member
pub object-floatless : (ms : List Member) → any_float ms ≡ false → members_have_float (with_members ms no_members) ≡ false
object-floatless ms e = with_members-floatless ms no_members e refl

-- a list has a float only in an item
pub list-floatless : {X : Type 0} (f : X → Data) → ((x : X) → has_float (f x) ≡ false) → (xs : List X) → items_have_float (items_of (map f xs)) ≡ false
list-floatless f each [] = refl
list-floatless f each (x ∷ xs) = neither (has_float (f x)) _ (each x) (list-floatless f each xs)

outcome-floatless : (v : KindVerdict) → any_float (outcome_members v) ≡ false
outcome-floatless kind_verdict.Pass = refl
outcome-floatless (kind_verdict.Fail proof) = refl

type-floatless : (media : Media) (judged : Judged) (kind : Kind) → has_float (type_data media judged kind) ≡ false
type-floatless media judged kind = object-floatless (type_members media judged kind (verdict_on judged kind)) (outcome-floatless (verdict_on judged kind))

interlaced-floatless : (b : Bool) → any_float (interlaced_members b) ≡ false
interlaced-floatless true = refl
interlaced-floatless false = refl

judged-floatless : (media : Media) (judged : Judged) → any_float (judged_members media judged) ≡ false
judged-floatless media judged =
    neither (has_float (types_data media judged)) _ (list-floatless (type_data media judged) (type-floatless media judged) (N ∷ NL ∷ W ∷ []))
    (interlaced-floatless media.interlaced)

-- a flow without a verdict
pub unjudged-floatless : (u : Unjudged) → any_float (unjudged_members u) ≡ false
unjudged-floatless unjudged.Absent = refl
unjudged-floatless (unjudged.NoWholeFrame head) = refl
unjudged-floatless (unjudged.Refused rec fault) = refl
unjudged-floatless (unjudged.Gap rec expected got) = refl

run_verdict-floatless : (media : Media) (v : RunVerdict) → any_float (run_verdict_members media v) ≡ false
run_verdict-floatless media (run_verdict.NoWholeFrame head) = refl
run_verdict-floatless media (run_verdict.Judged judged) = judged-floatless media judged

expected-floatless : (run : Run) → any_float (run_members run) ≡ false
expected-floatless run = elim run.expected as (λ e. any_float (expected_members e) ≡ false) [ None ↦ refl | Some e ↦ refl ]

run-floatless : (media : Media) (run : Run) → has_float (run_data media run) ≡ false
run-floatless media run =
    object-floatless (whole_run_members media run)
    (any_float-append (run_members run) (run_verdict_members media run.verdict) (expected-floatless run) (run_verdict-floatless media run.verdict))

verdict-floatless : (media : Media) (v : Verdict) → any_float (verdict_members media v) ≡ false
verdict-floatless media (verdict.Unjudged u) = unjudged-floatless u
verdict-floatless media (verdict.Judged judged) = judged-floatless media judged
verdict-floatless media (verdict.Runs runs) = neither _ false (list-floatless (run_data media) (run-floatless media) runs) refl

-- a flow
pub flow-floatless : (media : Media) (row : Row) → has_float (flow_data media row) ≡ false
flow-floatless media row = object-floatless (flow_members media row.key row.verdict) (verdict-floatless media row.verdict)

-- the captures
pub files-floatless : (names : List (List ℕ)) (notes : List FileNote) → has_float (list_of (files_data names notes)) ≡ false
files-floatless [] notes = refl
files-floatless (name ∷ names) [] = refl
files-floatless (name ∷ names) (note ∷ notes) = files-floatless names notes
