-- What the value of a report tells is the fails of its rows.
use Rattle.std.proofs.Common.{◌≡◌, ◌<◌, ◌≤◌, ◌+◌, ◌-◌, ℕ, suc, List, [], ◌∷◌, ◌++◌, length, Bool, true, false, Some, None, refl, ap, ◌∙◌, arith, append-nil}
use Rattle.std.proofs.Common.{le-leb}
use Rattle.std.specs.Prelude.{All, Option, map, codes, nat_le, if◌then◌else◌, ◌&&◌, option_map, option_and_then}
use Rattle.serde_json.specs.Data.{Data, Items, no_items, item, string}
use Rattle.serde_json.specs.Events.{items_len}
use Rattle.serde_json.specs.Find.{get, as_array, as_str}
use Rattle.serde_json.specs.View.{items_of}
use Rattle.timing_base.specs.Jobs.{CheckJob}
use Rattle.timing_base.specs.Media.{Media}
use Rattle.timing_base.specs.Verdicts.{Judged}
use Rattle.timing_base.specs.declared.capture.FileNote.{FileNote}
use Rattle.timing_base.specs.declared.fail.Broken.{Broken}
use Rattle.timing_base.specs.declared.fail.Broken.TheVariants.{Bucket, Over, Empty}
use Rattle.timing_base.specs.declared.fail.FailProof.{FailProof}
use Rattle.timing_base.specs.declared.key.FlowKey.{FlowKey}
use Rattle.timing_base.specs.declared.media.Kind.{Kind}
use Rattle.timing_base.specs.declared.media.Kind.TheVariants.{N, NL, W}
use Rattle.timing_base.specs.declared.row.KindVerdict.{KindVerdict}
use Rattle.timing_base.specs.declared.row.KindVerdict.TheVariants as kind_verdict
use Rattle.timing_base.specs.declared.row.Row.{Row}
use Rattle.timing_base.specs.declared.row.Run.{Run}
use Rattle.timing_base.specs.declared.row.RunVerdict.{RunVerdict}
use Rattle.timing_base.specs.declared.row.RunVerdict.TheVariants as run_verdict
use Rattle.timing_base.specs.declared.row.Unjudged.{Unjudged}
use Rattle.timing_base.specs.declared.row.Unjudged.TheVariants as unjudged
use Rattle.timing_base.specs.declared.row.Verdict.{Verdict}
use Rattle.timing_base.specs.declared.row.Verdict.TheVariants as verdict
use Rattle.timing_report.specs.Outcomes.{verdict_on, first_passing}
use Rattle.timing_base.specs.Keys.{media_of}
use Rattle.timing_report.specs.Words.{model_name, kind_name, class_name, declared_name}
use Rattle.timing_report.specs.json_report.Fails.{fail_of, judged_fails, run_fails, runs_fails, verdict_fails, fails_of, FitsVerdict}
use Rattle.timing_report.specs.json_report.Json.{Member, object_of, list_of, count, proof_data, type_members, type_data, types_data, judged_numbers}
use Rattle.timing_report.specs.json_report.Json.{interlaced_members}
use Rattle.timing_report.specs.json_report.Json.{expected_members, no_whole_frame_members, run_members, run_verdict_members, run_data, key_members}
use Rattle.timing_report.specs.json_report.Json.{flow_members, row_data}
use Rattle.timing_report.specs.json_report.Json.{report_data}
use Rattle.timing_report.specs.json_report.Reading.{place_up_to, place_in, model_named, kind_named, where_present, proof_of, proof_in, type_of, told}
use Rattle.timing_report.specs.json_report.Reading.{types_from, types_in}
use Rattle.timing_report.specs.json_report.Reading.{run_of, runs_from, runs_of, runs_in, key_of, flow_of, flows_from, report_of}
use Rattle.timing_report.specs.declared.json_report.reading.ReportProof.{ReportProof}
use Rattle.timing_report.proofs.lemmas.json_report.Fitting.{Tellable}

-- ---- one type

model_back : (m : Broken) → model_named (model_name m) ≡ Some m
model_back Bucket = refl
model_back Over = refl
model_back Empty = refl

proof_back : (proof : FailProof) → proof_of (proof_data proof) ≡ Some proof
proof_back proof =
    ap (option_and_then (λ model. Some record { model = model; from = proof.from; to = proof.to; count = proof.count; limit = proof.limit }))
    (model_back proof.model)

kind_back : (kind : Kind) → kind_named (kind_name kind) ≡ Some kind
kind_back N = refl
kind_back NL = refl
kind_back W = refl

proof_in_back : (media : Media) (judged : Judged) (kind : Kind) (v : KindVerdict) → proof_in (object_of (type_members media judged kind v)) ≡ Some (fail_of v)
proof_in_back media judged kind kind_verdict.Pass = refl
proof_in_back media judged kind (kind_verdict.Fail proof) = ap (option_map Some) (proof_back proof)

name_back : (media : Media) (judged : Judged) (kind : Kind) (v : KindVerdict)
    → option_and_then as_str (get (codes "type") (object_of (type_members media judged kind v))) ≡ Some (kind_name kind)
name_back media judged kind kind_verdict.Pass = refl
name_back media judged kind (kind_verdict.Fail proof) = refl

read_type : (d : Data) (name : List ℕ) (kind : Kind) (fail : Option FailProof) → option_and_then as_str (get (codes "type") d) ≡ Some name
    → kind_named name ≡ Some kind
    → proof_in d ≡ Some fail → type_of d ≡ Some (kind, fail)
read_type d name kind fail e f g =
    ap (λ n. option_and_then (λ k. option_map (λ p. (k, p)) (proof_in d)) (option_and_then kind_named n)) e
    ∙ ap (option_and_then (λ k. option_map (λ p. (k, p)) (proof_in d))) f
    ∙ ap (option_map (λ p. (kind, p))) g

type_back : (media : Media) (judged : Judged) (kind : Kind) → type_of (type_data media judged kind) ≡ Some (kind, fail_of (verdict_on judged kind))
type_back media judged kind =
    let v = verdict_on judged kind in
    read_type (type_data media judged kind) (kind_name kind) kind (fail_of v) (name_back media judged kind v) (kind_back kind)
    (proof_in_back media judged kind v)

-- ---- the types of a judged run

one_type : (key : FlowKey) (run : ℕ) (d : Data) (ds : Items) (kind : Kind) (fail : Option FailProof) (rest : List ReportProof)
    → type_of d ≡ Some (kind, fail) → types_from key run ds ≡ Some rest → types_from key run (item d ds) ≡ Some (told key run kind fail ++ rest)
one_type key run d ds kind fail rest e f =
    ap (option_and_then (λ t. option_map (λ later. told key run t.0 t.1 ++ later) (types_from key run ds))) e
    ∙ ap (option_map (λ later. told key run kind fail ++ later)) f

types_back : (key : FlowKey) (run : ℕ) (media : Media) (judged : Judged)
    → option_and_then (types_from key run) (as_array (types_data media judged)) ≡ Some (judged_fails key run judged)
types_back key run media judged =
    let last = item (type_data media judged W) no_items in
    one_type key run (type_data media judged N) (item (type_data media judged NL) last) N _ _ (type_back media judged N)
    (one_type key run (type_data media judged NL) last NL _ _ (type_back media judged NL)
    (one_type key run (type_data media judged W) no_items W _ _ (type_back media judged W) refl))

-- where a member is known
present : {X : Type 0} (missing : X) (reads : Data → Option X) (o : Option Data) (d : Data) (x : X) → o ≡ Some d → reads d ≡ Some x
    → where_present missing reads o ≡ Some x
present missing reads o d x e f = ap (where_present missing reads) e ∙ f

missing_is : {X : Type 0} (missing : X) (reads : Data → Option X) (o : Option Data) → o ≡ None → where_present missing reads o ≡ Some missing
missing_is missing reads o e = ap (where_present missing reads) e

types_in_back : (key : FlowKey) (run : ℕ) (media : Media) (judged : Judged) (d : Data) → get (codes "types") d ≡ Some (types_data media judged)
    → types_in key run d ≡ Some (judged_fails key run judged)
types_in_back key run media judged d e =
    present [] (λ types. option_and_then (types_from key run) (as_array types)) (get (codes "types") d) (types_data media judged)
    (judged_fails key run judged) e (types_back key run media judged)

no_types : (key : FlowKey) (run : ℕ) (d : Data) → get (codes "types") d ≡ None → types_in key run d ≡ Some []
no_types key run d e = missing_is [] (λ types. option_and_then (types_from key run) (as_array types)) (get (codes "types") d) e

-- ---- the runs

-- what a judged run says in words, whether its video is interlaced or not
abbrev words : Media → Judged → Bool → List Member
words media judged interlaced =
    (codes "class", string (class_name (first_passing judged)))
    ∷ (codes "declared", string (declared_name media.declared))
    ∷ (codes "types", types_data media judged)
    ∷ (codes "verdict", string (codes "judged")) ∷ interlaced_members interlaced

-- a run that is judged, and one that is not
abbrev judged_run : Media → (number rec : ℕ) → Option ℕ → Judged → Bool → Data
judged_run media number rec expected judged interlaced =
    object_of ((codes "number", count number) ∷ (codes "record", count rec)
    ∷ (expected_members expected ++ (judged_numbers judged ++ words media judged interlaced)))

abbrev other_run : (number rec : ℕ) → Option ℕ → ℕ → Data
other_run number rec expected head =
    object_of ((codes "number", count number) ∷ (codes "record", count rec) ∷ (expected_members expected ++ no_whole_frame_members head))

run_types : (media : Media) (number rec : ℕ) (expected : Option ℕ) (interlaced : Bool) (judged : Judged)
    → get (codes "types") (judged_run media number rec expected judged interlaced) ≡ Some (types_data media judged)
run_types media number rec None true judged = refl
run_types media number rec None false judged = refl
run_types media number rec (Some e) true judged = refl
run_types media number rec (Some e) false judged = refl

no_run_types : (number rec : ℕ) (expected : Option ℕ) (head : ℕ) → get (codes "types") (other_run number rec expected head) ≡ None
no_run_types number rec None head = refl
no_run_types number rec (Some e) head = refl

run_back_at : (key : FlowKey) (index : ℕ) (media : Media) (run : Run) (v : RunVerdict)
    → run_of key index (object_of (run_members run ++ run_verdict_members media v)) ≡ Some (run_fails key index v)
run_back_at key index media run (run_verdict.NoWholeFrame head) =
    no_types key index (other_run run.number run.rec run.expected head) (no_run_types run.number run.rec run.expected head)
run_back_at key index media run (run_verdict.Judged judged) =
    types_in_back key index media judged (judged_run media run.number run.rec run.expected judged media.interlaced)
    (run_types media run.number run.rec run.expected media.interlaced judged)

run_back : (key : FlowKey) (index : ℕ) (media : Media) (run : Run) → run_of key index (run_data media run) ≡ Some (run_fails key index run.verdict)
run_back key index media run = run_back_at key index media run run.verdict

runs_back : (key : FlowKey) (media : Media) (index : ℕ) (runs : List Run)
    → runs_from key index (items_of (map (run_data media) runs)) ≡ Some (runs_fails key index runs)
runs_back key media index [] = refl
runs_back key media index (run ∷ rest) =
    ap (option_and_then (λ here. option_map (λ later. here ++ later) (runs_from key (index + 1) (items_of (map (run_data media) rest)))))
    (run_back key index media run)
    ∙ ap (option_map (λ later. run_fails key index run.verdict ++ later)) (runs_back key media (index + 1) rest)

runs_counted : (media : Media) (runs : List Run) → items_len (items_of (map (run_data media) runs)) ≡ length runs
runs_counted media [] = refl
runs_counted media (run ∷ rest) = ap suc (runs_counted media rest)

runs_of_back : (key : FlowKey) (media : Media) (runs : List Run) → length runs ≤ 1025
    → option_and_then (runs_of key) (as_array (list_of (map (run_data media) runs))) ≡ Some (runs_fails key 0 runs)
runs_of_back key media runs few =
    ap (λ n. if nat_le n 1025 then runs_from key 0 (items_of (map (run_data media) runs)) else None) (runs_counted media runs)
    ∙ ap (λ b. if b then runs_from key 0 (items_of (map (run_data media) runs)) else None) (le-leb (length runs) 1025 few)
    ∙ runs_back key media 0 runs

-- ---- a flow

place_back : (most n : ℕ) → n < most → place_up_to most (count (n + 1)) ≡ Some n
place_back most n h =
    let low : 1 ≤ n + 1 = omega arith in
    let high : n + 1 ≤ most = omega arith in
    let less : n + 1 - 1 ≡ n = omega arith in
    ap (λ b. if b && nat_le (n + 1) most then Some (n + 1 - 1) else None) (le-leb 1 (n + 1) low)
    ∙ ap (λ b. if b then Some (n + 1 - 1) else None) (le-leb (n + 1) most high)
    ∙ ap Some less

-- what is known of the members of a flow
record Members (key : FlowKey) (d : Data) (own later : List ReportProof) : Type 0 where
  file : get (codes "file") d ≡ Some (count (key.file + 1))
  media : get (codes "media") d ≡ Some (count (key.media + 1))
  types : types_in key 0 d ≡ Some own
  runs : runs_in key d ≡ Some later

flow_read : (key : FlowKey) (d : Data) (own later : List ReportProof) → key.file < 16 → key.media < 64 → Members key d own later
    → flow_of d ≡ Some (own ++ later)
flow_read key d own later file media h =
    let file_is : place_in (codes "file") 16 d ≡ Some key.file = ap (option_and_then (place_up_to 16)) h.file ∙ place_back 16 key.file file in
    let media_is : place_in (codes "media") 64 d ≡ Some key.media = ap (option_and_then (place_up_to 64)) h.media ∙ place_back 64 key.media media in
    let key_is : key_of d ≡ Some key
    = ap (option_and_then (λ f. option_map (λ m. record { file = f; media = m }) (place_in (codes "media") 64 d))) file_is
    ∙ ap (option_map (λ m. record { file = key.file; media = m })) media_is in
    ap (option_and_then (λ k. option_and_then (λ o. option_map (λ l. o ++ l) (runs_in k d)) (types_in k 0 d))) key_is
    ∙ ap (option_and_then (λ o. option_map (λ l. o ++ l) (runs_in key d))) h.types
    ∙ ap (option_map (λ l. own ++ l)) h.runs

no_runs : (key : FlowKey) (d : Data) → get (codes "runs") d ≡ None → runs_in key d ≡ Some []
no_runs key d e = missing_is [] (λ runs. option_and_then (runs_of key) (as_array runs)) (get (codes "runs") d) e

unjudged_known : (media : Media) (key : FlowKey) (u : Unjudged) → Members key (object_of (flow_members media key (verdict.Unjudged u))) [] []
unjudged_known media key unjudged.Absent = record { file = refl; media = refl; types = refl; runs = refl }
unjudged_known media key (unjudged.NoWholeFrame head) = record { file = refl; media = refl; types = refl; runs = refl }
unjudged_known media key (unjudged.Refused rec fault) = record { file = refl; media = refl; types = refl; runs = refl }
unjudged_known media key (unjudged.Gap rec expected got) = record { file = refl; media = refl; types = refl; runs = refl }

-- a judged flow
abbrev judged_flow : Media → FlowKey → Judged → Bool → Data
judged_flow media key judged interlaced = object_of (key_members media key ++ (judged_numbers judged ++ words media judged interlaced))

judged_known_at : (media : Media) (key : FlowKey) (judged : Judged) (interlaced : Bool)
    → Members key (judged_flow media key judged interlaced) (judged_fails key 0 judged) []
judged_known_at media key judged true =
    record {
      file = refl;
      media = refl;
      types = types_in_back key 0 media judged (judged_flow media key judged true) refl;
      runs = no_runs key (judged_flow media key judged true) refl;
    }
judged_known_at media key judged false =
    record {
      file = refl;
      media = refl;
      types = types_in_back key 0 media judged (judged_flow media key judged false) refl;
      runs = no_runs key (judged_flow media key judged false) refl;
    }

runs_known : (media : Media) (key : FlowKey) (runs : List Run) → length runs ≤ 1025
    → Members key (object_of (flow_members media key (verdict.Runs runs))) [] (runs_fails key 0 runs)
runs_known media key runs few = record {
  file = refl;
  media = refl;
  types = no_types key 0 (object_of (flow_members media key (verdict.Runs runs))) refl;
  runs = present [] (λ d. option_and_then (runs_of key) (as_array d)) (get (codes "runs") (object_of (flow_members media key (verdict.Runs runs))))
      (list_of (map (run_data media) runs)) (runs_fails key 0 runs) refl (runs_of_back key media runs few);
}

flow_back : (media : Media) (key : FlowKey) (v : Verdict) → key.file < 16 → key.media < 64 → FitsVerdict v
    → flow_of (object_of (flow_members media key v)) ≡ Some (verdict_fails key v)
flow_back media key (verdict.Unjudged u) file number h =
    flow_read key (object_of (flow_members media key (verdict.Unjudged u))) [] [] file number (unjudged_known media key u)
flow_back media key (verdict.Judged judged) file number h =
    flow_read key (judged_flow media key judged media.interlaced) (judged_fails key 0 judged) [] file number (judged_known_at media key judged media.interlaced)
    ∙ ap Some (append-nil (judged_fails key 0 judged))
flow_back media key (verdict.Runs runs) file number h =
    flow_read key (object_of (flow_members media key (verdict.Runs runs))) [] (runs_fails key 0 runs) file number (runs_known media key runs h.0.few)

-- ---- the report

flows_back : (session : List Media) → length session ≤ 64 → (rows : List Row) → All (Tellable session) rows
    → flows_from (items_of (map (row_data session) rows)) ≡ Some (fails_of rows)
flows_back session few [] h = refl
flows_back session few (row ∷ rows) h =
    let here = h 0 row (omega arith) in
    let later = flows_back session few rows (λ k d lt. h (suc k) d (omega arith)) in
    ap (option_and_then (λ own. option_map (λ rest. own ++ rest) (flows_from (items_of (map (row_data session) rows)))))
    (flow_back (media_of session row.key) row.key row.verdict here.0 (omega (arith, here.1)) here.2)
    ∙ ap (option_map (λ rest. verdict_fails row.key row.verdict ++ rest)) later

-- the value of a report tells the fails of its rows
pub report_back : (job : CheckJob) (session : List Media) (notes : List FileNote) (rows : List Row) → length session ≤ 64 → All (Tellable session) rows
    → report_of (report_data job session notes rows) ≡ Some (fails_of rows)
report_back job session notes rows few tell = flows_back session few rows tell
