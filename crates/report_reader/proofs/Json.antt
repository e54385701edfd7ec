-- A JSON report is read back.
use Rattle.std.proofs.Common.{◌≡◌, ◌∙◌, ℕ, suc, ◌+◌, ◌^◌, ◌<◌, ◌≤◌, Bool, true, false, List, [], ◌∷◌, ◌++◌, refl, ap, sym}
use Rattle.std.proofs.Common.{arith, append-nil, option_and_then, option_map}
use Rattle.std.specs.Prelude.{Option, Some, None, codes, ⊤, map, All, IsUtf8, unwrap_or}
use Rattle.serde_json.specs.Data.{Data, string}
use Rattle.serde_json.specs.Find.{get, as_bool}
use Rattle.serde_json.specs.View.{items_of}
use Rattle.serde_json.specs.Written.{outline}
use Rattle.json.specs.Tree.{depth}
use Rattle.timing_base.specs.Jobs.{CheckJob}
use Rattle.timing_base.specs.Keys.{media_of, no_media}
use Rattle.timing_base.specs.Media.{Media}
use Rattle.timing_base.specs.Targets.{target_of, target_text}
use Rattle.timing_base.specs.Verdicts.{Judged}
use Rattle.timing_base.specs.declared.capture.FileNote.{FileNote}
use Rattle.timing_base.specs.declared.fail.Broken.{Broken}
use Rattle.timing_base.specs.declared.fail.Broken.TheVariants.{Bucket, Over, Empty}
use Rattle.timing_base.specs.declared.fail.FailProof.{FailProof}
use Rattle.timing_base.specs.declared.key.FlowKey.{FlowKey}
use Rattle.timing_base.specs.declared.media.Kind.{Kind}
use Rattle.timing_base.specs.declared.media.Kind.TheVariants.{N, NL, W}
use Rattle.timing_base.specs.declared.packet.PacketFault.{PacketFault}
use Rattle.timing_base.specs.declared.row.KindVerdict.{KindVerdict}
use Rattle.timing_base.specs.declared.row.KindVerdict.TheVariants.{Pass, Fail}
use Rattle.timing_base.specs.declared.row.Row.{Row}
use Rattle.timing_base.specs.declared.row.Run.{Run}
use Rattle.timing_base.specs.declared.row.RunVerdict.{RunVerdict}
use Rattle.timing_base.specs.declared.row.RunVerdict.TheVariants as run_verdict
use Rattle.timing_base.specs.declared.row.Unjudged.{Unjudged}
use Rattle.timing_base.specs.declared.row.Unjudged.TheVariants as unjudged
use Rattle.timing_base.specs.declared.row.Verdict.{Verdict}
use Rattle.timing_base.specs.declared.row.Verdict.TheVariants as verdict
use Rattle.timing_base.specs.declared.target.Target.{Target}
use Rattle.timing_report.specs.Outcomes.{buffer_peak, first_passing, verdict_on}
use Rattle.timing_report.specs.Words.{class_name, declared_name, model_name, note_text, packet_fault_text}
use Rattle.timing_report.specs.json_report.Json.{Member, count, expected_members, file_data, files_data, flow_data, interlaced_members}
use Rattle.timing_report.specs.json_report.Json.{judged_numbers, json_text, key_members}
use Rattle.timing_report.specs.json_report.Json.{object_of, proof_data, report_data, row_data, unjudged_members}
use Rattle.timing_report.specs.json_report.Json.{run_data, type_data, type_members, types_data}
use Rattle.timing_report.specs.json_report.Reading.{model_named, number_in, proof_of, text_in}
use Rattle.timing_report.proofs.Keys.{keys_of_rows}
use Rattle.timing_report.proofs.lemmas.json_report.Fitting.{Fits, Tellable, report_fits}
use Rattle.timing_report.proofs.lemmas.json_report.Reread.{read_line}
use Rattle.sender_params.specs.Limits.{c_max_of, vrx_full_of}
use Rattle.report_reader.specs.JsonReading.{class_named, data_read, declared_named, each, fault_named, file_read, flow_read, json_read}
use Rattle.report_reader.specs.JsonReading.{judged_read, note_named, outcome_in, run_read, target_named}
use Rattle.report_reader.specs.JsonReading.{type_read, verdict_read}
use Rattle.report_reader.specs.Pieces.{at_end}
use Rattle.report_reader.specs.Told.{ToldVerdict, in_one_run, judged_run, not_judged, told_fault, told_files, told_flow, told_judged, told_of}
use Rattle.report_reader.specs.Told.{told_report, told_run, told_type, told_unjudged}
use Rattle.report_reader.specs.Reported.{AreReported, FitsFault, FitsMedia, FitsReason, FitsNote, FitsRefusal, FitsRow}
use Rattle.report_reader.proofs.Flows.{key_is, target_back}
use Rattle.report_reader.proofs.Lines.{fault_back}
use Rattle.report_reader.proofs.Report.{ending_back}

model_back : (m : Broken) → model_named (model_name m) ≡ Some m
model_back Bucket = refl
model_back Over = refl
model_back Empty = refl

proof_back : (proof : FailProof) → proof_of (proof_data proof) ≡ Some proof
proof_back proof =
    ap (option_and_then (λ model. Some record { model = model; from = proof.from; to = proof.to; count = proof.count; limit = proof.limit }))
    (model_back proof.model)

outcome_back : (media : Media) (judged : Judged) (kind : Kind) (found : KindVerdict)
    → outcome_in (object_of (type_members media judged kind found)) ≡ Some found
unfolding outcome_in
outcome_back media judged kind Pass = refl
outcome_back media judged kind (Fail proof) = ap (option_map Fail) (proof_back proof)

type_at : (media : Media) (judged : Judged) (kind : Kind) (found : KindVerdict) → type_read (object_of (type_members media judged kind found))
    ≡ Some record {
      verdict = found;
      bucket = judged.bucket_peak;
      bucket_limit = c_max_of media judged.n kind;
      buffer = buffer_peak judged kind;
      buffer_limit = vrx_full_of media judged.n kind;
    }
unfolding type_read
type_at media judged kind Pass = rw (outcome_back media judged kind Pass) refl
type_at media judged kind (Fail proof) = rw (outcome_back media judged kind (Fail proof)) refl

type_back : (media : Media) (judged : Judged) (kind : Kind) → type_read (type_data media judged kind) ≡ Some (told_type media judged kind)
type_back media judged kind = type_at media judged kind (verdict_on judged kind)

class_back : (class : Option Kind) → class_named (class_name class) ≡ Some class
unfolding class_named
class_back (Some N) = refl
class_back (Some NL) = refl
class_back (Some W) = refl
class_back None = refl

declared_back : (declared : Option Kind) → declared_named (declared_name declared) ≡ Some declared
unfolding declared_named
declared_back (Some N) = refl
declared_back (Some NL) = refl
declared_back (Some W) = refl
declared_back None = refl

-- the members of a judged run, among whatever others
record HasJudged (media : Media) (judged : Judged) (d : Data) : Type 0 where
  n : number_in (codes "n") d ≡ Some judged.n
  frames : number_in (codes "frames") d ≡ Some judged.frames
  packets : number_in (codes "packets") d ≡ Some judged.packets
  head : number_in (codes "head") d ≡ Some judged.head
  tail : number_in (codes "tail") d ≡ Some judged.tail
  class : text_in (codes "class") d ≡ Some (class_name (first_passing judged))
  declared : text_in (codes "declared") d ≡ Some (declared_name media.declared)
  types : get (codes "types") d ≡ Some (types_data media judged)
  verdict : text_in (codes "verdict") d ≡ Some (codes "judged")
  interlaced : unwrap_or (option_and_then as_bool (get (codes "interlaced") d)) false ≡ media.interlaced

judged_back : (media : Media) (judged : Judged) (d : Data) → HasJudged media judged d → judged_read d ≡ Some (told_judged media judged)
unfolding judged_read
judged_back media judged d has =
    rw (
      has.n,
      has.frames,
      has.packets,
      has.head,
      has.tail,
      has.class,
      has.declared,
      has.types,
      has.interlaced,
      class_back (first_passing judged),
      declared_back media.declared,
      type_back media judged N,
      type_back media judged NL,
      type_back media judged W,
    ) refl

-- the words of a judged run, whether its video is interlaced or not
abbrev words : Media → Judged → Bool → List Member
words media judged interlaced =
    (codes "class", string (class_name (first_passing judged))) ∷ (codes "declared", string (declared_name media.declared))
    ∷ (codes "types", types_data media judged) ∷ (codes "verdict", string (codes "judged")) ∷ interlaced_members interlaced

abbrev judged_flow : Media → FlowKey → Judged → Bool → Data
judged_flow media key judged interlaced = object_of (key_members media key ++ (judged_numbers judged ++ words media judged interlaced))

abbrev judged_between : Media → (number rec : ℕ) → Option ℕ → Judged → Bool → Data
judged_between media number rec expected judged interlaced =
    object_of ((codes "number", count number) ∷ (codes "record", count rec)
    ∷ (expected_members expected ++ (judged_numbers judged ++ words media judged interlaced)))

flow_has : (media : Media) (key : FlowKey) (judged : Judged) (interlaced : Bool) → interlaced ≡ media.interlaced
    → HasJudged media judged (judged_flow media key judged interlaced)
flow_has media key judged true e =
    record { n = refl; frames = refl; packets = refl; head = refl; tail = refl; class = refl; declared = refl; types = refl; verdict = refl; interlaced = e }
flow_has media key judged false e =
    record { n = refl; frames = refl; packets = refl; head = refl; tail = refl; class = refl; declared = refl; types = refl; verdict = refl; interlaced = e }

run_has : (media : Media) (number rec : ℕ) (expected : Option ℕ) (judged : Judged) (interlaced : Bool) → interlaced ≡ media.interlaced
    → HasJudged media judged (judged_between media number rec expected judged interlaced)
run_has media number rec None judged true e =
    record { n = refl; frames = refl; packets = refl; head = refl; tail = refl; class = refl; declared = refl; types = refl; verdict = refl; interlaced = e }
run_has media number rec None judged false e =
    record { n = refl; frames = refl; packets = refl; head = refl; tail = refl; class = refl; declared = refl; types = refl; verdict = refl; interlaced = e }
run_has media number rec (Some n) judged true e =
    record { n = refl; frames = refl; packets = refl; head = refl; tail = refl; class = refl; declared = refl; types = refl; verdict = refl; interlaced = e }
run_has media number rec (Some n) judged false e =
    record { n = refl; frames = refl; packets = refl; head = refl; tail = refl; class = refl; declared = refl; types = refl; verdict = refl; interlaced = e }

-- the members of a run between gaps
record HasRun (number rec : ℕ) (expected : Option ℕ) (d : Data) : Type 0 where
  record_number : number_in (codes "record") d ≡ Some rec
  first_number : number_in (codes "number") d ≡ Some number
  expected_number : number_in (codes "expected") d ≡ expected

judged_run_has : (media : Media) (number rec : ℕ) (expected : Option ℕ) (judged : Judged) (interlaced : Bool)
    → HasRun number rec expected (judged_between media number rec expected judged interlaced)
judged_run_has media number rec None judged true = record { record_number = refl; first_number = refl; expected_number = refl }
judged_run_has media number rec None judged false = record { record_number = refl; first_number = refl; expected_number = refl }
judged_run_has media number rec (Some n) judged true = record { record_number = refl; first_number = refl; expected_number = refl }
judged_run_has media number rec (Some n) judged false = record { record_number = refl; first_number = refl; expected_number = refl }

run_judged : (media : Media) (judged : Judged) (number rec : ℕ) (expected : Option ℕ) (d : Data) → HasJudged media judged d → HasRun number rec expected d
    → run_read d ≡ Some record { rec = rec; number = number; expected = expected; outcome = judged_run (told_judged media judged) }
unfolding run_read
run_judged media judged number rec expected d has run =
    rw (run.record_number, run.first_number, run.expected_number, has.verdict, judged_back media judged d has) refl

run_at : (media : Media) (number rec : ℕ) (expected : Option ℕ) (found : RunVerdict)
    → run_read (run_data media record { rec = rec; number = number; expected = expected; verdict = found })
    ≡ Some (told_run media record { rec = rec; number = number; expected = expected; verdict = found })
unfolding run_read
run_at media number rec None (run_verdict.NoWholeFrame head) = refl
run_at media number rec (Some n) (run_verdict.NoWholeFrame head) = refl
run_at media number rec expected (run_verdict.Judged judged) =
    run_judged media judged number rec expected _ (run_has media number rec expected judged media.interlaced refl)
    (judged_run_has media number rec expected judged media.interlaced)

run_back : (media : Media) (run : Run) → run_read (run_data media run) ≡ Some (told_run media run)
run_back media run = run_at media run.number run.rec run.expected run.verdict

each_back : {A X : Type 0} (reads : Data → Option A) (f : X → Data) (g : X → A) (P : X → Type 0) → ((x : X) → P x → reads (f x) ≡ Some (g x))
    → (xs : List X) → All P xs → each reads (items_of (map f xs)) ≡ Some (map g xs)
each_back reads f g P one [] h = refl
each_back reads f g P one (x ∷ xs) h =
    rw (one x (h 0 x (omega arith)), each_back reads f g P one xs (λ k d lt. h (suc k) d (omega arith))) refl

target_of_text : (target : Target) → target.address.bits < 2 ^ 32 → target.port < 2 ^ 16 → target_named (target_text target) ≡ Some target
unfolding target_named
target_of_text target a p = ap target_named (sym (append-nil (target_text target))) ∙ target_back at_end target [] a p refl

fault_of_text : (fault : PacketFault) → FitsFault fault → fault_named (packet_fault_text fault) ≡ Some (told_fault fault)
unfolding fault_named
fault_of_text fault fits = ap fault_named (sym (append-nil (packet_fault_text fault))) ∙ fault_back at_end fault [] fits refl

note_of_text : (end : FileNote) → FitsNote end → note_named (note_text end) ≡ Some end
unfolding note_named
note_of_text end fits = ending_back at_end end [] fits

-- the members of a flow
record HasFlow (media : Media) (key : FlowKey) (told : ToldVerdict) (d : Data) : Type 0 where
  file : number_in (codes "file") d ≡ Some (key.file + 1)
  place : number_in (codes "media") d ≡ Some (key.media + 1)
  target : text_in (codes "target") d ≡ Some (target_text (target_of media))
  verdict : verdict_read d ≡ Some told

flow_of_members : (media : Media) (key : FlowKey) (told : ToldVerdict) (d : Data) → media.address.bits < 2 ^ 32 → media.port < 2 ^ 16 → HasFlow media key told d
    → flow_read d ≡ Some record { key = key; target = target_of media; verdict = told }
unfolding flow_read
flow_of_members media key told d a p has =
    rw (has.file, has.place, has.target, has.verdict, target_of_text (target_of media) a p)
    (ap (λ k. Some record { key = k; target = target_of media; verdict = told }) (key_is key))

reason_has : (media : Media) (key : FlowKey) (why : Unjudged) → FitsReason why
    → HasFlow media key (not_judged (told_unjudged why)) (object_of (key_members media key ++ unjudged_members why))
unfolding verdict_read
reason_has media key unjudged.Absent fits = record { file = refl; place = refl; target = refl; verdict = refl }
reason_has media key (unjudged.NoWholeFrame head) fits = record { file = refl; place = refl; target = refl; verdict = refl }
reason_has media key (unjudged.Refused rec fault) fits =
    record { file = refl; place = refl; target = refl; verdict = rw (fault_of_text fault fits) refl }
reason_has media key (unjudged.Gap rec expected got) fits = record { file = refl; place = refl; target = refl; verdict = refl }

verdict_judged : (media : Media) (judged : Judged) (d : Data) → HasJudged media judged d → verdict_read d ≡ Some (in_one_run (told_judged media judged))
unfolding verdict_read
verdict_judged media judged d has = rw (has.verdict, judged_back media judged d has) refl

judged_has : (media : Media) (key : FlowKey) (judged : Judged) (interlaced : Bool) → interlaced ≡ media.interlaced
    → HasFlow media key (in_one_run (told_judged media judged)) (judged_flow media key judged interlaced)
judged_has media key judged true e =
    record { file = refl; place = refl; target = refl; verdict = verdict_judged media judged _ (flow_has media key judged true e) }
judged_has media key judged false e =
    record { file = refl; place = refl; target = refl; verdict = verdict_judged media judged _ (flow_has media key judged false e) }

runs_back : (media : Media) (runs : List Run) → each run_read (items_of (map (run_data media) runs)) ≡ Some (map (told_run media) runs)
runs_back media runs = each_back run_read (run_data media) (told_run media) (λ run. ⊤) (λ run h. run_back media run) runs (λ k d lt. tt)

verdict_has : (media : Media) (key : FlowKey) (found : Verdict) → FitsRefusal found
    → HasFlow media key (told_of media found) (flow_data media record { key = key; verdict = found })
unfolding verdict_read
verdict_has media key (verdict.Unjudged why) fits = reason_has media key why fits
verdict_has media key (verdict.Judged judged) fits = judged_has media key judged media.interlaced refl
verdict_has media key (verdict.Runs runs) fits =
    record { file = refl; place = refl; target = refl; verdict = rw (runs_back media runs) refl }

flow_back : (session : List Media) (row : Row) → FitsMedia (media_of session row.key) → FitsRow row
    → flow_read (row_data session row) ≡ Some (told_flow session row)
flow_back session row is fits =
    let m = media_of session row.key in
    flow_of_members m row.key (told_of m row.verdict) (row_data session row) is.address is.port (verdict_has m row.key row.verdict fits.refusal)

file_back : (name : List ℕ) (end : FileNote) → FitsNote end → file_read (file_data name end) ≡ Some record { note = end; name = name }
unfolding file_read
file_back name end fits = rw (note_of_text end fits) refl

files_back : (names : List (List ℕ)) (notes : List FileNote) → All FitsNote notes
    → each file_read (items_of (files_data names notes)) ≡ Some (told_files names notes)
files_back [] notes fits = refl
files_back (name ∷ names) [] fits = refl
files_back (name ∷ names) (end ∷ notes) fits =
    rw (file_back name end (fits 0 end (omega arith)), files_back names notes (λ k d lt. fits (suc k) d (omega arith))) refl

data_back : (job : CheckJob) (session : List Media) (notes : List FileNote) (rows : List Row) → AreReported job session notes rows
    → data_read (report_data job session notes rows) ≡ Some (told_report job session notes rows)
unfolding data_read
data_back job session notes rows are =
    let keys = keys_of_rows job session rows are.is_job are.flows in
    let flows : each flow_read (items_of (map (row_data session) rows)) ≡ Some (map (told_flow session) rows)
    = each_back flow_read (row_data session) (told_flow session) (λ row. FitsMedia (media_of session row.key) × FitsRow row)
    (λ row h. flow_back session row h.0 h.1) rows (λ k d lt. (are.media _ no_media (keys k d lt).1, are.results k d lt)) in
    rw (files_back job.captures notes are.endings, flows) refl

-- the JSON of a report contains what its text does
pub json_back : (job : CheckJob) (session : List Media) (notes : List FileNote) (rows : List Row) → AreReported job session notes rows
    → All IsUtf8 job.captures → json_read (json_text job session notes rows) ≡ Some (told_report job session notes rows)
json_back job session notes rows are names =
    let d = report_data job session notes rows in
    let keys = keys_of_rows job session rows are.is_job are.flows in
    let tell : All (Tellable session) rows = λ k r within. ((keys k r within).0, (keys k r within).1, (are.results k r within).verdict) in
    let fits : Fits 8 d = report_fits job session notes rows names are.is_session.few (λ k m within. (are.media k m within).is) tell in
    let shallow : depth (outline d) ≤ 127 = omega (arith, fits.1) in
    ap (option_and_then data_read) (read_line d fits.0 shallow) ∙ data_back job session notes rows are
