-- The report as JSON (RFC 8259): one value without spaces, and a newline. The members of an object stand in the byte
-- order of their keys, in whatever order they are put in. Captures, media and packet records count from 1, packets from
-- 0. Counts and limits are packets.
use Rattle.std.specs.Prelude.{ℕ, ◌+◌, Bool, true, false, List, [], ◌∷◌, ◌++◌, map, Option, Some, None, codes}
use Rattle.serde_json.specs.Data.{Data, number, unsigned, boolean, string, array, object, Members, no_members, put}
use Rattle.serde_json.specs.View.{items_of}
use Rattle.serde_json.specs.Written.{compact_text}
use Rattle.timing_base.specs.Jobs.{CheckJob}
use Rattle.timing_base.specs.Media.{Media}
use Rattle.timing_base.specs.Targets.{target_of, target_text}
use Rattle.timing_base.specs.Verdicts.{Judged}
use Rattle.timing_base.specs.declared.capture.FileNote.{FileNote}
use Rattle.timing_base.specs.declared.fail.FailProof.{FailProof}
use Rattle.timing_base.specs.declared.key.FlowKey.{FlowKey}
use Rattle.timing_base.specs.declared.media.Kind.{Kind}
use Rattle.timing_base.specs.declared.media.Kind.TheVariants.{N, NL, W}
use Rattle.timing_base.specs.declared.row.KindVerdict.{KindVerdict}
use Rattle.timing_base.specs.declared.row.KindVerdict.TheVariants as kind_verdict
use Rattle.timing_base.specs.declared.row.Row.{Row}
use Rattle.timing_base.specs.declared.row.Run.{Run}
use Rattle.timing_base.specs.declared.row.RunVerdict.{RunVerdict}
use Rattle.timing_base.specs.declared.row.RunVerdict.TheVariants as run_verdict
use Rattle.timing_base.specs.declared.row.Unjudged.{Unjudged}
use Rattle.timing_base.specs.declared.row.Unjudged.TheVariants as unjudged
use Rattle.timing_base.specs.declared.row.Verdict.{Verdict}
use Rattle.timing_base.specs.declared.row.Verdict.TheVariants as verdict
use Rattle.sender_params.specs.Limits.{c_max_of, vrx_full_of}
use Rattle.timing_report.specs.Outcomes.{verdict_on, first_passing, buffer_peak, status_of}
use Rattle.timing_base.specs.Keys.{media_of}
use Rattle.timing_report.specs.Status.{code_of}
use Rattle.timing_report.specs.Words.{kind_name, declared_name, class_name, model_name, packet_fault_text, note_text}

-- a key and its value
abbrev pub Member : Type 0
Member = List ℕ × Data

-- the members of an object, after these were put in
abbrev pub with_members : List Member → Members → Members
with_members [] found = found
with_members (m ∷ ms) found = with_members ms (put m.0 m.1 found)

-- an object with these members
abbrev pub object_of : List Member → Data
object_of ms = object (with_members ms no_members)

-- a whole number
abbrev pub count : ℕ → Data
count n = number (unsigned n)

-- an array
abbrev pub list_of : List Data → Data
list_of ds = array (items_of ds)

-- the members of a violation
abbrev pub proof_members : FailProof → List Member
proof_members proof =
    (codes "count", count proof.count)
    ∷ (codes "from", count proof.from)
    ∷ (codes "limit", count proof.limit)
    ∷ (codes "model", string (model_name proof.model))
    ∷ (codes "to", count proof.to) ∷ []

-- a violation
abbrev pub proof_data : FailProof → Data
proof_data proof = object_of (proof_members proof)

-- whether a type passes, and if it fails, the violation
abbrev pub outcome_members : KindVerdict → List Member
outcome_members kind_verdict.Pass = (codes "pass", boolean true) ∷ []
outcome_members (kind_verdict.Fail proof) = (codes "pass", boolean false) ∷ (codes "proof", proof_data proof) ∷ []

-- the members of a sender type with this verdict
abbrev pub type_members : Media → Judged → Kind → KindVerdict → List Member
type_members media judged kind outcome =
    (codes "bucket_limit", count (c_max_of media judged.n kind))
    ∷ (codes "bucket_peak", count judged.bucket_peak)
    ∷ (codes "buffer_limit", count (vrx_full_of media judged.n kind))
    ∷ (codes "buffer_peak", count (buffer_peak judged kind))
    ∷ (codes "type", string (kind_name kind)) ∷ outcome_members outcome

-- a sender type
abbrev pub type_data : Media → Judged → Kind → Data
type_data media judged kind = object_of (type_members media judged kind (verdict_on judged kind))

-- the sender types N, NL and W
abbrev pub types_data : Media → Judged → Data
types_data media judged = list_of (map (type_data media judged) (N ∷ NL ∷ W ∷ []))

-- `interlaced`, which only an interlaced media has
abbrev pub interlaced_members : Bool → List Member
interlaced_members true = (codes "interlaced", boolean true) ∷ []
interlaced_members false = []

-- the numbers of a judged run
abbrev pub judged_numbers : Judged → List Member
judged_numbers judged =
    (codes "frames", count judged.frames)
    ∷ (codes "head", count judged.head)
    ∷ (codes "n", count judged.n)
    ∷ (codes "packets", count judged.packets)
    ∷ (codes "tail", count judged.tail) ∷ []

-- the class, the declared type and the results for each type of a judged run
abbrev pub judged_words : Media → Judged → List Member
judged_words media judged =
    (codes "class", string (class_name (first_passing judged)))
    ∷ (codes "declared", string (declared_name media.declared))
    ∷ (codes "types", types_data media judged)
    ∷ (codes "verdict", string (codes "judged")) ∷ interlaced_members media.interlaced

-- the members of a judged run
abbrev pub judged_members : Media → Judged → List Member
judged_members media judged = judged_numbers judged ++ judged_words media judged

-- the members of a run without a whole frame or field
abbrev pub no_whole_frame_members : ℕ → List Member
no_whole_frame_members head = (codes "head", count head) ∷ (codes "verdict", string (codes "no whole frame")) ∷ []

-- the members of a flow that was not judged
abbrev pub unjudged_members : Unjudged → List Member
unjudged_members unjudged.Absent = (codes "verdict", string (codes "absent")) ∷ []
unjudged_members (unjudged.NoWholeFrame head) = no_whole_frame_members head
unjudged_members (unjudged.Refused rec fault) =
    (codes "fault", string (packet_fault_text fault)) ∷ (codes "record", count rec)
    ∷ (codes "verdict", string (codes "refused")) ∷ []
unjudged_members (unjudged.Gap rec expected got) =
    (codes "expected", count expected) ∷ (codes "got", count got) ∷ (codes "record", count rec)
    ∷ (codes "verdict", string (codes "gap")) ∷ []

-- the members of the verdict on a run between gaps
abbrev pub run_verdict_members : Media → RunVerdict → List Member
run_verdict_members media (run_verdict.NoWholeFrame head) = no_whole_frame_members head
run_verdict_members media (run_verdict.Judged judged) = judged_members media judged

-- the extended sequence number that would have continued the run before; absent in the first run
abbrev pub expected_members : Option ℕ → List Member
expected_members None = []
expected_members (Some expected) = (codes "expected", count expected) ∷ []

-- the first packet record and extended sequence number of a run, and the number that was expected there
abbrev pub run_members : Run → List Member
run_members run = (codes "number", count run.number) ∷ (codes "record", count run.rec) ∷ expected_members run.expected

-- all members of a run between gaps
abbrev pub whole_run_members : Media → Run → List Member
whole_run_members media run = run_members run ++ run_verdict_members media run.verdict

-- a run between gaps
abbrev pub run_data : Media → Run → Data
run_data media run = object_of (whole_run_members media run)

-- the members of a verdict
abbrev pub verdict_members : Media → Verdict → List Member
verdict_members media (verdict.Unjudged unjudged) = unjudged_members unjudged
verdict_members media (verdict.Judged judged) = judged_members media judged
verdict_members media (verdict.Runs runs) =
    (codes "runs", list_of (map (run_data media) runs)) ∷ (codes "verdict", string (codes "runs")) ∷ []

-- the members that name the flow
abbrev pub key_members : Media → FlowKey → List Member
key_members media key =
    (codes "file", count (key.file + 1)) ∷ (codes "media", count (key.media + 1))
    ∷ (codes "target", string (target_text (target_of media))) ∷ []

-- the members of a flow of this media
abbrev pub flow_members : Media → FlowKey → Verdict → List Member
flow_members media key verdict = key_members media key ++ verdict_members media verdict

-- a flow of this media
abbrev pub flow_data : Media → Row → Data
flow_data media row = object_of (flow_members media row.key row.verdict)

-- the flow of a result
abbrev pub row_data : List Media → Row → Data
row_data session row = flow_data (media_of session row.key) row

-- the members of a capture: how it ends, and its file name
abbrev pub file_members : List ℕ → FileNote → List Member
file_members name note = (codes "end", string (note_text note)) ∷ (codes "name", string name) ∷ []

-- a capture
abbrev pub file_data : List ℕ → FileNote → Data
file_data name note = object_of (file_members name note)

-- the captures, by their names and how each ends
abbrev pub files_data : List (List ℕ) → List FileNote → List Data
files_data (name ∷ names) (note ∷ notes) = file_data name note ∷ files_data names notes
files_data [] notes = []
files_data (name ∷ names) [] = []

-- the members of a report
abbrev pub report_members : CheckJob → List Media → List FileNote → List Row → List Member
report_members job session notes rows =
    (codes "files", list_of (files_data job.captures notes))
    ∷ (codes "flows", list_of (map (row_data session) rows))
    ∷ (codes "status", count (code_of (status_of session notes rows))) ∷ []

-- the report as a JSON value
abbrev pub report_data : CheckJob → List Media → List FileNote → List Row → Data
report_data job session notes rows = object_of (report_members job session notes rows)

-- the report as text, with its newline
abbrev pub json_text : CheckJob → List Media → List FileNote → List Row → List ℕ
json_text job session notes rows = compact_text (report_data job session notes rows) ++ codes "\n"
