-- The reader of a JSON report: what it contains of the captures and of the flows, as of the text of a report. Keys that
-- are not named here are ignored.
use Rattle.std.specs.Prelude.{ℕ, ◌-◌, ◌++◌, false, if◌then◌else◌, List, [], ◌∷◌, Option, Some, None, codes}
use Rattle.std.specs.Prelude.{option_and_then, option_map, unwrap_or}
use Rattle.serde_json.specs.Data.{Data, Items, no_items, item}
use Rattle.serde_json.specs.Find.{get, get_item, as_array, as_bool}
use Rattle.serde_json.specs.Read.{read}
use Rattle.timing_base.specs.declared.capture.FileNote.{FileNote}
use Rattle.timing_base.specs.declared.media.Kind.{Kind}
use Rattle.timing_base.specs.declared.media.Kind.TheVariants.{N, NL, W}
use Rattle.timing_base.specs.declared.packet.PacketFault.{PacketFault}
use Rattle.timing_base.specs.declared.row.KindVerdict.{KindVerdict}
use Rattle.timing_base.specs.declared.row.KindVerdict.TheVariants as kind_verdict
use Rattle.timing_base.specs.declared.row.Unjudged.TheVariants as unjudged
use Rattle.timing_base.specs.declared.target.Target.{Target}
use Rattle.timing_report.specs.json_report.Reading.{named, number_in, proof_of, text_in}
use Rattle.report_reader.specs.Pieces.{at_end}
use Rattle.report_reader.specs.Reading.{destination, ending, packet_fault}
use Rattle.report_reader.specs.Told.{ToldFile, ToldFlow, ToldJudged, ToldOutcome, headed, judged_run, ToldReport}
use Rattle.report_reader.specs.Told.{ToldRun, ToldType, ToldVerdict, not_judged, in_one_run, in_runs}

-- goes on with a value, if there is one
abbrev pub given : {A B : Type 0} → Option A → (A → Option B) → Option B
given found next = option_and_then next found

-- the list of an array, of which each item is read
abbrev pub each : {A : Type 0} → (Data → Option A) → Items → Option (List A)
each reads no_items = Some []
each reads (item d ds) = given (reads d) (λ first. option_map (λ later. first ∷ later) (each reads ds))

-- the list of a member
abbrev pub list_in : {A : Type 0} → List ℕ → (Data → Option A) → Data → Option (List A)
list_in key reads d = given (given (get key d) as_array) (each reads)

-- pass, or the violation
unfoldable pub outcome_in : Data → Option KindVerdict
outcome_in d =
    given (given (get (codes "pass") d) as_bool) (λ pass. if pass then Some kind_verdict.Pass
    else option_map kind_verdict.Fail (given (get (codes "proof") d) proof_of))

-- a sender type
unfoldable pub type_read : Data → Option ToldType
type_read d =
    given (outcome_in d) (λ verdict. given (number_in (codes "bucket_peak") d) (λ bucket.
    given (number_in (codes "bucket_limit") d) (λ bucket_limit. given (number_in (codes "buffer_peak") d) (λ buffer.
    given (number_in (codes "buffer_limit") d) (λ buffer_limit. Some record {
      verdict = verdict;
      bucket = bucket;
      bucket_limit = bucket_limit;
      buffer = buffer;
      buffer_limit = buffer_limit;
    })))))

-- the sender type at this place in an array
abbrev pub type_at : ℕ → Items → Option ToldType
type_at place types = given (get_item place types) type_read

-- the class with this name
unfoldable pub class_named : List ℕ → Option (Option Kind)
class_named text =
    named text ((codes "narrow", Some N) ∷ (codes "narrow linear", Some NL) ∷ (codes "wide", Some W)
    ∷ (codes "none", None) ∷ [])

-- the declared type with this name
unfoldable pub declared_named : List ℕ → Option (Option Kind)
declared_named text =
    named text ((codes "N", Some N) ∷ (codes "NL", Some NL) ∷ (codes "W", Some W) ∷ (codes "none", None) ∷ [])

-- a judged run; its types are N, NL and W, in this order
unfoldable pub judged_read : Data → Option ToldJudged
judged_read d =
    given (number_in (codes "n") d) (λ n. given (number_in (codes "frames") d) (λ frames.
    given (number_in (codes "packets") d) (λ packets. given (number_in (codes "head") d) (λ head.
    given (number_in (codes "tail") d) (λ tail. given (given (text_in (codes "class") d) class_named) (λ class.
    given (given (text_in (codes "declared") d) declared_named) (λ declared.
    given (given (get (codes "types") d) as_array) (λ types. given (type_at 0 types) (λ narrow.
    given (type_at 1 types) (λ linear. given (type_at 2 types) (λ wide. Some record {
      n = n;
      interlaced = unwrap_or (given (get (codes "interlaced") d) as_bool) false;
      frames = frames;
      packets = packets;
      head = head;
      tail = tail;
      class = class;
      declared = declared;
      narrow = narrow;
      linear = linear;
      wide = wide;
    })))))))))))

-- what is read by the name of the verdict
abbrev pub by_verdict : {X : Type 0} → List (List ℕ × (Data → Option X)) → Data → Option X
by_verdict choices d = given (given (text_in (codes "verdict") d) (λ name. named name choices)) (λ reads. reads d)

-- the verdict on a run between gaps
abbrev pub run_outcome_read : Data → Option ToldOutcome
run_outcome_read d = by_verdict (
    (codes "judged", λ run. option_map judged_run (judged_read run))
    ∷ (codes "no whole frame", λ run. option_map headed (number_in (codes "head") run)) ∷ []) d

-- a run between gaps
unfoldable pub run_read : Data → Option ToldRun
run_read d =
    given (number_in (codes "record") d) (λ rec. given (number_in (codes "number") d) (λ number.
    given (run_outcome_read d) (λ outcome. Some record {
      rec = rec;
      number = number;
      expected = number_in (codes "expected") d;
      outcome = outcome;
    })))

-- the fault with this text
unfoldable pub fault_named : List ℕ → Option PacketFault
fault_named text = packet_fault at_end text

-- the verdict on a flow
unfoldable pub verdict_read : Data → Option ToldVerdict
verdict_read d = by_verdict (
    (codes "judged", λ flow. option_map in_one_run (judged_read flow))
    ∷ (codes "runs", λ flow. option_map in_runs (list_in (codes "runs") run_read flow))
    ∷ (codes "absent", λ flow. Some (not_judged unjudged.Absent))
    ∷ (
      codes "no whole frame",
      λ flow. given (number_in (codes "head") flow) (λ head.
          Some (not_judged (unjudged.NoWholeFrame head))),
    )
    ∷ (
      codes "refused",
      λ flow. given (number_in (codes "record") flow) (λ rec.
          given (given (text_in (codes "fault") flow) fault_named) (λ fault.
          Some (not_judged (unjudged.Refused rec fault)))),
    )
    ∷ (
      codes "gap",
      λ flow. given (number_in (codes "record") flow) (λ rec.
          given (number_in (codes "expected") flow) (λ expected. given (number_in (codes "got") flow) (λ got.
          Some (not_judged (unjudged.Gap rec expected got))))),
    ) ∷ []) d

-- the destination with this text
unfoldable pub target_named : List ℕ → Option Target
target_named text = destination at_end text

-- a flow
unfoldable pub flow_read : Data → Option ToldFlow
flow_read d =
    given (number_in (codes "file") d) (λ file. given (number_in (codes "media") d) (λ media.
    given (given (text_in (codes "target") d) target_named) (λ target. given (verdict_read d) (λ verdict. Some record {
      key = record { file = file - 1; media = media - 1 };
      target = target;
      verdict = verdict;
    }))))

-- the way in which a capture ends, with this text
unfoldable pub note_named : List ℕ → Option FileNote
note_named text = ending at_end (text ++ codes " ")

-- a capture
unfoldable pub file_read : Data → Option ToldFile
file_read d =
    given (given (text_in (codes "end") d) note_named) (λ end. given (text_in (codes "name") d) (λ name.
    Some record { note = end; name = name }))

-- the captures, the flows and the status
unfoldable pub data_read : Data → Option ToldReport
data_read d =
    given (list_in (codes "files") file_read d) (λ files. given (list_in (codes "flows") flow_read d) (λ flows.
    given (number_in (codes "status") d) (λ status. Some record { files = files; flows = flows; status = status })))

-- what a JSON report contains; none if it is no JSON, or not in the form of a report
abbrev pub json_read : List ℕ → Option ToldReport
json_read text = given (read text) data_read
