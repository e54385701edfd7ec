-- What a report contains of each capture and of each flow, as text or as JSON. Captures and media count from 0 here and
-- from 1 in the report, packet records from 1, and the packets of a judged run from 0. Counts and limits are packets.
-- Two numbers of a result are left out, those of the fault `Number`. No flow is refused for this fault: it is reported
-- as a gap, with both numbers.
use Rattle.std.specs.Prelude.{ℕ, Bool, true, false, List, [], ◌∷◌, map, Option}
use Rattle.timing_base.specs.Jobs.{CheckJob}
use Rattle.timing_base.specs.Keys.{media_of}
use Rattle.timing_base.specs.Media.{Media}
use Rattle.timing_base.specs.Targets.{target_of}
use Rattle.timing_base.specs.Verdicts.{Judged}
use Rattle.timing_base.specs.declared.capture.FileNote.{FileNote}
use Rattle.timing_base.specs.declared.key.FlowKey.{FlowKey}
use Rattle.timing_base.specs.declared.media.Kind.{Kind}
use Rattle.timing_base.specs.declared.media.Kind.TheVariants.{N, NL, W}
use Rattle.timing_base.specs.declared.packet.PacketFault.{PacketFault}
use Rattle.timing_base.specs.declared.packet.PacketFault.TheVariants as packet
use Rattle.timing_base.specs.declared.row.KindVerdict.{KindVerdict}
use Rattle.timing_base.specs.declared.row.Row.{Row}
use Rattle.timing_base.specs.declared.row.Run.{Run}
use Rattle.timing_base.specs.declared.row.RunVerdict.{RunVerdict}
use Rattle.timing_base.specs.declared.row.RunVerdict.TheVariants as run_verdict
use Rattle.timing_base.specs.declared.row.Unjudged.{Unjudged}
use Rattle.timing_base.specs.declared.row.Unjudged.TheVariants as unjudged
use Rattle.timing_base.specs.declared.row.Verdict.{Verdict}
use Rattle.timing_base.specs.declared.row.Verdict.TheVariants as verdict
use Rattle.timing_base.specs.declared.target.Target.{Target}
use Rattle.sender_params.specs.Limits.{c_max_of, vrx_full_of}
use Rattle.timing_report.specs.Outcomes.{verdict_on, first_passing, buffer_peak, status_of}
use Rattle.timing_report.specs.Status.{code_of}

-- the line of a sender type: pass or the first violation, the peaks, and the limits of this type
pub record ToldType : Type 0 where
  pub verdict : KindVerdict
  pub bucket : ℕ
  pub bucket_limit : ℕ
  pub buffer : ℕ
  pub buffer_limit : ℕ

-- the lines of a judged run
pub record ToldJudged : Type 0 where
  -- the packets of a frame, or of a field if the video is interlaced
  pub n : ℕ
  pub interlaced : Bool
  -- the numbers of frames or fields, of judged packets, and of the packets before and after these
  pub frames : ℕ
  pub packets : ℕ
  pub head : ℕ
  pub tail : ℕ
  -- the first type that passes, and the type that the SDP declares
  pub class : Option Kind
  pub declared : Option Kind
  -- the lines of the types N, NL and W
  pub narrow : ToldType
  pub linear : ToldType
  pub wide : ToldType

-- the verdict on a run between gaps, as in the report
pub data ToldOutcome : Type 0 where
  headed : (head : ℕ) → ToldOutcome
  judged_run : ToldJudged → ToldOutcome

-- the lines of a run between gaps
pub record ToldRun : Type 0 where
  pub rec : ℕ
  pub number : ℕ
  pub expected : Option ℕ
  pub outcome : ToldOutcome

-- the verdict on a flow, as in the report
pub data ToldVerdict : Type 0 where
  not_judged : Unjudged → ToldVerdict
  in_one_run : ToldJudged → ToldVerdict
  in_runs : List ToldRun → ToldVerdict

-- the lines of a flow
pub record ToldFlow : Type 0 where
  pub key : FlowKey
  pub target : Target
  pub verdict : ToldVerdict

-- the line of a capture
pub record ToldFile : Type 0 where
  pub note : FileNote
  pub name : List ℕ

-- a report: its captures, its flows and its status
pub record ToldReport : Type 0 where
  pub files : List ToldFile
  pub flows : List ToldFlow
  pub status : ℕ

-- the fault of a packet: the numbers of the fault `Number` are left out
abbrev pub told_fault : PacketFault → PacketFault
told_fault (packet.Number expected got) = packet.Number 0 0
told_fault fault = fault

-- the reason why a flow isn't judged
abbrev pub told_unjudged : Unjudged → Unjudged
told_unjudged (unjudged.Refused rec fault) = unjudged.Refused rec (told_fault fault)
told_unjudged other = other

-- the result of a flow without the numbers that the report leaves out
abbrev pub told_verdict : Verdict → Verdict
told_verdict (verdict.Unjudged unjudged) = verdict.Unjudged (told_unjudged unjudged)
told_verdict other = other

-- a row without the numbers that the report leaves out
abbrev pub told_row : Row → Row
told_row row = record { key = row.key; verdict = told_verdict row.verdict }

-- whether a fault is `Number`
abbrev pub is_number : PacketFault → Bool
is_number (packet.Number expected got) = true
is_number other = false

-- whether a reason has the fault `Number`
abbrev pub is_for_number : Unjudged → Bool
is_for_number (unjudged.Refused rec fault) = is_number fault
is_for_number other = false

-- whether the report leaves out numbers of a result
abbrev pub leaves_out : Verdict → Bool
leaves_out (verdict.Unjudged reason) = is_for_number reason
leaves_out other = false

-- the line of a sender type of a judged run
abbrev pub told_type : Media → Judged → Kind → ToldType
told_type media judged kind = record {
  verdict = verdict_on judged kind;
  bucket = judged.bucket_peak;
  bucket_limit = c_max_of media judged.n kind;
  buffer = buffer_peak judged kind;
  buffer_limit = vrx_full_of media judged.n kind;
}

-- the lines of a judged run of this media
abbrev pub told_judged : Media → Judged → ToldJudged
told_judged media judged = record {
  n = judged.n;
  interlaced = media.interlaced;
  frames = judged.frames;
  packets = judged.packets;
  head = judged.head;
  tail = judged.tail;
  class = first_passing judged;
  declared = media.declared;
  narrow = told_type media judged N;
  linear = told_type media judged NL;
  wide = told_type media judged W;
}

-- the verdict on a run of this media, as in the report
abbrev pub told_outcome : Media → RunVerdict → ToldOutcome
told_outcome media (run_verdict.NoWholeFrame head) = headed head
told_outcome media (run_verdict.Judged judged) = judged_run (told_judged media judged)

-- the lines of a run of this media
abbrev pub told_run : Media → Run → ToldRun
told_run media run = record {
  rec = run.rec;
  number = run.number;
  expected = run.expected;
  outcome = told_outcome media run.verdict;
}

-- the verdict on a flow of this media, as in the report
abbrev pub told_of : Media → Verdict → ToldVerdict
told_of media (verdict.Unjudged unjudged) = not_judged (told_unjudged unjudged)
told_of media (verdict.Judged judged) = in_one_run (told_judged media judged)
told_of media (verdict.Runs runs) = in_runs (map (told_run media) runs)

-- the lines of a row
abbrev pub told_flow : List Media → Row → ToldFlow
told_flow session row =
    let media = media_of session row.key in
    record { key = row.key; target = target_of media; verdict = told_of media row.verdict }

-- the lines of the captures, by their names and how each ends
abbrev pub told_files : List (List ℕ) → List FileNote → List ToldFile
told_files (name ∷ names) (note ∷ notes) = record { note = note; name = name } ∷ told_files names notes
told_files [] notes = []
told_files (name ∷ names) [] = []

-- the report of a job and its results
abbrev pub told_report : CheckJob → List Media → List FileNote → List Row → ToldReport
told_report job session notes rows = record {
  files = told_files job.captures notes;
  flows = map (told_flow session) rows;
  status = code_of (status_of session notes rows);
}

-- the judged run of its lines
abbrev pub judged_of : ToldJudged → Judged
judged_of told = record {
  n = told.n;
  frames = told.frames;
  packets = told.packets;
  head = told.head;
  tail = told.tail;
  bucket_peak = told.narrow.bucket;
  gapped_peak = told.narrow.buffer;
  linear_peak = told.linear.buffer;
  kinds = told.narrow.verdict ∷ told.linear.verdict ∷ told.wide.verdict ∷ [];
}

-- the verdict on a run, of its lines
abbrev pub run_verdict_of : ToldOutcome → RunVerdict
run_verdict_of (headed head) = run_verdict.NoWholeFrame head
run_verdict_of (judged_run told) = run_verdict.Judged (judged_of told)

-- the run of its lines
abbrev pub run_of : ToldRun → Run
run_of told = record {
  rec = told.rec;
  number = told.number;
  expected = told.expected;
  verdict = run_verdict_of told.outcome;
}

-- the verdict of its lines
abbrev pub verdict_of : ToldVerdict → Verdict
verdict_of (not_judged reason) = verdict.Unjudged reason
verdict_of (in_one_run told) = verdict.Judged (judged_of told)
verdict_of (in_runs runs) = verdict.Runs (map run_of runs)

-- the row of the lines of a flow
abbrev pub row_of : ToldFlow → Row
row_of flow = record { key = flow.key; verdict = verdict_of flow.verdict }

-- the rows of a report
abbrev pub rows_of : ToldReport → List Row
rows_of report = map row_of report.flows
