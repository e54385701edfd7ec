-- The findings as JSON (RFC 8259): one value without spaces, and a newline. The members of an object stand in the byte
-- order of their keys, in whatever order they are put in. Media, packet records, and the first broken frame or field
-- count from 1. Times and `slack` are nanoseconds, steps and `offset` ticks of 90 kHz, `troff` is microseconds, `ppm10`
-- tenths of a ppm, and the others packets, frames or fields, or counts of them. This project's profile: the whole
-- format.
use Rattle.std.specs.Prelude.{ℕ, ℤ, ◌+◌, ◌==◌, if◌then◌else◌, List, [], ◌∷◌, ◌++◌, map, codes, Option, Some, None}
use Rattle.serde_json.specs.Data.{Data, number, string}
use Rattle.serde_json.specs.Find.{of_integer}
use Rattle.serde_json.specs.Written.{compact_text}
use Rattle.timing_base.specs.Keys.{key_of, media_of}
use Rattle.timing_base.specs.Media.{Media}
use Rattle.timing_base.specs.Targets.{target_of, target_text}
use Rattle.timing_base.specs.declared.capture.FileNote.{FileNote}
use Rattle.timing_report.specs.Words.{class_name, declared_name, packet_fault_text}
use Rattle.timing_report.specs.json_report.Json.{Member, count, file_members, files_data, list_of, object_of}
use Rattle.flow_measure.specs.declared.numbers.Place.{Place}
use Rattle.capture_scan.specs.declared.found.PassedOver.{PassedOver}
use Rattle.flow_findings.specs.declared.explained.Explained.{Explained}
use Rattle.flow_findings.specs.declared.explained.ExplainedRun.{ExplainedRun}
use Rattle.flow_findings.specs.declared.explained.RunCounts.{RunCounts}
use Rattle.flow_findings.specs.declared.finding.BrokenBuffer.{BrokenBuffer}
use Rattle.flow_findings.specs.declared.finding.DescribedRate.{DescribedRate}
use Rattle.flow_findings.specs.declared.finding.Finding.{Finding}
use Rattle.flow_findings.specs.declared.finding.Finding.TheVariants as finding
use Rattle.flow_findings.specs.declared.finding.Offsets.{Offsets}
use Rattle.flow_findings.specs.declared.finding.Refusal.{Refusal}
use Rattle.flow_findings.specs.declared.finding.Refusal.TheVariants.{Fault, Gap}
use Rattle.flow_findings.specs.declared.finding.Steps.{Steps}
use Rattle.findings_report.specs.Text.{rate_text}
use Rattle.flow_findings.specs.Words.{finding_name}

-- a whole number that may be below 0
abbrev pub signed : ℤ → Data
signed x = number (of_integer x)

-- a number that may be missing
abbrev pub number_members : (key : List ℕ) → Option ℕ → List Member
number_members key None = []
number_members key (Some n) = (key, count n) ∷ []

-- a count that is missing if it is 0
abbrev pub count_members : (key : List ℕ) → ℕ → List Member
count_members key n = if n == 0 then [] else (key, count n) ∷ []

-- the classes of frames without a target, if there are such frames
abbrev pub passed_over_members : PassedOver → List Member
passed_over_members n =
    count_members (codes "broken") n.broken
    ++ (count_members (codes "empty") n.empty
    ++ (count_members (codes "fragment") n.fragment
    ++ (count_members (codes "ipv6") n.ipv6
    ++ (count_members (codes "not_udp") n.not_udp
    ++ (count_members (codes "other") n.other
    ++ count_members (codes "tags") n.tags)))))

-- why a flow is refused, as in the JSON report
abbrev pub refusal_members : Refusal → List Member
refusal_members (Fault fault) = (codes "fault", string (packet_fault_text fault)) ∷ []
refusal_members (Gap expected got) = (codes "expected", count expected) ∷ (codes "got", count got) ∷ []

-- the least and the greatest step of the RTP timestamp
abbrev pub steps_members : Option Steps → List Member
steps_members None = []
steps_members (Some s) = (codes "step_greatest", signed s.greatest) ∷ (codes "step_least", signed s.least) ∷ []

-- rate
abbrev pub rate_members : DescribedRate → Option Steps → (period : Option ℕ) → List Member
rate_members described steps period =
    (codes "described", string (rate_text described))
    ∷ (number_members (codes "period") period ++ steps_members steps)

-- the place in the capture of a packet
abbrev pub place_members : Place → List Member
place_members p = (codes "record", count p.«record») ∷ (codes "stamp", count p.stamp) ∷ []

-- burst
abbrev pub burst_counts : (greatest limit packets groups : ℕ) → List Member
burst_counts greatest limit packets groups =
    (codes "greatest", count greatest) ∷ (codes "groups", count groups) ∷ (codes "limit", count limit)
    ∷ (codes "packets", count packets) ∷ []

abbrev pub burst_times : Place → (span period : ℕ) → List Member
burst_times first span period =
    (codes "period", count period) ∷ (codes "span", count span) ∷ place_members first

abbrev pub burst_members : (greatest limit packets groups : ℕ) → Place → (span period : ℕ) → List Member
burst_members greatest limit packets groups first span period =
    burst_counts greatest limit packets groups ++ burst_times first span period

-- absent
abbrev pub absent_members : PassedOver → (streams : ℕ) → List Member
absent_members passed_over streams =
    (codes "passed_over", object_of (passed_over_members passed_over)) ∷ (codes "streams", count streams) ∷ []

-- the offsets that would serve
abbrev pub offsets_data : Offsets → Data
offsets_data o =
    object_of (number_members (codes "greatest") o.greatest ++ number_members (codes "least") o.least)

-- phase and pacing
abbrev pub buffer_members : BrokenBuffer → List Member
buffer_members b =
    (codes "above", count b.above) ∷ (codes "late", count b.late) ∷ (codes "slack", signed b.slack)
    ∷ (codes "target", count b.target) ∷ (codes "troff", offsets_data b.offsets) ∷ []

-- pass
abbrev pub pass_members : (bucket bucket_limit buffer buffer_limit : ℕ) → (slack : ℤ) → List Member
pass_members bucket bucket_limit buffer buffer_limit slack =
    (codes "bucket", count bucket) ∷ (codes "bucket_limit", count bucket_limit) ∷ (codes "buffer", count buffer)
    ∷ (codes "buffer_limit", count buffer_limit) ∷ (codes "slack", signed slack) ∷ []

-- the numbers of a finding
abbrev pub numbers_members : Finding → List Member
numbers_members (finding.Elsewhere target packets) =
    (codes "packets", count packets) ∷ (codes "target", string (target_text target)) ∷ []
numbers_members (finding.Absent passed_over streams) = absent_members passed_over streams
numbers_members (finding.Refused rec cause) = (codes "record", count rec) ∷ refusal_members cause
numbers_members (finding.Unmarked packets markers) =
    (codes "packets", count packets) ∷ number_members (codes "markers") markers
numbers_members (finding.Wrap gaps) = (codes "gaps", count gaps) ∷ []
numbers_members (finding.Loss gaps missing) = (codes "gaps", count gaps) ∷ (codes "missing", count missing) ∷ []
numbers_members (finding.Order gaps) = (codes "gaps", count gaps) ∷ []
numbers_members (finding.Rate described steps period) = rate_members described steps period
numbers_members (finding.Utc offset) = (codes "offset", signed offset) ∷ []
numbers_members (finding.TaiTwice offset) = (codes "offset", signed offset) ∷ []
numbers_members (finding.Burst greatest limit packets groups first span period) =
    burst_members greatest limit packets groups first span period
numbers_members (finding.Phase buffer) = buffer_members buffer
numbers_members (finding.Pacing buffer) = buffer_members buffer
numbers_members (finding.Drift ppm10) = (codes "ppm10", signed ppm10) ∷ []
numbers_members (finding.Rare broken groups first) =
    (codes "broken", count broken) ∷ (codes "first", count first) ∷ (codes "groups", count groups) ∷ []
numbers_members (finding.Pass bucket bucket_limit buffer buffer_limit slack) =
    pass_members bucket bucket_limit buffer buffer_limit slack
numbers_members (finding.Microseconds drain) = (codes "drain", count drain) ∷ []
numbers_members (finding.Unlocked offset) = (codes "offset", signed offset) ∷ []

-- a finding: its name and its numbers
abbrev pub finding_data : Finding → Data
finding_data f = object_of ((codes "finding", string (finding_name f)) ∷ numbers_members f)

-- the class; missing if no run is judged
abbrev pub class_members : Option ExplainedRun → List Member
class_members None = []
class_members (Some run) = (codes "class", string (class_name run.class)) ∷ []

-- the count of runs
abbrev pub runs_data : RunCounts → Data
runs_data r = object_of ((codes "all", count r.all) ∷ (codes "judged", count r.judged) ∷ [])

-- the count of runs; missing if no packet came
abbrev pub runs_members : Option RunCounts → List Member
runs_members None = []
runs_members (Some r) = (codes "runs", runs_data r) ∷ []

-- the media of a flow: its number, its target and its declared type
abbrev pub media_members : Media → (media : ℕ) → List Member
media_members m media =
    (codes "declared", string (declared_name m.declared)) ∷ (codes "media", count (media + 1))
    ∷ (codes "target", string (target_text (target_of m))) ∷ []

-- the members of a flow of this media
abbrev pub flow_members : Media → Explained → List Member
flow_members m e =
    media_members m e.media
    ++ (class_members e.shown ++ (runs_members e.runs
    ++ ((codes "findings", list_of (map finding_data e.findings)) ∷ [])))

-- a flow of this media
abbrev pub flow_data : Media → Explained → Data
flow_data m e = object_of (flow_members m e)

-- a flow of the session
abbrev pub explained_data : List Media → Explained → Data
explained_data session e = flow_data (media_of session (key_of 0 e.media)) e

-- the captures: the members of a single one, else a list of them
abbrev pub capture_members : (names : List (List ℕ)) → List FileNote → List Member
capture_members (name ∷ []) (note ∷ notes) = file_members name note
capture_members names notes = (codes "files", list_of (files_data names notes)) ∷ []

-- all members
abbrev pub all_members : (names : List (List ℕ)) → List FileNote → List Media → List Explained → List Member
all_members names notes session flows =
    capture_members names notes ++ ((codes "flows", list_of (map (explained_data session) flows)) ∷ [])

-- the whole as a JSON value
abbrev pub all_data : (names : List (List ℕ)) → List FileNote → List Media → List Explained → Data
all_data names notes session flows = object_of (all_members names notes session flows)

-- the whole as text, with its newline
abbrev pub explained_json : (names : List (List ℕ)) → List FileNote → List Media → List Explained → List ℕ
explained_json names notes session flows = compact_text (all_data names notes session flows) ++ codes "\n"
