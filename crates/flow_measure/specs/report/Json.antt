-- The measurements of the flows of a capture, or of several that were taken as one, as JSON (RFC 8259): one value
-- without spaces, and a line end. The members of each object stand in the byte order of their keys. Numbers are whole,
-- of any size, and written in decimal. Media, runs and packet records count from 1, packets from 0. Capture timestamps,
-- `first`, `last`, `target`, `slack` and `gap` are nanoseconds. `step`, `offset` and `latency` are ticks of 90 kHz. The
-- ends of `troff` are microseconds. The other numbers are packets, frames or fields, or counts of them. This project's
-- profile: the whole format.
use Rattle.std.specs.Prelude.{ℕ, ◌+◌, ◌<◌, Bool, true, false, List, [], ◌∷◌, ◌++◌, length, Option, Some, None, codes}
use Rattle.std.specs.Prelude.{All, zero, suc, nat_lt}
use Rattle.std.specs.Fmt.{decimal, signed_decimal}
use Rattle.serde_json.specs.Data.{string}
use Rattle.serde_json.specs.Written.{comma_if, compact_text}
use Rattle.timing_base.specs.Keys.{key_of, media_of}
use Rattle.timing_base.specs.Media.{Media}
use Rattle.timing_base.specs.Targets.{target_of, target_text}
use Rattle.timing_base.specs.Verdicts.{Judged}
use Rattle.timing_base.specs.declared.capture.FileNote.{FileNote}
use Rattle.timing_base.specs.declared.fail.FailProof.{FailProof}
use Rattle.timing_base.specs.declared.media.Kind.{Kind}
use Rattle.timing_base.specs.declared.media.Kind.TheVariants.{N, NL, W}
use Rattle.timing_base.specs.declared.row.KindVerdict.{KindVerdict}
use Rattle.timing_base.specs.declared.row.KindVerdict.TheVariants as kind_verdict
use Rattle.timing_base.specs.declared.row.Unjudged.{Unjudged}
use Rattle.timing_base.specs.declared.row.Verdict.{Verdict}
use Rattle.timing_base.specs.declared.row.Verdict.TheVariants as verdict
use Rattle.timing_report.specs.Outcomes.{verdict_on}
use Rattle.timing_report.specs.Words.{kind_name, model_name, note_text, ssrc_text}
use Rattle.timing_report.specs.json_report.Json.{Member, count, object_of, unjudged_members}
use Rattle.flow_measure.specs.declared.numbers.Buffer.{Buffer}
use Rattle.flow_measure.specs.declared.numbers.MeasuredFlow.{MeasuredFlow}
use Rattle.flow_measure.specs.declared.summary.Summary.{Summary}
use Rattle.flow_measure.specs.report.Told.{ToldBins, ToldFlow, ToldGaps, ToldKind, ToldNumbers, ToldOffsets, ToldPlace}
use Rattle.flow_measure.specs.report.Told.{ToldRun}

-- a JSON string, in quotes and with escapes
abbrev pub quoted_text : List ℕ → List ℕ
quoted_text s = compact_text (string s)

-- true or false
abbrev pub flag_text : Bool → List ℕ
flag_text true = codes "true"
flag_text false = codes "false"

-- items separated by commas, with a comma before the first one too if `later`
abbrev pub items_text : {X : Type 0} → (X → List ℕ) → (later : Bool) → List X → List ℕ
items_text text later [] = []
items_text text later (x ∷ xs) = comma_if later ++ (text x ++ items_text text true xs)

-- a list of items
abbrev pub list_text : {X : Type 0} → (X → List ℕ) → List X → List ℕ
list_text text xs = codes "[" ++ (items_text text false xs ++ codes "]")

-- a member that may be missing, with the comma after it
abbrev pub member_if : (key : List ℕ) → Option ℕ → List ℕ
member_if key None = []
member_if key (Some x) = codes "\"" ++ (key ++ (codes "\":" ++ (decimal x ++ codes ",")))

-- the least, the greatest and the sum of numbers
abbrev pub level_text : Summary → List ℕ
level_text s =
    codes "{\"greatest\":" ++ (signed_decimal s.greatest ++ (codes ",\"least\":" ++ (signed_decimal s.least
    ++ (codes ",\"sum\":" ++ (signed_decimal s.sum ++ codes "}")))))

-- the occupancy of the buffer, the count of late packets and the slack
abbrev pub buffer_text : Buffer → List ℕ
buffer_text b =
    codes "{\"greatest\":" ++ (signed_decimal b.occupancy.greatest ++ (codes ",\"late\":" ++ (decimal b.margins.late
    ++ (codes ",\"least\":" ++ (signed_decimal b.occupancy.least ++ (codes ",\"slack\":"
    ++ (signed_decimal b.margins.slack ++ (codes ",\"sum\":" ++ (signed_decimal b.occupancy.sum ++ codes "}")))))))))

-- the end of a summary, with the value to compare with if there is one
abbrev pub target_end : Option ℕ → List ℕ
target_end None = codes "}"
target_end (Some target) = codes ",\"target\":" ++ (decimal target ++ codes "}")

-- a whole summary
abbrev pub summary_text : Summary → (target : Option ℕ) → List ℕ
summary_text s target =
    codes "{\"first\":" ++ (signed_decimal s.first ++ (codes ",\"greatest\":" ++ (signed_decimal s.greatest
    ++ (codes ",\"last\":" ++ (signed_decimal s.last ++ (codes ",\"least\":" ++ (signed_decimal s.least
    ++ (codes ",\"sum\":" ++ (signed_decimal s.sum ++ target_end target)))))))))

-- the steps of the RTP timestamp, if there are two frames or fields
abbrev pub step_member : Option Summary → List ℕ
step_member None = []
step_member (Some s) =
    codes "\"step\":{\"greatest\":" ++ (signed_decimal s.greatest ++ (codes ",\"least\":" ++ (signed_decimal s.least
    ++ codes "},")))

-- the times between packets, if there are two packets
abbrev pub gap_member : Option ToldGaps → List ℕ
gap_member None = []
gap_member (Some g) =
    codes "\"gap\":{\"classes\":" ++ (list_text decimal g.classes ++ (codes ",\"greatest\":"
    ++ (signed_decimal g.summary.greatest ++ (codes ",\"least\":" ++ (signed_decimal g.summary.least
    ++ (codes ",\"sum\":" ++ (signed_decimal g.summary.sum ++ codes "},")))))))

-- bins, with the count of numbers below 0 if it is given
abbrev pub bins_text : ToldBins → (below : Option ℕ) → List ℕ
bins_text b below =
    codes "{\"above\":" ++ (decimal b.above ++ (codes "," ++ (member_if (codes "below") below ++ (codes "\"counts\":"
    ++ (list_text decimal b.counts ++ (codes ",\"limit\":" ++ (decimal b.limit ++ (codes ",\"width\":"
    ++ (decimal b.width ++ codes "}")))))))))

-- the place of packet `to` of a violation, with the comma after it
abbrev pub place_members : Option ToldPlace → List ℕ
place_members None = []
place_members (Some p) =
    codes "\"record\":" ++ (decimal p.rec ++ (codes ",\"stamp\":" ++ (decimal p.stamp ++ codes ",")))

-- a violation
abbrev pub proof_text : FailProof → Option ToldPlace → List ℕ
proof_text proof place =
    codes "{\"count\":" ++ (decimal proof.count ++ (codes ",\"from\":" ++ (decimal proof.from ++ (codes ",\"limit\":"
    ++ (decimal proof.limit ++ (codes ",\"model\":\"" ++ (model_name proof.model ++ (codes "\","
    ++ (place_members place ++ (codes "\"to\":" ++ (decimal proof.to ++ codes "}")))))))))))

-- whether a type passes, and its violation if it fails
abbrev pub outcome_text : KindVerdict → Option ToldPlace → List ℕ
outcome_text kind_verdict.Pass place = codes "\"pass\":true"
outcome_text (kind_verdict.Fail proof) place = codes "\"pass\":false,\"proof\":" ++ proof_text proof place

-- the first packet that breaks each limit, and the count of broken frames or fields
abbrev pub breaks_text : ToldKind → List ℕ
breaks_text k =
    member_if (codes "first_bucket") k.first_bucket ++ (member_if (codes "first_empty") k.first_empty
    ++ (member_if (codes "first_over") k.first_over ++ (codes "\"frames_broken\":" ++ decimal k.groups_broken)))

-- the ends of a window; one that is absent has no member
abbrev pub ends_text : (least greatest : Option ℕ) → List ℕ
ends_text None None = codes "{}"
ends_text None (Some greatest) = codes "{\"greatest\":" ++ (decimal greatest ++ codes "}")
ends_text (Some least) None = codes "{\"least\":" ++ (decimal least ++ codes "}")
ends_text (Some least) (Some greatest) =
    codes "{\"greatest\":" ++ (decimal greatest ++ (codes ",\"least\":" ++ (decimal least ++ codes "}")))

-- the offsets with which the buffer would be kept
abbrev pub troff_text : ToldOffsets → List ℕ
troff_text t = ends_text t.least t.greatest

-- whether a type passes, its violation if it fails, and the offsets with which its buffer would be kept
abbrev pub result_text : KindVerdict → ToldKind → List ℕ
result_text outcome k = outcome_text outcome k.named ++ (codes ",\"troff\":" ++ troff_text k.troff)

-- a type; its bucket is never below 0
unfoldable pub kind_text : Kind → KindVerdict → ToldKind → List ℕ
kind_text kind outcome k =
    codes "{\"bucket\":" ++ (bins_text k.bucket None ++ (codes ",\"buffer\":"
    ++ (bins_text k.buffer (Some k.buffer.below) ++ (codes "," ++ (breaks_text k ++ (codes ","
    ++ (result_text outcome k ++ (codes ",\"type\":\"" ++ (kind_name kind ++ codes "\"}")))))))))

-- the type at this place of N, NL and W, from 0
abbrev pub kind_at : ℕ → Kind
kind_at zero = N
kind_at (suc zero) = NL
kind_at (suc (suc place)) = W

-- the types from a place on, separated by commas
abbrev pub kinds_from : Judged → (place : ℕ) → List ToldKind → List ℕ
kinds_from judged place [] = []
kinds_from judged place (k ∷ ks) =
    comma_if (nat_lt 0 place)
    ++ (kind_text (kind_at place) (verdict_on judged (kind_at place)) k ++ kinds_from judged (place + 1) ks)

-- the types N, NL and W
abbrev pub kinds_text : Judged → List ToldKind → List ℕ
kinds_text judged ks = codes "[" ++ (kinds_from judged 0 ks ++ codes "]")

-- the members of a run from `bucket` to `gap`
abbrev pub run_front : Judged → ToldNumbers → List ℕ
run_front judged n =
    codes "{\"bucket\":" ++ (level_text n.bucket ++ (codes ",\"first\":" ++ (summary_text n.first (Some n.target)
    ++ (codes ",\"frames\":" ++ (decimal judged.frames ++ (codes "," ++ gap_member n.gap))))))

-- the members from `gapped` to `latency`
abbrev pub run_middle : Media → Judged → ToldNumbers → List ℕ
run_middle media judged n =
    codes "\"gapped\":" ++ (buffer_text n.gapped ++ (codes ",\"head\":" ++ (decimal judged.head
    ++ (codes ",\"interlaced\":" ++ (flag_text media.interlaced ++ (codes ",\"last\":" ++ (summary_text n.last None
    ++ (codes ",\"latency\":" ++ summary_text n.latency None))))))))

-- the members from `linear` to `packets`
abbrev pub run_rest : Judged → ToldRun → List ℕ
run_rest judged r =
    codes ",\"linear\":" ++ (buffer_text r.numbers.linear ++ (codes ",\"n\":" ++ (decimal judged.n
    ++ (codes ",\"number\":" ++ (decimal r.number ++ (codes ",\"offset\":" ++ (summary_text r.numbers.offset None
    ++ (codes ",\"packets\":" ++ decimal judged.packets))))))))

-- the members from `record` to `types`
abbrev pub run_end : Judged → ToldRun → List ℕ
run_end judged r =
    codes ",\"record\":" ++ (decimal r.rec ++ (codes ",\"run\":" ++ (decimal r.run ++ (codes ","
    ++ (step_member r.numbers.step ++ (codes "\"tail\":" ++ (decimal judged.tail ++ (codes ",\"types\":"
    ++ (kinds_text judged r.numbers.kinds ++ codes "}")))))))))

-- a judged run of this media
unfoldable pub run_text : Media → ToldRun → List ℕ
run_text media r =
    run_front r.judged r.numbers
    ++ (run_middle media r.judged r.numbers ++ (run_rest r.judged r ++ run_end r.judged r))

-- the judged runs, if there is one
abbrev pub runs_member : Media → List ToldRun → List ℕ
runs_member media [] = []
runs_member media (r ∷ rs) = codes "\"runs\":" ++ (list_text (run_text media) (r ∷ rs) ++ codes ",")

-- the SSRC of the first packet that is read, if there is one
abbrev pub ssrc_member : Option ℕ → List ℕ
ssrc_member None = []
ssrc_member (Some ssrc) = codes "\"ssrc\":\"" ++ (ssrc_text ssrc ++ codes "\",")

-- the members of a flow before its runs
abbrev pub flow_front : ToldFlow → List ℕ
flow_front f =
    codes "{\"media\":" ++ (decimal (f.media + 1) ++ (codes ",\"packets\":" ++ (decimal f.packets ++ codes ",")))

-- the members of a flow after its runs
abbrev pub flow_end : Media → ToldFlow → (word : List ℕ) → List ℕ
flow_end media f word =
    ssrc_member f.ssrc ++ (codes "\"target\":\"" ++ (target_text (target_of media) ++ (codes "\",\"verdict\":\""
    ++ (word ++ codes "\"}"))))

-- a flow of this media that is judged, in one run or several
unfoldable pub judged_text : Media → ToldFlow → (word : List ℕ) → List ℕ
judged_text media f word = flow_front f ++ (runs_member media f.runs ++ flow_end media f word)

-- the SSRC as members, for a flow that isn't judged
abbrev pub ssrc_members : Option ℕ → List Member
ssrc_members None = []
ssrc_members (Some ssrc) = (codes "ssrc", string (ssrc_text ssrc)) ∷ []

-- the members that name a flow that isn't judged, and its count of packets
abbrev pub flow_members : Media → ToldFlow → List Member
flow_members media f =
    (codes "media", count (f.media + 1)) ∷ (codes "packets", count f.packets)
    ∷ (codes "target", string (target_text (target_of media))) ∷ ssrc_members f.ssrc

-- a flow that isn't judged: its members, and those of its verdict in the JSON report
abbrev pub unjudged_text : Media → ToldFlow → Unjudged → List ℕ
unjudged_text media f unjudged = compact_text (object_of (flow_members media f ++ unjudged_members unjudged))

-- a flow of this media with this verdict
abbrev pub verdict_flow : Media → ToldFlow → Verdict → List ℕ
verdict_flow media f (verdict.Unjudged unjudged) = unjudged_text media f unjudged
verdict_flow media f (verdict.Judged judged) = judged_text media f (codes "judged")
verdict_flow media f (verdict.Runs runs) = judged_text media f (codes "runs")

-- a flow of a session
abbrev pub flow_text : List Media → ToldFlow → List ℕ
flow_text session f = verdict_flow (media_of session (key_of 0 f.media)) f f.verdict

-- the whole JSON of one capture, with this name and this end
abbrev pub alone_json : List ℕ → FileNote → List Media → List ToldFlow → List ℕ
alone_json name note session flows =
    codes "{\"end\":" ++ (quoted_text (note_text note) ++ (codes ",\"flows\":" ++ (list_text (flow_text session) flows
    ++ (codes ",\"name\":" ++ (quoted_text name ++ codes "}\n")))))

-- one of several captures
abbrev pub file_text : List ℕ → FileNote → List ℕ
file_text name note =
    codes "{\"end\":" ++ (quoted_text (note_text note) ++ (codes ",\"name\":" ++ (quoted_text name ++ codes "}")))

-- captures separated by commas, with a comma before the first one too if `later`; if the lists differ in length, the
-- shorter one counts
abbrev pub files_text : (later : Bool) → List (List ℕ) → List FileNote → List ℕ
files_text later (name ∷ names) (note ∷ notes) = comma_if later ++ (file_text name note ++ files_text true names notes)
files_text later [] notes = []
files_text later (name ∷ names) [] = []

-- the whole JSON of several captures that were taken as one
abbrev pub joined_json : List (List ℕ) → List FileNote → List Media → List ToldFlow → List ℕ
joined_json names notes session flows =
    codes "{\"files\":[" ++ (files_text false names notes ++ (codes "],\"flows\":"
    ++ (list_text (flow_text session) flows ++ codes "}\n")))

-- the whole JSON of the captures with these names and these ends, in their order
abbrev pub measure_json : List (List ℕ) → List FileNote → List Media → List ToldFlow → List ℕ
measure_json (name ∷ []) (note ∷ []) session flows = alone_json name note session flows
measure_json names notes session flows = joined_json names notes session flows

-- each flow belongs to a media of the session
abbrev pub AreOfMedia : List Media → List MeasuredFlow → Type 0
AreOfMedia session flows = All (λ f. f.media < length session) flows
