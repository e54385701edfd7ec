-- The reader of the text of a report: what its lines contain of the captures and of the flows. The title comes first,
-- then the line of each capture, the lines of each flow, and the status. A report has at most as many captures and
-- flows as its text has bytes. That a run or a capture has its place as its number isn't tested, nor that peaks and
-- numbers of gaps that stand in several places agree.
use Rattle.std.specs.Prelude.{ℕ, zero, suc, ◌-◌, Bool, true, false, List, [], ◌∷◌, ◌++◌, length}
use Rattle.std.specs.Prelude.{Option, Some, None, codes}
use Rattle.timing_base.specs.Addresses.{ipv4}
use Rattle.timing_base.specs.declared.capture.FileNote.{FileNote}
use Rattle.timing_base.specs.declared.capture.FileNote.TheVariants as note
use Rattle.timing_base.specs.declared.capture.PcapFault.TheVariants as pcap
use Rattle.timing_base.specs.declared.fail.Broken.TheVariants as model
use Rattle.timing_base.specs.declared.fail.FailProof.{FailProof}
use Rattle.timing_base.specs.declared.media.Kind.{Kind}
use Rattle.timing_base.specs.declared.media.Kind.TheVariants.{N, NL, W}
use Rattle.timing_base.specs.declared.packet.PacketFault.{PacketFault}
use Rattle.timing_base.specs.declared.packet.PacketFault.TheVariants as packet
use Rattle.timing_base.specs.declared.row.KindVerdict.{KindVerdict}
use Rattle.timing_base.specs.declared.row.KindVerdict.TheVariants as kind_verdict
use Rattle.timing_base.specs.declared.row.Unjudged.{Unjudged}
use Rattle.timing_base.specs.declared.row.Unjudged.TheVariants as unjudged
use Rattle.timing_base.specs.declared.target.Target.{Target}
use Rattle.report_reader.specs.Pieces.{after, either, word, number, line, at_end}
use Rattle.report_reader.specs.Told.{ToldFile, ToldFlow, ToldJudged, ToldOutcome, headed, judged_run, ToldReport}
use Rattle.report_reader.specs.Told.{ToldRun, ToldType, ToldVerdict, not_judged, in_one_run, in_runs}

-- the fault of a packet
unfoldable pub packet_fault : {B : Type 0} → (PacketFault → List ℕ → Option B) → List ℕ → Option B
packet_fault next text =
    either (codes "StampBack before ") (number (λ before. after (codes " got ") (number (λ got.
    next (packet.StampBack before got)))))
    (either (codes "FrameSize want ") (number (λ want. after (codes " got ") (number (λ got.
    next (packet.FrameSize want got)))))
    (word (
    (codes "Short", packet.Short) ∷ (codes "Version", packet.Version) ∷ (codes "PayloadType", packet.PayloadType)
    ∷ (codes "SecondSource", packet.SecondSource) ∷ (codes "Number", packet.Number 0 0)
    ∷ (codes "NoMarker", packet.NoMarker) ∷ (codes "SameStamp", packet.SameStamp)
    ∷ (codes "FrameTooLarge", packet.FrameTooLarge) ∷ []) next)) text

-- the violation of a limit, after the name of its model
unfoldable pub violation : {B : Type 0} → (FailProof → List ℕ → Option B) → List ℕ → Option B
violation next text =
    word ((codes "Bucket ", model.Bucket) ∷ (codes "Over ", model.Over) ∷ (codes "Empty ", model.Empty) ∷ [])
    (λ broken. number (λ from. after (codes " to ") (number (λ to. after (codes " count ") (number (λ count.
    after (codes " limit ") (number (λ limit.
    next record { model = broken; from = from; to = to; count = count; limit = limit })))))))) text

-- `pass`, or `fail` and the violation
unfoldable pub outcome : {B : Type 0} → (KindVerdict → List ℕ → Option B) → List ℕ → Option B
outcome next text =
    either (codes "pass") (next kind_verdict.Pass)
    (after (codes "fail ") (violation (λ proof. next (kind_verdict.Fail proof)))) text

-- the line of a sender type, behind this indentation and name
unfoldable pub type_line : {B : Type 0} → List ℕ → (ToldType → List ℕ → Option B) → List ℕ → Option B
type_line start next text =
    after start (outcome (λ verdict. after (codes ", bucket ") (number (λ bucket. after (codes " of ")
    (number (λ bucket_limit. after (codes ", buffer ") (number (λ buffer. after (codes " of ")
    (number (λ buffer_limit. after (codes "\n") (next record {
      verdict = verdict;
      bucket = bucket;
      bucket_limit = bucket_limit;
      buffer = buffer;
      buffer_limit = buffer_limit;
    }))))))))))) text

-- the three lines of the sender types, behind this indentation
unfoldable pub type_lines : {B : Type 0} → List ℕ → (ToldType → ToldType → ToldType → List ℕ → Option B) → List ℕ
    → Option B
type_lines space next text =
    type_line (space ++ codes "N ") (λ narrow. type_line (space ++ codes "NL ") (λ linear.
    type_line (space ++ codes "W ") (λ wide. next narrow linear wide))) text

-- `per frame` or `per field`: whether the video is interlaced
unfoldable pub group_word : {B : Type 0} → (Bool → List ℕ → Option B) → List ℕ → Option B
group_word next text = word ((codes " per frame, ", false) ∷ (codes " per field, ", true) ∷ []) next text

-- `frames` or `fields`, which the words before it show
unfoldable pub groups_word : {B : Type 0} → (List ℕ → Option B) → List ℕ → Option B
groups_word next text = either (codes " frames, ") next (after (codes " fields, ") next) text

-- the class of a judged run: the first type that passes
unfoldable pub class_word : {B : Type 0} → (Option Kind → List ℕ → Option B) → List ℕ → Option B
class_word next text =
    word ((codes ", class narrow linear, declared ", Some NL) ∷ (codes ", class narrow, declared ", Some N)
    ∷ (codes ", class wide, declared ", Some W) ∷ (codes ", class none, declared ", None) ∷ []) next text

-- the type that the SDP declares, at the end of a line
unfoldable pub declared_word : {B : Type 0} → (Option Kind → List ℕ → Option B) → List ℕ → Option B
declared_word next text =
    word ((codes "NL\n", Some NL) ∷ (codes "N\n", Some N) ∷ (codes "W\n", Some W) ∷ (codes "none\n", None) ∷ [])
    next text

-- the lines of a judged run: its numbers, and its types behind this indentation
unfoldable pub judged_lines : {B : Type 0} → List ℕ → (ToldJudged → List ℕ → Option B) → List ℕ → Option B
judged_lines space next text =
    number (λ n. group_word (λ interlaced. number (λ frames. groups_word (number (λ packets.
    after (codes " packets, head ") (number (λ head. after (codes ", tail ") (number (λ tail.
    class_word (λ class. declared_word (λ declared. type_lines space (λ narrow linear wide. next record {
      n = n;
      interlaced = interlaced;
      frames = frames;
      packets = packets;
      head = head;
      tail = tail;
      class = class;
      declared = declared;
      narrow = narrow;
      linear = linear;
      wide = wide;
    })))))))))))) text

-- the verdict on a run between gaps
unfoldable pub run_outcome : {B : Type 0} → (ToldOutcome → List ℕ → Option B) → List ℕ → Option B
run_outcome next text =
    either (codes "judged: ") (judged_lines (codes "    ") (λ told. next (judged_run told)))
    (after (codes "no whole frame, head ") (number (λ head. after (codes "\n") (next (headed head))))) text

-- the lines of a run between gaps
unfoldable pub run_lines : {B : Type 0} → (ToldRun → List ℕ → Option B) → List ℕ → Option B
run_lines next text =
    after (codes "  run ") (number (λ _. after (codes " from record ") (number (λ rec. after (codes " number ")
    (number (λ number_of_first. either (codes ": ") (run_outcome (λ outcome. next record {
      rec = rec;
      number = number_of_first;
      expected = None;
      outcome = outcome;
    })) (after (codes " expected ") (number (λ expected. after (codes ": ") (run_outcome (λ outcome. next record {
      rec = rec;
      number = number_of_first;
      expected = Some expected;
      outcome = outcome;
    }))))))))))) text

-- the lines of this many runs
unfoldable pub runs_lines : {B : Type 0} → ℕ → (List ToldRun → List ℕ → Option B) → List ℕ → Option B
runs_lines zero next text = next [] text
runs_lines (suc count) next text = run_lines (λ run. runs_lines count (λ runs. next (run ∷ runs))) text

-- the reason why a flow isn't judged, and the end of its line
unfoldable pub reason : {B : Type 0} → (Unjudged → List ℕ → Option B) → List ℕ → Option B
reason next text =
    either (codes "absent\n") (next unjudged.Absent)
    (either (codes "no whole frame, head ") (number (λ head. after (codes "\n") (next (unjudged.NoWholeFrame head))))
    (either (codes "refused at record ") (number (λ rec. after (codes ": ") (packet_fault (λ fault.
    after (codes "\n") (next (unjudged.Refused rec fault))))))
    (after (codes "gap at record ") (number (λ rec. after (codes ": expected ") (number (λ expected.
    after (codes ", got ") (number (λ got. after (codes "\n") (next (unjudged.Gap rec expected got))))))))))) text

-- the verdict on a flow, and the lines below its line
unfoldable pub verdict_lines : {B : Type 0} → (ToldVerdict → List ℕ → Option B) → List ℕ → Option B
verdict_lines next text =
    either (codes "judged: ") (judged_lines (codes "  ") (λ told. next (in_one_run told)))
    (either (codes "gaps ") (number (λ _. after (codes ", runs ") (number (λ count. after (codes "\n")
    (runs_lines count (λ runs. next (in_runs runs)))))))
    (reason (λ unjudged. next (not_judged unjudged)))) text

-- a destination, as `239.0.0.1:50000`
unfoldable pub destination : {B : Type 0} → (Target → List ℕ → Option B) → List ℕ → Option B
destination next text =
    number (λ a. after (codes ".") (number (λ b. after (codes ".") (number (λ c. after (codes ".") (number (λ d.
    after (codes ":") (number (λ port.
    next record { address = ipv4 a b c d; port = port }))))))))) text

-- the lines of a flow, after the word `flow`
unfoldable pub flow_lines : {B : Type 0} → (ToldFlow → List ℕ → Option B) → List ℕ → Option B
flow_lines next text =
    number (λ file. after (codes ".") (number (λ media. after (codes " ") (destination (λ target. after (codes " ")
    (verdict_lines (λ verdict. next record {
      key = record { file = file - 1; media = media - 1 };
      target = target;
      verdict = verdict;
    }))))))) text

-- the lines of all flows, at most this many
unfoldable pub flows_lines : {B : Type 0} → ℕ → (List ToldFlow → List ℕ → Option B) → List ℕ → Option B
flows_lines zero next text = next [] text
flows_lines (suc most) next text =
    either (codes "flow ") (flow_lines (λ flow. flows_lines most (λ flows. next (flow ∷ flows)))) (next []) text

-- how a capture ends, and the space after it
unfoldable pub ending : {B : Type 0} → (FileNote → List ℕ → Option B) → List ℕ → Option B
ending next text =
    either (codes "cut at ") (number (λ at. after (codes " ") (next (note.Cut at))))
    (either (codes "refused BadStamp at record ") (number (λ rec. after (codes " ")
    (next (note.Refused (pcap.BadStamp rec)))))
    (either (codes "refused BadLength at record ") (number (λ rec. after (codes " ")
    (next (note.Refused (pcap.BadLength rec)))))
    (word (
    (codes "end ", note.End) ∷ (codes "refused ReadFault ", note.Refused pcap.ReadFault)
    ∷ (codes "refused BadMagic ", note.Refused pcap.BadMagic)
    ∷ (codes "refused BadVersion ", note.Refused pcap.BadVersion)
    ∷ (codes "refused BadLink ", note.Refused pcap.BadLink)
    ∷ (codes "refused TooLong ", note.Refused pcap.TooLong) ∷ []) next))) text

-- the line of a capture, after the word `file`: its name goes up to the end of the line
unfoldable pub file_line : {B : Type 0} → (ToldFile → List ℕ → Option B) → List ℕ → Option B
file_line next text =
    number (λ _. after (codes " ") (ending (λ end. line (λ name. next record { note = end; name = name })))) text

-- the lines of all captures, at most this many
unfoldable pub files_lines : {B : Type 0} → ℕ → (List ToldFile → List ℕ → Option B) → List ℕ → Option B
files_lines zero next text = next [] text
files_lines (suc most) next text =
    either (codes "file ") (file_line (λ file. files_lines most (λ files. next (file ∷ files)))) (next []) text

-- the contents of a report with at most so many captures and flows; none if it isn't in the form of a report
unfoldable pub report_within : ℕ → List ℕ → Option ToldReport
report_within most text =
    after (codes "ST 2110-21 timing report\n") (files_lines most (λ files. flows_lines most (λ flows.
    after (codes "status ") (number (λ status. after (codes "\n")
    (at_end record { files = files; flows = flows; status = status })))))) text

-- the contents of a report
abbrev pub report_read : List ℕ → Option ToldReport
report_read text = report_within (length text) text
