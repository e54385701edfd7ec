-- The packet records of captures have an answer of `watch`.
use Rattle.std.specs.Prelude.{All, IfSome}
use Rattle.std.specs.Option.{unwrap_or}
use Rattle.std.proofs.Common.{◌≡◌, ◌<◌, ◌≤◌, ◌-◌, ◌+◌, ◌++◌, ◌∷◌, ℕ, Bool, true, false, List, [], length, drop, Option, Some, None}
use Rattle.std.proofs.Common.{refl, arith, length-append}
use Rattle.std.proofs.lemmas.List.Elements.{All-drop, All-head, All-tail, All-take}
use Rattle.timing_base.specs.Captures.{Record, joined}
use Rattle.timing_base.specs.Choices.{chosen, first_chosen}
use Rattle.timing_base.specs.Flows.{FirstFault, fault, first_fault, first_fault_below, is_cut, packet, run_start}
use Rattle.timing_base.specs.Jobs.{IsEvery, IsWatchJob, WatchJob}
use Rattle.timing_base.specs.Media.{IsMedia, Media}
use Rattle.timing_base.specs.Numbered.{numbered}
use Rattle.timing_base.specs.Shifts.{Shift}
use Rattle.timing_base.specs.declared.capture.FileNote.{FileNote}
use Rattle.timing_base.specs.declared.packet.FlowPacket.{FlowPacket}
use Rattle.timing_base.specs.declared.packet.PacketFault.{PacketFault}
use Rattle.timing_base.proofs.Numberings.{length-numbered}
use Rattle.udp_rtp.specs.Flow.{flow, flow_packet}
use Rattle.run_meter.specs.Runs.{OpenPart}
use Rattle.fail_interval.specs.Current.{unjudged_by}
use Rattle.fail_interval.specs.Parts.{open_before}
use Rattle.flow_watch.specs.Lines.{gap_line, refused_line}
use Rattle.flow_watch.specs.Watched.{groups_in, open_part, per_second}
use Rattle.flow_watch.proofs.Existing.{some-left-line, some-line, some-per_second}
use Rattle.pcap_reader.specs.Records.{AreRecords}
use Rattle.timing_report.specs.Outcomes.{status_of}
use Rattle.timing_steps.specs.Answers.{Answer}
use Rattle.timing_steps.specs.Queries.{HasAnswer}
use Rattle.timing_steps.proofs.Onces.{DefinesSome}
use Rattle.timing_watch.specs.Watched.{Adds, AddsAfter, AddsNext, AddsSound, AddsStretch, AddsWithin, EndsStretch, IsLeftEnd, IsLeftOf, IsLeftUnless}
use Rattle.timing_watch.specs.Watched.{Watching, completes, gap_at, waiting_text}
use Rattle.timing_watch.specs.Watches.{AddsIf, AddsRecord, AreLeft, AreLinesAfter, DefinesWatch, end_text, every_of, rows_of_job, watch_query}
use Rattle.timing_watch.specs.Watches.{watching_of}
use Rattle.timing_watch.proofs.Runs.{sound-next, whole-part}

-- ---- each packet adds something, be it nothing

module _ (w : Watching) (m : Media) (shift : Shift) (packets : List FlowPacket) (is : IsMedia m) (some : 1 ≤ w.every) where
  some-left-of : (part : Option OpenPart) → (text : List ℕ) × IsLeftOf w m shift part text
  some-left-of None = ([], refl)
  some-left-of (Some part) = some-left-line w.form w.every m shift (open_part part) is

  some-ends : (n : ℕ) (line : List ℕ) → (text : List ℕ) × EndsStretch w m shift packets n line text
  some-ends n line =
      let left = some-left-of (open_before packets shift n) in
      (left.0 ++ line, (left.0, left.1, refl))

  some-stretch : (part : OpenPart) (complete : Bool) → 0 < groups_in (open_part part) → (text : List ℕ) × AddsStretch w m shift part complete text
  some-stretch part false whole = ([], refl)
  some-stretch part true whole =
      let run = open_part part in
      some-line w.form m shift run (groups_in run - w.every) (groups_in run) is (omega (arith, whole, some)) (omega arith)

  some-within : (i : ℕ) (part : Option OpenPart) → ((x : OpenPart) → part ≡ Some x → 0 < groups_in (open_part x))
      → (text : List ℕ) × AddsWithin w m shift packets i part text
  some-within i None whole = (waiting_text w packets (run_start packets i) i, refl)
  some-within i (Some part) whole = some-stretch part (completes w packets i part) (whole part refl)

  some-sound : (i : ℕ) (cut : Bool) → first_fault_below packets m.pt (i + 1) ≡ None → i + 1 ≤ length packets
      → (text : List ℕ) × AddsSound w m shift packets i cut text
  some-sound i true none few = some-ends i (gap_line w.form (gap_at packets i))
  some-sound i false none few =
      some-within i (open_before packets shift (i + 1)) (λ part e. (whole-part packets m.pt shift (i + 1) part none few e).whole)

  some-next : (i : ℕ) (o : Option PacketFault) → first_fault_below packets m.pt i ≡ None → fault packets m.pt i ≡ o → i < length packets
      → (text : List ℕ) × AddsNext w m shift packets i o text
  some-next i None before here few = some-sound i (is_cut packets i) (sound-next packets m.pt i before here) (omega (arith, few))
  some-next i (Some why) before here few = some-ends i (refused_line w.form m (unjudged_by (packet packets i).rec why))

  some-after : (i : ℕ) (o : Option FirstFault) → first_fault_below packets m.pt i ≡ o → i < length packets
      → (text : List ℕ) × AddsAfter w m shift packets i o text
  some-after i None before few = some-next i (fault packets m.pt i) before refl few
  some-after i (Some first) before few = ([], refl)

  some-adds : (i : ℕ) → i < length packets → (text : List ℕ) × Adds w m shift packets i text
  some-adds i few = some-after i (first_fault_below packets m.pt i) refl few

  some-unless : (o : Option FirstFault) → (text : List ℕ) × IsLeftUnless w m shift packets o text
  some-unless None = some-left-of (open_before packets shift (length packets))
  some-unless (Some first) = ([], refl)

-- ---- packet records have lines

some-every : (every : Option ℕ) (m : Media) → IfSome every IsEvery → IsMedia m → 1 ≤ unwrap_or every (per_second m)
some-every None m h is = some-per_second m is
some-every (Some every) m h is = h.some

pub every-some : (job : WatchJob) (m : Media) → IsWatchJob job → IsMedia m → 1 ≤ every_of job m
every-some job m limits is = some-every job.every m limits.every_is is

some-if : (job : WatchJob) (number : ℕ) (m : Media) (before : List Record) (o : Option FlowPacket) → IsWatchJob job → IsMedia m
    → (text : List ℕ) × AddsIf job number m before o text
some-if job number m before None limits is = ([], refl)
some-if job number m before (Some p) limits is =
    let options = job.flows.options in
    let packets = flow before m in
    let counted = numbered options.seq16 (packets ++ p ∷ []) in
    let few : length packets < length counted =
    omega (arith, length-numbered options.seq16 (packets ++ p ∷ []), length-append packets (p ∷ [])) in
    some-adds (watching_of job number m) m options.shift counted is (every-some job m limits is) (length packets) few

some-record : (job : WatchJob) (number : ℕ) (media : List Media) (before : List Record) (r : Record) → IsWatchJob job → All IsMedia media
    → (text : List ℕ) × AddsRecord job number media before r text
some-record job number [] before r limits are = ([], refl)
some-record job number (m ∷ media) before r limits are =
    let here = some-if job number m before (flow_packet m r) limits (All-head IsMedia m media are) in
    let rest = some-record job (number + 1) media before r limits (All-tail IsMedia m media are) in
    (here.0 ++ rest.0, (here.0, rest.0, refl, here.1, rest.1))

pub some-lines : (job : WatchJob) (first : ℕ) (media : List Media) (before items : List Record) → IsWatchJob job → All IsMedia media
    → (text : List ℕ) × AreLinesAfter job first media before items text
some-lines job first media before [] limits are = ([], refl)
some-lines job first media before (r ∷ items) limits are =
    let here = some-record job first media before r limits are in
    let rest = some-lines job first media (before ++ r ∷ []) items limits are in
    (here.0 ++ rest.0, (here.0, rest.0, refl, here.1, rest.1))

-- and the end adds something to them
some-end : (job : WatchJob) (number : ℕ) (m : Media) (items : List Record) → IsWatchJob job → IsMedia m
    → (text : List ℕ) × IsLeftEnd (watching_of job number m) m job.flows.options (flow items m) text
some-end job number m items limits is =
    let options = job.flows.options in
    let counted = numbered options.seq16 (flow items m) in
    some-unless (watching_of job number m) m options.shift counted is (every-some job m limits is) (first_fault counted m.pt)

pub some-left : (job : WatchJob) (number : ℕ) (media : List Media) (items : List Record) → IsWatchJob job → All IsMedia media
    → (text : List ℕ) × AreLeft job number media items text
some-left job number [] items limits are = ([], refl)
some-left job number (m ∷ media) items limits are =
    let here = some-end job number m items limits (All-head IsMedia m media are) in
    let rest = some-left job (number + 1) media items limits (All-tail IsMedia m media are) in
    (here.0 ++ rest.0, (here.0, rest.0, refl, here.1, rest.1))

-- ---- the whole

-- each of the media that are judged is one of the session
pub chosen-all : (P : Media → Type 0) (only : Option ℕ) (session : List Media) → All P session → All P (chosen only session)
chosen-all P None session h = h
chosen-all P (Some number) session h = All-take P 1 (drop number session) (All-drop P number session h)

pub watch-defined : (job : WatchJob) (session : List Media) (items : List Record) (notes : List FileNote) → IsWatchJob job → All IsMedia session
    → (answer : Answer) × DefinesWatch job session items notes answer
watch-defined job session items notes limits are =
    let first = first_chosen job.flows.media in
    let watched = chosen job.flows.media session in
    let all = chosen-all IsMedia job.flows.media session are in
    let lines = some-lines job first watched [] items limits all in
    let left = some-left job first watched items limits all in
    let rows = rows_of_job job session items in (
      record { text = lines.0 ++ (left.0 ++ end_text job session notes rows); status = status_of session notes rows },
      record { lines = lines.0; left = left.0; lines_are = lines.1; left_are = left.1; text_is = refl; status_is = refl },
    )

pub some-watch : (job : WatchJob) (texts : List (List ℕ)) → IsWatchJob job → DefinesSome (watch_query job) texts
some-watch job texts limits media files notes are unsettled records = watch-defined job media (joined files) notes limits are

-- over captures with these contents
pub some-watch-answer : (job : WatchJob) (media : List Media) (texts : List (List ℕ)) (files : List (List Record)) (notes : List FileNote)
    → IsWatchJob job → All IsMedia media → AreRecords texts files notes → (answer : Answer) × HasAnswer (watch_query job) media texts answer
some-watch-answer job media texts files notes limits are records =
    let made = watch-defined job media (joined files) notes limits are in
    (made.0, record { files = files; notes = notes; records = records; defined = made.1 })
