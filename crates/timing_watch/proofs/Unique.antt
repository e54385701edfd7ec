-- The packet records of captures have one answer of `watch`.
use Rattle.std.proofs.Common.{◌≡◌, ◌-◌, ◌+◌, ◌++◌, ◌∷◌, ℕ, Bool, true, false, List, [], length, Option, Some, None, ap, ap₂, ◌∙◌, sym, arith}
use Rattle.timing_base.specs.Captures.{Record, joined}
use Rattle.timing_base.specs.Choices.{chosen, first_chosen}
use Rattle.timing_base.specs.Flows.{FirstFault, fault, first_fault, first_fault_below, is_cut}
use Rattle.timing_base.specs.Jobs.{WatchJob}
use Rattle.timing_base.specs.Media.{Media}
use Rattle.timing_base.specs.Numbered.{numbered}
use Rattle.timing_base.specs.Shifts.{FlowOptions, Shift}
use Rattle.timing_base.specs.declared.packet.FlowPacket.{FlowPacket}
use Rattle.timing_base.specs.declared.packet.PacketFault.{PacketFault}
use Rattle.udp_rtp.specs.Flow.{flow, flow_packet}
use Rattle.run_meter.specs.Runs.{OpenPart}
use Rattle.fail_interval.specs.Parts.{open_before}
use Rattle.flow_watch.specs.Lines.{gap_line}
use Rattle.flow_watch.specs.Watched.{groups_in, open_part}
use Rattle.flow_watch.proofs.Unique.{left-line-once, line-once}
use Rattle.timing_steps.specs.Answers.{Answer}
use Rattle.timing_steps.proofs.Onces.{DefinesOnce}
use Rattle.timing_watch.specs.Watched.{Adds, AddsAfter, AddsNext, AddsSound, AddsStretch, AddsWithin, EndsStretch, IsLeftEnd, IsLeftOf}
use Rattle.timing_watch.specs.Watched.{IsLeftUnless, Watching, completes, gap_at}
use Rattle.timing_watch.specs.Watches.{AddsIf, AddsRecord, AreLeft, AreLinesAfter, end_text, rows_of_job, watch_query, watching_of}

-- ---- what a packet adds

stretch-once : (w : Watching) (m : Media) (shift : Shift) (part : OpenPart) (is : Bool) (a b : List ℕ) → AddsStretch w m shift part is a
    → AddsStretch w m shift part is b → a ≡ b
stretch-once w m shift part false a b h k = h ∙ sym k
stretch-once w m shift part true a b h k =
    let run = open_part part in
    line-once w.form m shift run (groups_in run - w.every) (groups_in run) a b (omega arith) h k

within-once : (w : Watching) (m : Media) (shift : Shift) (packets : List FlowPacket) (i : ℕ) (part : Option OpenPart) (a b : List ℕ)
    → AddsWithin w m shift packets i part a → AddsWithin w m shift packets i part b → a ≡ b
within-once w m shift packets i None a b h k = h ∙ sym k
within-once w m shift packets i (Some part) a b h k = stretch-once w m shift part (completes w packets i part) a b h k

left-of-once : (w : Watching) (m : Media) (shift : Shift) (part : Option OpenPart) (a b : List ℕ) → IsLeftOf w m shift part a
    → IsLeftOf w m shift part b → a ≡ b
left-of-once w m shift None a b h k = h ∙ sym k
left-of-once w m shift (Some part) a b h k = left-line-once w.form w.every m shift (open_part part) a b h k

ends-once : (w : Watching) (m : Media) (shift : Shift) (packets : List FlowPacket) (n : ℕ) (line a b : List ℕ)
    → EndsStretch w m shift packets n line a → EndsStretch w m shift packets n line b → a ≡ b
ends-once w m shift packets n line a b h k =
    h.2 ∙ ap (λ x. x ++ line) (left-of-once w m shift (open_before packets shift n) h.0 k.0 h.1 k.1) ∙ sym k.2

sound-once : (w : Watching) (m : Media) (shift : Shift) (packets : List FlowPacket) (i : ℕ) (cut : Bool) (a b : List ℕ)
    → AddsSound w m shift packets i cut a → AddsSound w m shift packets i cut b → a ≡ b
sound-once w m shift packets i true a b h k = ends-once w m shift packets i (gap_line w.form (gap_at packets i)) a b h k
sound-once w m shift packets i false a b h k = within-once w m shift packets i (open_before packets shift (i + 1)) a b h k

next-once : (w : Watching) (m : Media) (shift : Shift) (packets : List FlowPacket) (i : ℕ) (o : Option PacketFault) (a b : List ℕ)
    → AddsNext w m shift packets i o a → AddsNext w m shift packets i o b → a ≡ b
next-once w m shift packets i None a b h k = sound-once w m shift packets i (is_cut packets i) a b h k
next-once w m shift packets i (Some why) a b h k = ends-once w m shift packets i _ a b h k

after-once : (w : Watching) (m : Media) (shift : Shift) (packets : List FlowPacket) (i : ℕ) (o : Option FirstFault) (a b : List ℕ)
    → AddsAfter w m shift packets i o a → AddsAfter w m shift packets i o b → a ≡ b
after-once w m shift packets i None a b h k = next-once w m shift packets i (fault packets m.pt i) a b h k
after-once w m shift packets i (Some first) a b h k = h ∙ sym k

pub adds-once : (w : Watching) (m : Media) (shift : Shift) (packets : List FlowPacket) (i : ℕ) (a b : List ℕ) → Adds w m shift packets i a
    → Adds w m shift packets i b → a ≡ b
adds-once w m shift packets i a b h k = after-once w m shift packets i (first_fault_below packets m.pt i) a b h k

-- ---- the lines of packet records

if-once : (job : WatchJob) (number : ℕ) (m : Media) (before : List Record) (o : Option FlowPacket) (a b : List ℕ) → AddsIf job number m before o a
    → AddsIf job number m before o b → a ≡ b
if-once job number m before None a b h k = h ∙ sym k
if-once job number m before (Some p) a b h k =
    let options = job.flows.options in
    let packets = flow before m in
    adds-once (watching_of job number m) m options.shift (numbered options.seq16 (packets ++ p ∷ [])) (length packets) a b h k

record-once : (job : WatchJob) (number : ℕ) (media : List Media) (before : List Record) (r : Record) (a b : List ℕ)
    → AddsRecord job number media before r a → AddsRecord job number media before r b → a ≡ b
record-once job number [] before r a b h k = h ∙ sym k
record-once job number (m ∷ media) before r a b h k =
    h.2 ∙ ap₂ (λ x y. x ++ y) (if-once job number m before (flow_packet m r) h.0 k.0 h.3 k.3)
    (record-once job (number + 1) media before r h.1 k.1 h.4 k.4) ∙ sym k.2

pub lines-once : (job : WatchJob) (first : ℕ) (media : List Media) (before items : List Record) (a b : List ℕ)
    → AreLinesAfter job first media before items a → AreLinesAfter job first media before items b → a ≡ b
lines-once job first media before [] a b h k = h ∙ sym k
lines-once job first media before (r ∷ items) a b h k =
    h.2 ∙ ap₂ (λ x y. x ++ y) (record-once job first media before r h.0 k.0 h.3 k.3)
    (lines-once job first media (before ++ r ∷ []) items h.1 k.1 h.4 k.4) ∙ sym k.2

-- ---- the end

unless-once : (w : Watching) (m : Media) (shift : Shift) (packets : List FlowPacket) (o : Option FirstFault) (a b : List ℕ)
    → IsLeftUnless w m shift packets o a → IsLeftUnless w m shift packets o b → a ≡ b
unless-once w m shift packets None a b h k = left-of-once w m shift (open_before packets shift (length packets)) a b h k
unless-once w m shift packets (Some first) a b h k = h ∙ sym k

end-once : (w : Watching) (m : Media) (options : FlowOptions) (packets : List FlowPacket) (a b : List ℕ) → IsLeftEnd w m options packets a
    → IsLeftEnd w m options packets b → a ≡ b
end-once w m options packets a b h k =
    let counted = numbered options.seq16 packets in
    unless-once w m options.shift counted (first_fault counted m.pt) a b h k

pub left-once : (job : WatchJob) (number : ℕ) (media : List Media) (items : List Record) (a b : List ℕ) → AreLeft job number media items a
    → AreLeft job number media items b → a ≡ b
left-once job number [] items a b h k = h ∙ sym k
left-once job number (m ∷ media) items a b h k =
    h.2 ∙ ap₂ (λ x y. x ++ y) (end-once (watching_of job number m) m job.flows.options (flow items m) h.0 k.0 h.3 k.3)
    (left-once job (number + 1) media items h.1 k.1 h.4 k.4) ∙ sym k.2

-- ---- the whole

same-answer : (a b : Answer) → a.text ≡ b.text → a.status ≡ b.status → a ≡ b
same-answer a b text status = λ i. record { text = text i; status = status i }

-- no media and packet records have two answers
pub once-watch : (job : WatchJob) → DefinesOnce (watch_query job)
once-watch job media files notes a b h k =
    let items = joined files in
    let first = first_chosen job.flows.media in
    let watched = chosen job.flows.media media in
    let end = end_text job media notes (rows_of_job job media items) in
    let lines = lines-once job first watched [] items h.lines k.lines h.lines_are k.lines_are in
    let left = left-once job first watched items h.left k.left h.left_are k.left_are in
    same-answer a b (h.text_is ∙ ap₂ (λ x y. x ++ (y ++ end)) lines left ∙ sym k.text_is) (h.status_is ∙ sym k.status_is)
