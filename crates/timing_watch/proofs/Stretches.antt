-- What a packet adds to the lines of stretches: what is left of the open run, if it ends its run; else the line of the
-- stretch that it completes.
use Rattle.std.specs.Prelude.{nat_lt, ◌==◌, ◌&&◌, if◌then◌else◌}
use Rattle.std.proofs.Common.{◌≡◌, ◌<◌, ◌≤◌, ◌+◌, ◌/◌, ◌++◌, ◌∷◌, ℕ, Bool, true, false, List, [], length, Option, Some, None}
use Rattle.std.proofs.Common.{◌∙◌, ap, ap₂, sym, subst, refl, arith, append-nil, append_assoc}
use Rattle.std.proofs.Math.Nat.{zero-div}
use Rattle.timing_base.specs.Flows.{cuts, first_fault_below, has_marker, is_cut, last_place, markers, packet}
use Rattle.timing_base.specs.Judged.{RunOutcome, head_len, judged_run, no_whole_frame, run_outcome, whole_frames}
use Rattle.timing_base.specs.Media.{IsMedia, Media}
use Rattle.timing_base.specs.Shifts.{Shift}
use Rattle.timing_base.specs.declared.packet.FlowPacket.{FlowPacket}
use Rattle.timing_base.proofs.Between.{start-cut}
use Rattle.timing_base.proofs.Places.{cuts-here, cuts-other, places-here, places-none, places-other}
use Rattle.run_meter.specs.Runs.{JudgedPart, OpenPart}
use Rattle.fail_interval.specs.Parts.{judged_packets, open_before, open_by, part_between, part_by, parts_before, parts_over}
use Rattle.fail_interval.specs.Row.{judged_values}
use Rattle.fail_interval.proofs.PartsTold.{parts_over-push}
use Rattle.flow_watch.specs.Watched.{AreAllLines, AreLines, AreLinesOf, AreLinesSoFar, RunPart, ended_part, groups_in, left_of, open_part}
use Rattle.flow_watch.specs.declared.form.LineForm.{LineForm}
use Rattle.flow_watch.specs.declared.stretch.Stretch.{Stretch}
use Rattle.flow_watch.proofs.Adding.{longer}
use Rattle.flow_watch.proofs.Growing.{IsLineIf, one-more}
use Rattle.flow_watch.proofs.Unique.{complete, ended-once, lines-once, so-far-once}
use Rattle.timing_watch.specs.Watched.{AddsStretch, IsLeftOf, Watching, completes}
use Rattle.timing_watch.proofs.Runs.{HasOneMore, open-marked, open-plain}

-- ---- the run ends

-- the lines of some runs and of one more
abbrev AreLinesOfLast : LineForm → (every : ℕ) → Media → Shift → List JudgedPart → JudgedPart → List ℕ → Type 0
AreLinesOfLast form every m shift parts part text =
    (past : List ℕ) × (here : List ℕ) × (text ≡ past ++ here) × AreLinesOf form every m shift parts past
    × AreAllLines form every m shift (ended_part part) here

ended-split : (form : LineForm) (every : ℕ) (m : Media) (shift : Shift) (parts : List JudgedPart) (part : JudgedPart) (text : List ℕ)
    → AreLinesOf form every m shift (parts ++ part ∷ []) text → AreLinesOfLast form every m shift parts part text
ended-split form every m shift [] part text h = ([], h.0, h.2 ∙ ap (λ x. h.0 ++ x) h.4 ∙ append-nil h.0, refl, h.3)
ended-split form every m shift (one ∷ parts) part text h =
    let next = ended-split form every m shift parts part h.1 h.4 in (
      h.0 ++ next.0,
      next.1,
      h.2 ∙ ap (λ x. h.0 ++ x) next.2 ∙ sym (append_assoc h.0 next.0 next.1),
      (h.0, next.0, refl, h.3, next.3),
      next.4,
    )

-- the lines so far, `gone`, and then the line of what is left of the open run
abbrev pub EndsWith : Watching → Media → Shift → Option OpenPart → (gone put : List ℕ) → Type 0
EndsWith w m shift part gone put = (line : List ℕ) × IsLeftOf w m shift part line × (put ≡ gone ++ line)

run-ends : (w : Watching) (m : Media) (shift : Shift) (over : List JudgedPart) (number : ℕ) (first : FlowPacket) (packets : List FlowPacket) (o : RunOutcome)
    (gone put : List ℕ) (left : Option Stretch)
    → AreLinesSoFar w.form w.every m shift over (open_by number first packets o) gone left
    → AreLinesOf w.form w.every m shift (over ++ part_by m number first packets o) put
    → EndsWith w m shift (open_by number first packets o) gone put
run-ends w m shift over number first packets (no_whole_frame head) gone put left h k =
    let all = subst (λ l. AreLinesOf w.form w.every m shift l put) (append-nil over) k in
    ([], refl, ended-once w.form w.every m shift over put gone all h.0 ∙ sym (append-nil gone))
run-ends w m shift over number first packets (whole_frames run) gone put left h k =
    let ended : JudgedPart = record { number = number; first = first; values = judged_values m run; packets = packets } in
    let part : RunPart = record { number = number; n = run.n; packets = packets } in
    let split = ended-split w.form w.every m shift over ended put k in
    let all = split.4 in
    let past = ended-once w.form w.every m shift over split.0 h.0 split.3 h.3 in
    let full = lines-once w.form w.every m shift part (groups_in part / w.every) all.0 h.1 (complete w.every part) all.3 h.4 in (
      all.1,
      all.4,
      split.2 ∙ ap₂ (λ x y. x ++ y) past (all.2 ∙ ap (λ x. x ++ all.1) full) ∙ sym (append_assoc h.0 h.1 all.1) ∙ ap (λ x. x ++ all.1) (sym h.2),
    )

-- the run that is open before packet n ends there
pub flow-ends : (w : Watching) (m : Media) (shift : Shift) (packets : List FlowPacket) (n : ℕ) (gone put : List ℕ) (left : Option Stretch)
    → AreLinesSoFar w.form w.every m shift (parts_before m packets shift n) (open_before packets shift n) gone left
    → AreLinesOf w.form w.every m shift
    (parts_before m packets shift n ++ part_between m packets shift (length (cuts packets n) + 1) (last_place (0 ∷ cuts packets n)) n) put
    → EndsWith w m shift (open_before packets shift n) gone put
flow-ends w m shift packets n gone put left h k =
    let from = last_place (0 ∷ cuts packets n) in
    run-ends w m shift (parts_before m packets shift n) (length (cuts packets n) + 1) (packet packets from) (judged_packets packets from n)
    (run_outcome packets shift from n) gone put left h k

-- a run with fewer than two markers has no complete frame or field
open-few : (number : ℕ) (first : FlowPacket) (judged packets : List FlowPacket) (shift : Shift) (from to : ℕ) (marks : List ℕ)
    → markers packets from to ≡ marks → nat_lt (length marks) 2 ≡ true → open_by number first judged (run_outcome packets shift from to) ≡ None
open-few number first judged packets shift from to marks are few =
    let none = no_whole_frame (head_len (markers packets from to) from to) in
    ap (λ b. open_by number first judged (if b then none else whole_frames (judged_run packets shift from to)))
    (ap (λ l. nat_lt (length l) 2) are ∙ few)

one-marker : (number : ℕ) (first : FlowPacket) (judged packets : List FlowPacket) (shift : Shift) (i : ℕ) (is : Bool) → has_marker packets i ≡ is
    → open_by number first judged (run_outcome packets shift i (i + 1)) ≡ None
one-marker number first judged packets shift i true e =
    let none : markers packets i i ≡ [] = places-none (has_marker packets) i i (omega arith) in
    open-few number first judged packets shift i (i + 1) (i ∷ []) (places-here (has_marker packets) i i (omega arith) e ∙ ap (λ l. l ++ i ∷ []) none) refl
one-marker number first judged packets shift i false e =
    let none : markers packets i i ≡ [] = places-none (has_marker packets) i i (omega arith) in
    open-few number first judged packets shift i (i + 1) [] (places-other (has_marker packets) i i e ∙ none) refl

-- nor has one packet
pub begun-none : (packets : List FlowPacket) (shift : Shift) (i : ℕ) → last_place (0 ∷ cuts packets (i + 1)) ≡ i → open_before packets shift (i + 1) ≡ None
begun-none packets shift i start =
    let places = cuts packets (i + 1) in
    ap (λ from. open_by (length places + 1) (packet packets from) (judged_packets packets from (i + 1)) (run_outcome packets shift from (i + 1))) start
    ∙ one-marker (length places + 1) (packet packets i) (judged_packets packets i (i + 1)) packets shift i (has_marker packets i) refl

-- a gap before packet i ends the run
pub cut-adds : (w : Watching) (m : Media) (shift : Shift) (packets : List FlowPacket) (i : ℕ) (gone put : List ℕ) (left after : Option Stretch)
    → is_cut packets i ≡ true
    → AreLinesSoFar w.form w.every m shift (parts_before m packets shift i) (open_before packets shift i) gone left
    → AreLinesSoFar w.form w.every m shift (parts_before m packets shift (i + 1)) (open_before packets shift (i + 1)) put after
    → EndsWith w m shift (open_before packets shift i) gone put
cut-adds w m shift packets i gone put left after cut h k =
    let form = w.form in
    let over = parts_before m packets shift (i + 1) in
    let none = begun-none packets shift i (sym (start-cut packets i cut)) in
    let ended : AreLinesSoFar form w.every m shift over None put after = subst (λ o. AreLinesSoFar form w.every m shift over o put after) none k in
    let parts : over ≡ parts_before m packets shift i ++ part_between m packets shift (length (cuts packets i) + 1) (last_place (0 ∷ cuts packets i)) i =
    ap (parts_over m packets shift 1 0) (cuts-here packets i cut) ∙ parts_over-push m packets shift 1 0 i (cuts packets i) in
    flow-ends w m shift packets i gone put left h (subst (λ l. AreLinesOf form w.every m shift l put) parts ended.0)

-- ---- the run goes on

-- the line of a stretch that a packet completes, if it completes one
abbrev pub AddsLine : Watching → Media → Shift → (completes : OpenPart → Bool) → Option OpenPart → List ℕ → Type 0
AddsLine w m shift completes None line = line ≡ []
AddsLine w m shift completes (Some part) line = AddsStretch w m shift part (completes part) line

-- the lines so far, `gone`, and then such a line
abbrev pub GoesOnWith : Watching → Media → Shift → (completes : OpenPart → Bool) → Option OpenPart → (gone put : List ℕ) → Type 0
GoesOnWith w m shift completes part gone put = (line : List ℕ) × AddsLine w m shift completes part line × (put ≡ gone ++ line)

adds-none : (w : Watching) (m : Media) (shift : Shift) (completes : OpenPart → Bool) (part : Option OpenPart) → ((p : OpenPart) → completes p ≡ false)
    → AddsLine w m shift completes part []
adds-none w m shift completes None none = refl
adds-none w m shift completes (Some part) none = subst (λ b. AddsStretch w m shift part b []) (sym (none part)) refl

line-if : (w : Watching) (m : Media) (shift : Shift) (part : OpenPart) (full : Bool) (line : List ℕ)
    → IsLineIf w.form w.every m shift (open_part part) full line → AddsStretch w m shift part full line
line-if w m shift part true line h = h
line-if w m shift part false line h = h

-- a packet with the marker adds a frame or field
module _ (w : Watching) (m : Media) (shift : Shift) (over : List JudgedPart) (completes : OpenPart → Bool) (gone put : List ℕ) (is : IsMedia m)
    (each : 1 ≤ w.every) (test : (part : OpenPart) → completes part ≡ (left_of w.every (open_part part) == 0))
  where
    -- the first one
    first-one : (new : OpenPart) (after : Option Stretch) → 1 ≤ new.run.n → groups_in (open_part new) ≡ 1 → AreLinesOf w.form w.every m shift over gone
        → AreLinesSoFar w.form w.every m shift over (Some new) put after → GoesOnWith w m shift completes (Some new) gone put
    first-one new after some groups h k =
        let empty : RunPart = record { number = new.run.number; n = new.run.n; packets = [] } in
        let none : groups_in empty ≡ 0 = zero-div new.run.n in
        let next : groups_in (longer empty new.packets) ≡ groups_in empty + 1 = omega (arith, none, groups) in
        let count : groups_in empty / w.every ≡ 0 = ap (λ g. g / w.every) none ∙ zero-div w.every in
        let before : AreLines w.form w.every m shift empty (groups_in empty / w.every) [] =
        subst (λ g. AreLines w.form w.every m shift empty g []) (sym count) refl in
        let one = one-more w.form w.every m shift empty new.packets [] k.1 is some each next before k.4 in (
          one.0,
          subst (λ b. AddsStretch w m shift new b one.0) (sym (test new))
              (line-if w m shift new (left_of w.every (open_part new) == 0) one.0 one.2),
          k.2 ∙ ap₂ (λ x y. x ++ y) (ended-once w.form w.every m shift over k.0 gone k.3 h) one.1,
        )

    -- one more
    next-one : (old : OpenPart) (later : List FlowPacket) (left after : Option Stretch) → 1 ≤ old.run.n
        → groups_in (open_part (record { run = old.run; packets = old.packets ++ later })) ≡ groups_in (open_part old) + 1
        → AreLinesSoFar w.form w.every m shift over (Some old) gone left
        → AreLinesSoFar w.form w.every m shift over (Some (record { run = old.run; packets = old.packets ++ later })) put after
        → GoesOnWith w m shift completes (Some (record { run = old.run; packets = old.packets ++ later })) gone put
    next-one old later left after some groups h k =
        let new : OpenPart = record { run = old.run; packets = old.packets ++ later } in
        let one = one-more w.form w.every m shift (open_part old) later h.1 k.1 is some each groups h.4 k.4 in
        let past = ended-once w.form w.every m shift over k.0 h.0 k.3 h.3 in (
          one.0,
          subst (λ b. AddsStretch w m shift new b one.0) (sym (test new))
              (line-if w m shift new (left_of w.every (open_part new) == 0) one.0 one.2),
          k.2 ∙ ap₂ (λ x y. x ++ y) past one.1 ∙ sym (append_assoc h.0 h.1 one.0) ∙ ap (λ x. x ++ one.0) (sym h.2),
        )

    marked-adds : (old new : Option OpenPart) (left after : Option Stretch) → HasOneMore old new → AreLinesSoFar w.form w.every m shift over old gone left
        → AreLinesSoFar w.form w.every m shift over new put after → GoesOnWith w m shift completes new gone put
    marked-adds None None left after more h k = ([], refl, ended-once w.form w.every m shift over put gone k.0 h.0 ∙ sym (append-nil gone))
    marked-adds None (Some new) left after more h k = first-one new after more.0 more.1 h.0 k
    marked-adds (Some old) None left after more h k = absurd more
    marked-adds (Some old) (Some new) left after more h k =
        let grown : OpenPart = record { run = old.run; packets = old.packets ++ more.1 } in
        let groups : groups_in (open_part grown) ≡ groups_in (open_part old) + 1 = ap (λ (p : OpenPart). groups_in (open_part p)) (sym more.2) ∙ more.3 in
        let lines : AreLinesSoFar w.form w.every m shift over (Some grown) put after =
        subst (λ (p : OpenPart). AreLinesSoFar w.form w.every m shift over (Some p) put after) more.2 k in
        subst (λ (p : OpenPart). GoesOnWith w m shift completes (Some p) gone put) (sym more.2) (next-one old more.1 left after more.0 groups h lines)

-- packet i continues its run
module _ (w : Watching) (m : Media) (shift : Shift) (packets : List FlowPacket) (i : ℕ) (gone put : List ℕ) (left after : Option Stretch) (is : IsMedia m)
    (each : 1 ≤ w.every) (few : i < length packets) (none : is_cut packets i ≡ false) (sound : first_fault_below packets m.pt i ≡ None)
    (next : first_fault_below packets m.pt (i + 1) ≡ None)
    (h : AreLinesSoFar w.form w.every m shift (parts_before m packets shift i) (open_before packets shift i) gone left)
    (k : AreLinesSoFar w.form w.every m shift (parts_before m packets shift (i + 1)) (open_before packets shift (i + 1)) put after)
  where
    over-same : parts_before m packets shift (i + 1) ≡ parts_before m packets shift i
    over-same = ap (parts_over m packets shift 1 0) (cuts-other packets i none)

    lines-after : AreLinesSoFar w.form w.every m shift (parts_before m packets shift i) (open_before packets shift (i + 1)) put after
    lines-after = subst (λ l. AreLinesSoFar w.form w.every m shift l (open_before packets shift (i + 1)) put after) over-same k

    by-marker : (marker : Bool) → has_marker packets i ≡ marker → GoesOnWith w m shift (completes w packets i) (open_before packets shift (i + 1)) gone put
    by-marker true e =
        marked-adds w m shift (parts_before m packets shift i) (completes w packets i) gone put is each
        (λ part. ap (λ b. b && (left_of w.every (open_part part) == 0)) e) (open_before packets shift i) (open_before packets shift (i + 1)) left after
        (open-marked packets m.pt shift i few none e next sound) h lines-after
    by-marker false e =
        let same = open-plain packets shift i few none e in
        let told : AreLinesSoFar w.form w.every m shift (parts_before m packets shift i) (open_before packets shift i) put after =
        subst (λ o. AreLinesSoFar w.form w.every m shift (parts_before m packets shift i) o put after) same lines-after in (
          [],
          adds-none w m shift (completes w packets i) (open_before packets shift (i + 1))
              (λ part. ap (λ b. b && (left_of w.every (open_part part) == 0)) e),
          (so-far-once w.form w.every m shift (parts_before m packets shift i) (open_before packets shift i) put gone after left told h).0
              ∙ sym (append-nil gone),
        )

    pub within-adds : GoesOnWith w m shift (completes w packets i) (open_before packets shift (i + 1)) gone put
    within-adds = by-marker (has_marker packets i) refl
