-- The packets of a judged run are whole groups.
use Rattle.std.proofs.Common.{◌≡◌, ◌≤◌, ◌<◌, ◌+◌, ◌*◌, ◌^◌, ℕ, List, [], ◌∷◌, length, Option, Some, None, refl, arith, ◌∙◌, sym, subst}
use Rattle.std.specs.Prelude.{◌==◌, ⊤, All, nat_lt}
use Rattle.std.proofs.lemmas.Bool.{cond_both, eqb-true}
use Rattle.std.proofs.lemmas.List.{length-map}
use Rattle.std.proofs.lemmas.List.Elements.{All-append, All-cons, All-head, All-nil, All-tail}
use Rattle.timing_base.specs.Shifts.{IsShift, Shift}
use Rattle.sender_params.specs.Ticks.{NeverFall}
use Rattle.timing_base.specs.Flows.{AreStamped, FirstFault, cuts, first_fault, markers, packet}
use Rattle.timing_base.specs.Grouped.{IsGroupedOutcome, IsGroupedVerdict}
use Rattle.timing_base.specs.Judged.{FlowRun, FlowVerdict, RunOutcome, absent, gap, head_len, in_one_run, in_runs, judged_run, judged_as_numbered}
use Rattle.timing_base.specs.Judged.{judged_runs, no_whole_frame, refusal, refused, refused_or, run_at, run_outcome, runs, runs_between, stamp_of, whole_frames}
use Rattle.timing_base.specs.Media.{Media}
use Rattle.timing_base.specs.declared.packet.FlowPacket.{FlowPacket}
use Rattle.timing_base.specs.declared.packet.PacketFault.{PacketFault}
use Rattle.timing_base.specs.declared.packet.PacketFault.TheVariants.{Number}
use Rattle.timing_base.proofs.Grouped.{numbered-grouped}
use Rattle.fail_interval.specs.Parts.{judged_packets, judged_parts, part_between, part_by, parts_between, parts_in}
use Rattle.run_meter.specs.Runs.{JudgedPart, stamps_of}

-- the judged packets are whole groups of one size, and their stamps never fall
pub record IsWhole (shift : Shift) (part : JudgedPart) : Type 0 where
  pub some : 1 ≤ part.values.n
  pub few : part.values.n ≤ 262144
  pub some_groups : 1 ≤ part.values.frames
  pub whole : length part.packets ≡ part.values.n * part.values.frames
  pub bounded : length part.packets < 2 ^ 41
  pub rising : NeverFall (stamps_of shift part.packets)

-- what a verdict is of
abbrev pub IsOf : List FlowPacket → (shift : Shift) → FlowVerdict → Type 0
IsOf packets shift (in_one_run outcome) = (cuts packets (length packets) ≡ []) × (outcome ≡ run_outcome packets shift 0 (length packets))
IsOf packets shift (in_runs all) = all ≡ runs packets shift
IsOf packets shift verdict = ⊤

no-places : (xs : List ℕ) → length xs ≡ 0 → xs ≡ []
no-places [] e = refl
no-places (x ∷ xs) e = absurd (omega (arith, e))

refusal-of : (packets : List FlowPacket) (shift : Shift) (rec : ℕ) (fault : PacketFault) → IsOf packets shift (refusal rec fault)
refusal-of packets shift rec (Number expected got) = tt
refusal-of packets shift rec fault = tt

refused-of : (packets : List FlowPacket) (shift : Shift) (first : Option FirstFault) (verdict : FlowVerdict) → IsOf packets shift verdict
    → IsOf packets shift (refused_or packets first verdict)
refused-of packets shift (Some first) verdict h = refusal-of packets shift _ first.fault
refused-of packets shift None verdict h = h

pub judged-of-runs : (packets : List FlowPacket) (pt : ℕ) (shift : Shift) → IsOf packets shift (judged_as_numbered packets pt shift)
judged-of-runs packets pt shift =
    let n = length packets in
    cond_both (n == 0) absent (refused_or packets (first_fault packets pt) (judged_runs packets shift)) (IsOf packets shift)
    (λ _. tt)
    (λ _. refused-of packets shift (first_fault packets pt) (judged_runs packets shift)
    (cond_both (length (cuts packets n) == 0) (in_one_run (run_outcome packets shift 0 n)) (in_runs (runs packets shift)) (IsOf packets shift)
    (λ none. (no-places _ (eqb-true (length (cuts packets n)) 0 none), refl))
    (λ _. refl)))

-- the packets of a judged run are whole groups
part-whole : (m : Media) (packets : List FlowPacket) (shift : Shift) (number from to : ℕ) → IsGroupedOutcome (run_outcome packets shift from to)
    → All (IsWhole shift) (part_between m packets shift number from to)
part-whole m packets shift number from to =
    let marks = markers packets from to in
    cond_both (nat_lt (length marks) 2) (no_whole_frame (head_len marks from to)) (whole_frames (judged_run packets shift from to))
    (λ (o : RunOutcome). IsGroupedOutcome o → All (IsWhole shift) (part_by m number (packet packets from) (judged_packets packets from to) o))
    (λ _ _. All-nil (IsWhole shift))
    (λ _ g.
    let long = length-map (judged_packets packets from to) (stamp_of shift) in
    All-cons (IsWhole shift) _ [] (record {
      some = g.some;
      few = g.few;
      some_groups = g.some_groups;
      whole = sym long ∙ g.whole;
      bounded = omega (arith, long, g.bounded);
      rising = λ j i order low. g.rising j i 0 order low;
    }) (All-nil (IsWhole shift)))

between-whole : (m : Media) (packets : List FlowPacket) (shift : Shift) (to number from : ℕ) (places : List ℕ)
    → All (λ (run : FlowRun). IsGroupedOutcome run.outcome) (runs_between packets shift to from places)
    → All (IsWhole shift) (parts_between m packets shift to number from places)
between-whole m packets shift to number from [] all =
    part-whole m packets shift number from to (All-head (λ (run : FlowRun). IsGroupedOutcome run.outcome) (run_at packets shift from to) [] all)
between-whole m packets shift to number from (cut ∷ rest) all =
    let P : FlowRun → Type 0 = λ run. IsGroupedOutcome run.outcome in
    All-append (IsWhole shift) (part_between m packets shift number from cut) (parts_between m packets shift to (number + 1) cut rest)
    (part-whole m packets shift number from cut (All-head P (run_at packets shift from cut) (runs_between packets shift to cut rest) all))
    (between-whole m packets shift to (number + 1) cut rest (All-tail P (run_at packets shift from cut) (runs_between packets shift to cut rest) all))

in-whole : (m : Media) (packets : List FlowPacket) (shift : Shift) (v : FlowVerdict) → IsOf packets shift v → IsGroupedVerdict v
    → All (IsWhole shift) (parts_in m packets shift v)
in-whole m packets shift absent h g = All-nil (IsWhole shift)
in-whole m packets shift (refused rec fault) h g = All-nil (IsWhole shift)
in-whole m packets shift (gap rec expected got) h g = All-nil (IsWhole shift)
in-whole m packets shift (in_one_run o) h g =
    subst (λ (x : RunOutcome). All (IsWhole shift) (part_by m 1 (packet packets 0) (judged_packets packets 0 (length packets)) x)) (sym h.1)
    (part-whole m packets shift 1 0 (length packets) (subst IsGroupedOutcome h.1 g))
in-whole m packets shift (in_runs all) h g =
    between-whole m packets shift (length packets) 1 0 (cuts packets (length packets))
    (subst (λ l. All (λ (run : FlowRun). IsGroupedOutcome run.outcome) l) h g.outcomes)

pub parts-whole : (m : Media) (packets : List FlowPacket) (shift : Shift) → length packets < 2 ^ 41 → IsShift shift → AreStamped packets
    → All (IsWhole shift) (judged_parts m packets shift)
parts-whole m packets shift few limits stamped =
    in-whole m packets shift (judged_as_numbered packets m.pt shift) (judged-of-runs packets m.pt shift)
    (numbered-grouped packets m.pt shift few limits stamped)
